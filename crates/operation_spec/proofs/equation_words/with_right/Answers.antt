use Rattle.std.proofs.Common.{◌∙◌, Option, sym, ap, arith}
use Rattle.std.proofs.lemmas.List.{take_rest}
use Rattle.std.proofs.lemmas.Result.{err_from_is_err_and}
use Rattle.byte_texts.specs.Reading.{some_or}
use Rattle.operation_spec.specs.declared.equation.Equation.{Equation}
use Rattle.text_scan.specs.FaultKinds.{Syntax}
use Rattle.text_scan.specs.Faults.{◌on◌}
use Rattle.operation_spec.specs.OperationFaults.{names_of, spec_fault}
use Rattle.operation_spec.proofs.EquationSteps.{equation_of_products, fault_of_products, no_right_side, right_words}
use Rattle.operation_spec.proofs.equation_words.with_right.Goals as goal

pub returns-in_err-products-in-len2-up : goal.returns-in_err-products-in-len2-up
returns-in_err-products-in-len2-up c =
    let names = names_of c.args.work.now c.args.knowns.now in
    let words = c.args.front.rest.now in
    let right = right_words names c.args.front.left words _ c.in-len2-up.len_at_least (sym c.is_plain.ensures ∙ c.if-is_plain.true) c.if-not-w.true (sym c.is_factor.ensures ∙ c.if-is_factor.true) in
    let p = err_from_is_err_and c.from_residual.result c.from_residual.ensures.1 in
    rw (p.1, p.2) (fault_of_products names c.args.front.left _ c.args.number (spec_fault c.in_err-products-in-len2-up.field-0.0) _ _ right (simp take_rest at c.in_err-products-in-len2-up.ensures))

pub returns-in_default : goal.returns-in_default
returns-in_default c =
    ap (λ (e : Option Equation). some_or (Syntax on c.args.number) e) (no_right_side (names_of c.args.work.now c.args.knowns.now) c.args.front.left c.args.front.rest.now (omega arith))

pub returns-in_ok-products-in-len2-up : goal.returns-in_ok-products-in-len2-up
returns-in_ok-products-in-len2-up c =
    let names = names_of c.args.work.now c.args.knowns.now in
    let words = c.args.front.rest.now in
    let right = right_words names c.args.front.left words _ c.in-len2-up.len_at_least (sym c.is_plain.ensures ∙ c.if-is_plain.true) c.if-not-w.true (sym c.is_factor.ensures ∙ c.if-is_factor.true) in
    rw c.side.ensures (equation_of_products names c.args.front.left _ c.args.number _ _ c.in_ok-products-in-len2-up.products right (simp take_rest at c.in_ok-products-in-len2-up.ensures))
