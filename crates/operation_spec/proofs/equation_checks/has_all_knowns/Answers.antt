use Rattle.std.proofs.Common.{◌∙◌, ◌==◌, not, suc, sym, arith, add-one}
use Rattle.std.specs.List.{list_all}
use Rattle.operation_spec.specs.declared.equation.Side.{Side}
use Rattle.operation_spec.proofs.AllBelow.{one_fails}
use Rattle.operation_spec.proofs.equation_checks.has_all_knowns.Goals as goal

pub returns-then-not-has_operand : goal.returns-then-not-has_operand
returns-then-not-has_operand c =
    let fails = rw add-one at (sym c.has_operand.ensures ∙ c.if-not-has_operand.true) in
    one_fails (λ k. not (list_all (λ (side : Side). not (side.operand == suc k)) c.args.sides.now)) c.args.count c.loop-k.k (omega arith) fails
