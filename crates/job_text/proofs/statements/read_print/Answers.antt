use Rattle.std.proofs.Common.{◌∙◌, sym, arith}
use Rattle.job_text.proofs.LineSteps.{print_at-known, print_at-twice, print_at-unknown}
use Rattle.job_text.proofs.statements.read_print.Goals as goal

pub returns-then-has_number : goal.returns-then-has_number
returns-then-has_number c =
    rw c.number-number.ensures (print_at-twice c.args.names.now c.args.found.now c.args.line.now c.number_of-n.result
    (rw c.word.ensures at c.number_of-n.ensures.value) (sym c.is_print_line.ensures ∙ c.if-not-is_print_line.false) (sym c.has_number.ensures ∙ c.if-has_number.true))

pub returns-then-n-names : goal.returns-then-n-names
returns-then-n-names c =
    rw c.number-number.ensures (print_at-unknown c.args.names.now c.args.found.now c.args.line.now c.number_of-n.result
    (rw c.word.ensures at c.number_of-n.ensures.value) (sym c.is_print_line.ensures ∙ c.if-not-is_print_line.false) (sym c.has_number.ensures ∙ c.if-has_number.false) c.if-n-names.true)

pub returns : goal.returns
returns c = print_at-known c.args.names.now c.args.found.now c.args.line.now c.number_of-n.result
    (rw c.word.ensures at c.number_of-n.ensures.value) (sym c.is_print_line.ensures ∙ c.if-not-is_print_line.false) (sym c.has_number.ensures ∙ c.if-has_number.false) (omega (arith, c.if-n-names.false))
