use Rattle.std.proofs.Common.{arith}
use Rattle.equation.proofs.FirstResiduals.{not_found, one_row_more, satisfies_all}
use Rattle.equation.proofs.residuals.first_in_rows.Goals as goal

pub loop-row-preserved : goal.loop-row-preserved
loop-row-preserved c = one_row_more c.args.c.now c.loop-row.row c.loop-row.invariant (not_found c.first_in_row-first.result _ _ c.if-is_some.ensures c.first_in_row-first.ensures)

pub returns : goal.returns
returns c =
    satisfies_all c.args.c.now c.requires.candidate c.rows-row-end.ensures.full
    (λ i j row col. c.loop-row.invariant i j (omega (arith, c.requires.candidate.rows, c.rows-row-end.ensures.rows)) col)
