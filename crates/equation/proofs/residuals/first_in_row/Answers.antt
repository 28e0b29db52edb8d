use Rattle.std.proofs.Common.{◌∙◌}
use Rattle.equation.proofs.FirstResiduals.{first_of_row, found, not_found, one_piece_more}
use Rattle.equation.proofs.residuals.first_in_row.Goals as goal

pub returns-then-is_some : goal.returns-then-is_some
returns-then-is_some c = found c.first_in_piece-first.result _ _ _ _ c.if-is_some.ensures c.first_in_piece-first.ensures
    (first_of_row c.args.c.now c.args.row c.loop-piece.piece c.min.result c.cols-cols.result (c.cols-cols.ensures.cols ∙ c.requires.candidate.cols) c.min.ensures c.loop-piece.invariant)

pub loop-piece-preserved : goal.loop-piece-preserved
loop-piece-preserved c =
    one_piece_more c.args.c.now c.args.row c.loop-piece.piece c.min.result c.cols-cols.result (c.cols-cols.ensures.cols ∙ c.requires.candidate.cols) c.min.ensures c.loop-piece.invariant
    (not_found c.first_in_piece-first.result _ _ c.if-is_some.ensures c.first_in_piece-first.ensures)
