use Rattle.residue_sums.proofs.Grids.{entry_below}
use Rattle.matrix_parts.specs.Opers.{op_rows, op_table}
use Rattle.matrix_parts.specs.Lent.{grid_of}
use Rattle.matrix_parts.proofs.Rects.{IsFull-rect}
use Rattle.part_solves.proofs.SolvedValues.{left_value}
use Rattle.part_solves.proofs.solves.solve_left.Goals as goal

pub returns-clause-solved : goal.returns-clause-solved
returns-clause-solved c =
    let w = c.args.w.now in
    rw c.new.ensures at (left_value c.new.result c.args.inside (op_rows c.args.t) (grid_of w) c.solve.new.w c.solve.ensures.kept.rows c.solve.ensures.kept.cols
    (λ i j row col. rw c.new.ensures (entry_below c.args.m (grid_of w) i j (IsFull-rect w.entries.now w.first w.stride w.rows w.cols) c.requires.residues row col))
    c.solve.ensures.solved.residues (op_table c.args.t) c.requires.rows c.solve.ensures.solved.solved c.solve.ensures.solved.others)
