use Rattle.std.proofs.Common.{ℕ, ◌∙◌, arith}
use Rattle.residue_sums.proofs.Grids.{entry_below}
use Rattle.matrix_algebra.proofs.Triangles.{structure_of}
use Rattle.matrix_algebra.proofs.Places.{IsOrder-order_of}
use Rattle.matrix_parts.specs.Opers.{op_rows, op_table}
use Rattle.matrix_parts.specs.Lent.{grid_of}
use Rattle.matrix_parts.proofs.Rects.{IsFull-rect}
use Rattle.part_solves.proofs.SylvesterSteps.{sylvester_value}
use Rattle.part_solves.proofs.sylvester.solve_sylvester.Goals as goal

pub returns-clause-solved : goal.returns-clause-solved
returns-clause-solved c =
    let w = c.args.w.now in
    let t = c.args.t in
    let u = c.turned.result in
    let m : ℕ = c.new-reducer.result in
    rw c.new-reducer.ensures at (sylvester_value m c.args.minus (op_table t) (op_table c.args.u) (op_table u) (op_rows t) (op_rows u) (grid_of w) c.solve.new.w
    (rw c.new-reducer.ensures c.value-modulus.ensures.range.at_least_two) c.solve.ensures.kept.rows c.solve.ensures.kept.cols c.requires.rows (c.turned.ensures.rows ∙ c.requires.cols)
    (λ i j row col. rw c.new-reducer.ensures (entry_below c.args.m (grid_of w) i j (IsFull-rect w.entries.now w.first w.stride w.rows w.cols) c.requires.residues row col))
    c.solve.ensures.solved.residues c.turned.ensures.table
    (λ i j row col. c.solve.ensures.solved.solved i j row col (omega arith) ((IsOrder-order_of (structure_of u.primed u.structure) (op_rows u)).below j col)))
