use Rattle.std.proofs.Common.{arith}
use Rattle.residue_sums.specs.Grids.{entry}
use Rattle.residue_sums.proofs.Grids.{entry_below}
use Rattle.matrix_parts.specs.Lent.{grid_of}
use Rattle.matrix_parts.proofs.Kept.{IsKept-then}
use Rattle.part_solves.proofs.LdlValues.{ldl_value}
use Rattle.part_solves.proofs.ldl_solves.solve_right_ldl.Goals as goal

pub returns-clause-kept : goal.returns-clause-kept
returns-clause-kept c = IsKept-then c.args.w.now c.solve_right.new.w c.scale_columns.new.w c.solve_right.ensures.kept c.scale_columns.ensures.kept

pub returns-clause-solved : goal.returns-clause-solved
returns-clause-solved c =
    let mid = c.solve_right.new.w in
    let kept = returns-clause-kept c in
    let solved = c.solve_right.ensures.solved in
    ldl_value c.args.m (entry c.args.f) (grid_of c.args.w.now) (grid_of mid) c.scale_columns.new.w (entry c.args.inverses 0) c.value-modulus.ensures.range.at_least_two kept.rows kept.cols
    c.requires.inverses.inverts
    (λ i j row col. entry_below c.args.m (grid_of mid) i j solved.full solved.residues (omega (arith, solved.rows)) (omega (arith, solved.cols)))
    solved
    (λ i j row col. rw c.new.ensures at (c.scale_columns.ensures.scaled i j (omega (arith, solved.rows)) (omega (arith, solved.cols))))
