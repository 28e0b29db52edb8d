use Rattle.std.proofs.Common.{◌≡◌, ℕ, ◌+◌, ◌*◌, ◌%◌, refl, length, slice_index, arith}
use Rattle.residue_sums.specs.Sums.{sum_below}
use Rattle.residue_sums.specs.Grids.{entry}
use Rattle.residue_sums.proofs.Congruence.{Cong-sym, Cong-add, Cong-by, Cong-from_mod}
use Rattle.matrix_algebra.proofs.Triangles.{IsTriangle-view, structure_of}
use Rattle.matrix_algebra.proofs.Places.{IsOrder-order_of}
use Rattle.matrix_parts.specs.Opers.{op_rows, op_table}
use Rattle.part_solves.specs.LineSystems.{IsInLine, line_of, order_in}
use Rattle.part_solves.proofs.LineSteps.{IsSolvedTo-next, IsInLine-or_not}
use Rattle.part_solves.proofs.three_solves.solve_begun.Goals as goal

pub late_sums-requires-clause-small_row : goal.late_sums-requires-clause-small_row
late_sums-requires-clause-small_row c k below =
    rw (c.requires.row k (omega arith)) (omega (arith, c.has_residues.ensures.table c.args.e.unknown (c.args.e.from + k) c.requires.below (omega (arith, c.requires.within)), c.has_residues.ensures.modulus.below_limit))

pub late_sums-requires-clause-small_panel : goal.late_sums-requires-clause-small_panel
late_sums-requires-clause-small_panel c j k line below =
    rw c.size.ensures (omega (arith, c.requires.residues j (c.args.e.from + k) line (omega (arith, c.requires.within)), c.has_residues.ensures.modulus.below_limit))

pub returns-clause-solved : goal.returns-clause-solved
returns-clause-solved c before premise so_far g line =
    let t = c.args.system.now.table in
    let n : ℕ = op_rows t in
    let m : ℕ = c.args.system.now.reducer in
    let e = c.args.e in
    let count : length c.late_sums.new.sums ≡ length c.args.sums.now = c.late_sums.auto.sums in
    let sum_is : slice_index c.late_sums.new.sums g ≡ (slice_index e.early.now g + sum_below (λ k. slice_index e.row.now k * line_of c.args.panel.now n g (e.from + k)) (length e.row.now)) % m =
    rw c.size.ensures at (c.late_sums.ensures.sums g line) in
    IsSolvedTo-next m n (IsInLine c.args.system.now.turned c.args.system.now.inside (c.args.first + g)) (op_table t) (order_in t)
    (IsTriangle-view t.primed t.structure n (entry t.part) c.requires.ready.readable.triangular) (IsOrder-order_of (structure_of t.primed t.structure) n)
    (IsInLine-or_not c.args.system.now.turned c.args.system.now.inside (c.args.first + g))
    (before g) (line_of c.args.panel.now n g) (line_of c.put_unknowns.new.panel n g) e.unknown (order_in t e.unknown) c.requires.below refl (so_far g line)
    (λ k below apart. c.put_unknowns.ensures.others g k below apart)
    (λ inner. Cong-by (Cong-add (Cong-sym (premise g line)) (Cong-add (Cong-sym (Cong-from_mod sum_is))
    (c.put_unknowns.ensures.solves g (omega (arith, c.late_sums.auto.sums)) inner (op_table t e.unknown e.unknown) c.inverse_at-inverse.ensures.inverts))) (omega arith))
    (λ out. c.put_unknowns.ensures.skips g (omega (arith, c.late_sums.auto.sums)) out)
