use Rattle.std.proofs.Common.{◌≡◌, ℕ, ◌+◌, ◌*◌, ◌%◌, inl, inr, refl, arith}
use Rattle.std.proofs.lemmas.Bool.{cases_eq}
use Rattle.residue_sums.specs.Sums.{sum_below}
use Rattle.residue_sums.specs.Grids.{entry}
use Rattle.residue_sums.proofs.Congruence.{Cong-trans, Cong-from_mod, Cong-from_same}
use Rattle.matrix_algebra.proofs.Triangles.{IsTriangle-view, structure_of}
use Rattle.matrix_algebra.proofs.Places.{IsOrder-order_of}
use Rattle.matrix_parts.specs.Opers.{op_rows, op_table}
use Rattle.matrix_parts.specs.Lent.{grid_of}
use Rattle.equation.specs.Kernels.{combined}
use Rattle.part_solves.specs.LineSystems.{order_in}
use Rattle.part_solves.proofs.LineSteps.{span_sum}
use Rattle.part_solves.proofs.SylvesterSteps.{entry_written, pair_pivot}
use Rattle.part_solves.proofs.sylvester.SylvesterSystem.solve_entry.Goals as goal

pub returns-clause-solved : goal.returns-clause-solved
returns-clause-solved c before so_far =
    let system = c.args.self.now in
    let ready = c.requires.ready in
    let t = system.columns.table in
    let u = system.rows.table in
    let m : ℕ = system.columns.reducer in
    let i : ℕ = c.args.row.unknown in
    let j : ℕ = c.args.col.unknown in
    let old = entry (grid_of c.args.w.now) in
    let new = entry (grid_of c.set.new.self) in
    let left_value : c.plain_sum-left.result ≡ sum_below (λ k. op_table t i (c.args.row.from + k) * old (c.args.row.from + k) j) c.args.row.len % m =
    rw (ready.columns_turned, ready.columns_general) at c.plain_sum-left.ensures.value in
    let right_value : c.plain_sum-right.result ≡ sum_below (λ k. op_table u j (c.args.col.from + k) * old i (c.args.col.from + k)) c.args.col.len % m =
    rw (ready.rows_straight, ready.rows_general, ready.one_modulus) at c.plain_sum-right.ensures.value in
    let pivot : ℕ = combined m system.negative (λ a b. op_table t a a) (λ a b. op_table u b b) i j in
    entry_written m (op_rows t) (op_rows u) system.negative (op_table t) (op_table u) (order_in t) (order_in u)
    (IsTriangle-view t.primed t.structure (op_rows t) (entry t.part) ready.columns.triangular)
    (IsTriangle-view u.primed u.structure (op_rows u) (entry u.part) ready.rows.triangular)
    (IsOrder-order_of (structure_of t.primed t.structure) (op_rows t)) (IsOrder-order_of (structure_of u.primed u.structure) (op_rows u))
    before old new i j c.plain_sum-left.result c.plain_sum-right.result c.combined_residues-sum.result pivot c.requires.row.below c.requires.col.below so_far
    (λ a b row col apart. c.set.ensures.others a b (omega (arith, c.requires.block.rows)) (omega (arith, c.requires.block.cols)) apart)
    (Cong-trans (Cong-from_mod left_value) (Cong-from_same (span_sum (op_rows t) i c.args.row.from c.args.row.len (op_table t) (λ k. old k j) (λ k. op_table t i (c.args.row.from + k))
    c.requires.row.within c.requires.row.apart c.requires.row.zeros (λ k below. refl))))
    (Cong-trans (Cong-from_mod right_value) (Cong-from_same (span_sum (op_rows u) j c.args.col.from c.args.col.len (op_table u) (λ k. old i k) (λ k. op_table u j (c.args.col.from + k))
    c.requires.col.within c.requires.col.apart c.requires.col.zeros (λ k below. refl))))
    (rw c.modulus.ensures.value at c.combined_residues-sum.ensures.value)
    (pair_pivot m system.negative (op_table t) (op_table u) i j (rw ready.one_modulus at c.has_residues.ensures.modulus.at_least_two)
    (rw ready.one_modulus at (c.has_residues.ensures.table j j c.requires.col.below c.requires.col.below)))
    (rw (c.set.ensures.here, ← c.get.ensures)
    (c.unknown-value.ensures.solves pivot (rw c.get-2.ensures (ready.inverses.inverts i j c.requires.row.below c.requires.col.below))))

pub returns-clause-residues : goal.returns-clause-residues
returns-clause-residues c a b row col = elim (cases_eq a c.args.row.unknown) [
  | inl same_row ↦ elim (cases_eq b c.args.col.unknown) [
    | inl same_col ↦ rw (same_row, same_col, c.set.ensures.here) c.unknown-value.ensures.range
    | inr apart ↦ rw (c.set.ensures.others a b row col (inr apart)) (c.requires.block.columns_for.residues a b row col)
  ]
  | inr apart ↦ rw (c.set.ensures.others a b row col (inl apart)) (c.requires.block.columns_for.residues a b row col)
]
