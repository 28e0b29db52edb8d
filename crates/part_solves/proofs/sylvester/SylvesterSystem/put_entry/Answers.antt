use Rattle.std.proofs.Common.{◌≡◌, ℕ, ◌+◌, ◌*◌, ◌<◌, inl, inr, refl, length, slice_set, get_or-set_same, get_or-set_other, arith}
use Rattle.std.proofs.lemmas.Nat.{mul-add-lt}
use Rattle.residue_sums.specs.Residues.{Cong}
use Rattle.residue_sums.specs.Grids.{entry}
use Rattle.residue_sums.proofs.Congruence.{Cong-trans, Cong-from_mod, Cong-from_same}
use Rattle.matrix_algebra.proofs.Triangles.{IsTriangle-view, structure_of}
use Rattle.matrix_algebra.proofs.Places.{IsOrder-order_of}
use Rattle.matrix_parts.specs.Opers.{op_rows, op_table}
use Rattle.equation.specs.Kernels.{combined}
use Rattle.part_solves.specs.LineSystems.{line_of, order_in}
use Rattle.part_solves.specs.SylvesterSystems.{block_of, columns_of, order_within}
use Rattle.part_solves.proofs.LineSteps.{span_sum, other_place}
use Rattle.part_solves.proofs.SylvesterSteps.{entry_written, pair_pivot, block_triangle}
use Rattle.part_solves.proofs.sylvester.SylvesterSystem.put_entry.Goals as goal

pub returns-clause-others : goal.returns-clause-others
returns-clause-others c =
    let at : ℕ = c.args.e.unknown * c.size.result + c.args.i in
    let new = slice_set c.args.panel.now at c.unknown.result in
    other_place (op_rows c.args.self.now.columns.table) c.args.i c.args.e.unknown c.args.panel.now new c.requires.row_in
    (λ p apart. get_or-set_other c.args.panel.now at p c.unknown.result 0 (rw c.size.ensures apart))

pub returns-clause-solved : goal.returns-clause-solved
returns-clause-solved c before sum_is so_far =
    let system = c.args.self.now in
    let ready = c.requires.ready in
    let t = system.columns.table in
    let u = system.rows.table in
    let m : ℕ = system.columns.reducer in
    let n : ℕ = op_rows t in
    let i : ℕ = c.args.i in
    let g : ℕ = c.args.e.unknown in
    let first : ℕ = c.args.p.first in
    let lines : ℕ = c.args.p.lines in
    let at : ℕ = g * c.size.result + i in
    let new = slice_set c.args.panel.now at c.unknown.result in
    let fits : g * n + i < length c.args.panel.now = omega (arith, mul-add-lt g n i lines c.requires.equation.below c.requires.row_in, c.requires.room) in
    let here : line_of new n g i ≡ c.unknown.result = rw c.size.ensures (get_or-set_same c.args.panel.now (g * n + i) c.unknown.result 0 fits) in
    let col : first + g < op_rows u = omega (arith, c.requires.piece, c.requires.equation.below) in
    let pivot : ℕ = combined m system.negative (λ a b. op_table t a a) (λ a b. op_table u b b) i (first + g) in
    let solves : Cong m (c.combined_residues-total.result + pivot * c.unknown.result) (columns_of c.args.panel.now n i g) =
    rw c.size.ensures at (c.unknown.ensures.solves pivot (rw c.get.ensures (ready.inverses.inverts i (first + g) c.requires.row_in col))) in
    entry_written m n lines system.negative (op_table t) (block_of first (op_table u)) (order_in t) (order_within u lines)
    (IsTriangle-view t.primed t.structure n (entry t.part) ready.columns.triangular)
    (block_triangle u.primed u.structure (op_rows u) first lines (entry u.part) ready.rows.triangular c.requires.piece)
    (IsOrder-order_of (structure_of t.primed t.structure) n) (IsOrder-order_of (structure_of u.primed u.structure) lines)
    before (columns_of c.args.panel.now n) (columns_of new n) i g c.args.sum c.inner_sum-inner.result c.combined_residues-total.result pivot c.requires.row_in c.requires.equation.below so_far
    (λ a b row line apart. returns-clause-others c b a row (elim apart [ inl other ↦ inr other | inr other ↦ inl other ]))
    sum_is
    (Cong-trans (Cong-from_mod c.inner_sum-inner.ensures.value) (Cong-from_same (span_sum lines g c.args.e.from c.args.e.len (block_of first (op_table u)) (λ k. columns_of c.args.panel.now n i k)
    (λ k. block_of first (op_table u) g (c.args.e.from + k)) c.requires.equation.within c.requires.equation.apart c.requires.equation.zeros (λ k below. refl))))
    (rw c.modulus.ensures.value at c.combined_residues-total.ensures.value)
    (pair_pivot m system.negative (op_table t) (op_table u) i (first + g) (rw ready.one_modulus at c.has_residues.ensures.modulus.at_least_two)
    (rw ready.one_modulus at (c.has_residues.ensures.table (first + g) (first + g) col col)))
    (rw here solves)
