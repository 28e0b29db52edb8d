use Rattle.std.proofs.Common.{◌≡◌, ℕ, ◌+◌, ◌*◌, ◌%◌, ap₂, length, slice_index, arith}
use Rattle.residue_sums.specs.Sums.{sum_below}
use Rattle.residue_sums.specs.Grids.{entry}
use Rattle.residue_sums.proofs.Congruence.{Cong-sym, Cong-trans, Cong-add, Cong-scale, Cong-by, Cong-from_mod, Cong-from_same}
use Rattle.residue_sums.proofs.Sums.{sum_below-same}
use Rattle.matrix_parts.specs.Opers.{op_rows, op_table}
use Rattle.matrix_parts.specs.Lent.{grid_of}
use Rattle.part_solves.specs.LineSystems.{line_of}
use Rattle.part_solves.specs.SylvesterSystems.{sign}
use Rattle.part_solves.proofs.sylvester.SylvesterSystem.reduce_row.Goals as goal

pub returns-clause-here : goal.returns-clause-here
returns-clause-here c g line =
    let system = c.args.self.now in
    let u = system.rows.table in
    let m : ℕ = system.columns.reducer in
    let p = c.args.p in
    let row = c.row_piece.result.now in
    let sum_is : slice_index c.row_sums.new.sums g ≡ sum_below (λ k. slice_index row k * line_of c.args.factor.now (op_rows u) g (p.from + k)) (length row) % m =
    rw c.size.ensures at (c.row_sums.ensures.sums g (omega (arith, c.requires.count))) in
    let same : sum_below (λ k. slice_index row k * line_of c.args.factor.now (op_rows u) g (p.from + k)) (length row)
    ≡ sum_below (λ k. entry (grid_of c.args.w.now) c.args.i (p.from + k) * op_table u (p.first + g) (p.from + k)) p.len =
    rw c.row_piece.ensures.len (sum_below-same (λ k. slice_index row k * line_of c.args.factor.now (op_rows u) g (p.from + k))
    (λ k. entry (grid_of c.args.w.now) c.args.i (p.from + k) * op_table u (p.first + g) (p.from + k)) p.len
    (λ k below. ap₂ (λ (a b : ℕ). a * b) (rw c.as_part-part.ensures at (c.row_piece.ensures.entries k below)) (c.requires.factor g (p.from + k) line (omega (arith, c.requires.piece.1))))) in
    Cong-by (Cong-add (c.put_rests.ensures.here g (omega (arith, c.requires.count, c.row_sums.auto.sums)))
    (Cong-scale (sign m system.negative) (Cong-sym (Cong-trans (Cong-from_mod sum_is) (Cong-from_same same))))) (omega arith)
