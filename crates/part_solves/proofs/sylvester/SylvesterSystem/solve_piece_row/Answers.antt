use Rattle.std.proofs.Common.{◌≡◌, ℕ, ◌+◌, ◌*◌, ◌%◌, length, slice_index, arith}
use Rattle.residue_sums.specs.Sums.{sum_below}
use Rattle.residue_sums.proofs.Congruence.{Cong-trans, Cong-from_mod, Cong-from_same}
use Rattle.matrix_parts.specs.Opers.{op_rows, op_table}
use Rattle.part_solves.specs.LineSystems.{line_of}
use Rattle.part_solves.specs.SylvesterSystems.{columns_of}
use Rattle.part_solves.proofs.LineSteps.{span_sum}
use Rattle.part_solves.proofs.sylvester.SylvesterSystem.solve_piece_row.Goals as goal

pub returns-clause-solved : goal.returns-clause-solved
returns-clause-solved c before begun =
    let t = c.args.self.now.columns.table in
    let n : ℕ = op_rows t in
    let e = c.args.row in
    let len : length c.fill_row.new.row ≡ length c.args.line.now = c.fill_row.auto.row in
    c.put_entries.ensures.solved before
    (λ g line.
    let sum_is : slice_index c.row_sums.new.sums g ≡ sum_below (λ k. slice_index c.fill_row.new.row k * line_of c.args.panel.now n g (e.from + k)) (length c.fill_row.new.row) % c.args.self.now.columns.reducer =
    rw c.size.ensures at (c.row_sums.ensures.sums g (omega (arith, c.requires.count))) in
    Cong-trans (Cong-from_mod sum_is) (Cong-from_same (span_sum n e.unknown e.from (length c.fill_row.new.row) (op_table t) (λ k. columns_of c.args.panel.now n k g) (slice_index c.fill_row.new.row)
    (omega (arith, c.requires.row.within, c.requires.entries)) (rw (len, c.requires.entries) c.requires.row.apart)
    (rw (len, c.requires.entries) c.requires.row.zeros) (λ k below. c.fill_row.ensures k (omega arith)))))
    begun
