use Rattle.std.proofs.Common.{◌≡◌, ◌≢◌, ℕ, ◌+◌, ◌*◌, ◌<◌, slice_index}
use Rattle.residue_sums.specs.Residues.{Cong}
use Rattle.residue_sums.specs.Sums.{sum_below}
use Rattle.residue_sums.specs.Tables.{Table}
use Rattle.residue_sums.proofs.Sums.{without}
use Rattle.matrix_parts.specs.Opers.{op_rows, op_table}
use Rattle.part_solves.specs.LineSystems.{line_of, order_in}
use Rattle.part_solves.specs.SylvesterSystems.{IsPieceTo, columns_of}
use Rattle.part_solves.proofs.sylvester.SylvesterSystem.put_entries.Given as goal

abbrev pub invariant-loop-r : goal.invariant-loop-r
invariant-loop-r l = record {
  solved : (before : Table)
      → ((g : ℕ) → g < l.p.lines → Cong l.self.columns.reducer (slice_index l.sums g)
      (sum_below (without l.i (λ k. op_table l.self.columns.table l.i k * columns_of l.fn.panel (op_rows l.self.columns.table) k g)) (op_rows l.self.columns.table)))
      → IsPieceTo l.self l.p before (columns_of l.fn.panel (op_rows l.self.columns.table)) (order_in l.self.columns.table l.i * l.p.lines)
      → IsPieceTo l.self l.p before (columns_of l.panel (op_rows l.self.columns.table)) (order_in l.self.columns.table l.i * l.p.lines + l.r);
  others : (g k : ℕ) → k < op_rows l.self.columns.table → k ≢ l.i → line_of l.panel (op_rows l.self.columns.table) g k ≡ line_of l.fn.panel (op_rows l.self.columns.table) g k;
  residues : (g k : ℕ) → g < l.p.lines → k < op_rows l.self.columns.table → line_of l.panel (op_rows l.self.columns.table) g k < l.self.columns.reducer;
}
