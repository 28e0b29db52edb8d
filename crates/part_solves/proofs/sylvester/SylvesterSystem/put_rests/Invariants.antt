use Rattle.std.proofs.Common.{◌≡◌, ◌≢◌, ℕ, ◌+◌, ◌*◌, ◌<◌, ◌≤◌, length, slice_index}
use Rattle.residue_sums.specs.Residues.{Cong}
use Rattle.matrix_parts.specs.Opers.{op_rows}
use Rattle.part_solves.specs.LineSystems.{line_of}
use Rattle.part_solves.specs.SylvesterSystems.{sign}
use Rattle.part_solves.proofs.sylvester.SylvesterSystem.put_rests.Given as goal

abbrev pub invariant-loop-g : goal.invariant-loop-g
invariant-loop-g l = record {
  here : (g : ℕ) → g < l.g → Cong l.self.columns.reducer (line_of l.panel (op_rows l.self.columns.table) g l.i + sign l.self.columns.reducer l.self.negative * slice_index l.sums g)
      (line_of l.fn.panel (op_rows l.self.columns.table) g l.i);
  pending : (g : ℕ) → l.g ≤ g → line_of l.panel (op_rows l.self.columns.table) g l.i ≡ line_of l.fn.panel (op_rows l.self.columns.table) g l.i;
  others : (g k : ℕ) → k < op_rows l.self.columns.table → k ≢ l.i → line_of l.panel (op_rows l.self.columns.table) g k ≡ line_of l.fn.panel (op_rows l.self.columns.table) g k;
  residues : (g k : ℕ) → g < length l.sums → k < op_rows l.self.columns.table → line_of l.panel (op_rows l.self.columns.table) g k < l.self.columns.reducer;
}
