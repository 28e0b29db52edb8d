use Rattle.std.proofs.Common.{◌≡◌, ◌≢◌, ℕ, ◌+◌, ◌*◌, ◌%◌, ◌<◌, ◌≤◌, length, slice_index}
use Rattle.residue_sums.specs.Residues.{Cong}
use Rattle.matrix_parts.specs.Opers.{op_rows}
use Rattle.part_solves.specs.LineSystems.{IsInLine, line_of}
use Rattle.part_solves.proofs.panel_solves.put_unknowns.Given as goal

abbrev pub invariant-loop-g : goal.invariant-loop-g
invariant-loop-g l = record {
  solves : (g : ℕ) → g < l.g → IsInLine l.system.turned l.system.inside (l.first + g) l.i → (t : ℕ) → (t * l.inverse) % l.system.reducer ≡ 1
      → Cong l.system.reducer (slice_index l.sums g + t * line_of l.panel (op_rows l.system.table) g l.i) (line_of l.fn.panel (op_rows l.system.table) g l.i);
  skips : (g : ℕ) → g < l.g → ¬ (IsInLine l.system.turned l.system.inside (l.first + g) l.i)
      → line_of l.panel (op_rows l.system.table) g l.i ≡ line_of l.fn.panel (op_rows l.system.table) g l.i;
  pending : (g : ℕ) → l.g ≤ g → line_of l.panel (op_rows l.system.table) g l.i ≡ line_of l.fn.panel (op_rows l.system.table) g l.i;
  others : (g k : ℕ) → k < op_rows l.system.table → k ≢ l.i → line_of l.panel (op_rows l.system.table) g k ≡ line_of l.fn.panel (op_rows l.system.table) g k;
  residues : (g k : ℕ) → g < length l.sums → k < op_rows l.system.table → line_of l.panel (op_rows l.system.table) g k < l.system.reducer;
}
