use Rattle.std.proofs.Common.{◌≡◌, ℕ, ◌<◌}
use Rattle.residue_sums.specs.Grids.{entry}
use Rattle.matrix_parts.specs.Lent.{grid_of, loan_of, IsKept, IsPart}
use Rattle.block_store.proofs.copying.copy_rows.Given as goal

abbrev pub invariant-loop-i : goal.invariant-loop-i
invariant-loop-i l = record {
  loan : loan_of l.to ≡ loan_of l.fn.to;
  part : IsPart l.to;
  kept : IsKept l.fn.to l.to;
  copied : (a j : ℕ) → a < l.i → j < l.from.cols → entry (grid_of l.to) a j ≡ entry l.from a j;
}
