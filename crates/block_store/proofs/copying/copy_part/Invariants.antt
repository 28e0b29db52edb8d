use Rattle.std.proofs.Common.{◌≡◌, ℕ, ◌+◌, ◌<◌}
use Rattle.residue_sums.specs.Grids.{entry}
use Rattle.matrix_parts.specs.Lent.{grid_of, loan_of, IsKept, IsPart}
use Rattle.block_store.proofs.copying.copy_part.Given as goal

abbrev pub invariant-loop-i : goal.invariant-loop-i
invariant-loop-i l = record {
  loan : loan_of l.buffer ≡ loan_of l.fn.buffer;
  part : IsPart l.buffer;
  kept : IsKept l.fn.buffer l.buffer;
  copied : (a j : ℕ) → a < l.i → j < l.part.cols → entry (grid_of l.buffer) a j ≡ entry l.matrix (l.part.row + a) (l.part.col + j);
}
