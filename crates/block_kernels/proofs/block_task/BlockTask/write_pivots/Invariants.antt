use Rattle.std.proofs.Common.{◌≡◌, ℕ, ◌<◌}
use Rattle.matrix_parts.specs.Lent.{grid_of, loan_of, IsPart, IsKept}
use Rattle.flash_blocks.specs.Blocks.{Blocks}
use Rattle.block_kernels.specs.PivotLists.{pivots_of, ArePivots, HasInverse}
use Rattle.block_kernels.proofs.block_task.BlockTask.write_pivots.Given as goal

abbrev pub invariant-loop-i : goal.invariant-loop-i
invariant-loop-i l = record {
  loan : loan_of l.list ≡ loan_of l.fn.list;
  part : IsPart l.list;
  kept : IsKept l.fn.list l.list;
  inverts : (knowns : ℕ → Blocks) (rows cols i j : ℕ) → ArePivots l.self knowns rows cols (grid_of l.fn.list) → i < l.i → j < l.fn.list.cols
      → HasInverse l.self.m (pivots_of l.self knowns) (grid_of l.list) i j;
}
