use Rattle.std.proofs.Common.{◌≡◌, ◌≢◌, ℕ, ◌<◌}
use Rattle.residue_sums.specs.Grids.{entry}
use Rattle.matrix_parts.specs.Lent.{grid_of, loan_of, IsPart, IsKept}
use Rattle.flash_blocks.specs.Blocks.{Blocks}
use Rattle.block_kernels.specs.PivotLists.{pivots_of, ArePivots, HasInverse}
use Rattle.block_kernels.proofs.block_task.BlockTask.write_list_row.Given as goal

abbrev pub invariant-loop-j : goal.invariant-loop-j
invariant-loop-j l = record {
  loan : loan_of l.list ≡ loan_of l.fn.list;
  part : IsPart l.list;
  kept : IsKept l.fn.list l.list;
  others : (a b : ℕ) → a < l.fn.list.rows → b < l.fn.list.cols → a ≢ l.i → entry (grid_of l.list) a b ≡ entry (grid_of l.fn.list) a b;
  inverts : (knowns : ℕ → Blocks) (rows cols k : ℕ) → ArePivots l.self knowns rows cols (grid_of l.fn.list) → k < l.j
      → HasInverse l.self.m (pivots_of l.self knowns) (grid_of l.list) l.i k;
}
