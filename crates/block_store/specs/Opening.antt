-- The words of a board before the first step.
use Rattle.std.specs.Prelude.{◌≡◌, ℕ, ◌+◌, ◌≤◌, ◌<◌, List, length, slice_index}
use Rattle.dependence_queue.specs.Edges.{count_into, edges_of}
use Rattle.block_store.specs.declared.key.BoardKey.{BoardKey}
use Rattle.block_store.specs.Blocks.{block_count}
use Rattle.block_store.specs.Holding.{turn_word}
use Rattle.issue_list.specs.CanonicalSteps.{most_steps}
use Rattle.block_store.specs.Keys.{accesses, step_count, IsStep}

-- the clock is 0, the word of each step the number of edges into it, and that of a block's turn 0
pub record IsOpening (key : BoardKey) (words : List ℕ) : Type 0 where
  pub long : step_count key + 1 ≤ length words
  pub clock : slice_index words 0 ≡ 0
  pub counts : (t : ℕ) → IsStep key t → slice_index words t ≡ count_into (edges_of (accesses key)) t
  pub room : step_count key + 1 + block_count key ≤ length words
  pub turns : (x : ℕ) → x < block_count key → slice_index words (turn_word key x) ≡ 0
  pub small : step_count key ≤ most_steps
