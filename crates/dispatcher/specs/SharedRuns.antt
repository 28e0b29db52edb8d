-- What the workers of a run share, and the buffers that each has.
use Rattle.std.specs.Prelude.{◌≡◌, ℕ, ◌+◌, ◌*◌, ◌≤◌, List, [], ◌∷◌, length, slice_get, Some}
use Rattle.std.specs.List.{range_with_len}
use Rattle.dependence_queue.specs.Edges.{edges_of}
use Rattle.task_values.specs.Progress.{IsRun}
use Rattle.schedule_core.specs.StepAccesses.{accesses_of}
use Rattle.block_store.specs.declared.key.BoardKey.{BoardKey}
use Rattle.block_store.specs.Blocks.{access_of, block_count, block_rows, block_cols}
use Rattle.issue_list.specs.CanonicalSteps.{most_steps}
use Rattle.block_store.specs.Keys.{IsStep}
use Rattle.block_store.specs.Seats.{key_of, IsKeyOf}
use Rattle.ready_queue.specs.Queues.{steps_of}
use Rattle.dispatcher.specs.declared.shared_run.SharedRun.{SharedRun}
use Rattle.dispatcher.specs.declared.shared_run.Size.{Size}
use Rattle.dispatcher.specs.declared.buffers.Buffers.{Buffers}

-- the shapes of all blocks by number
pub record AreBlockSizes (key : BoardKey) (sizes : List Size) : Type 0 where
  pub many : length sizes ≡ block_count key
  pub rows : (x : ℕ) (size : Size) → slice_get sizes x ≡ Some size → size.rows ≡ block_rows key x
  pub cols : (x : ℕ) (size : Size) → slice_get sizes x ≡ Some size → size.cols ≡ block_cols key x

-- a run on its board, with its edges, its queue, and the shapes of its blocks
pub record IsSharedRun (c : SharedRun) : Type 0 where
  pub run : IsRun c.run
  pub few : length c.run.steps.now ≤ most_steps
  pub key : IsKeyOf c.run.job.now c.run.b c.run.steps.now (key_of c.board.now).workers (key_of c.board.now)
  pub edges : c.edges.now ≡ edges_of (accesses_of c.run.steps.now)
  pub queue : steps_of c.ready.now ≡ length c.run.steps.now
  pub sizes : AreBlockSizes (key_of c.board.now) c.sizes.now

-- ---- buffers

-- how many entries a block has, and these blocks have together
abbrev pub entry_count : BoardKey → ℕ → ℕ
entry_count key x = block_rows key x * block_cols key x

abbrev pub entries_of : BoardKey → List ℕ → ℕ
entries_of key [] = 0
entries_of key (x ∷ xs) = entry_count key x + entries_of key xs

-- there is room for any step
pub record AreBuffers (key : BoardKey) (d : Buffers) : Type 0 where
  pub reads : (t : ℕ) → IsStep key t → entries_of key (access_of key t).reads ≤ length d.reads.items
  pub cuts : (t : ℕ) → IsStep key t → length (access_of key t).reads ≤ length d.cuts.items
  pub numbers : d.numbers.items ≡ range_with_len 0 (length d.cuts.items)
  pub write : (t : ℕ) → IsStep key t → entry_count key (access_of key t).write ≤ length d.write.items
  pub spare : key.b ≤ length d.spare.items
