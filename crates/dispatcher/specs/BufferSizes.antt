-- How much room the steps of a plan need in buffers.
use Rattle.std.specs.Prelude.{ℕ, ◌<◌, ◌≤◌, List, length, All}
use Rattle.residue_sums.specs.Grids.{Grid}
use Rattle.dependence_queue.specs.declared.access.Access.{Access}
use Rattle.step_replays.specs.declared.step.Step.{Step}
use Rattle.step_replays.specs.Replays.{nth_access}
use Rattle.block_store.specs.declared.key.BoardKey.{BoardKey}
use Rattle.block_store.specs.Blocks.{block_count}
use Rattle.dispatcher.specs.declared.shared_run.Size.{Size}
use Rattle.dispatcher.specs.declared.room.Room.{Room}
use Rattle.dispatcher.specs.SharedRuns.{entries_of, entry_count}

abbrev pub size_of : Grid → Size
size_of g = record { rows = g.rows; cols = g.cols }

-- there are the blocks that an access names
pub record NamesBlocks (key : BoardKey) (a : Access) : Type 0 where
  pub write : a.write < block_count key
  pub reads : All (λ x. x < block_count key) a.reads

-- the room that the blocks need which an access names
abbrev pub need_of : BoardKey → Access → Room
need_of key a = record { reads = entries_of key a.reads; cuts = length a.reads; write = entry_count key a.write }

-- a room is no larger than another one
pub record IsWithin (room other : Room) : Type 0 where
  pub reads : room.reads ≤ other.reads
  pub cuts : room.cuts ≤ other.cuts
  pub write : room.write ≤ other.write

-- there is room for each of the first n steps
abbrev pub HaveRoom : BoardKey → List Step → ℕ → Room → Type 0
HaveRoom key steps n room = (p : ℕ) → p < n → IsWithin (need_of key (nth_access steps p)) room

-- and any room for them is as large
abbrev pub NeedRoom : BoardKey → List Step → ℕ → Room → Type 0
NeedRoom key steps n room = (other : Room) → HaveRoom key steps n other → IsWithin room other
