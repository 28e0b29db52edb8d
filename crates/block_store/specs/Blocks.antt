-- The blocks of a run: which steps use them, and their values in the replay.
use Rattle.std.specs.Prelude.{◌≡◌, ℕ, ◌+◌, ◌&&◌, ◌==◌, nat_lt, Bool, List, if◌then◌else◌}
use Rattle.residue_sums.specs.Sums.{sum_below}
use Rattle.residue_sums.specs.Grids.{Grid}
use Rattle.dependence_queue.specs.declared.access.Access.{Access}
use Rattle.flash_blocks.specs.Flashes.{HasShape}
use Rattle.step_replays.specs.Accesses.{first_block}
use Rattle.step_replays.specs.Replays.{StepResult, value}
use Rattle.job_blocks.specs.BlockedJobs.{block_total}
use Rattle.schedule_core.specs.EventBlocks.{step_access}
use Rattle.schedule_core.specs.Schedules.{uses_block}
use Rattle.block_store.specs.declared.key.BoardKey.{BoardKey}
use Rattle.block_store.specs.Keys.{IsReplayOf}

-- how many blocks there are, with the pivot lists
abbrev pub block_count : BoardKey → ℕ
block_count key = block_total (record { job = key.job.value; b = key.b })

-- what step t uses
abbrev pub access_of : BoardKey → ℕ → Access
access_of key t = step_access key.steps.value t

-- step t reads or writes block x
abbrev pub uses : BoardKey → ℕ → ℕ → Bool
uses key t x = uses_block (access_of key t) x

-- t is the number of a step that writes block x
abbrev pub is_writer : BoardKey → ℕ → ℕ → Bool
is_writer key x t = nat_lt 0 t && (access_of key t).write == x

-- how many steps before t write block x
abbrev pub writes_to : BoardKey → ℕ → ℕ → ℕ
writes_to key x t = sum_below (λ s. if is_writer key x s then 1 else 0) t

-- g is block x after the first v of the steps that write it
abbrev pub IsValue : BoardKey → ℕ → ℕ → Grid → Type 0
IsValue key x v g = (results : List StepResult) → IsReplayOf key results → g ≡ value key.job.value key.b key.steps.value results x v

-- g is block x as step t finds it, and as it leaves it
abbrev pub IsFound : BoardKey → ℕ → ℕ → Grid → Type 0
IsFound key t x g = IsValue key x (writes_to key x t) g

abbrev pub IsLeft : BoardKey → ℕ → ℕ → Grid → Type 0
IsLeft key t x g = IsValue key x (writes_to key x t + 1) g

-- ---- shapes

-- the rows and columns with which the job gives block x
abbrev pub block_rows : BoardKey → ℕ → ℕ
block_rows key x = (first_block key.job.value key.b x).rows

abbrev pub block_cols : BoardKey → ℕ → ℕ
block_cols key x = (first_block key.job.value key.b x).cols

-- after any of its writes each block has these rows and columns
abbrev pub KeepShapes : BoardKey → Type 0
KeepShapes key = (x v : ℕ) (g : Grid) → IsValue key x v g → HasShape (block_rows key x) (block_cols key x) g
