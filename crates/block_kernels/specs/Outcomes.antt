-- What comes of a block task, for all blocks that it is ready for.
use Rattle.std.specs.Prelude.{ℕ, Option, MatchOption}
use Rattle.residue_sums.specs.Grids.{Grid}
use Rattle.equation.specs.declared.job.Place.{Place}
use Rattle.flash_blocks.specs.Blocks.{Blocks}
use Rattle.block_tasks.specs.Effects.{IsBadTask, IsEffect}
use Rattle.block_kernels.specs.declared.block_task.BlockTask.{BlockTask}
use Rattle.block_kernels.specs.Ready.{IsReady}

-- a task has made its block a new one
abbrev pub IsDone : BlockTask → Grid → Grid → Type 0
IsDone t old new = (knowns : ℕ → Blocks) (work : Blocks) → IsReady t knowns work old → IsEffect t.m t.op.now knowns work t.task new

-- no place has a bad pivot
abbrev pub HasNoBadPivot : BlockTask → Blocks → Type 0
HasNoBadPivot t work = (place : Place) → ¬ (IsBadTask t.m t.b t.op.now work t.task place)

-- a task has made its block a new one, with no bad pivot, or it has met its first bad pivot
abbrev pub IsOutcome : BlockTask → Grid → Grid → Option Place → Type 0
IsOutcome t old new bad = (knowns : ℕ → Blocks) (work : Blocks) → IsReady t knowns work old
    → MatchOption bad (IsEffect t.m t.op.now knowns work t.task new × HasNoBadPivot t work) (IsBadTask t.m t.b t.op.now work t.task)
