-- A task of a statement as code does it, be it a block task or the test of the pivots.
use Rattle.std.specs.Prelude.{◌≡◌, ◌≢◌, Option}
use Rattle.residue_sums.specs.Grids.{Grid}
use Rattle.operation_spec.specs.declared.task.Kind.TheVariants.{Pivots}
use Rattle.equation.specs.declared.job.Place.{Place}
use Rattle.block_kernels.specs.declared.block_task.BlockTask.{BlockTask}
use Rattle.block_kernels.specs.Outcomes.{IsOutcome}
use Rattle.block_kernels.specs.PivotLists.{AreInverted, CanInvert}
use Rattle.block_kernels.specs.Ready.{CanApply}

-- it may be done on a block
pub record CanDo (t : BlockTask) (g : Grid) : Type 0 where
  pub inverts : t.task.kind ≡ Pivots → CanInvert t g
  pub applies : t.task.kind ≢ Pivots → CanApply t g

-- what its kernel has left or answered
pub record IsDoneSo (t : BlockTask) (old new : Grid) (bad : Option Place) : Type 0 where
  pub inverted : t.task.kind ≡ Pivots → AreInverted t old new bad
  pub applied : t.task.kind ≢ Pivots → IsOutcome t old new bad
