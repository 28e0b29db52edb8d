use Rattle.std.proofs.Common.{ap, ◌∙◌}
use Rattle.step_replays.specs.Accesses.{has_pivots}
use Rattle.job_blocks.proofs.job_blocks.JobBlocks.has_pivots.Goals as goal

pub returns : goal.returns
returns c = c.has_pivots.ensures ∙ ap has_pivots c.operation.ensures.operation
