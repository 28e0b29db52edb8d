use Rattle.step_replays.proofs.SingleBlocks.{no-steps}
use Rattle.step_replays.proofs.laws.an_empty_job_has_no_steps.Goals as goal

pub returns : goal.returns
returns c job b steps fits none = no-steps job b steps fits none
