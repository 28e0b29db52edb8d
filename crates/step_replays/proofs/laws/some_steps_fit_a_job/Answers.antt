use Rattle.std.proofs.Common.{refl}
use Rattle.step_replays.proofs.WorkedReplays.{bad_job, bad_steps, bad_results, bad_fits, bad_replay, place, bad_failure}
use Rattle.step_replays.proofs.laws.some_steps_fit_a_job.Goals as goal

pub returns : goal.returns
returns c = (bad_job, bad_steps, bad_results, refl, bad_fits, bad_replay, (place 1 1, bad_failure))
