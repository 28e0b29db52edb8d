use Rattle.std.proofs.Common.{refl, length}
use Rattle.step_replays.proofs.JobReplays.{whole-front}
use Rattle.step_replays.proofs.JobOutcomes.{means, means-bad}
use Rattle.step_replays.proofs.laws.replays_do_what_jobs_mean.Goals as goal

pub returns-clause-done : goal.returns-clause-done
returns-clause-done c job b steps results valid pos fits replay done =
    means (record { job = job; b = b; steps = steps; results = results; pos = pos; valid = valid; fits = fits; done = length steps; outcomes = whole-front job b steps results replay }) refl done

pub returns-clause-failed : goal.returns-clause-failed
returns-clause-failed c job b steps results valid pos fits replay number place failure =
    means-bad (record { job = job; b = b; steps = steps; results = results; pos = pos; valid = valid; fits = fits; done = length steps; outcomes = whole-front job b steps results replay }) number place failure
