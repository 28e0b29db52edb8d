use Rattle.std.proofs.Common.{length}
use Rattle.step_replays.proofs.ReplayFailures.{done-or_failure, one-failure}
use Rattle.step_replays.proofs.JobReplays.{whole-front}
use Rattle.step_replays.proofs.OneReplay.{one-replay}
use Rattle.step_replays.proofs.SomeReplay.{some-replay}
use Rattle.step_replays.proofs.laws.fitting_steps_have_one_replay.Goals as goal

pub returns-clause-some : goal.returns-clause-some
returns-clause-some c job b steps valid pos fits = some-replay job b steps pos valid fits

pub returns-clause-one : goal.returns-clause-one
returns-clause-one c job b steps results others valid pos fits first second = one-replay job b steps results others pos valid fits first second

pub returns-clause-outcome : goal.returns-clause-outcome
returns-clause-outcome c job b steps results valid pos fits replay = done-or_failure job b steps fits results

pub returns-clause-fails : goal.returns-clause-fails
returns-clause-fails c job b steps results valid pos fits replay = one-failure (record { job = job; b = b; steps = steps; results = results; pos = pos; valid = valid; fits = fits; done = length steps; outcomes = whole-front job b steps results replay })
