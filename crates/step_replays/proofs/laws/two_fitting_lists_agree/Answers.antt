use Rattle.std.proofs.Common.{length, refl}
use Rattle.step_replays.proofs.TwoLists.{same-matrices, same-failure}
use Rattle.step_replays.proofs.JobReplays.{whole-front}
use Rattle.step_replays.proofs.laws.two_fitting_lists_agree.Goals as goal

pub returns-clause-done : goal.returns-clause-done
returns-clause-done g job b c steps other results outcomes valid pos other_pos fits other_fits replay other_replay =
    same-matrices (record { job = job; b = b; steps = steps; results = results; pos = pos; valid = valid; fits = fits; done = length steps; outcomes = whole-front job b steps results replay })
    (record { job = job; b = c; steps = other; results = outcomes; pos = other_pos; valid = valid; fits = other_fits; done = length other; outcomes = whole-front job c other outcomes other_replay }) refl refl refl

pub returns-clause-failed : goal.returns-clause-failed
returns-clause-failed g job b c steps other results outcomes valid pos other_pos fits other_fits replay other_replay =
    same-failure (record { job = job; b = b; steps = steps; results = results; pos = pos; valid = valid; fits = fits; done = length steps; outcomes = whole-front job b steps results replay })
    (record { job = job; b = c; steps = other; results = outcomes; pos = other_pos; valid = valid; fits = other_fits; done = length other; outcomes = whole-front job c other outcomes other_replay }) refl refl refl
