use Rattle.step_replays.proofs.FoundPivots.{step-finds}
use Rattle.step_replays.proofs.found_pivots.steps_find_their_pivots.Goals as goal

pub returns : goal.returns
returns c job b steps results n valid pos job_fits front below free fits =
    step-finds (record { job = job; b = b; steps = steps; results = results; pos = pos; valid = valid; fits = job_fits; done = n; outcomes = front }) n below free fits
