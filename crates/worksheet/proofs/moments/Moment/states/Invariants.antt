use Rattle.std.proofs.Common.{◌≡◌, ◌++◌, map, drop}
use Rattle.worksheet.specs.Moments.{is_done, state_of}
use Rattle.worksheet.proofs.moments.Moment.states.Given as goal

abbrev pub invariant-loop-place : goal.invariant-loop-place
invariant-loop-place l =
    let state = state_of (is_done l.self.op.now l.self.kept.now l.self.cut.now) l.tasks in
    l.states ++ map state (drop l.place-index l.places) ≡ map state l.places
