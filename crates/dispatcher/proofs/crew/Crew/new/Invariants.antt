use Rattle.std.proofs.Common.{length}
use Rattle.dispatcher.proofs.NewWorkers.{AreSoFar}
use Rattle.dispatcher.proofs.crew.Crew.new.Given as goal

abbrev pub invariant-loop-seat : goal.invariant-loop-seat
invariant-loop-seat l = AreSoFar l.board l.ready l.workers.items l.seats.items l.passes.items

abbrev pub decreases-loop-seat : goal.decreases-loop-seat
decreases-loop-seat l = length l.seats.items
