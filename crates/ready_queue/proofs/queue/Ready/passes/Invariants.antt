use Rattle.ready_queue.proofs.NewPasses.{AreSoFar}
use Rattle.ready_queue.proofs.queue.Ready.passes.Given as goal

abbrev pub invariant-loop : goal.invariant-loop
invariant-loop l = AreSoFar l.self l.counter l.last l.passes.items
