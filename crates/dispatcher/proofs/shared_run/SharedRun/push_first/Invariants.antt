use Rattle.block_store.specs.Seats.{key_of}
use Rattle.ready_queue.specs.Queues as queues
use Rattle.dispatcher.proofs.FirstSteps.{AreRoots}
use Rattle.dispatcher.proofs.shared_run.SharedRun.push_first.Given as goal

abbrev pub invariant-loop-n : goal.invariant-loop-n
invariant-loop-n g l = queues.IsPassOf l.self.ready.now l.pass × AreRoots (key_of l.self.board.now) l.n (queues.view l.pass).pushed
