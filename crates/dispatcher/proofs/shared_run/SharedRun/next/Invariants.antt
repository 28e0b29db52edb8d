use Rattle.std.proofs.Common.{◌≡◌}
use Rattle.block_store.specs.Seats.{view, IsSameSeat}
use Rattle.ready_queue.specs.Queues as queues
use Rattle.dispatcher.specs.Telling.{KeepsPushes}
use Rattle.dispatcher.specs.Workers.{IsWorker}
use Rattle.dispatcher.proofs.shared_run.SharedRun.next.Given as goal

abbrev pub invariant-loop : goal.invariant-loop
invariant-loop g l = record {
  worker : IsWorker l.self.board.now l.self.ready.now l.worker;
  same : IsSameSeat l.initial.worker.seat l.worker.seat;
  pushes : KeepsPushes l.initial.worker.pass l.worker.pass;
  popped : (queues.view l.worker.pass).popped ≡ (queues.view l.initial.worker.pass).popped;
  facts : (view l.worker.seat).facts ≡ (view l.initial.worker.seat).facts;
}
