use Rattle.block_store.specs.Seats.{key_of, view, IsSameSeat}
use Rattle.dispatcher.specs.Telling.{AreHandled, KeepsPushes}
use Rattle.dispatcher.specs.Workers.{IsWorker}
use Rattle.dispatcher.proofs.shared_run.SharedRun.work.Given as goal

abbrev pub invariant-loop : goal.invariant-loop
invariant-loop g l = record {
  worker : IsWorker l.self.board.now l.self.ready.now l.worker;
  same : IsSameSeat l.initial.worker.seat l.worker.seat;
  pushes : KeepsPushes l.initial.worker.pass l.worker.pass;
  handled : AreHandled (key_of l.self.board.now) l.initial.worker.pass l.worker.pass (view l.worker.seat);
}
