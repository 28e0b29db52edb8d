use Rattle.std.proofs.Common.{◌≡◌, ◌-◌}
use Rattle.dependence_queue.specs.Edges.{successors}
use Rattle.block_store.specs.Seats.{key_of, view, IsSame, IsSeatOf}
use Rattle.ready_queue.specs.Queues.{IsPassOf}
use Rattle.ready_queue.specs.Queues as queues
use Rattle.dispatcher.specs.Telling.{HasEndedAs, HasTold, IsTied, KeepsPushes}
use Rattle.dispatcher.proofs.ToldSteps.{AreTold, AreUntold}
use Rattle.dispatcher.proofs.shared_run.SharedRun.tell_all.Given as goal

abbrev pub invariant-loop-next : goal.invariant-loop-next
invariant-loop-next g l = record {
  seat : IsSeatOf l.self.board.now l.seat;
  same : IsSame l.initial.seat l.seat;
  told : HasTold l.t (view l.initial.seat) (view l.seat);
  pass : IsPassOf l.self.ready.now l.pass;
  pushes : KeepsPushes l.initial.pass l.pass;
  popped : (queues.view l.pass).popped ≡ (queues.view l.initial.pass).popped;
  tied : IsTied (key_of l.self.board.now) l.pass (view l.seat);
  ended : HasEndedAs l.bad l.t (view l.seat);
  done : AreTold l.t (view l.seat) (successors l.self.edges.now l.t) l.place;
  fresh : AreUntold l.t (view l.seat) (successors l.self.edges.now l.t) l.place;
}

abbrev pub decreases-loop-next : goal.decreases-loop-next
decreases-loop-next g l = 4294967296 - l.place
