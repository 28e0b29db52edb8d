use Rattle.dispatcher.proofs.WorkerSteps.{stamp-within, worker-began}
use Rattle.dispatcher.proofs.shared_run.SharedRun.begin.Goals as goal

pub log_event-requires : goal.log_event-requires
log_event-requires c =
    let a = c.args in
    stamp-within a.self.now.board.now a.self.now.ready.now a.worker.now c.requires.worker c.begin-start.result c.begin-start.ensures.stamp

pub returns-clause-worker : goal.returns-clause-worker
returns-clause-worker c =
    let a = c.args in
    let b = c.begin-start in
    worker-began a.self.now.board.now a.self.now.ready.now a.worker.now c.requires.worker b.new.seat a.t b.result c.log_event.new.log b.ensures.same b.ensures.begun
    b.ensures.stamp c.log_event.ensures

pub returns-clause-begun : goal.returns-clause-begun
returns-clause-begun c = (c.begin-start.result, c.begin-start.ensures.begun)
