use Rattle.dispatcher.proofs.WorkerSteps.{stamp-within, worker-ended}
use Rattle.dispatcher.proofs.shared_run.SharedRun.end.Goals as goal

pub log_event-requires : goal.log_event-requires
log_event-requires c =
    let a = c.args in
    stamp-within a.self.now.board.now a.self.now.ready.now a.worker.now c.requires.worker c.end-finish.result c.end-finish.ensures.stamp

pub returns-clause-worker : goal.returns-clause-worker
returns-clause-worker c =
    let a = c.args in
    let b = c.end-finish in
    worker-ended a.self.now.board.now a.self.now.ready.now a.worker.now c.requires.worker b.new.seat a.t b.result a.outcome c.log_event.new.log c.note.new.failed
    b.ensures.same b.ensures.ended b.ensures.stamp c.log_event.ensures c.note.ensures

pub returns-clause-ended : goal.returns-clause-ended
returns-clause-ended c = (c.end-finish.result, c.end-finish.ensures.ended)
