use Rattle.std.proofs.Common.{◌∙◌, set}
use Rattle.std.proofs.lemmas.Option.{slice_get-get_or}
use Rattle.dispatcher.proofs.WorkerLists.{done-ended, done-standing, opened-each, opened-roots, opened-standing}
use Rattle.dispatcher.proofs.shared_run.SharedRun.go.Goals as goal

pub open-requires-clause-worker : goal.open-requires-clause-worker
open-requires-clause-worker g c = c.requires.workers 0 _ (slice_get-get_or c.args.workers.now 0 _ c.requires.some)

pub work_all-requires-clause-workers : goal.work_all-requires-clause-workers
work_all-requires-clause-workers g c κs within =
    opened-each c.args.self.now.board.now c.args.self.now.ready.now c.args.workers.now c.open.new.worker c.requires.workers c.open.ensures.worker

pub returns-clause-ended : goal.returns-clause-ended
returns-clause-ended g c =
    done-ended c.args.self.now.board.now c.args.self.now.ready.now (set c.args.workers.now 0 c.open.new.worker) c.work_all.new.workers c.work_all.ensures.many c.work_all.ensures.done

pub returns-clause-all : goal.returns-clause-all
returns-clause-all g c = λ k.
    done-standing c.args.self.now.board.now c.args.self.now.ready.now k (set c.args.workers.now 0 c.open.new.worker) c.work_all.new.workers c.work_all.ensures.many c.work_all.ensures.done
    ∙ opened-standing k c.args.workers.now _ c.open.new.worker (slice_get-get_or c.args.workers.now 0 c.index-workers-0.result c.requires.some) c.open.ensures.same

pub returns-clause-roots : goal.returns-clause-roots
returns-clause-roots g c =
    opened-roots c.args.self.now.board.now c.args.self.now.ready.now c.args.workers.now c.work_all.new.workers c.open.new.worker c.requires.some c.work_all.ensures.done
    c.open.ensures.roots
