use Rattle.std.proofs.Common.{refl}
use Rattle.schedule_core.proofs.EndedSteps.{held-skipped}
use Rattle.schedule_core.proofs.FoundSteps.{met-stopped, skipped-is}
use Rattle.schedule_core.proofs.HeldUses.{reads_in_reads, write_marked}
use Rattle.task_values.proofs.StepUses.{step_read}
use Rattle.schedule_core.proofs.held.Held.skip.Goals as goal

pub mark-requires-clause-write : goal.mark-requires-clause-write
mark-requires-clause-write c = write_marked c.args.run.now c.requires.run c.args.n c.requires.within c.args.self.now c.requires.due c.index-run-n.result

pub mark-requires-clause-reads : goal.mark-requires-clause-reads
mark-requires-clause-reads c = reads_in_reads c.args.run.now c.requires.run c.args.n c.requires.within c.args.self.now c.requires.due c.index-run-n.result

pub returns : goal.returns
returns c events due results replay =
    let r = c.args.run.now in
    let step = step_read r c.requires.run c.args.n c.requires.within c.index-run-n.result in
    held-skipped r c.requires.run c.args.n c.requires.within events c.args.self.now due results replay _
    (skipped-is r c.requires.run c.args.n c.requires.within events c.args.self.now due results replay
    (met-stopped r c.requires.run c.args.n c.requires.within events c.args.self.now due results replay c.requires.met))
    refl (rw step at c.mark.ensures.written) (rw step at c.mark.ensures.read) refl refl refl
