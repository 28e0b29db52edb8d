use Rattle.std.proofs.Common.{◌<◌, length, All, subst, sym, refl}
use Rattle.step_replays.specs.declared.step.Step.{Step}
use Rattle.task_values.proofs.GoneSteps.{gone-skipped}
use Rattle.task_values.proofs.StepUses.{reads_in_reads, step_read, write_marked}
use Rattle.task_values.proofs.store.Store.skip.Goals as goal

pub mark-requires-clause-write : goal.mark-requires-clause-write
mark-requires-clause-write c =
    let r = c.args.run.now in
    let step = step_read r c.requires.run c.args.n c.requires.within c.index-run-n.result in
    let held = c.requires.stopped.1 in
    subst (λ (t : Step). t.access.write < length c.args.self.now.marks.written.items) (sym step)
    (write_marked r c.requires.run c.args.n c.requires.within c.requires.stopped.0 c.args.self.now held)

pub mark-requires-clause-reads : goal.mark-requires-clause-reads
mark-requires-clause-reads c =
    let r = c.args.run.now in
    let step = step_read r c.requires.run c.args.n c.requires.within c.index-run-n.result in
    let held = c.requires.stopped.1 in
    subst (λ (t : Step). All (λ x. x < length c.args.self.now.marks.read.items) t.access.reads) (sym step)
    (reads_in_reads r c.requires.run c.args.n c.requires.within c.requires.stopped.0 c.args.self.now held)

pub returns : goal.returns
returns c =
    let r = c.args.run.now in
    let step = step_read r c.requires.run c.args.n c.requires.within c.index-run-n.result in
    gone-skipped r c.requires.run c.args.n c.requires.within c.requires.stopped.0 c.args.self.now c.requires.stopped.1
    (record { blocks = c.args.self.now.blocks; marks = c.mark.new.self; room = c.args.self.now.room; failure = c.args.self.now.failure }) c.requires.stopped.2
    refl (rw step at c.mark.ensures.written) (rw step at c.mark.ensures.read) refl refl
