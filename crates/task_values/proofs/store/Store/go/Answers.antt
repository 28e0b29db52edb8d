use Rattle.std.proofs.Common.{◌<◌, length, All, ap, subst, sym, ◌∙◌}
use Rattle.step_replays.specs.declared.step.Step.{Step}
use Rattle.task_values.specs.Marks.{meets}
use Rattle.task_values.proofs.StepUses.{reads_marked, step_read, write_in_reads, write_marked}
use Rattle.task_values.proofs.TakenBlocks.{met-stopped, unmet-free}
use Rattle.task_values.proofs.store.Store.go.Goals as goal

pub stop-requires-clause-write : goal.stop-requires-clause-write
stop-requires-clause-write c =
    let r = c.args.run.now in
    subst (λ (t : Step). t.access.write < length c.args.self.now.marks.written.items) (sym (step_read r c.requires.run c.args.n c.requires.within c.index-run-n.result))
    (write_marked r c.requires.run c.args.n c.requires.within c.requires.gone.0 c.args.self.now c.requires.gone.1)

pub stop-requires-clause-marks : goal.stop-requires-clause-marks
stop-requires-clause-marks c =
    let r = c.args.run.now in
    subst (λ (t : Step). t.access.write < length c.args.self.now.marks.read.items) (sym (step_read r c.requires.run c.args.n c.requires.within c.index-run-n.result))
    (write_in_reads r c.requires.run c.args.n c.requires.within c.requires.gone.0 c.args.self.now c.requires.gone.1)

pub stop-requires-clause-reads : goal.stop-requires-clause-reads
stop-requires-clause-reads c =
    let r = c.args.run.now in
    subst (λ (t : Step). All (λ x. x < length c.args.self.now.marks.written.items) t.access.reads) (sym (step_read r c.requires.run c.args.n c.requires.within c.index-run-n.result))
    (reads_marked r c.requires.run c.args.n c.requires.within c.requires.gone.0 c.args.self.now c.requires.gone.1)

pub skip-requires-clause-stopped : goal.skip-requires-clause-stopped
skip-requires-clause-stopped c =
    let r = c.args.run.now in
    let step = step_read r c.requires.run c.args.n c.requires.within c.index-run-n.result in (
      c.requires.gone.0,
      c.requires.gone.1,
      met-stopped r c.requires.run c.args.n c.requires.within c.requires.gone.0 c.args.self.now c.requires.gone.1
          (ap (λ (t : Step). meets c.args.self.now.marks.written.items c.args.self.now.marks.read.items t.access) (sym step) ∙ sym c.stop.ensures ∙ c.if-stop.true),
    )

pub take-requires-clause-active : goal.take-requires-clause-active
take-requires-clause-active c =
    let r = c.args.run.now in
    let step = step_read r c.requires.run c.args.n c.requires.within c.index-run-n.result in (
      c.requires.gone.0,
      c.requires.gone.1,
      unmet-free r c.requires.run c.args.n c.requires.within c.requires.gone.0 c.args.self.now c.requires.gone.1
          (ap (λ (t : Step). meets c.args.self.now.marks.written.items c.args.self.now.marks.read.items t.access) (sym step) ∙ sym c.stop.ensures ∙ c.if-stop.false),
    )
