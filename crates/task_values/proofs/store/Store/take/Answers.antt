use Rattle.std.proofs.Common.{◌<◌, length, get_or, set, true, All, ap, refl, subst, sym, ◌∙◌, arith}
use Rattle.std.proofs.lemmas.Option.{MatchOption-at_none, MatchOption-at_some}
use Rattle.std.specs.Vec.{with_item, with_items}
use Rattle.step_replays.specs.declared.step.Step.{Step}
use Rattle.task_values.specs.Marks.{all_marked}
use Rattle.task_values.specs.Progress.{first_of}
use Rattle.task_values.proofs.GoneSteps.{gone-failed, gone-ran}
use Rattle.task_values.proofs.StepUses.{reads_in_reads, step_read, write_marked, write_stored}
use Rattle.task_values.proofs.TakenBlocks.{next-there, no_block-residues, room-kept}
use Rattle.task_values.proofs.store.Store.take.Goals as goal

pub index_mut-requires : goal.index_mut-requires
index_mut-requires c =
    let r = c.args.run.now in
    let w = write_stored r c.requires.run c.args.n c.requires.within c.requires.active.0 c.args.self.now c.requires.active.1 in
    let step = step_read r c.requires.run c.args.n c.requires.within c.index-run-n.result in
    rw step (omega (arith, w))

pub done-done-requires-clause-ready : goal.done-done-requires-clause-ready
done-done-requires-clause-ready c = (
  c.requires.active.0,
  next-there c.args.run.now c.requires.run c.args.n c.requires.within c.requires.active.0 c.args.self.now c.requires.active.1 c.requires.active.2
      c.index-run-n.result c.no_block.result c.replace-block.new.dest c.replace-block.result c.index_mut.result.now c.as_slice.result.now
      c.no_block.ensures c.replace-block.ensures.after c.replace-block.ensures.value c.index_mut.ensures.value c.as_slice.ensures.value,
)

pub index_mut-requires-in-None : goal.index_mut-requires-in-None
index_mut-requires-in-None c =
    let r = c.args.run.now in
    let w = write_stored r c.requires.run c.args.n c.requires.within c.requires.active.0 c.args.self.now c.requires.active.1 in
    let step = step_read r c.requires.run c.args.n c.requires.within c.index-run-n.result in
    rw step (omega (arith, w))

pub fail-requires-clause-write : goal.fail-requires-clause-write
fail-requires-clause-write c =
    let r = c.args.run.now in
    subst (λ (t : Step). t.access.write < length c.args.self.now.marks.written.items) (sym (step_read r c.requires.run c.args.n c.requires.within c.index-run-n.result))
    (write_marked r c.requires.run c.args.n c.requires.within c.requires.active.0 c.args.self.now c.requires.active.1)

pub fail-requires-clause-reads : goal.fail-requires-clause-reads
fail-requires-clause-reads c =
    let r = c.args.run.now in
    subst (λ (t : Step). All (λ x. x < length c.args.self.now.marks.read.items) t.access.reads) (sym (step_read r c.requires.run c.args.n c.requires.within c.index-run-n.result))
    (reads_in_reads r c.requires.run c.args.n c.requires.within c.requires.active.0 c.args.self.now c.requires.active.1)

pub returns-in-None : goal.returns-in-None
returns-in-None c =
    let r = c.args.run.now in
    let results = c.requires.active.0 in
    let held = c.requires.active.1 in
    let step = step_read r c.requires.run c.args.n c.requires.within c.index-run-n.result in
    let next = next-there r c.requires.run c.args.n c.requires.within results c.args.self.now held c.requires.active.2
    c.index-run-n.result c.no_block.result c.replace-block.new.dest c.replace-block.result c.index_mut.result.now c.as_slice.result.now
    c.no_block.ensures c.replace-block.ensures.after c.replace-block.ensures.value c.index_mut.ensures.value c.as_slice.ensures.value in
    gone-ran r c.requires.run c.args.n c.requires.within results c.args.self.now held
    (record {
      blocks = with_item (with_item c.args.self.now.blocks (get_or r.steps.now c.args.n c.index-run-n.result).access.write c.replace-block.new.dest)
          (get_or r.steps.now c.args.n c.index-run-n.result).access.write c.done-done.result.block;
      marks = c.args.self.now.marks;
      room = with_items c.args.self.now.room c.done-done.new.room;
      failure = c.args.self.now.failure;
    })
    c.done-done.result.block c.replace-block.new.dest (MatchOption-at_none _ _ c.in-None.is c.done-done.ensures.outcome results next)
    (no_block-residues r.job.now.modulus c.no_block.result c.replace-block.new.dest c.no_block.ensures c.replace-block.ensures.after)
    (ap (λ (t : Step). set (set c.args.self.now.blocks.items t.access.write c.replace-block.new.dest) t.access.write c.done-done.result.block) step)
    refl refl (room-kept c.args.self.now.room.len c.done-done.new.room c.args.self.now.room.items r.b c.args.self.now.room.ok.0 held.room) refl

pub returns-in-Some : goal.returns-in-Some
returns-in-Some c =
    let r = c.args.run.now in
    let results = c.requires.active.0 in
    let held = c.requires.active.1 in
    let step = step_read r c.requires.run c.args.n c.requires.within c.index-run-n.result in
    let next = next-there r c.requires.run c.args.n c.requires.within results c.args.self.now held c.requires.active.2
    c.index-run-n.result c.no_block.result c.replace-block.new.dest c.replace-block.result c.index_mut.result.now c.as_slice.result.now
    c.no_block.ensures c.replace-block.ensures.after c.replace-block.ensures.value c.index_mut.ensures.value c.as_slice.ensures.value in
    gone-failed r c.requires.run c.args.n c.requires.within results c.args.self.now held c.fail.new.self
    c.in-Some.place c.replace-block.new.dest (MatchOption-at_some _ _ c.in-Some.place c.in-Some.is c.done-done.ensures.outcome results next)
    (no_block-residues r.job.now.modulus c.no_block.result c.replace-block.new.dest c.no_block.ensures c.replace-block.ensures.after)
    (c.fail.ensures.blocks ∙ ap (λ (t : Step). set c.args.self.now.blocks.items t.access.write c.replace-block.new.dest) step)
    (c.fail.ensures.written ∙ ap (λ (t : Step). set c.args.self.now.marks.written.items t.access.write true) step)
    (c.fail.ensures.read ∙ ap (λ (t : Step). all_marked t.access.reads c.args.self.now.marks.read.items) step)
    (rw c.fail.ensures.room (room-kept c.args.self.now.room.len c.done-done.new.room c.args.self.now.room.items r.b c.args.self.now.room.ok.0 held.room))
    (c.fail.ensures.noted ∙ ap (λ (t : Step). first_of c.args.self.now.failure (record { statement = t.statement; row = c.in-Some.place.row; col = c.in-Some.place.col })) step)
