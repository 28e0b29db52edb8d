use Rattle.std.proofs.Common.{◌≡◌, length, set, take, refl, sym, ◌∙◌, ap, arith}
use Rattle.std.specs.Prelude.{Option}
use Rattle.std.proofs.lemmas.Option.{MatchOption-at_none, MatchOption-at_some}
use Rattle.step_replays.specs.declared.step.Step.{Step}
use Rattle.residue_sums.specs.Grids.{Grid}
use Rattle.equation.specs.declared.job.Place.{Place}
use Rattle.equation.specs.Jobs.{nth_grid}
use Rattle.step_replays.specs.Replays.{Failed, Ran, nth_access}
use Rattle.task_values.proofs.StepUses.{step_read}
use Rattle.task_values.proofs.TakenBlocks.{room-kept}
use Rattle.schedule_core.specs.HeldSteps.{IsDue, kept_of}
use Rattle.schedule_core.proofs.EndedSteps.{held-failed, held-ran}
use Rattle.schedule_core.proofs.FoundSteps.{next-there, outcome-is}
use Rattle.schedule_core.proofs.HeldUses.{kept-old, own_read, reads_in_reads, refilled, replay_of, row_room, spare_enough, write_marked, write_stored}
use Rattle.schedule_core.proofs.held.Held.take.Goals as goal

pub index-requires : goal.index-requires
index-requires c = omega (arith, write_stored c.args.run.now c.requires.run c.args.n c.requires.within c.args.self.now c.requires.due c.index-run-n.result)

pub save-requires : goal.save-requires
save-requires c = omega (
  arith,
  spare_enough c.args.run.now c.requires.run c.args.n c.requires.within c.args.self.now c.requires.due c.index-run-n.result c.index.result.now c.index.ensures,
  ap length c.entries.ensures.entries,
  ap length c.as_mut_slice.ensures.value,
)

pub index_mut-requires : goal.index_mut-requires
index_mut-requires c = omega (arith, write_stored c.args.run.now c.requires.run c.args.n c.requires.within c.args.self.now c.requires.due c.index-run-n.result)

pub done-done-requires-clause-ready : goal.done-done-requires-clause-ready
done-done-requires-clause-ready c =
    let r = c.args.run.now in
    let replay = replay_of r c.requires.run in
    let due = c.requires.due in (
      take c.args.n replay.0,
      next-there r c.requires.run c.args.n c.requires.within due.0 c.args.self.now due.1 replay.0 replay.1 c.requires.free
          c.index-run-n.result c.no_block.result c.replace-block.new.dest c.replace-block.result c.index_mut.result.now c.as_slice.result.now
          c.no_block.ensures c.replace-block.ensures.after c.replace-block.ensures.value c.index_mut.ensures.value c.as_slice.ensures.value,
    )

pub done-done-requires-clause-room : goal.done-done-requires-clause-room
done-done-requires-clause-room c = omega (
  arith,
  row_room c.args.run.now c.requires.run c.args.n c.requires.within c.args.self.now c.requires.due c.index-run-n.result,
  ap length c.as_mut_slice-2.ensures.value,
)

pub kept-requires : goal.kept-requires
kept-requires c =
    let spare = c.args.self.now.spare in
    let fits = spare_enough c.args.run.now c.requires.run c.args.n c.requires.within c.args.self.now c.requires.due c.index-run-n.result c.index_mut.result.now c.index_mut.ensures.value in
    let room = refilled spare.len spare.items c.save.new.room spare.ok.0 (omega (arith, ap length c.as_mut_slice.ensures.value)) in
    omega (
      arith,
      fits,
      c.done-done.ensures.count,
      ap (λ (g : Grid). length g.entries) c.replace-block.ensures.value,
      ap length c.as_slice-2.ensures.value,
      ap length room,
      ap length c.as_mut_slice.ensures.value,
    )

pub index_mut-requires-2 : goal.index_mut-requires-2
index_mut-requires-2 c = omega (arith, write_stored c.args.run.now c.requires.run c.args.n c.requires.within c.args.self.now c.requires.due c.index-run-n.result)

pub fail-requires-clause-write : goal.fail-requires-clause-write
fail-requires-clause-write c = write_marked c.args.run.now c.requires.run c.args.n c.requires.within c.args.self.now c.requires.due c.index-run-n.result

pub fail-requires-clause-reads : goal.fail-requires-clause-reads
fail-requires-clause-reads c = reads_in_reads c.args.run.now c.requires.run c.args.n c.requires.within c.args.self.now c.requires.due c.index-run-n.result

pub returns-in-None : goal.returns-in-None
returns-in-None c events due results replay =
    let r = c.args.run.now in
    let h = c.args.self.now in
    let step = step_read r c.requires.run c.args.n c.requires.within c.index-run-n.result in
    let uses : IsDue r c.args.n h = (events, due) in
    let old = c.replace-block.ensures.value
    ∙ own_read r c.requires.run c.args.n c.requires.within h uses c.index-run-n.result c.index_mut.result.now c.index_mut.ensures.value in
    let is_kept : c.kept.result ≡ c.done-done.result.block
    = c.kept.ensures ∙ ap (λ (bad : Option Place). kept_of bad c.done-done.result.block c.as_slice-2.result.now) c.in-None.is in
    let next = next-there r c.requires.run c.args.n c.requires.within events h due results replay c.requires.free
    c.index-run-n.result c.no_block.result c.replace-block.new.dest c.replace-block.result c.index_mut.result.now c.as_slice.result.now
    c.no_block.ensures c.replace-block.ensures.after c.replace-block.ensures.value c.index_mut.ensures.value c.as_slice.ensures.value in
    let ran = outcome-is r c.requires.run c.args.n c.requires.within events h due results replay (Ran c.done-done.result.block)
    (MatchOption-at_none _ _ c.in-None.is c.done-done.ensures.outcome (take c.args.n results) next) in
    let room = refilled h.spare.len h.spare.items c.save.new.room h.spare.ok.0 (omega (arith, ap length c.as_mut_slice.ensures.value)) in
    held-ran r c.requires.run c.args.n c.requires.within events h due results replay _ c.replace-block.new.dest c.kept.result
    (ap (λ (t : Step). set (set h.store.blocks.items t.access.write c.replace-block.new.dest) t.access.write c.kept.result) step)
    (room-kept h.store.room.len c.done-done.new.room h.store.room.items r.b h.store.room.ok.0
    (row_room r c.requires.run c.args.n c.requires.within h uses c.index-run-n.result))
    (ap length room ∙ omega (arith, ap length c.as_mut_slice.ensures.value))
    (ap (λ (g : Grid). length g.entries) is_kept ∙ c.done-done.ensures.count ∙ ap (λ (g : Grid). length g.entries) old)
    (ran ∙ ap Ran (sym is_kept)) refl refl refl

pub returns-in-Some : goal.returns-in-Some
returns-in-Some c events due results replay =
    let r = c.args.run.now in
    let h = c.args.self.now in
    let step = step_read r c.requires.run c.args.n c.requires.within c.index-run-n.result in
    let uses : IsDue r c.args.n h = (events, due) in
    let old = c.replace-block.ensures.value
    ∙ own_read r c.requires.run c.args.n c.requires.within h uses c.index-run-n.result c.index_mut.result.now c.index_mut.ensures.value in
    let next = next-there r c.requires.run c.args.n c.requires.within events h due results replay c.requires.free
    c.index-run-n.result c.no_block.result c.replace-block.new.dest c.replace-block.result c.index_mut.result.now c.as_slice.result.now
    c.no_block.ensures c.replace-block.ensures.after c.replace-block.ensures.value c.index_mut.ensures.value c.as_slice.ensures.value in
    let failed = outcome-is r c.requires.run c.args.n c.requires.within events h due results replay (Failed c.in-Some.place)
    (MatchOption-at_some _ _ c.in-Some.place c.in-Some.is c.done-done.ensures.outcome (take c.args.n results) next) in
    let room = refilled h.spare.len h.spare.items c.save.new.room h.spare.ok.0 (omega (arith, ap length c.as_mut_slice.ensures.value)) in
    let read : c.index.result.now ≡ nth_grid h.store.blocks.items (nth_access r.steps.now c.args.n).write
    = own_read r c.requires.run c.args.n c.requires.within h uses c.index-run-n.result c.index.result.now c.index.ensures in
    let entries : c.entries.result.now ≡ (nth_grid h.store.blocks.items (nth_access r.steps.now c.args.n).write).entries
    = c.entries.ensures.entries ∙ ap (λ (g : Grid). g.entries) read in
    let back = c.kept.ensures
    ∙ (ap (λ (bad : Option Place). kept_of bad c.done-done.result.block c.as_slice-2.result.now) c.in-Some.is
    ∙ kept-old c.in-Some.place c.done-done.result.block (nth_grid h.store.blocks.items (nth_access r.steps.now c.args.n).write) c.as_slice-2.result.now
    (c.done-done.ensures.rows ∙ ap (λ (g : Grid). g.rows) old) (c.done-done.ensures.cols ∙ ap (λ (g : Grid). g.cols) old)
    (c.done-done.ensures.count ∙ ap (λ (g : Grid). length g.entries) old)
    (rw (c.as_slice-2.ensures.value, room) (rw entries at c.save.ensures))) in
    held-failed r c.requires.run c.args.n c.requires.within events h due results replay c.fail.new.self c.replace-block.new.dest c.kept.result
    (c.fail.ensures.blocks ∙ ap (λ (t : Step). set (set h.store.blocks.items t.access.write c.replace-block.new.dest) t.access.write c.kept.result) step)
    (rw c.fail.ensures.room (room-kept h.store.room.len c.done-done.new.room h.store.room.items r.b h.store.room.ok.0
    (row_room r c.requires.run c.args.n c.requires.within h uses c.index-run-n.result)))
    (ap length c.fail.ensures.spare ∙ ap length room ∙ omega (arith, ap length c.as_mut_slice.ensures.value))
    (ap (λ (g : Grid). length g.entries) back)
    c.in-Some.place failed back
    (rw step at c.fail.ensures.written) (rw step at c.fail.ensures.read) (rw step at c.fail.ensures.noted)
