use Rattle.std.proofs.Common.{◌≡◌, ℕ, ◌-◌, ◌≤◌, List, length, take, sym, ap, ◌∙◌, subst, arith}
use Rattle.std.proofs.lemmas.List.{length-map, length-take-le, with_items_is}
use Rattle.std.proofs.lemmas.List.FromFn.{length-range_with_len}
use Rattle.residue_sums.specs.Grids.{Grid}
use Rattle.matrix_parts.specs.Lent.{grid_of}
use Rattle.block_kernels.specs.declared.stored_blocks.Cut.{Cut}
use Rattle.block_kernels.specs.LaidBlocks.{cut_grid}
use Rattle.task_values.specs.FoundBlocks.{Finds}
use Rattle.block_store.specs.Blocks.{IsFound}
use Rattle.block_store.specs.Seats.{key_of, view}
use Rattle.block_store.proofs.TopBlocks.{top-of}
use Rattle.dispatcher.proofs.KeptBuffers.{buffers-kept}
use Rattle.dispatcher.proofs.CopiedViews.{copied-runs, copied-then, moved-copied}
use Rattle.dispatcher.proofs.SharedSteps.{finds}
use Rattle.dispatcher.proofs.RoomCuts.{copied-same, first-numbers, in-room}
use Rattle.dispatcher.proofs.shared_run.SharedRun.compute.Goals as goal

pub keep_whole-requires-clause-runs : goal.keep_whole-requires-clause-runs
keep_whole-requires-clause-runs g c = copied-runs (view c.args.seat.now) (view c.copy_reads-count.new.seat) c.args.t c.copy_reads-count.ensures.copied c.requires.runs

pub of_room-reads-requires : goal.of_room-reads-requires
of_room-reads-requires g c =
    let key = key_of c.args.self.now.board.now in
    let did = c.copy_reads-count in
    let room : c.deref.result.now ≡ did.new.room = c.deref.ensures.value ∙ with_items_is c.args.buffers.now.reads did.new.room (omega (arith, did.auto.room, c.deref_mut.ensures.len)) in
    let cuts : c.deref-2.result.now ≡ did.new.cuts = c.deref-2.ensures.value ∙ with_items_is c.args.buffers.now.cuts did.new.cuts (omega (arith, did.auto.cuts, c.deref_mut-2.ensures.len)) in
    in-room key c.args.t did.result (length c.deref.result.now) c.deref.result.now c.deref-2.result.now
    (copied-same key c.args.t did.result did.new.room c.deref.result.now did.new.cuts c.deref-2.result.now room cuts did.ensures.reads)
    (omega arith) (omega (arith, did.ensures.count, c.requires.buffers.cuts c.args.t c.requires.step, c.args.buffers.now.cuts.ok.0, ap (λ (cs : List Cut). length cs) cuts, did.auto.cuts, c.deref_mut-2.ensures.len))

pub slice_bounds-numbers-end : goal.slice_bounds-numbers-end
slice_bounds-numbers-end g c =
    let did = c.copy_reads-count in
    let many : length c.deref-3.result.now ≡ length c.args.buffers.now.cuts.items
    = ap (λ (xs : List ℕ). length xs) (c.deref-3.ensures.value ∙ c.requires.buffers.numbers) ∙ length-range_with_len 0 (length c.args.buffers.now.cuts.items) in
    sym (length-take-le did.result c.deref-3.result.now (omega (arith, many, did.ensures.count, c.requires.buffers.cuts c.args.t c.requires.step)))

pub step-bad-requires-clause-numbers : goal.step-bad-requires-clause-numbers
step-bad-requires-clause-numbers g c =
    let did = c.copy_reads-count in
    let cuts : c.deref-2.result.now ≡ did.new.cuts = c.deref-2.ensures.value ∙ with_items_is c.args.buffers.now.cuts did.new.cuts (omega (arith, did.auto.cuts, c.deref_mut-2.ensures.len)) in
    let within : did.result ≤ length c.deref-2.result.now
    = omega (arith, did.ensures.count, c.requires.buffers.cuts c.args.t c.requires.step, c.args.buffers.now.cuts.ok.0, ap (λ (cs : List Cut). length cs) cuts, did.auto.cuts, c.deref_mut-2.ensures.len) in
    first-numbers c.deref-3.result.now did.result (length c.args.buffers.now.cuts.items) c.of_room-reads.result (c.deref-3.ensures.value ∙ c.requires.buffers.numbers)
    (omega (arith, did.ensures.count, c.requires.buffers.cuts c.args.t c.requires.step))
    (ap (λ (gs : List Grid). length gs) c.of_room-reads.ensures ∙ (length-map (take did.result c.deref-2.result.now) (cut_grid c.deref.result.now) ∙ length-take-le did.result c.deref-2.result.now within))

pub step-bad-requires-clause-finds : goal.step-bad-requires-clause-finds
step-bad-requires-clause-finds g c =
    let key = key_of c.args.self.now.board.now in
    let did = c.copy_reads-count in
    let room : c.deref.result.now ≡ did.new.room = c.deref.ensures.value ∙ with_items_is c.args.buffers.now.reads did.new.room (omega (arith, did.auto.room, c.deref_mut.ensures.len)) in
    let cuts : c.deref-2.result.now ≡ did.new.cuts = c.deref-2.ensures.value ∙ with_items_is c.args.buffers.now.cuts did.new.cuts (omega (arith, did.auto.cuts, c.deref_mut-2.ensures.len)) in
    let within : did.result ≤ length c.deref-2.result.now
    = omega (arith, did.ensures.count, c.requires.buffers.cuts c.args.t c.requires.step, c.args.buffers.now.cuts.ok.0, ap (λ (cs : List Cut). length cs) cuts, did.auto.cuts, c.deref_mut-2.ensures.len) in
    subst (λ (gs : List Grid). Finds c.args.self.now.run (c.args.t - 1) gs (grid_of c.keep_whole.new.buffer)) (sym c.of_room-reads.ensures)
    (finds c.args.self.now c.requires.shared c.args.t c.requires.step did.result (length c.deref.result.now) c.deref.result.now c.deref-2.result.now (grid_of c.keep_whole.new.buffer)
    c.requires.active did.ensures.count within
    (copied-same key c.args.t did.result did.new.room c.deref.result.now did.new.cuts c.deref-2.result.now room cuts did.ensures.reads)
    (subst (λ (x : ℕ). IsFound key c.args.t x (grid_of c.keep_whole.new.buffer)) c.written-x.ensures.is c.keep_whole.ensures.top.found))

pub hand_back-outcome-requires-clause-runs : goal.hand_back-outcome-requires-clause-runs
hand_back-outcome-requires-clause-runs g c =
    let read = c.copy_reads-count in
    copied-runs (view read.new.seat) (view c.keep_whole.new.seat) c.args.t c.keep_whole.ensures.copied
    (copied-runs (view c.args.seat.now) (view read.new.seat) c.args.t read.ensures.copied c.requires.runs)

pub hand_back-outcome-requires-clause-top : goal.hand_back-outcome-requires-clause-top
hand_back-outcome-requires-clause-top g c =
    let kept = c.keep_whole.ensures.top in
    let block = grid_of c.keep_whole.new.buffer in
    (block, record { top = top-of c.keep_whole.new.seat.inner.me.1 c.copy_reads-count.new.seat.inner.me.1 c.written-x.result block kept.top; found = kept.found })

pub returns-clause-moved : goal.returns-clause-moved
returns-clause-moved g c =
    let read = c.copy_reads-count in
    moved-copied c.args.t (view c.args.seat.now) (view c.keep_whole.new.seat) (view c.hand_back-outcome.new.seat)
    (copied-then (view c.args.seat.now) (view read.new.seat) (view c.keep_whole.new.seat) read.ensures.copied c.keep_whole.ensures.copied) c.hand_back-outcome.ensures.moved

pub returns-clause-buffers : goal.returns-clause-buffers
returns-clause-buffers g c = buffers-kept (key_of c.args.self.now.board.now) c.args.buffers.now c.copy_reads-count.new.room _ c.step-bad.new.room c.copy_reads-count.new.cuts c.requires.buffers
