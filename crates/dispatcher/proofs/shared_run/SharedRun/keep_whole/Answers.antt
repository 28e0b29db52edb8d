use Rattle.std.proofs.Common.{refl, sym, ◌∙◌}
use Rattle.std.proofs.lemmas.Bool.{eq-eqb}
use Rattle.block_store.specs.declared.view.Fact.TheVariants.{Away, Took}
use Rattle.block_store.specs.Blocks.{access_of}
use Rattle.block_store.specs.Seats.{key_of, view}
use Rattle.matrix_parts.specs.Lent.{grid_of}
use Rattle.matrix_parts.proofs.Kept.{IsKept-then}
use Rattle.dispatcher.proofs.CopiedViews.{copied-more, copied-none, copied-runs, free-away, holds-took}
use Rattle.dispatcher.proofs.SharedSteps.{keeps-shapes, whole-kept}
use Rattle.dispatcher.proofs.Tries.{same_seat-then, seat-then, sized, tried-more, tried-none}
use Rattle.dispatcher.proofs.shared_run.SharedRun.keep_whole.Goals as goal

pub loop-init : goal.loop-init
loop-init g c = tried-none c.args.seat.now c.args.buffer.now c.requires.free c.requires.part

pub keep-requires-clause-seat : goal.keep-requires-clause-seat
keep-requires-clause-seat g c = seat-then c.args.self.now.board.now c.args.seat.now c.loop.seat c.requires.seat c.loop.invariant.same.0

pub keep-requires-clause-runs : goal.keep-requires-clause-runs
keep-requires-clause-runs g c = copied-runs (view c.args.seat.now) (view c.loop.seat) c.args.t c.loop.invariant.copied c.requires.runs

pub keep-requires-clause-writes : goal.keep-requires-clause-writes
keep-requires-clause-writes g c = eq-eqb (access_of (key_of c.args.self.now.board.now) c.args.t).write c.args.x (sym c.requires.writes)

pub keep-requires-clause-shapes : goal.keep-requires-clause-shapes
keep-requires-clause-shapes g c = keeps-shapes c.args.self.now c.requires.shared

pub keep-requires-clause-part : goal.keep-requires-clause-part
keep-requires-clause-part g c = c.loop.invariant.part

pub keep-requires-clause-size : goal.keep-requires-clause-size
keep-requires-clause-size g c =
    sized (key_of c.args.self.now.board.now) c.args.x c.args.buffer.now c.loop.buffer c.whole-part.result c.requires.size c.loop.invariant.kept c.whole-part.ensures

pub returns-in-Whole : goal.returns-in-Whole
returns-in-Whole g c =
    let e = c.in-Whole.ensures in
    let w = e.whole refl in
    let so_far = c.loop.invariant in
    record {
      same = same_seat-then c.args.seat.now c.loop.seat c.keep.new.seat so_far.same.0 e.same;
      copied = copied-more (view c.args.seat.now) (view c.loop.seat) (view c.keep.new.seat) (Took c.args.x) so_far.copied tt w.0;
      holds = holds-took (view c.loop.seat) (view c.keep.new.seat) c.args.x so_far.free w.0;
      top = whole-kept (key_of c.args.self.now.board.now) (keeps-shapes c.args.self.now c.requires.shared) c.args.t c.args.x w.1.0 (grid_of c.keep.new.buffer) c.whole-part.result
          w.1.3 c.whole-part.ensures w.1.1 c.args.seat.now.inner.me.1 c.loop.seat.inner.me.1 c.keep.new.seat.inner.me.1 so_far.same.1 w.1.2;
      loan = e.loan ∙ so_far.loan;
      part = e.part;
      kept = IsKept-then c.args.buffer.now c.loop.buffer c.keep.new.buffer so_far.kept e.kept;
    }

pub loop-preserved : goal.loop-preserved
loop-preserved g c =
    let e = c.in-Away.ensures in
    let a = e.away refl in
    let v = view c.loop.seat in
    tried-more c.args.seat.now c.loop.seat c.keep.new.seat c.args.buffer.now c.loop.buffer c.keep.new.buffer c.loop.invariant (e.same, a.1)
    (copied-more v v (view c.keep.new.seat) (Away c.args.x) (copied-none v) tt a.0)
    (λ y. free-away v (view c.keep.new.seat) c.args.x y (c.loop.invariant.free y) a.0) e.loan e.part e.kept
