use Rattle.std.proofs.Common.{refl}
use Rattle.block_store.specs.declared.view.Fact.TheVariants.{Away, Gave, Took}
use Rattle.block_store.specs.Seats.{key_of, view}
use Rattle.block_store.specs.Views.{learned}
use Rattle.matrix_parts.specs.Lent.{grid_of}
use Rattle.dispatcher.proofs.CopiedViews.{copied-more, copied-none, copied-runs, free-away, free-back}
use Rattle.dispatcher.proofs.SharedSteps.{keeps-shapes, whole-found}
use Rattle.dispatcher.proofs.Tries.{seat-then, sized, tried-more, tried-none}
use Rattle.dispatcher.proofs.shared_run.SharedRun.copy_whole.Goals as goal

pub loop-init : goal.loop-init
loop-init g c = tried-none c.args.seat.now c.args.buffer.now c.requires.free c.requires.part

pub copy_in-requires-clause-seat : goal.copy_in-requires-clause-seat
copy_in-requires-clause-seat g c = seat-then c.args.self.now.board.now c.args.seat.now c.loop.seat c.requires.seat c.loop.invariant.same.0

pub copy_in-requires-clause-runs : goal.copy_in-requires-clause-runs
copy_in-requires-clause-runs g c = copied-runs (view c.args.seat.now) (view c.loop.seat) c.args.t c.loop.invariant.copied c.requires.runs

pub copy_in-requires-clause-free : goal.copy_in-requires-clause-free
copy_in-requires-clause-free g c = c.loop.invariant.free c.args.x

pub copy_in-requires-clause-shapes : goal.copy_in-requires-clause-shapes
copy_in-requires-clause-shapes g c = keeps-shapes c.args.self.now c.requires.shared

pub copy_in-requires-clause-part : goal.copy_in-requires-clause-part
copy_in-requires-clause-part g c = c.loop.invariant.part

pub copy_in-requires-clause-size : goal.copy_in-requires-clause-size
copy_in-requires-clause-size g c =
    sized (key_of c.args.self.now.board.now) c.args.x c.args.buffer.now c.loop.buffer c.whole-part.result c.requires.size c.loop.invariant.kept c.whole-part.ensures

pub returns-in-Whole : goal.returns-in-Whole
returns-in-Whole g c =
    let e = c.in-Whole.ensures in
    let w = e.whole refl in
    let v = view c.loop.seat in
    let tried = tried-more c.args.seat.now c.loop.seat c.copy_in.new.seat c.args.buffer.now c.loop.buffer c.copy_in.new.buffer c.loop.invariant e.same
    (copied-more v (learned (Took c.args.x) v) (view c.copy_in.new.seat) (Gave c.args.x) (copied-more v v (learned (Took c.args.x) v) (Took c.args.x) (copied-none v) tt refl) tt w.0)
    (λ y. free-back v (view c.copy_in.new.seat) c.args.x y (c.loop.invariant.free y) w.0) e.loan e.part e.kept in
    record {
      same = tried.same;
      copied = tried.copied;
      free = tried.free;
      loan = tried.loan;
      part = tried.part;
      kept = tried.kept;
      found = whole-found (key_of c.args.self.now.board.now) (keeps-shapes c.args.self.now c.requires.shared) c.args.t c.args.x w.1.0 (grid_of c.copy_in.new.buffer) c.whole-part.result
          w.1.2 c.whole-part.ensures w.1.1;
    }

pub loop-preserved : goal.loop-preserved
loop-preserved g c =
    let e = c.in-Away.ensures in
    let a = e.away refl in
    let v = view c.loop.seat in
    tried-more c.args.seat.now c.loop.seat c.copy_in.new.seat c.args.buffer.now c.loop.buffer c.copy_in.new.buffer c.loop.invariant e.same
    (copied-more v v (view c.copy_in.new.seat) (Away c.args.x) (copied-none v) tt a.0)
    (λ y. free-away v (view c.copy_in.new.seat) c.args.x y (c.loop.invariant.free y) a.0) e.loan e.part e.kept
