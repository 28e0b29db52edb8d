use Rattle.std.proofs.Common.{inr, refl, sym, ap, ◌∙◌}
use Rattle.residue_sums.specs.Grids.{Grid}
use Rattle.matrix_parts.specs.Lent.{grid_of}
use Rattle.block_store.specs.declared.view.Fact.TheVariants.{Gave, Put}
use Rattle.block_store.specs.Blocks.{writes_to}
use Rattle.block_store.specs.Seats.{key_of, view}
use Rattle.dispatcher.proofs.CopiedViews.{free-gave, free-put, moved-more, put-known}
use Rattle.dispatcher.proofs.SharedSteps.{keeps-shapes, left-none, outcome-none, outcome-some}
use Rattle.dispatcher.proofs.shared_run.SharedRun.hand_back.Goals as goal

pub put_out-requires-clause-top : goal.put_out-requires-clause-top
put_out-requires-clause-top c =
    let k = c.requires.top in
    let h = keeps-shapes c.args.self.now c.requires.shared c.args.x (writes_to (key_of c.args.self.now.board.now) c.args.x c.args.t) k.0 k.1.found in
    (k.0, k.1.top, h.rows ∙ sym (ap (λ (g : Grid). g.rows) c.as_part.ensures ∙ c.requires.size.rows), h.cols ∙ sym (ap (λ (g : Grid). g.cols) c.as_part.ensures ∙ c.requires.size.cols))

pub put_out-requires-clause-left : goal.put_out-requires-clause-left
put_out-requires-clause-left c =
    left-none c.args.self.now c.requires.shared c.args.t c.requires.step c.args.x c.args.bad (grid_of c.args.part.now) c.as_part.result c.requires.writes c.in-None.is c.requires.comes
    c.as_part.ensures

pub returns-in-None-clause-moved : goal.returns-in-None-clause-moved
returns-in-None-clause-moved c = moved-more c.args.t (view c.args.seat.now) (view c.put_out.new.seat) (Put c.args.t c.args.x) refl c.put_out.ensures.put.0

pub returns-in-None-clause-free : goal.returns-in-None-clause-free
returns-in-None-clause-free c = free-put (view c.args.seat.now) (view c.put_out.new.seat) c.args.t c.args.x c.requires.holds c.put_out.ensures.put.0

pub returns-in-None-clause-outcome : goal.returns-in-None-clause-outcome
returns-in-None-clause-outcome c =
    outcome-none c.args.self.now c.requires.shared c.args.t c.requires.step c.args.bad (grid_of c.args.part.now) c.in-None.is c.requires.comes

pub returns-in-None-clause-put : goal.returns-in-None-clause-put
returns-in-None-clause-put c = inr (put-known (view c.args.seat.now) (view c.put_out.new.seat) c.args.t c.args.x c.put_out.ensures.put.0)

pub returns-in-Some-clause-moved : goal.returns-in-Some-clause-moved
returns-in-Some-clause-moved c = moved-more c.args.t (view c.args.seat.now) (view c.give.new.seat) (Gave c.args.x) tt c.give.ensures.given.0

pub returns-in-Some-clause-free : goal.returns-in-Some-clause-free
returns-in-Some-clause-free c = free-gave (view c.args.seat.now) (view c.give.new.seat) c.args.x c.requires.holds c.give.ensures.given.0

pub returns-in-Some-clause-outcome : goal.returns-in-Some-clause-outcome
returns-in-Some-clause-outcome c =
    outcome-some c.args.self.now c.requires.shared c.args.t c.requires.step c.args.bad (grid_of c.args.part.now) _ c.in-Some.is c.requires.comes
