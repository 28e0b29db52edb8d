use Rattle.std.proofs.Common.{refl, sym, ap, ◌∙◌}
use Rattle.std.specs.Option.{option_copied}
use Rattle.task_graph.proofs.Terms.{has_numbered_term-at, has_numbered_term-past}
use Rattle.task_graph.proofs.existence.has_numbered_term.Goals as goal

pub returns-in-Some : goal.returns-in-Some
returns-in-Some g c =
    let task = c.args.task in
    c.has_product.ensures ∙ sym (has_numbered_term-at c.args.op.now (g.P.Parts.counts c.args.parts.now) task.term c.in-Some.term.now task.i task.j task.k c.if-task-eq0.false (sym c.get.ensures.item ∙ ap option_copied c.in-Some.is))

pub returns-in-None : goal.returns-in-None
returns-in-None g c =
    let task = c.args.task in
    sym (has_numbered_term-past c.args.op.now (g.P.Parts.counts c.args.parts.now) task.term task.i task.j task.k c.if-task-eq0.false (c.in-None.ensures.none.0 refl))
