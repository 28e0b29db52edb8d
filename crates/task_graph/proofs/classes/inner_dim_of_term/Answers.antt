use Rattle.std.proofs.Common.{refl, sym, ap, ◌∙◌}
use Rattle.std.specs.Option.{option_copied}
use Rattle.task_graph.proofs.Terms.{inner_dim_of_term-at, inner_dim_of_term-past}
use Rattle.task_graph.proofs.classes.inner_dim_of_term.Goals as goal

pub returns-in-Some : goal.returns-in-Some
returns-in-Some c =
    c.factor_cols.ensures ∙ sym (inner_dim_of_term-at c.args.op.now c.args.term c.in-Some.term.now c.if-term-eq0.false (sym c.get.ensures.item ∙ ap option_copied c.in-Some.is))

pub returns-in-None : goal.returns-in-None
returns-in-None c = sym (inner_dim_of_term-past c.args.op.now c.args.term c.if-term-eq0.false (c.in-None.ensures.none.0 refl))
