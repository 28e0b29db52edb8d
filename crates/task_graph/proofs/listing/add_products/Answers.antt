use Rattle.std.proofs.Common.{ap, arith}
use Rattle.operation_spec.specs.declared.task.Kind.TheVariants as kinds
use Rattle.task_graph.specs.Listing.{products_of, updates_of, inner_count}
use Rattle.task_graph.proofs.Joined.{grown-none, grown-next, grown_past, passed_on}
use Rattle.task_graph.proofs.listing.add_products.Goals as goal

pub loop-at-init : goal.loop-at-init
unfolding products_of
loop-at-init c = record { grown = grown-none _ _; few = c.requires }

pub loop-at-preserved : goal.loop-at-preserved
unfolding products_of
loop-at-preserved c =
    let same = ap (λ t. updates_of c.args.op.now c.args.parts.now kinds.Term t c.args.i c.args.j (inner_count c.args.op.now c.args.parts.now kinds.Term t)) c.in-Ok.ensures.1 in
    record {
      grown = grown-next _ c.loop-at.at _ c.loop-at.invariant.grown same c.in_ok-add_updates.ensures.ok;
      few = c.in_ok-add_updates.ensures.few;
    }

pub returns-in_err-add_updates-clause-too_many : goal.returns-in_err-add_updates-clause-too_many
unfolding products_of
returns-in_err-add_updates-clause-too_many c h =
    let same = ap (λ t. updates_of c.args.op.now c.args.parts.now kinds.Term t c.args.i c.args.j (inner_count c.args.op.now c.args.parts.now kinds.Term t)) c.in-Ok.ensures.1 in
    grown_past _ c.loop-at.at _ _ _ (omega arith) c.loop-at.invariant.grown same
    (c.in_err-add_updates.ensures.too_many (passed_on c.from_residual.result c.from_residual.ensures.1 h))
