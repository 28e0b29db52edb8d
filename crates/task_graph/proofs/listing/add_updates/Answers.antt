use Rattle.std.proofs.Common.{refl, arith}
use Rattle.task_graph.specs.Listing.{updates_of}
use Rattle.task_graph.proofs.Joined.{grown-none, grown-next, grown-all, grown_past, passed_on}
use Rattle.task_graph.proofs.listing.add_updates.Goals as goal

pub loop-k-init : goal.loop-k-init
unfolding updates_of
loop-k-init c = record { grown = grown-none _ _; few = c.requires }

pub loop-k-preserved : goal.loop-k-preserved
unfolding updates_of
loop-k-preserved c = record {
  grown = grown-next _ c.loop-k.k _ c.loop-k.invariant.grown refl c.in_ok-add_if_any.ensures.ok;
  few = c.in_ok-add_if_any.ensures.few;
}

pub returns-in_err-add_if_any-clause-too_many : goal.returns-in_err-add_if_any-clause-too_many
unfolding updates_of
returns-in_err-add_if_any-clause-too_many c h =
    grown_past _ c.loop-k.k _ _ _ (omega arith) c.loop-k.invariant.grown refl
    (c.in_err-add_if_any.ensures.too_many (passed_on c.from_residual.result c.from_residual.ensures.1 h))

pub returns-clause-ok : goal.returns-clause-ok
unfolding updates_of
returns-clause-ok c =
    grown-all _ c.loop-k.k _ _ (omega arith) (omega arith) c.loop-k.invariant.grown
