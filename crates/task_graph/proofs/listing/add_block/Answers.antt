use Rattle.std.proofs.Common.{◌++◌, length}
use Rattle.std.proofs.lemmas.Result.{on_ok_weaker}
use Rattle.operation_spec.specs.declared.task.Kind.TheVariants as kinds
use Rattle.task_graph.specs.Order.{task_of}
use Rattle.task_graph.specs.Listing.{block_of, products_of, updates_of, inner_count, task_if_any}
use Rattle.task_graph.proofs.Joined.{grown_more, past_longer, past_more, passed_on}
use Rattle.task_graph.proofs.listing.add_block.Goals as goal

pub returns-in_err-add_products-clause-too_many : goal.returns-in_err-add_products-clause-too_many
unfolding block_of
returns-in_err-add_products-clause-too_many c h =
    past_longer _ _ _ _ (past_longer _ _ _ _ (past_longer _ _ _ _
    (c.in_err-add_products.ensures.too_many (passed_on c.from_residual.result c.from_residual.ensures.1 h))))

pub returns-in_err-add_updates-clause-too_many : goal.returns-in_err-add_updates-clause-too_many
unfolding block_of
returns-in_err-add_updates-clause-too_many c h =
    let r = c.from_residual-in_err-add_updates in
    past_longer _ _ _ _ (past_longer _ _ _ _ (past_more _ _ _ _ c.in_ok-add_products.ensures.ok
    (c.in_err-add_updates.ensures.too_many (passed_on r.result r.ensures.1 h))))

pub returns-in_err-add_updates-2-clause-too_many : goal.returns-in_err-add_updates-2-clause-too_many
unfolding block_of
returns-in_err-add_updates-2-clause-too_many c h =
    let op = c.args.op.now in
    let counts = c.args.parts.now in
    let i = c.args.i in
    let j = c.args.j in
    let r = c.from_residual-in_err-add_updates-2 in
    let products = products_of op counts i j (length op.terms) in
    let lefts = updates_of op counts kinds.Left 0 i j (inner_count op counts kinds.Left 0) in
    let rights = updates_of op counts kinds.Right 0 i j (inner_count op counts kinds.Right 0) in
    let updated = grown_more products lefts _ c.in_ok-add_products.ensures.ok c.in_ok-add_updates.ensures.ok in
    past_longer (products ++ lefts ++ rights) (task_if_any op counts (task_of kinds.Solve 0 i j 0)) _ _
    (past_more (products ++ lefts) rights _ _ updated (c.in_err-add_updates-2.ensures.too_many (passed_on r.result r.ensures.1 h)))

pub returns-clause-ok : goal.returns-clause-ok
unfolding block_of
returns-clause-ok c =
    let updated = grown_more _ _ _ c.in_ok-add_products.ensures.ok c.in_ok-add_updates.ensures.ok in
    let all_updated = grown_more _ _ _ updated c.in_ok-add_updates-2.ensures.ok in
    on_ok_weaker c.add_if_any.result (grown_more _ _ _ all_updated) c.add_if_any.ensures.ok

pub returns-clause-too_many : goal.returns-clause-too_many
unfolding block_of
returns-clause-too_many c h =
    let updated = grown_more _ _ _ c.in_ok-add_products.ensures.ok c.in_ok-add_updates.ensures.ok in
    let all_updated = grown_more _ _ _ updated c.in_ok-add_updates-2.ensures.ok in
    past_more _ _ _ _ all_updated (c.add_if_any.ensures.too_many h)
