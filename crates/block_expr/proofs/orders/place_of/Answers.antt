use Rattle.std.proofs.Common.{sym, ◌∙◌, arith}
use Rattle.block_expr.proofs.PlacedTasks.{placed-at, placed-last, none_yet}
use Rattle.block_expr.proofs.orders.place_of.Goals as goal

pub returns-then-earlier-clause-there : goal.returns-then-earlier-clause-there
returns-then-earlier-clause-there c =
    placed-at c.args.op.now c.args.task c.args.sorted.now c.loop-at.at _ (omega arith) c.loop-at.invariant (sym c.earlier.ensures ∙ c.if-earlier.true)

pub loop-at-preserved : goal.loop-at-preserved
loop-at-preserved c =
    none_yet c.args.op.now c.args.task c.args.sorted.now c.loop-at.at _ (omega arith) c.loop-at.invariant (sym c.earlier.ensures ∙ c.if-earlier.false)

pub returns-clause-there : goal.returns-clause-there
returns-clause-there c = placed-last c.args.op.now c.args.task c.args.sorted.now (λ k below. c.loop-at.invariant k (omega arith))
