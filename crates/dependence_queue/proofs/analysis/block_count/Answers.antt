use Rattle.std.proofs.Common.{arith, subst, ◌<◌, ℕ, List}
use Rattle.std.specs.Prelude.{All}
use Rattle.std.proofs.lemmas.List.{take_all}
use Rattle.dependence_queue.proofs.CodeSteps.{uses_below_more}
use Rattle.dependence_queue.proofs.analysis.block_count.Goals as goal

pub loop-access-preserved : goal.loop-access-preserved
loop-access-preserved c = uses_below_more c.args.accesses.now c.loop-access.access-index c.loop-access.count c.past-count.result c.access-item.result
    (omega arith) c.access-item.is c.loop-access.invariant (omega arith)
    (record { write = omega arith; reads = subst (λ (xs : List ℕ). All (λ x. x < c.past-count.result) xs) c.as_slice.ensures c.past-count.ensures.past })

pub returns : goal.returns
returns c = rw (take_all c.loop-access.access-index c.args.accesses.now (omega arith)) at c.loop-access.invariant
