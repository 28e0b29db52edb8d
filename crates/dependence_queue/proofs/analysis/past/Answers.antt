use Rattle.std.proofs.Common.{arith}
use Rattle.std.proofs.lemmas.List.{take_all}
use Rattle.dependence_queue.proofs.CodeSteps.{past_more}
use Rattle.dependence_queue.proofs.analysis.past.Goals as goal

pub loop-number-preserved : goal.loop-number-preserved
loop-number-preserved c = record {
  past = past_more c.args.numbers.now c.loop-number.number-index c.loop-number.end _ (omega arith) c.loop-number.invariant.past (omega arith) (omega arith);
  least = omega arith;
}

pub returns-clause-past : goal.returns-clause-past
returns-clause-past c = rw (take_all c.loop-number.number-index c.args.numbers.now (omega arith)) at c.loop-number.invariant.past
