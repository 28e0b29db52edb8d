use Rattle.std.proofs.Common.{◌∙◌, arith}
use Rattle.job_text.proofs.JobSteps.{place_behind-none, place_behind-step}
use Rattle.job_text.proofs.second_part.place_behind.Goals as goal

pub loop-left-preserved : goal.loop-left-preserved
loop-left-preserved c = record {
  within = omega (arith, c.if-at-bytes.true);
  place = rw c.feeds_behind-left.ensures.value (place_behind-step c.args.bytes.now c.loop-left.left c.loop-left.at _ (omega (arith, c.loop-left-test.true)) (omega (arith, c.if-at-bytes.true)) ∙ c.loop-left.invariant.place);
}

pub returns-else-at-bytes-clause-value : goal.returns-else-at-bytes-clause-value
returns-else-at-bytes-clause-value c = omega (arith, c.loop-left.invariant.place, place_behind-none c.args.bytes.now c.loop-left.left c.loop-left.at (omega (arith, c.if-at-bytes.false)))
