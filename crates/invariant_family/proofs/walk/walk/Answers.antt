use Rattle.std.proofs.Common.{arith}
use Rattle.invariant_family.specs.Rules.{wants, may_hold, may_lack}
use Rattle.invariant_family.proofs.Walks.{walk_goes_on, drop-slice}
use Rattle.invariant_family.proofs.walk.walk.Goals as goal

pub loop-left-preserved : goal.loop-left-preserved
loop-left-preserved c =
    let r = c.args.rules.now in
    record {
      within = omega arith;
      numbers = walk_goes_on (wants r.op.now r.pairs.now) (may_hold r.op.now r.split r.dirs r.tasks.now r.pairs.now) (may_lack r.op.now r.split r.dirs) r.tasks.now c.loop-left.left _
          c.in_ok-rule.rule.may_hold c.in_ok-rule.rule.may_lack c.in_ok-rule.rule.wanted.items c.in_ok-rule.rule.wanting.items _ c.loop-left.numbers.items c.as_slice.result.now _
          (omega arith) (omega arith) (drop-slice r.tasks.now c.loop-left.left) c.in_ok-rule.ensures.hold c.in_ok-rule.ensures.lack c.in_ok-rule.ensures.wanted c.in_ok-rule.ensures.wanting c.loop-left.invariant.numbers c.as_slice.ensures.value c.in_ok-numbers.ensures;
    }
