use Rattle.std.proofs.Common.{arith}
use Rattle.issue_list.specs.Choices.{numbers_of}
use Rattle.issue_list.proofs.FoundVariants.{found-by, found-more}
use Rattle.issue_list.proofs.variants.first_variants.Goals as goal

pub loop-before-preserved : goal.loop-before-preserved
loop-before-preserved c =
    let job = c.args.blocks.now.job in
    record {
      all = omega (arith, c.in_ok-push.ensures.len, c.push.new.self.ok);
      found = found-more job (numbers_of job c.args.choice.now) c.loop-before.before c.loop-before.variants.items c.push.new.self.items c.in-Some.variant
          c.loop-before.invariant.all c.loop-before.invariant.found
          (found-by job c.operation.result.now c.args.choice.now c.in_ok-variant.field-0 c.statement_count-due.result c.loop-before.before c.number-number.result
          c.in-Some.variant c.in-Some.is c.in_ok-variant.ensures.value c.operation.ensures.operation c.number-number.ensures c.statement_count-due.ensures.count)
          c.in_ok-push.ensures.items;
    }
