use Rattle.std.proofs.Common.{◌≡◌, ℕ, ◌+◌, ◌≤◌, inl, inr, subst, arith, ◌∙◌}
use Rattle.std.proofs.lemmas.Bool.{cases_lt}
use Rattle.job_blocks.specs.BlockedJobs.{HasStatement}
use Rattle.issue_list.specs.CanonicalSteps.{HasDimension, most_parts, parts_at}
use Rattle.issue_list.proofs.DimensionParts.{counts-all_few, counts-few, first-long}
use Rattle.issue_list.proofs.parts.first_long.Goals as goal

pub first_long_of-requires : goal.first_long_of-requires
first_long_of-requires c =
    let x = c.args.blocks.now in
    let has : HasStatement x (c.loop-before.before + 1) = record { from = omega arith; within = omega (arith, c.statement_count-before-end.ensures.count) } in
    omega (arith, counts-few x (c.loop-before.before + 1) c.as_slice.result.now c.statement_count-before-end.ensures.valid has (c.as_slice.ensures ∙ c.in_ok-counts.ensures))

pub returns-in-Some-clause-long : goal.returns-in-Some-clause-long
returns-in-Some-clause-long c =
    let x = c.args.blocks.now in
    let has : HasStatement x (c.loop-before.before + 1) = record { from = omega arith; within = omega (arith, c.statement_count-before-end.ensures.count) } in
    record {
      own = first-long x (c.loop-before.before + 1) c.in-Some.dim c.as_slice.result.now has (c.as_slice.ensures ∙ c.in_ok-counts.ensures)
          c.in-Some.ensures.within c.in-Some.ensures.long c.in-Some.ensures.first;
      statements = λ t e before has'. c.loop-before.invariant t e (omega (arith, before)) has';
    }

pub loop-before-preserved : goal.loop-before-preserved
loop-before-preserved c t e within has = elim (cases_lt t (c.loop-before.before + 1)) [
  | inl less ↦ c.loop-before.invariant t e (omega (arith, less)) has
  | inr last ↦ (let x = c.args.blocks.now in
      let number : c.loop-before.before + 1 ≡ t = omega (arith, last, within) in
      subst (λ (s : ℕ). HasDimension x.job s e → parts_at x.job x.b s e ≤ most_parts) number
      (counts-all_few x (c.loop-before.before + 1) c.as_slice.result.now (c.as_slice.ensures ∙ c.in_ok-counts.ensures) c.in_default.ensures.none e) has)
]
