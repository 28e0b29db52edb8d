use Rattle.std.proofs.Common.{◌≡◌, ℕ, suc, ◌+◌, ◌<◌, ◌≤◌, ◌++◌, Some, List, length, refl, sym, ap, ◌∙◌, subst, arith}
use Rattle.std.specs.Prelude.{slice_get}
use Rattle.std.proofs.lemmas.Option.{slice_get_read}
use Rattle.task_graph.proofs.Joined.{passed_on}
use Rattle.step_replays.specs.declared.step.Step.{Step}
use Rattle.issue_list.specs.CanonicalSteps.{most_steps}
use Rattle.issue_list.specs.ChosenVariants.{IsVariantOf, statement_steps_by}
use Rattle.issue_list.proofs.FoundVariants.{statement-steps}
use Rattle.issue_list.proofs.StepsListed.{listed-all, listed-more, listed-past}
use Rattle.issue_list.proofs.job_steps.list_steps.Goals as goal

pub add_statement-requires-clause-variant : goal.add_statement-requires-clause-variant
add_statement-requires-clause-variant c =
    let vs = c.args.variants.now in
    let v = c.index-variants-before.result in
    let next : suc c.loop-before.before ≡ c.loop-before.before + 1 = omega arith in
    let below : c.loop-before.before < length vs = omega (arith, c.statement_count-before-end.ensures.count, c.requires.count) in
    let place : slice_get vs c.loop-before.before ≡ Some v = slice_get_read vs (length vs) c.loop-before.before v refl below c.index-variants-before.is in
    subst (λ (s : ℕ). IsVariantOf c.args.blocks.now.job s v) next (c.requires.each c.loop-before.before v place)

pub returns-in_err-add_statement-clause-many : goal.returns-in_err-add_statement-clause-many
returns-in_err-add_statement-clause-many c h =
    let x = c.args.blocks.now in
    let vs = c.args.variants.now in
    let v = c.index-variants-before.result in
    let below : c.loop-before.before < length x.job.statements = omega (arith, c.statement_count-before-end.ensures.count) in
    let place : slice_get vs c.loop-before.before ≡ Some v = slice_get_read vs (length x.job.statements) c.loop-before.before v (sym c.requires.count) below c.index-variants-before.is in
    listed-past (statement_steps_by x.job x.b vs) (length x.job.statements) c.loop-before.before most_steps below c.loop-before.invariant.listed
    (subst (λ (own : List Step). most_steps < length c.loop-before.steps + length own) (sym (statement-steps x.job x.b vs c.loop-before.before v place))
    (c.in_err-add_statement.ensures.many (passed_on c.from_residual.result c.from_residual.ensures.1 h)))

pub loop-before-preserved : goal.loop-before-preserved
loop-before-preserved c =
    let x = c.args.blocks.now in
    let vs = c.args.variants.now in
    let v = c.index-variants-before.result in
    let below : c.loop-before.before < length x.job.statements = omega (arith, c.statement_count-before-end.ensures.count) in
    let place : slice_get vs c.loop-before.before ≡ Some v = slice_get_read vs (length x.job.statements) c.loop-before.before v (sym c.requires.count) below c.index-variants-before.is in
    record {
      listed = listed-more (statement_steps_by x.job x.b vs) (length x.job.statements) c.loop-before.before below c.loop-before.invariant.listed
          (c.in_ok-add_statement.ensures.steps ∙ ap (λ (own : List Step). c.loop-before.steps ++ own) (sym (statement-steps x.job x.b vs c.loop-before.before v place)));
      few = c.in_ok-add_statement.ensures.few;
    }

pub returns-clause-steps : goal.returns-clause-steps
returns-clause-steps c =
    let x = c.args.blocks.now in
    let last : length x.job.statements ≤ c.loop-before.before = omega (arith, c.statement_count-before-end.ensures.count) in
    listed-all (statement_steps_by x.job x.b c.args.variants.now) (length x.job.statements) c.loop-before.before last c.loop-before.invariant.listed
