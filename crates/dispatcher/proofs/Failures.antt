-- The failure that the workers noted is that of the replay, once all steps have ended. Cited where workers are joined.
use Rattle.std.proofs.Common.{◌≡◌, ℕ, suc, ◌-◌, ◌*◌, ◌<◌, Option, Some, None, refl, sym, ap, ◌∙◌, subst, arith}
use Rattle.std.specs.Prelude.{List}
use Rattle.equation.specs.declared.job.Place.{Place}
use Rattle.step_replays.specs.Replays.{StepResult, nth_result, nth_step}
use Rattle.step_replays.specs.Replays as replays
use Rattle.task_values.specs.declared.outcome.Failure.{Failure}
use Rattle.block_store.specs.declared.key.BoardKey.{BoardKey}
use Rattle.block_store.specs.declared.outcome.StepOutcome.{StepOutcome}
use Rattle.block_store.specs.declared.outcome.StepOutcome.TheVariants.{Failed}
use Rattle.block_store.specs.declared.view.View.{View}
use Rattle.block_store.specs.declared.view.Fact.TheVariants.{Ended}
use Rattle.block_store.specs.Keys.{step_count, outcome_at, outcome_of, IsReplayOf, IsStep}
use Rattle.block_store.specs.Plays.{IsWhole}
use Rattle.block_store.specs.Tallies.{In, end_of}
use Rattle.block_store.proofs.Ending.{all-done, begun-step, ended-begun, has-ended}
use Rattle.block_store.proofs.Facts.{some_fact, end-is}
use Rattle.dispatcher.specs.Crews.{IsFailureOf, IsReplayFailure}
use Rattle.dispatcher.specs.Workers.{HasFailed, IsNoted, statement_at}

-- what an outcome says of a result
failed-of : (r : StepResult) (row col : ℕ) → Failed row col ≡ outcome_of r → r ≡ replays.Failed (record { row = row; col = col })
failed-of (replays.Ran value) row col is = absurd (cc)
failed-of replays.Skipped row col is = absurd (cc)
failed-of (replays.Failed place) row col is =
    let rows : row ≡ place.row = cc in
    let cols : col ≡ place.col = cc in
    λ i. replays.Failed (record { row = sym rows i; col = sym cols i })

module _ (key : BoardKey) (v : View) (whole : IsWhole key (2 * step_count key) v) (results : List StepResult) (replay : IsReplayOf key results) where
  abbrev n : ℕ
  n = 2 * step_count key

  -- the outcome with which a step ended is its result
  outcome-is : (t m : ℕ) (o : StepOutcome) → In (Ended t m o) v.facts → o ≡ outcome_of (nth_result results (t - 1))
  unfolding outcome_at
  outcome-is t m o i = whole.own.outcomes t m o i results replay

  -- a failed result is the failure of a step that ended
  has-failed : (s : ℕ) (place : Place) → s < step_count key → nth_result results s ≡ replays.Failed place → HasFailed v.facts (suc s) place.row place.col
  has-failed s place within failed =
      let f = some_fact (end_of (suc s)) v.facts (let d = (all-done key n v whole refl (suc s) (omega arith, omega arith)).1 in omega arith) in
      let is = end-is (suc s) f.0 f.2 in
      let there : In (Ended (suc s) is.0 is.1) v.facts = subst (λ x. In x v.facts) is.2 f.1 in
      let at : suc s - 1 ≡ s = omega arith in
      let outcome : is.1 ≡ Failed place.row place.col = outcome-is (suc s) is.0 is.1 there ∙ ap (λ k. outcome_of (nth_result results k)) at ∙ ap outcome_of failed in
      (is.0, subst (λ o. In (Ended (suc s) is.0 o) v.facts) outcome there)

  failure-of : (noted : Option Failure) → IsNoted key v.facts noted → IsFailureOf key.steps.value results noted
  failure-of None none = λ s place within failed. none (suc s) place.row place.col (has-failed s place within failed)
  failure-of (Some f) least =
      let step : IsStep key least.step
      = begun-step key n v whole least.step (ended-begun key n v whole least.step (has-ended key n v whole least.step least.failed.0 (Failed f.row f.col) least.failed.1)) in
      record {
        step = least.step - 1;
        within = omega arith;
        failed = failed-of (nth_result results (least.step - 1)) f.row f.col (outcome-is least.step least.failed.0 (Failed f.row f.col) least.failed.1);
        of = least.of;
        least = λ s other within failed.
            let at : suc s - 1 ≡ s = omega arith in
            let statement : statement_at key (suc s) ≡ (nth_step key.steps.value s).statement = ap (λ k. (nth_step key.steps.value k).statement) at in
            omega (arith, statement, least.least (suc s) other.row other.col (has-failed s other within failed));
      }

pub first-failure : (key : BoardKey) (v : View) → IsWhole key (2 * step_count key) v → (noted : Option Failure) → IsNoted key v.facts noted → IsReplayFailure key noted
first-failure key v whole noted is = λ results replay. failure-of key v whole results replay noted is
