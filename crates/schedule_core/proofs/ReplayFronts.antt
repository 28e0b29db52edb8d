-- A replay up to a step: what it leaves to the step, and what becomes of the step.
use Rattle.std.proofs.Common.{◌≡◌, ℕ, ◌<◌, ◌≤◌, List, length, take, sym, ◌∙◌, arith}
use Rattle.std.proofs.lemmas.List.{get_or-take, length-take}
use Rattle.equation.specs.declared.job.Job.{Job}
use Rattle.equation.specs.Jobs.{IsJob}
use Rattle.step_replays.specs.declared.step.Step.{Step}
use Rattle.step_replays.specs.Fits.{FitsJob}
use Rattle.step_replays.specs.Replays.{StepResult, Skipped, nth_result, block_after, IsFront, IsReplay, IsResult}
use Rattle.step_replays.proofs.AgreeingResults.{AgreeBelow, same-block, same-outcome}
use Rattle.step_replays.proofs.OneOutcome.{one-outcome}
use Rattle.step_replays.proofs.JobReplays.{JobReplay, whole-front}

-- the first outcomes are those of the list
pub taken-agree : (n : ℕ) (results : List StepResult) → AgreeBelow n results (take n results)
taken-agree n results s below = sym (get_or-take n results s Skipped below)

pub agree-taken : (n : ℕ) (results : List StepResult) → AgreeBelow n (take n results) results
agree-taken n results s below = sym (taken-agree n results s below)

module _ (job : Job) (b : ℕ) (steps : List Step) (results : List StepResult) where
  abbrev agrees : (n s : ℕ) → s ≤ n → AgreeBelow s results (take n results)
  agrees n s within q below = taken-agree n results q (omega arith)

  pub front-taken : IsReplay job b steps results → (s : ℕ) → s ≤ length steps → IsFront job b steps (take s results) s
  front-taken replay s within = record {
    within = within;
    count = length-take s results ∙ (let few : s ≤ length results = omega (arith, replay.count) in omega arith);
    each = λ q below.
        rw (← (taken-agree s results q below))
        (same-outcome job b steps results (take s results) q (agrees s q (omega arith)) (nth_result results q) (replay.each q (omega arith)));
  }

  pub found-taken : (s x : ℕ) → block_after job b steps (take s results) s x ≡ block_after job b steps results s x
  found-taken s x = same-block job b steps (take s results) results s x (agree-taken s results)

  pub outcome-taken : IsJob job → 0 < b → FitsJob job b steps → IsReplay job b steps results → (s : ℕ) → s < length steps → (r : StepResult)
      → IsResult job b steps (take s results) s r → nth_result results s ≡ r
  outcome-taken valid pos fits replay s below r h =
      let whole : JobReplay = record { job = job; b = b; steps = steps; results = results; pos = pos; valid = valid; fits = fits; done = length steps; outcomes = whole-front job b steps results replay } in
      one-outcome whole s below (nth_result results s) r (replay.each s below)
      (same-outcome job b steps (take s results) results s (agree-taken s results) r h)
