-- Steps that fit a valid job have one replay at most. Cited by the law that says so.
use Rattle.std.proofs.Common.{◌≡◌, ℕ, zero, suc, ◌<◌, ◌≤◌, inl, inr, List, length, sym, ◌∙◌, arith}
use Rattle.std.proofs.lemmas.Bool.{cases_eq}
use Rattle.std.proofs.lemmas.List.{ext_get_or}
use Rattle.equation.specs.declared.job.Job.{Job}
use Rattle.equation.specs.Jobs.{IsJob}
use Rattle.step_replays.specs.declared.step.Step.{Step}
use Rattle.step_replays.specs.Replays.{StepResult, Skipped, nth_result, IsReplay}
use Rattle.step_replays.specs.Fits.{FitsJob}
use Rattle.step_replays.proofs.AgreeingResults.{AgreeBelow, same-outcome}
use Rattle.step_replays.proofs.OneOutcome.{one-outcome}
use Rattle.step_replays.proofs.JobReplays.{JobReplay, whole-front}

module _ (job : Job) (b : ℕ) (steps : List Step) (results others : List StepResult) (pos : 0 < b) (valid : IsJob job) (fits : FitsJob job b steps)
    (first : IsReplay job b steps results) (second : IsReplay job b steps others) where
  abbrev replay : JobReplay
  replay = record { job = job; b = b; steps = steps; results = results; pos = pos; valid = valid; fits = fits; done = length steps; outcomes = whole-front job b steps results first }

  next : (n : ℕ) → n < length steps → AgreeBelow n results others → nth_result results n ≡ nth_result others n
  next n below agree =
      one-outcome replay n below (nth_result results n) (nth_result others n) (first.each n below)
      (same-outcome job b steps others results n (λ s before. sym (agree s before)) (nth_result others n) (second.each n below))

  agree : (n : ℕ) → n ≤ length steps → AgreeBelow n results others
  agree zero le s below = absurd (omega arith)
  agree (suc n) le s below = elim (cases_eq s n) [
    | inl last ↦ rw last (next n le (agree n (omega arith)))
    | inr earlier ↦ agree n (omega arith) s (omega arith)
  ]

  pub one-replay : results ≡ others
  one-replay = ext_get_or Skipped results others (first.count ∙ sym second.count) (λ s below. agree (length steps) (omega arith) s (rw first.count at below))
