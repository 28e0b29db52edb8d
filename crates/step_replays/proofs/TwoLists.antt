-- Two lists of steps that fit one job, perhaps under different block sizes, come to the same: each does what the job means. Cited by the law
-- that says so.
use Rattle.std.proofs.Common.{◌≡◌, ℕ, ◌⊎◌, inl, inr, List, length, subst}
use Rattle.equation.specs.declared.job.Job.{Job}
use Rattle.equation.specs.declared.job.Place.{Place}
use Rattle.equation.specs.Meanings.{Means, MeansBadPivot}
use Rattle.equation.proofs.JobMeanings.{one_meaning, one_bad_pivot, never_both}
use Rattle.step_replays.specs.declared.step.Step.{Step}
use Rattle.step_replays.specs.Replays.{StepResult, IsDone, IsFailure}
use Rattle.step_replays.proofs.JobReplays.{JobReplay, matrices_at}
use Rattle.step_replays.proofs.JobOutcomes.{means, means-bad}
use Rattle.step_replays.proofs.ReplayFailures.{done-or_failure}

-- the place of a failure
failure-at : (steps : List Step) (results : List StepResult) (n k : ℕ) (x y : Place) → (n ≡ k) × (x ≡ y) → IsFailure steps results n x → IsFailure steps results k y
failure-at steps results n k x y same failure = subst (λ (z : Place). IsFailure steps results k z) same.1 (subst (λ (z : ℕ). IsFailure steps results z x) same.0 failure)

module _ (replay other : JobReplay) (same : replay.job ≡ other.job) (whole : replay.done ≡ length replay.steps) (other_whole : other.done ≡ length other.steps) where
  outcome : IsDone other.steps other.results ⊎ ((number : ℕ) × (place : Place) × IsFailure other.steps other.results number place)
  outcome = done-or_failure other.job other.b other.steps other.fits other.results

  mean : IsDone replay.steps replay.results → Means other.job (matrices_at replay (length replay.steps))
  mean done = subst (λ (job : Job). Means job (matrices_at replay (length replay.steps))) same (means replay whole done)

  mean-bad : (number : ℕ) (place : Place) → IsFailure replay.steps replay.results number place → MeansBadPivot other.job number place
  mean-bad number place failure = subst (λ (job : Job). MeansBadPivot job number place) same (means-bad replay number place failure)

  pub same-matrices : IsDone replay.steps replay.results
      → IsDone other.steps other.results × (matrices_at replay (length replay.steps) ≡ matrices_at other (length other.steps))
  same-matrices done = elim outcome [
    | inl also ↦ (also, one_meaning other.job other.valid (matrices_at replay (length replay.steps)) (matrices_at other (length other.steps)) (mean done) (means other other_whole also))
    | inr failed ↦ absurd (never_both other.job other.valid (matrices_at replay (length replay.steps)) failed.0 failed.1 (mean done) (means-bad other failed.0 failed.1 failed.2))
  ]

  pub same-failure : (number : ℕ) (place : Place) → IsFailure replay.steps replay.results number place → IsFailure other.steps other.results number place
  same-failure number place failure = elim outcome [
    | inl done ↦ absurd (never_both other.job other.valid (matrices_at other (length other.steps)) number place (means other other_whole done) (mean-bad number place failure))
    | inr failed ↦ failure-at other.steps other.results failed.0 number failed.1 place
        (one_bad_pivot other.job other.valid failed.0 number failed.1 place (means-bad other failed.0 failed.1 failed.2) (mean-bad number place failure)) failed.2
  ]
