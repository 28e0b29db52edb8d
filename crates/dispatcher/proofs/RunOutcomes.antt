-- What a run came to is what a replay of its steps comes to. Cited where the outcome of a run is answered.
use Rattle.std.proofs.Common.{◌≡◌, ℕ, ◌≤◌, List, length, Option, Some, None, refl, sym, ap, ◌∙◌, subst}
use Rattle.residue_sums.specs.Grids.{Grid}
use Rattle.equation.specs.declared.job.Job.{Job}
use Rattle.equation.specs.Jobs.{IsJob}
use Rattle.equation.proofs.JobMeanings.{never_both}
use Rattle.step_replays.specs.declared.step.Step.{Step}
use Rattle.step_replays.specs.Fits.{FitsJob}
use Rattle.step_replays.specs.Replays.{StepResult, matrices_after}
use Rattle.step_replays.proofs.SomeReplay.{some-replay}
use Rattle.job_blocks.specs.BlockedJobs.{BlockedJob, HaveBlockShapes, gathered_matrices}
use Rattle.task_values.specs.declared.outcome.Failure.{Failure}
use Rattle.task_values.specs.declared.outcome.Outcome.{Outcome}
use Rattle.task_values.specs.declared.outcome.Outcome.TheVariants.{Done, BadPivot}
use Rattle.task_values.specs.Outcomes.{IsReplayOutcome}
use Rattle.task_values.proofs.Meanings.{outcome-means}
use Rattle.block_store.specs.declared.key.BoardKey.{BoardKey}
use Rattle.block_store.specs.Holding.{HaveLast}
use Rattle.block_store.specs.Keys.{IsReplayOf}
use Rattle.block_store.specs.Seats.{IsKeyOf}
use Rattle.dispatcher.specs.Crews.{IsFirstBadPivot, IsReplayFailure}
use Rattle.dispatcher.proofs.LastBlocks as last

module _ (job : Job) (b : ℕ) (steps : List Step) (workers : ℕ) (key : BoardKey) (is : IsKeyOf job b steps workers key) (valid : IsJob job) (size : 1 ≤ b)
    (fit : FitsJob job b steps) where
  abbrev Blocked : Job → ℕ → BlockedJob
  Blocked j n = record { job = j; b = n }

  blocked : Blocked key.job.value key.b ≡ Blocked job b
  blocked = λ i. record { job = is.job_is i; b = is.size i }

  own_valid : IsJob key.job.value
  own_valid = subst IsJob (sym is.job_is) valid

  own_size : 1 ≤ key.b
  own_size = subst (λ (n : ℕ). 1 ≤ n) (sym is.size) size

  own_fit : FitsJob key.job.value key.b key.steps.value
  own_fit = subst (λ (z : Job × ℕ × List Step). FitsJob z.0 z.1 z.2) (λ i. (sym is.job_is i, sym is.size i, sym is.steps_are i)) fit

  replay : (results : List StepResult) × IsReplayOf key results
  replay = some-replay key.job.value key.b key.steps.value own_size own_valid own_fit

  -- what is said of the key's job is said of the plan's
  back : (o : Outcome) → IsReplayOutcome key.job.value key.b key.steps.value o → IsReplayOutcome job b steps o
  back o h = subst (λ (z : Job × ℕ × List Step). IsReplayOutcome z.0 z.1 z.2 o) (λ i. (is.job_is i, is.size i, is.steps_are i)) h

  pub bad-outcome : (f : Failure) → IsReplayFailure key (Some f) → IsReplayOutcome job b steps (BadPivot f.statement f.row f.col)
  bad-outcome f first = back (BadPivot f.statement f.row f.col) (replay.0, replay.1, first replay.0 replay.1)

  -- what the steps met is the first bad pivot that the job means
  pub first-pivot : (failed : Option Failure) → IsReplayFailure key failed → IsFirstBadPivot job failed
  first-pivot (Some f) first = outcome-means job b steps size valid fit (BadPivot f.statement f.row f.col) (bad-outcome f first)
  first-pivot None first = λ statement place bad.
      let matrices : List Grid = matrices_after key.job.value key.b key.steps.value replay.0 (length key.steps.value) in
      let done : IsReplayOutcome job b steps (Done matrices) = back (Done matrices) (replay.0, replay.1, (first replay.0 replay.1, refl)) in
      never_both job valid matrices statement place (outcome-means job b steps size valid fit (Done matrices) done) bad

  module _ (blocks : List Grid) (have : HaveLast key blocks) where
    pub shapes : HaveBlockShapes (record { job = job; b = b }) blocks
    shapes = subst (λ (x : BlockedJob). HaveBlockShapes x blocks) blocked (last.have-shapes key own_valid own_size own_fit replay.0 replay.1 blocks have)

    pub done-outcome : (matrices : List Grid) → IsReplayFailure key None → matrices ≡ gathered_matrices (record { job = job; b = b }) blocks
        → IsReplayOutcome job b steps (Done matrices)
    done-outcome matrices first are =
        back (Done matrices) (
          replay.0,
          replay.1,
          (
            first replay.0 replay.1,
            are ∙ ap (λ (x : BlockedJob). gathered_matrices x blocks) (sym blocked) ∙ last.matrices-are key own_valid own_size own_fit replay.0 replay.1 blocks have,
          ),
        )
