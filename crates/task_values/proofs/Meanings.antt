-- What the outcome of a replay says of the job: it is what the job means, and the job means nothing else. Cited where the outcome is answered.
use Rattle.std.proofs.Common.{ℕ, ◌<◌, List, length, refl, sym, subst, ap}
use Rattle.equation.specs.declared.job.Job.{Job}
use Rattle.equation.specs.Jobs.{IsJob}
use Rattle.equation.specs.Meanings.{Means}
use Rattle.equation.proofs.JobMeanings.{one_meaning, one_bad_pivot, never_both}
use Rattle.step_replays.specs.declared.step.Step.{Step}
use Rattle.step_replays.specs.Fits.{FitsJob}
use Rattle.step_replays.specs.Replays.{IsReplay, StepResult}
use Rattle.step_replays.proofs.JobReplays.{JobReplay, whole-front}
use Rattle.step_replays.proofs.JobOutcomes.{means, means-bad}
use Rattle.task_values.specs.declared.outcome.Outcome.{Outcome}
use Rattle.task_values.specs.declared.outcome.Outcome.TheVariants.{Done, BadPivot}
use Rattle.task_values.specs.Outcomes.{IsMeaning, IsOnlyMeaning, IsReplayOutcome}

module _ (job : Job) (b : ℕ) (steps : List Step) (pos : 0 < b) (valid : IsJob job) (fits : FitsJob job b steps) where
  abbrev whole : (results : List StepResult) → IsReplay job b steps results → JobReplay
  whole results replay = record {
    job = job;
    b = b;
    steps = steps;
    results = results;
    pos = pos;
    valid = valid;
    fits = fits;
    done = length steps;
    outcomes = whole-front job b steps results replay;
  }

  pub outcome-means : (o : Outcome) → IsReplayOutcome job b steps o → IsMeaning job o
  outcome-means (Done matrices) (results, replay, of) = subst (Means job) (sym of.1) (means (whole results replay) refl of.0)
  outcome-means (BadPivot statement row col) (results, replay, of) = means-bad (whole results replay) statement (record { row = row; col = col }) of

pub only-meaning : (job : Job) → IsJob job → (o : Outcome) → IsMeaning job o → IsOnlyMeaning job o
only-meaning job valid (Done matrices) is (Done other) means = ap Done (one_meaning job valid other matrices means is)
only-meaning job valid (Done matrices) is (BadPivot statement row col) means = absurd (never_both job valid matrices statement (record { row = row; col = col }) is means)
only-meaning job valid (BadPivot statement row col) is (Done other) means = absurd (never_both job valid other statement (record { row = row; col = col }) means is)
only-meaning job valid (BadPivot statement row col) is (BadPivot other r c) means =
    let same = one_bad_pivot job valid other statement (record { row = r; col = c }) (record { row = row; col = col }) means is in
    λ k. BadPivot (same.0 k) (same.1 k).row (same.1 k).col
