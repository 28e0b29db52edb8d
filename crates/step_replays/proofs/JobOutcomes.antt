-- The replay of steps that fit a valid job does what the job means: where no step failed it leaves the job's matrices, and else the failed step
-- of the least statement is at the job's first bad pivot. Cited by the law that says so.
use Rattle.std.proofs.Common.{◌≡◌, ℕ, zero, suc, ◌<◌, ◌≤◌, List, length, get_or, take, sym, ◌∙◌, ap, subst, arith}
use Rattle.std.proofs.Math.Seq.{take-length}
use Rattle.std.proofs.lemmas.List.{get_or_default}
use Rattle.equation.specs.declared.job.Place.{Place}
use Rattle.equation.specs.declared.job.Statement.{Statement}
use Rattle.equation.specs.Meanings.{ChangeAll, Means, MeansBadPivot}
use Rattle.step_replays.specs.Accesses.{statement_of, no_statement}
use Rattle.step_replays.specs.Replays.{IsDone, IsFailure}
use Rattle.step_replays.proofs.StatementCuts.{own-is}
use Rattle.step_replays.proofs.StatementSteps.{steps_until, until-is, until-more, until-none, until-all, own-place}
use Rattle.step_replays.proofs.FirstMatrices.{matrices-first}
use Rattle.step_replays.proofs.StatementsDone.{next-changes, next-fails}
use Rattle.step_replays.proofs.StatementOutcomes.{NoneFailed, statement-changes, statement-fails}
use Rattle.step_replays.proofs.JobReplays.{JobReplay, failed-done, matrices_at, own_statement}

module _ (replay : JobReplay) where
  abbrev start : ℕ → ℕ
  start t = steps_until replay t

  -- so many statements are done
  abbrev AreDone : ℕ → Type 0
  AreDone t = ChangeAll replay.job (take t replay.job.statements) replay.job.matrices (matrices_at replay (steps_until replay t))

  own : (t : ℕ) → t < length replay.job.statements → own_statement replay t ≡ get_or replay.job.statements t (own_statement replay t)
  own t t_in = own-is replay.job replay.valid t t_in ∙ get_or_default replay.job.statements t no_statement (own_statement replay t) t_in

  none-done : AreDone zero
  none-done = ap (λ (s : ℕ). matrices_at replay s) (until-none replay) ∙ matrices-first replay.job replay.b replay.steps replay.results replay.pos replay.valid.full

  one-more : (t : ℕ) → t < length replay.job.statements → AreDone t → NoneFailed replay (start (suc t)) → AreDone (suc t)
  one-more t t_in done good = next-changes replay.job t (own_statement replay t) t_in (own t t_in) (matrices_at replay (start t)) done
      (matrices_at replay (start (suc t))) (statement-changes replay t t_in good)

  all-done : (t : ℕ) → t ≤ length replay.job.statements → NoneFailed replay (start t) → AreDone t
  all-done zero le good = none-done
  all-done (suc t) le good = one-more t (omega arith) (all-done t (omega arith) (omega (arith, good.0, until-more replay t), λ q place below. good.1 q place (omega (arith, below, until-more replay t)))) good

  -- all steps were gone through, and none failed
  pub means : replay.done ≡ length replay.steps → IsDone replay.steps replay.results → Means replay.job (matrices_at replay (length replay.steps))
  means whole done =
      let ends : start (length replay.job.statements) ≡ length replay.steps = until-all replay in
      let all = all-done (length replay.job.statements) (omega arith) (omega (arith, whole, ends), λ q place below. done q place (rw ends at below)) in
      subst (λ (s : ℕ). Means replay.job (matrices_at replay s)) ends
      (subst (λ (done : List Statement). ChangeAll replay.job done replay.job.matrices (matrices_at replay (start (length replay.job.statements)))) (take-length replay.job.statements) all)

  -- a step failed, and none of an earlier statement
  pub means-bad : (number : ℕ) (place : Place) → IsFailure replay.steps replay.results number place → MeansBadPivot replay.job number place
  means-bad number place failure =
      let at = (replay.fits.exists failure.step failure.within).0 in
      let number-is : number ≡ suc at.0 = sym failure.of ∙ at.1 in
      let stands : (start at.0 ≤ failure.step) × (failure.step < start (suc at.0)) = own-place replay at.0 at.2 failure.step failure.within at.1 in
      let before = until-is replay at.0 in
      let none : NoneFailed replay (start at.0)
      = (omega (arith, stands.0, failed-done replay failure.step place failure.failed), λ q other below failed. absurd (omega (arith, number-is, before.before q below, failure.least q other (omega (arith, below, before.within)) failed))) in
      let done = all-done at.0 (omega (arith, at.2)) none in
      let fails = statement-fails replay at.0 at.2 failure.step place stands.0 stands.1 failure.failed in
      rw number-is (next-fails replay.job at.0 (statement_of replay.job (suc at.0)) at.2 (own at.0 at.2) (matrices_at replay (start at.0)) done place fails)
