-- For the same input one answer of `verify` is due, and there is one.
use Rattle.std.proofs.Common.{◌≡◌, inl, inr, ℕ, ◌+◌, ◌<◌, List, length, slice_get, Some, Result, Ok, Err, refl, sym, ap, subst, ◌∙◌, arith}
use Rattle.std.proofs.lemmas.Bool.{cases_order}
use Rattle.std.proofs.lemmas.Option.{same_Some}
use Rattle.byte_texts.proofs.Binding.{same_ok}
use Rattle.residue_sums.specs.Grids.{Grid}
use Rattle.text_scan.specs.declared.Rest.{Rest}
use Rattle.text_scan.specs.Faults.{Fault}
use Rattle.operation_spec.specs.declared.operation.Operation.{Operation}
use Rattle.equation.specs.declared.job.Job.{Job}
use Rattle.equation.specs.declared.job.Place.{Place}
use Rattle.equation.specs.declared.job.Statement.{Statement}
use Rattle.equation.specs.Jobs.{known_grids, nth_grid}
use Rattle.equation.specs.Residuals.{IsFirstResidual}
use Rattle.equation.proofs.ResidualDecisions.{none_satisfies, one_residual}
use Rattle.job_text.specs.declared.stop.Stop.TheVariants.{After}
use Rattle.job_text.specs.AfterBlocks.{SpellsAfter}
use Rattle.job_text.specs.AfterFaults.{after_in}
use Rattle.job_text.specs.SpelledJobs.{Spells, job_in}
use Rattle.job_text.proofs.AfterAgain.{after_read}
use Rattle.job_text.proofs.AfterTaken.{after_spelled}
use Rattle.job_text.proofs.JobTaken.{read_job_spelled}
use Rattle.job_text.proofs.OneJob.{no_fault, one_job}
use Rattle.flame_top.specs.Refusals.{refusal_text}
use Rattle.flame_top.specs.Verify.{before_statement, Differs, differs_text, DueAnswer, DueBehind, DueVerify, IsStatementAt, Verifies, verified_text}
use Rattle.flame_top.proofs.SameDue.{Same, one_error}
use Rattle.flame_top.proofs.VerifiedStatements.{HaveShortSizes-spelled, all_verify_or_first, statement_within}

-- ---- for a job and the matrices behind it

module _ (job : Job) (after : List Grid) where
  one_statement : (at : ℕ) (s t : Statement) (op other : Operation) → IsStatementAt job at s op → IsStatementAt job at t other → (s ≡ t) × (op ≡ other)
  one_statement at s t op other is is_other =
      let same : s ≡ t = same_Some s t (sym is.statement ∙ is_other.statement) in
      let there : slice_get job.operations t.operation ≡ Some op = subst (λ (u : Statement). slice_get job.operations u.operation ≡ Some op) same is.operation in
      (same, same_Some op other (sym there ∙ is_other.operation))

  -- what is first at the same statement
  same_first : (at : ℕ) (s t : Statement) (op other : Operation) (place : Place) → (s ≡ t) × (op ≡ other)
      → IsFirstResidual job.modulus op (known_grids (before_statement job after at) s.bind) (nth_grid (before_statement job after at) s.bind.work) (nth_grid after at) place
      → IsFirstResidual job.modulus other (known_grids (before_statement job after at) t.bind) (nth_grid (before_statement job after at) t.bind.work) (nth_grid after at) place
  same_first at s t op other place same first =
      subst (λ (u : Statement). IsFirstResidual job.modulus other (known_grids (before_statement job after at) u.bind) (nth_grid (before_statement job after at) u.bind.work) (nth_grid after at) place) same.0
      (subst (λ (o : Operation). IsFirstResidual job.modulus o (known_grids (before_statement job after at) s.bind) (nth_grid (before_statement job after at) s.bind.work) (nth_grid after at) place) same.1 first)

  never_both : (at : ℕ) (place : Place) → Differs job after at place → ¬ (Verifies job after at)
  never_both at place differs verifies =
      let first = same_first at differs.s verifies.s differs.op verifies.op place (one_statement at differs.s verifies.s differs.op verifies.op differs.found verifies.found) differs.first in
      none_satisfies job.modulus verifies.op (known_grids (before_statement job after at) verifies.s.bind) (nth_grid (before_statement job after at) verifies.s.bind.work) (nth_grid after at) place first verifies.satisfies

  one_difference : (at : ℕ) (place there : Place) → Differs job after at place → Differs job after at there → place ≡ there
  one_difference at place there is is_other =
      let first = same_first at is.s is_other.s is.op is_other.op place (one_statement at is.s is_other.s is.op is_other.op is.found is_other.found) is.first in
      one_residual job.modulus is_other.op (known_grids (before_statement job after at) is_other.s.bind) (nth_grid (before_statement job after at) is_other.s.bind.work) (nth_grid after at) place there first is_other.first

  one_number : (at there : ℕ) (place place_there : Place) → Differs job after at place → ((k : ℕ) → k < at → Verifies job after k) → Differs job after there place_there
      → ((k : ℕ) → k < there → Verifies job after k) → at ≡ there
  one_number at there place place_there is before is_other before_other = elim (cases_order at there) [
    | inl same ↦ same
    | inr (inl less) ↦ absurd (never_both at place is (before_other at less))
    | inr (inr more) ↦ absurd (never_both there place_there is_other (before there more))
  ]

  same_answer : (status other : ℕ) (text different : List ℕ) → DueAnswer job after status text → DueAnswer job after other different → Same status other text different
  same_answer status other text different (inl all) (inl all_other) = (all.1 ∙ sym all_other.1, all.2 ∙ sym all_other.2)
  same_answer status other text different (inl all) (inr is) = absurd (never_both is.0 is.1 is.2 (all.0 is.0 (statement_within job is.0 is.2.s is.2.op is.2.found)))
  same_answer status other text different (inr is) (inl all) = absurd (never_both is.0 is.1 is.2 (all.0 is.0 (statement_within job is.0 is.2.s is.2.op is.2.found)))
  same_answer status other text different (inr is) (inr is_other) =
      let number = one_number is.0 is_other.0 is.1 is_other.1 is.2 is.3 is_other.2 is_other.3 in
      let place = one_difference is_other.0 is.1 is_other.1 (subst (λ (k : ℕ). Differs job after k is.1) number is.2) is_other.2 in
      (is.4 ∙ sym is_other.4, is.5 ∙ ap (λ (k : ℕ). differs_text (k + 1) is.1) number ∙ ap (differs_text (is_other.0 + 1)) place ∙ sym is_other.5)

-- ---- for an input

module _ (input : List ℕ) where
  module _ (job : Job) (rest : Rest) (spells : Spells input After job rest) where
    read_again : (after : List Grid) → SpellsAfter input rest job after → after_in input rest job ≡ Ok after
    read_again after spelled = after_read input rest job after (omega (arith, spells.first.lines.valid.modulus)) (HaveShortSizes-spelled input rest job spells) spelled

    same_behind : (status other : ℕ) (text different : List ℕ) → DueBehind input rest job status text → DueBehind input rest job other different → Same status other text different
    same_behind status other text different (inl is) (inl is_other) =
        let one : is.0 ≡ is_other.0 = same_ok {F = Fault} is.0 is_other.0 (sym (read_again is.0 is.1) ∙ read_again is_other.0 is_other.1) in
        same_answer job is_other.0 status other text different (subst (λ (after : List Grid). DueAnswer job after status text) one is.2) is_other.2
    same_behind status other text different (inl is) (inr fault) = let read = read_again is.0 is.1 in let ends = fault.1 in absurd (cc)
    same_behind status other text different (inr fault) (inl is) = let read = read_again is.0 is.1 in let ends = fault.1 in absurd (cc)
    same_behind status other text different (inr fault) (inr fault_other) =
        let one : fault.0 ≡ fault_other.0 = one_error fault.0 fault_other.0 (sym fault.1 ∙ fault_other.1) in
        (fault.2 ∙ sym fault_other.2, fault.3 ∙ ap refusal_text one ∙ sym fault_other.3)

  pub same_verify : (status other : ℕ) (text different : List ℕ) → DueVerify input status text → DueVerify input other different → (status ≡ other) × (text ≡ different)
  same_verify status other text different (inl is) (inl is_other) =
      let one = one_job input After is.0 is.1 is.2 is_other.0 is_other.1 is_other.2 in
      same_behind is_other.0 is_other.1 is_other.2 status other text different
      (subst (λ (rest : Rest). DueBehind input rest is_other.0 status text) one.1 (subst (λ (job : Job). DueBehind input is.1 job status text) one.0 is.3)) is_other.3
  same_verify status other text different (inl is) (inr fault) = absurd (no_fault input After is.0 is.1 is.2 fault.0 fault.1)
  same_verify status other text different (inr fault) (inl is) = absurd (no_fault input After is.0 is.1 is.2 fault.0 fault.1)
  same_verify status other text different (inr fault) (inr fault_other) =
      let one : fault.0 ≡ fault_other.0 = one_error fault.0 fault_other.0 (sym fault.1 ∙ fault_other.1) in
      (fault.2 ∙ sym fault_other.2, fault.3 ∙ ap refusal_text one ∙ sym fault_other.3)

-- ---- an answer

module _ (input : List ℕ) where
  some_behind : (job : Job) (rest : Rest) → Spells input After job rest → (status : ℕ) × (text : List ℕ) × DueBehind input rest job status text
  some_behind job rest spells = go (after_in input rest job) refl
    where
      answered : (after : List Grid) → SpellsAfter input rest job after → (status : ℕ) × (text : List ℕ) × DueBehind input rest job status text
      answered after spelled = elim (all_verify_or_first job spells.first.lines.valid after spelled.each) [
        | inl all ↦ (0, verified_text (length job.statements), inl (after, spelled, inl (all, refl, refl)))
        | inr first ↦ (8, differs_text (first.0 + 1) first.1, inl (after, spelled, inr (first.0, first.1, first.2, first.3, refl, refl)))
      ]

      go : (read : Result (List Grid) Fault) → after_in input rest job ≡ read → (status : ℕ) × (text : List ℕ) × DueBehind input rest job status text
      go (Ok after) e = answered after (after_spelled input rest job after (omega (arith, spells.first.lines.valid.modulus)) (HaveShortSizes-spelled input rest job spells) e)
      go (Err fault) e = (3, refusal_text fault, inr (fault, e, refl, refl))

  pub some_verify : (status : ℕ) × (text : List ℕ) × DueVerify input status text
  some_verify = go (job_in After input) refl
    where
      behind : (job : Job) (rest : Rest) → Spells input After job rest → ((status : ℕ) × (text : List ℕ) × DueBehind input rest job status text) → (status : ℕ) × (text : List ℕ) × DueVerify input status text
      behind job rest spells is = (is.0, is.1, inl (job, rest, spells, is.2))

      go : (read : Result (Job × Rest) Fault) → job_in After input ≡ read → (status : ℕ) × (text : List ℕ) × DueVerify input status text
      go (Ok (job, rest)) e = let spells = read_job_spelled After input job rest e in behind job rest spells (some_behind job rest spells)
      go (Err fault) e = (3, refusal_text fault, inr (fault, e, refl, refl))
