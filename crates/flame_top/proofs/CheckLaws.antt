-- For the same input one answer of `check` is due, and there is one.
use Rattle.std.proofs.Common.{◌≡◌, ◌≢◌, inl, inr, ◌⊎◌, ℕ, List, Option, Some, None, Result, Ok, Err, refl, sym, ap, ◌∙◌, subst}
use Rattle.std.specs.Prelude.{codes}
use Rattle.byte_texts.proofs.Binding.{same_ok}
use Rattle.text_scan.specs.declared.Rest.{Rest}
use Rattle.text_scan.specs.Faults.{Fault}
use Rattle.operation_spec.specs.declared.operation.Operation.{Operation}
use Rattle.equation.specs.declared.job.Job.{Job}
use Rattle.job_text.specs.declared.stop.Stop.TheVariants as stops
use Rattle.job_text.specs.SpelledJobs.{Spells, job_in}
use Rattle.job_text.proofs.JobTaken.{read_job_spelled}
use Rattle.job_text.proofs.OneJob.{no_fault, one_job}
use Rattle.worksheet.specs.declared.sheet.Worksheet.{Worksheet}
use Rattle.worksheet.specs.declared.verdict.Verdict.{Verdict}
use Rattle.worksheet.specs.declared.verdict.Verdict.TheVariants.{Right, Wrong}
use Rattle.worksheet.specs.Worksheets.{Valid}
use Rattle.worksheet_check.specs.Verdicts.{verdict_of}
use Rattle.worksheet_check.proofs.RightVerdicts.{right_valid, valid_right}
use Rattle.worksheet_text.specs.SheetFaults.{SheetFault}
use Rattle.worksheet_text.specs.SheetReading.{operation_named, worksheet_in}
use Rattle.worksheet_text.proofs.ReadOperations.{found_in_bytes}
use Rattle.variant_report.specs.VerdictTexts.{verdict_text}
use Rattle.flame_top.specs.Checks.{DueCheck, DueSheetBehind, DueVerdict, DueVerdictOf}
use Rattle.flame_top.specs.DueTexts.{Says}
use Rattle.flame_top.specs.Refusals.{refusal_text, sheet_refusal_text}
use Rattle.flame_top.proofs.SameDue.{IsDetermined, IsSomeDue, one_error, same_says}

-- ---- for a worksheet of an operation

-- it is valid, or it isn't
valid_or_not : (op : Operation) (w : Worksheet) → Valid op w ⊎ ¬ (Valid op w)
valid_or_not op w = go (verdict_of op w) refl
  where
    go : (v : Verdict) → verdict_of op w ≡ v → Valid op w ⊎ ¬ (Valid op w)
    go Right e = inl (right_valid op w e)
    go (Wrong place found due) e = inr (λ valid. let right = sym e ∙ valid_right op w valid in absurd cc)

same_verdict : (op : Operation) (w : Worksheet) → IsDetermined (DueVerdict op w)
same_verdict op w status other text different (inl is) (inl is_other) = same_says 0 (codes "right\n") status other text different is.1 is_other.1
same_verdict op w status other text different (inl is) (inr is_other) = absurd (is_other.0 is.0)
same_verdict op w status other text different (inr is) (inl is_other) = absurd (is.0 is_other.0)
same_verdict op w status other text different (inr is) (inr is_other) = same_says 7 (verdict_text op (verdict_of op w)) status other text different is.1 is_other.1

some_verdict : (op : Operation) (w : Worksheet) → IsSomeDue (DueVerdict op w)
some_verdict op w = elim (valid_or_not op w) [
  | inl valid ↦ (0, codes "right\n", inl (valid, (refl, refl)))
  | inr wrong ↦ (7, verdict_text op (verdict_of op w), inr (wrong, (refl, refl)))
]

-- what a verdict tells, with its status, is due
pub told : (op : Operation) (w : Worksheet) (v : Verdict) (status : ℕ) (text : List ℕ) → v ≡ verdict_of op w → (v ≡ Right → status ≡ 0) → (v ≢ Right → status ≡ 7)
    → text ≡ verdict_text op v → DueVerdict op w status text
told op w Right status text is zero seven text_is = inl (right_valid op w (sym is), (zero refl, text_is))
told op w (Wrong place found due) status text is zero seven text_is =
    inr ((λ valid. let right = is ∙ valid_right op w valid in absurd cc), (seven (λ e. absurd cc), text_is ∙ ap (verdict_text op) is))

-- ---- for a worksheet of the operation that it names

same_verdict_of : (found : Option Operation) (w : Worksheet) → IsDetermined (DueVerdictOf found w)
same_verdict_of None w = λ status other text different due due_other. absurd due
same_verdict_of (Some op) w = same_verdict op w

some_verdict_of : (found : Option Operation) (w : Worksheet) → found ≢ None → IsSomeDue (DueVerdictOf found w)
some_verdict_of None w there = absurd (there refl)
some_verdict_of (Some op) w there = some_verdict op w

-- ---- for an input

-- what was read names an operation
pub names_one : (input : List ℕ) (rest : Rest) (operations : List Operation) (w : Worksheet) → worksheet_in input rest operations ≡ Ok w → operation_named operations w.operation ≢ None
names_one input rest operations w read none = let found = found_in_bytes input rest operations w read in let named = found.1 in absurd cc

module _ (input : List ℕ) where
  module _ (rest : Rest) (job : Job) where
    same_behind : IsDetermined (DueSheetBehind input rest job)
    same_behind status other text different (inl is) (inl is_other) =
        let sheet : is.0 ≡ is_other.0 = same_ok {F = SheetFault} is.0 is_other.0 (sym is.1 ∙ is_other.1) in
        same_verdict_of (operation_named job.operations is_other.0.operation) is_other.0 status other text different
        (subst (λ (w : Worksheet). DueVerdictOf (operation_named job.operations w.operation) w status text) sheet is.2) is_other.2
    same_behind status other text different (inl is) (inr fault) = let read = is.1 in let ends = fault.1 in absurd (cc)
    same_behind status other text different (inr fault) (inl is) = let read = is.1 in let ends = fault.1 in absurd (cc)
    same_behind status other text different (inr fault) (inr fault_other) =
        let one : fault.0 ≡ fault_other.0 = one_error fault.0 fault_other.0 (sym fault.1 ∙ fault_other.1) in
        same_says 3 (sheet_refusal_text fault_other.0) status other text different
        (subst (λ (f : SheetFault). Says 3 (sheet_refusal_text f) status text) one fault.2) fault_other.2

    some_behind : IsSomeDue (DueSheetBehind input rest job)
    some_behind = go (worksheet_in input rest job.operations) refl
      where
        go : (read : Result Worksheet SheetFault) → worksheet_in input rest job.operations ≡ read → IsSomeDue (DueSheetBehind input rest job)
        go (Ok w) e = (let due = some_verdict_of (operation_named job.operations w.operation) w (names_one input rest job.operations w e) in (due.0, due.1, inl (w, e, due.2)))
        go (Err fault) e = (3, sheet_refusal_text fault, inr (fault, e, (refl, refl)))

  pub same_check : IsDetermined (DueCheck input)
  same_check status other text different (inl is) (inl is_other) =
      let one = one_job input stops.Worksheet is.0 is.1 is.2 is_other.0 is_other.1 is_other.2 in
      same_behind is_other.1 is_other.0 status other text different
      (subst (λ (rest : Rest). DueSheetBehind input rest is_other.0 status text) one.1 (subst (λ (job : Job). DueSheetBehind input is.1 job status text) one.0 is.3)) is_other.3
  same_check status other text different (inl is) (inr fault) = absurd (no_fault input stops.Worksheet is.0 is.1 is.2 fault.0 fault.1)
  same_check status other text different (inr fault) (inl is) = absurd (no_fault input stops.Worksheet is.0 is.1 is.2 fault.0 fault.1)
  same_check status other text different (inr fault) (inr fault_other) =
      let one : fault.0 ≡ fault_other.0 = one_error fault.0 fault_other.0 (sym fault.1 ∙ fault_other.1) in
      same_says 3 (refusal_text fault_other.0) status other text different
      (subst (λ (f : Fault). Says 3 (refusal_text f) status text) one fault.2) fault_other.2

  pub some_check : IsSomeDue (DueCheck input)
  some_check = go (job_in stops.Worksheet input) refl
    where
      behind : (job : Job) (rest : Rest) → Spells input stops.Worksheet job rest → IsSomeDue (DueSheetBehind input rest job) → IsSomeDue (DueCheck input)
      behind job rest spells is = (is.0, is.1, inl (job, rest, spells, is.2))

      go : (read : Result (Job × Rest) Fault) → job_in stops.Worksheet input ≡ read → IsSomeDue (DueCheck input)
      go (Ok (job, rest)) e = behind job rest (read_job_spelled stops.Worksheet input job rest e) (some_behind rest job)
      go (Err fault) e = (3, refusal_text fault, inr (fault, e, (refl, refl)))

-- ---- which statuses

verdict_status : (found : Option Operation) (w : Worksheet) (status : ℕ) (text : List ℕ) → DueVerdictOf found w status text → (status ≡ 0) ⊎ ((status ≡ 3) ⊎ (status ≡ 7))
verdict_status None w status text due = absurd due
verdict_status (Some op) w status text (inl right) = inl right.1.0
verdict_status (Some op) w status text (inr wrong) = inr (inr wrong.1.0)

pub check_status : (input : List ℕ) (status : ℕ) (text : List ℕ) → DueCheck input status text → (status ≡ 0) ⊎ ((status ≡ 3) ⊎ (status ≡ 7))
check_status input status text (inl (job, rest, spells, inl (w, sheet, due))) = verdict_status (operation_named job.operations w.operation) w status text due
check_status input status text (inl (job, rest, spells, inr fault)) = inr (inl fault.2.0)
check_status input status text (inr fault) = inr (inl fault.2.0)
