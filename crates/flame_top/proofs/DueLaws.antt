-- For the same words and input one status is due, and one text, or texts that are the same up to their schedules.
use Rattle.std.proofs.Common.{◌≡◌, inl, inr, ℕ, List, Result, Err, sym, ◌∙◌, subst, arith}
use Rattle.std.specs.Prelude.{codes}
use Rattle.text_scan.specs.Faults.{Fault}
use Rattle.job_text.proofs.OneJob.{no_fault, one_job}
use Rattle.equation.specs.declared.job.Job.{Job}
use Rattle.equation.specs.Jobs.{IsJob}
use Rattle.job_text.specs.declared.stop.Stop.TheVariants.{Nothing}
use Rattle.job_text.specs.SpelledJobs.{job_in}
use Rattle.job_text.specs.JobTexts.{job_text}
use Rattle.job_generator.specs.GeneratedJobs.{generated_job}
use Rattle.command_words.specs.declared.command.Command.{Command}
use Rattle.command_words.specs.declared.command.Command.TheVariants.{Check, Derive, Make, Pme, Run, SelfRun, Verify, Worksheet}
use Rattle.command_words.specs.Words.{IsInRange}
use Rattle.command_words.proofs.OneCommand.{one_command}
use Rattle.flame_top.specs.Refusals.{refusal_text}
use Rattle.flame_top.specs.Checks.{DueCheck}
use Rattle.flame_top.specs.Derive.{DueFamilies, families_text}
use Rattle.flame_top.specs.Due.{DueInput, DueCommand, Due}
use Rattle.flame_top.specs.DueTexts.{DueShort, Says}
use Rattle.flame_top.specs.Make.{DueMake}
use Rattle.flame_top.specs.Pme.{DuePme}
use Rattle.flame_top.specs.Run.{DueRun}
use Rattle.flame_top.specs.SameTexts.{HasOneText, HasOneTextOf}
use Rattle.flame_top.specs.SelfRun.{DueSelfRun}
use Rattle.flame_top.specs.Verify.{DueVerify}
use Rattle.flame_top.specs.Worksheets.{DueWorksheet}
use Rattle.flame_top.proofs.CheckLaws.{same_check}
use Rattle.flame_top.proofs.PmeLaws.{same_pme}
use Rattle.flame_top.proofs.RunLaws.{SameText, same_itself, same_run}
use Rattle.flame_top.proofs.SameDue.{AreAlike, IsDetermined, Same, alike_determined, alike_same, one_error, same_says}
use Rattle.flame_top.proofs.SelfRunLaws.{same_selfrun}
use Rattle.flame_top.proofs.VerifyLaws.{same_verify}
use Rattle.flame_top.proofs.WorksheetLaws.{same_worksheet}

-- ---- for a job

same_families : (job : Job) (status other : ℕ) (text different : List ℕ) → DueFamilies job status text → DueFamilies job other different → Same status other text different
same_families job status other text different due due_other = same_says 0 (families_text job.operations) status other text different due due_other

-- ---- for an input

one_fault : (input : List ℕ) (fault other : Fault) → job_in Nothing input ≡ Err fault → job_in Nothing input ≡ Err other → fault ≡ other
one_fault input fault other is is_other = one_error fault other (sym is ∙ is_other)

-- for a command that reads a job alone
module _ (alike : List ℕ → List ℕ → Type 0) (itself : (text : List ℕ) → alike text text) (due : Job → ℕ → List ℕ → Type 0) where
  alike_short : ((job : Job) → IsJob job → AreAlike alike (due job) (due job)) → (input : List ℕ) → AreAlike alike (DueShort due input) (DueShort due input)
  alike_short alike_job input status other text different (inl is) (inl is_other) =
      let one = (one_job input Nothing is.0 is.1 is.2 is_other.0 is_other.1 is_other.2).0 in
      alike_job is_other.0 is_other.2.first.lines.valid status other text different (subst (λ job. due job status text) one is.3) is_other.3
  alike_short alike_job input status other text different (inl is) (inr refused) = absurd (no_fault input Nothing is.0 is.1 is.2 refused.0 refused.1)
  alike_short alike_job input status other text different (inr refused) (inl is) = absurd (no_fault input Nothing is.0 is.1 is.2 refused.0 refused.1)
  alike_short alike_job input status other text different (inr refused) (inr refused_other) =
      let one = one_fault input refused.0 refused_other.0 refused.1 refused_other.1 in
      alike_same alike itself status other text different
      (same_says 3 (refusal_text refused_other.0) status other text different (subst (λ fault. Says 3 (refusal_text fault) status text) one refused.2) refused_other.2)

-- ---- for a command

-- one text or the same up to the schedules, as the command has it
abbrev SameFor : Command → List ℕ → List ℕ → Type 0
SameFor command = SameText (HasOneTextOf command)

determined_for : (command : Command) (due : ℕ → List ℕ → Type 0) → IsDetermined due → AreAlike (SameFor command) due due
determined_for command due = alike_determined (SameFor command) (same_itself (HasOneTextOf command)) due

same_input : (command : Command) → IsInRange command → (input : List ℕ) → AreAlike (SameFor command) (DueInput command input) (DueInput command input)
same_input Derive range input =
    alike_short (SameFor Derive) (same_itself (HasOneTextOf Derive)) DueFamilies (λ job valid. determined_for Derive (DueFamilies job) (same_families job)) input
same_input (Pme op dims) range input = alike_short (SameFor (Pme op dims)) (same_itself (HasOneTextOf (Pme op dims))) (DuePme op dims)
    (λ job valid. determined_for (Pme op dims) (DuePme op dims job) (same_pme op dims job)) input
same_input (Worksheet op number) range input = alike_short (SameFor (Worksheet op number)) (same_itself (HasOneTextOf (Worksheet op number))) (DueWorksheet op number)
    (λ job valid. determined_for (Worksheet op number) (DueWorksheet op number job) (same_worksheet op number job)) input
same_input Check range input = determined_for Check (DueCheck input) (same_check input)
same_input Verify range input = determined_for Verify (DueVerify input) (same_verify input)
same_input (Make n m seed) range input =
    determined_for (Make n m seed) (DueMake n m seed) (λ status other text different. same_says 0 (job_text (generated_job n m seed)) status other text different)
same_input (Run words) range input = alike_short (SameFor (Run words)) (same_itself (HasOneTextOf (Run words))) (DueRun words) (same_run words) input
same_input (SelfRun words) range input = determined_for (SelfRun words) (DueSelfRun words) (same_selfrun words range)

same_command : (command : Command) → IsInRange command → (input : List ℕ) → AreAlike (SameFor command) (DueCommand command input) (DueCommand command input)
same_command command range input status other text different (inl long) (inl long_other) =
    alike_same (SameFor command) (same_itself (HasOneTextOf command)) status other text different (same_says 3 (codes "refused TooLong\n") status other text different long.2 long_other.2)
same_command command range input status other text different (inl long) (inr short) = let a = long.1 in let b = short.0 long.0 in absurd (omega arith)
same_command command range input status other text different (inr short) (inl long) = let a = long.1 in let b = short.0 long.0 in absurd (omega arith)
same_command command range input status other text different (inr short) (inr short_other) = same_input command range input status other text different short.1 short_other.1

pub same_due : (words : List (List ℕ)) (input : List ℕ) → AreAlike (SameText (HasOneText words)) (Due words input) (Due words input)
same_due words input status other text different (inl bad) (inl bad_other) =
    alike_same (SameText (HasOneText words)) (same_itself (HasOneText words)) status other text different
    (same_says 2 (codes "bad words\n") status other text different bad.1 bad_other.1)
same_due words input status other text different (inl bad) (inr named) = absurd (bad.0 named.0 named.1)
same_due words input status other text different (inr named) (inl bad) = absurd (bad.0 named.0 named.1)
same_due words input status other text different (inr named) (inr named_other) =
    let same = same_command named_other.0 named_other.1.0 input status other text different
    (subst (λ command. DueCommand command input status text) (one_command words named.0 named_other.0 named.1 named_other.1) named.2) named_other.2 in
    (same.0, (same.1.0, λ one. same.1.1 (one named_other.0 named_other.1)))
