-- For all words and each input some status and some text are due.
use Rattle.std.proofs.Common.{◌≡◌, inl, inr, ◌⊎◌, ℕ, ◌<◌, ◌≤◌, List, length, Result, Ok, Err, refl}
use Rattle.std.specs.Prelude.{codes}
use Rattle.std.proofs.lemmas.Bool.{cases_lt}
use Rattle.text_scan.specs.declared.Rest.{Rest}
use Rattle.text_scan.specs.Faults.{Fault}
use Rattle.equation.specs.declared.job.Job.{Job}
use Rattle.equation.specs.Jobs.{IsJob}
use Rattle.job_text.specs.declared.stop.Stop.TheVariants.{Nothing}
use Rattle.job_text.specs.SpelledJobs.{Spells, job_in}
use Rattle.job_text.proofs.JobTaken.{read_job_spelled}
use Rattle.job_text.specs.JobTexts.{job_text}
use Rattle.job_generator.specs.GeneratedJobs.{generated_job}
use Rattle.command_words.specs.declared.command.Command.{Command}
use Rattle.command_words.specs.declared.command.Command.TheVariants.{Check, Derive, Make, Pme, Run, SelfRun, Verify, Worksheet}
use Rattle.command_words.specs.Words.{AreBad, AreWordsOf, IsInRange, ReadsInput}
use Rattle.command_words.proofs.CommandWords.{bad_or_named}
use Rattle.flame_top.specs.Refusals.{refusal_text}
use Rattle.flame_top.specs.Derive.{DueFamilies, families_text}
use Rattle.flame_top.specs.Due.{DueInput, DueCommand, Due, input_limit}
use Rattle.flame_top.specs.DueTexts.{DueShort}
use Rattle.flame_top.specs.Pme.{DuePme}
use Rattle.flame_top.specs.Run.{DueRun}
use Rattle.flame_top.specs.Worksheets.{DueWorksheet}
use Rattle.flame_top.proofs.CheckLaws.{some_check}
use Rattle.flame_top.proofs.PmeLaws.{some_pme}
use Rattle.flame_top.proofs.ReadingCommands.{reads_or_not}
use Rattle.flame_top.proofs.RunLaws.{some_run}
use Rattle.flame_top.proofs.SameDue.{IsSomeDue}
use Rattle.flame_top.proofs.SelfRunLaws.{some_selfrun}
use Rattle.flame_top.proofs.VerifyLaws.{some_verify}
use Rattle.flame_top.proofs.WorksheetLaws.{some_worksheet}

-- ---- for a job

some_families : (job : Job) → IsSomeDue (DueFamilies job)
some_families job = (0, families_text job.operations, (refl, refl))

-- ---- for an input

some_short : (due : Job → ℕ → List ℕ → Type 0) → ((job : Job) → IsJob job → IsSomeDue (due job)) → (input : List ℕ) → IsSomeDue (DueShort due input)
some_short due some_job input = go (job_in Nothing input) refl
  where
    for_job : (job : Job) (rest : Rest) → Spells input Nothing job rest → IsSomeDue (due job) → IsSomeDue (DueShort due input)
    for_job job rest spells is = (is.0, is.1, inl (job, rest, spells, is.2))

    go : (read : Result (Job × Rest) Fault) → job_in Nothing input ≡ read → IsSomeDue (DueShort due input)
    go (Ok (job, rest)) e = let spells = read_job_spelled Nothing input job rest e in for_job job rest spells (some_job job spells.first.lines.valid)
    go (Err fault) e = (3, refusal_text fault, inr (fault, e, (refl, refl)))

some_input : (command : Command) → IsInRange command → (input : List ℕ) → IsSomeDue (DueInput command input)
some_input Derive range input = some_short DueFamilies (λ job valid. some_families job) input
some_input (Pme op dims) range input = some_short (DuePme op dims) (λ job valid. some_pme op dims job) input
some_input (Worksheet op number) range input = some_short (DueWorksheet op number) (λ job valid. some_worksheet op number job) input
some_input Check range input = some_check input
some_input Verify range input = some_verify input
some_input (Make n m seed) range input = (0, job_text (generated_job n m seed), (refl, refl))
some_input (Run words) range input = some_short (DueRun words) (some_run words) input
some_input (SelfRun words) range input = some_selfrun words range

-- a command reads an input that is too long, or not
long_or_not : (command : Command) (input : List ℕ) → (ReadsInput command × (input_limit < length input)) ⊎ (ReadsInput command → length input ≤ input_limit)
long_or_not command input = go (reads_or_not command) (cases_lt input_limit (length input))
  where
    go : ReadsInput command ⊎ ¬ (ReadsInput command) → (input_limit < length input) ⊎ (length input ≤ input_limit)
        → (ReadsInput command × (input_limit < length input)) ⊎ (ReadsInput command → length input ≤ input_limit)
    go (inl reads) (inl long) = inl (reads, long)
    go (inr not) (inl long) = inr (λ reads. absurd (not reads))
    go reads (inr short) = inr (λ reads. short)

some_command : (command : Command) → IsInRange command → (input : List ℕ) → IsSomeDue (DueCommand command input)
some_command command range input = elim (long_or_not command input) [
  | inl long ↦ (3, codes "refused TooLong\n", inl (long.0, long.1, (refl, refl)))
  | inr short ↦ (let due = some_input command range input in (due.0, due.1, inr (short, due.2)))
]

pub some_due : (words : List (List ℕ)) (input : List ℕ) → IsSomeDue (Due words input)
some_due words input = go (bad_or_named words)
  where
    go : AreBad words ⊎ ((command : Command) × AreWordsOf words command) → IsSomeDue (Due words input)
    go (inl bad) = (2, codes "bad words\n", inl (bad, (refl, refl)))
    go (inr named) = let due = some_command named.0 named.1.0 input in (due.0, due.1, inr (named.0, named.1, due.2))
