-- The statuses that are due.
use Rattle.std.proofs.Common.{◌≡◌, inl, inr, ℕ, List, refl, arith}
use Rattle.std.specs.Prelude.{codes}
use Rattle.equation.specs.declared.job.Job.{Job}
use Rattle.issue_list.specs.declared.choice.Choice.{Choice}
use Rattle.issue_list.specs.declared.choice.Choice.TheVariants.{First}
use Rattle.variant_report.specs.declared.self_words.SelfWords.{SelfWords}
use Rattle.command_words.specs.declared.command.Command.{Command}
use Rattle.command_words.specs.declared.command.Command.TheVariants.{Check, Derive, Make, Pme, Run, SelfRun, Verify, Worksheet}
use Rattle.command_words.specs.declared.command.RunWords.{RunWords}
use Rattle.command_words.specs.Words.{AreBad}
use Rattle.flame_top.specs.Checks.{DueCheck}
use Rattle.flame_top.specs.Derive.{DueFamilies}
use Rattle.flame_top.specs.Due.{Due, DueCommand, DueInput}
use Rattle.flame_top.specs.DueTexts.{DueShort}
use Rattle.flame_top.specs.Meaning.{DueMeaning, PrintedText}
use Rattle.flame_top.specs.Pme.{DuePme}
use Rattle.flame_top.specs.Run.{DueEvents, DueRun, run_text}
use Rattle.flame_top.specs.SelfRun.{DueSelfRun, job_of, self_text}
use Rattle.flame_top.specs.Steps.{DueBySteps}
use Rattle.flame_top.specs.Verify.{DueVerify}
use Rattle.flame_top.specs.Worksheets.{DueWorksheet}
use Rattle.flame_top.specs.Answers.{IsDueStatus}
use Rattle.flame_top.proofs.CheckLaws.{check_status}
use Rattle.flame_top.proofs.NamedLaws.{IsZeroOrThree}
use Rattle.flame_top.proofs.PmeLaws.{pme_status}
use Rattle.flame_top.proofs.StepsLaws.{refused_status}
use Rattle.flame_top.proofs.WorksheetLaws.{worksheet_status}

zero_is_due : (status : ℕ) → status ≡ 0 → IsDueStatus status
zero_is_due status is = (λ e. omega arith, λ e. omega arith, λ e. omega arith)

refusal_is_due : (status : ℕ) → status ≡ 3 → IsDueStatus status
refusal_is_due status is = (λ e. omega arith, λ e. omega arith, λ e. omega arith)

bad_pivot_is_due : (status : ℕ) → status ≡ 4 → IsDueStatus status
bad_pivot_is_due status is = (λ e. omega arith, λ e. omega arith, λ e. omega arith)

wrong_is_due : (status : ℕ) → status ≡ 7 → IsDueStatus status
wrong_is_due status is = (λ e. omega arith, λ e. omega arith, λ e. omega arith)

difference_is_due : (status : ℕ) → status ≡ 8 → IsDueStatus status
difference_is_due status is = (λ e. omega arith, λ e. omega arith, λ e. omega arith)

-- for a command that reads a job alone
short_is_due : (due : Job → ℕ → List ℕ → Type 0) → ((job : Job) (status : ℕ) (text : List ℕ) → due job status text → IsDueStatus status)
    → (input : List ℕ) (status : ℕ) (text : List ℕ) → DueShort due input status text → IsDueStatus status
short_is_due due of_job input status text (inl spelled) = of_job spelled.0 status text spelled.3
short_is_due due of_job input status text (inr fault) = refusal_is_due status fault.2.0

families_are_due : (job : Job) (status : ℕ) (text : List ℕ) → DueFamilies job status text → IsDueStatus status
families_are_due job status text families = zero_is_due status families.0

-- what is printed or refused
either_is_due : (due : ℕ → List ℕ → Type 0) → IsZeroOrThree due → (status : ℕ) (text : List ℕ) → due status text → IsDueStatus status
either_is_due due status_of status text is = elim (status_of status text is) [
  | inl printed ↦ zero_is_due status printed
  | inr refused ↦ refusal_is_due status refused
]

meaning_is_due : (job : Job) (printed : PrintedText) (status : ℕ) (text : List ℕ) → DueMeaning job printed status text → IsDueStatus status
meaning_is_due job printed status text (inl result) = zero_is_due status result.2.0
meaning_is_due job printed status text (inr bad) = bad_pivot_is_due status bad.3.0

by_steps_is_due : (b : ℕ) (choice : Choice) (job : Job) (due : ℕ → List ℕ → Type 0) → ((status : ℕ) (text : List ℕ) → due status text → IsDueStatus status)
    → (status : ℕ) (text : List ℕ) → DueBySteps b choice job due status text → IsDueStatus status
by_steps_is_due b choice job due is_due status text (inl refused) = refusal_is_due status (refused_status b choice job status text refused)
by_steps_is_due b choice job due is_due status text (inr listed) = is_due status text listed.1

run_is_due : (words : RunWords) (job : Job) (status : ℕ) (text : List ℕ) → DueRun words job status text → IsDueStatus status
run_is_due words job = by_steps_is_due words.block words.choice job (DueEvents words job)
    (λ status text due. meaning_is_due job (run_text words job due.0) status text due.2)

selfrun_is_due : (words : SelfWords) (status : ℕ) (text : List ℕ) → DueSelfRun words status text → IsDueStatus status
selfrun_is_due words = by_steps_is_due words.block First (job_of words) (DueMeaning (job_of words) (self_text words (job_of words)))
    (meaning_is_due (job_of words) (self_text words (job_of words)))

check_is_due : (input : List ℕ) (status : ℕ) (text : List ℕ) → DueCheck input status text → IsDueStatus status
check_is_due input status text due = elim (check_status input status text due) [
  | inl right ↦ zero_is_due status right
  | inr (inl refused) ↦ refusal_is_due status refused
  | inr (inr wrong) ↦ wrong_is_due status wrong
]

verify_is_due : (input : List ℕ) (status : ℕ) (text : List ℕ) → DueVerify input status text → IsDueStatus status
verify_is_due input status text (inl (job, rest, spells, inl (after, spelled, inl all))) = zero_is_due status all.1
verify_is_due input status text (inl (job, rest, spells, inl (after, spelled, inr differs))) = difference_is_due status differs.4
verify_is_due input status text (inl (job, rest, spells, inr fault)) = refusal_is_due status fault.2
verify_is_due input status text (inr fault) = refusal_is_due status fault.2

input_is_due : (command : Command) (input : List ℕ) (status : ℕ) (text : List ℕ) → DueInput command input status text → IsDueStatus status
input_is_due Derive input status text due = short_is_due DueFamilies families_are_due input status text due
input_is_due (Pme op dims) input status text due =
    short_is_due (DuePme op dims) (λ job. either_is_due (DuePme op dims job) (pme_status op dims job)) input status text due
input_is_due (Worksheet op number) input status text due =
    short_is_due (DueWorksheet op number) (λ job. either_is_due (DueWorksheet op number job) (worksheet_status op number job)) input status text due
input_is_due Check input status text due = check_is_due input status text due
input_is_due Verify input status text due = verify_is_due input status text due
input_is_due (Make n m seed) input status text due = zero_is_due status due.0
input_is_due (Run words) input status text due = short_is_due (DueRun words) (run_is_due words) input status text due
input_is_due (SelfRun words) input status text due = selfrun_is_due words status text due

pub command_is_due : (command : Command) (input : List ℕ) (status : ℕ) (text : List ℕ) → DueCommand command input status text → IsDueStatus status
command_is_due command input status text (inl long) = refusal_is_due status long.2.0
command_is_due command input status text (inr short) = input_is_due command input status text short.1

-- what is due for bad words
pub bad_is_due : (words : List (List ℕ)) (input text : List ℕ) → AreBad words → text ≡ codes "bad words\n" → Due words input 2 text
bad_is_due words input text bad is = inl (bad, (refl {a = 2}, is))
