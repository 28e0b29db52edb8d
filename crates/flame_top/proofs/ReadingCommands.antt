-- Which commands read their input.
use Rattle.std.proofs.Common.{inl, inr, ◌⊎◌, ℕ, List}
use Rattle.command_words.specs.declared.command.Command.{Command}
use Rattle.command_words.specs.declared.command.Command.TheVariants.{Check, Derive, Make, Pme, Run, SelfRun, Verify, Worksheet}
use Rattle.command_words.specs.Words.{AsksCheck, AsksFamilies, AsksMake, AsksPme, AsksRun, AsksSelfRun, AsksVerify, AsksWorksheet, ReadsInput}
use Rattle.flame_top.specs.Due.{DueCommand, DueInput}

pub reads_or_not : (command : Command) → ReadsInput command ⊎ ¬ (ReadsInput command)
reads_or_not (Make n m seed) = inr (λ reads. reads)
reads_or_not (SelfRun words) = inr (λ reads. reads)
reads_or_not _ = inl tt

pub families_read : (command : Command) → AsksFamilies command → ReadsInput command
families_read Derive asks = tt
families_read _ asks = absurd asks

pub pme_reads : (command : Command) → AsksPme command → ReadsInput command
pme_reads (Pme op dims) asks = tt
pme_reads _ asks = absurd asks

pub worksheet_reads : (command : Command) → AsksWorksheet command → ReadsInput command
worksheet_reads (Worksheet op number) asks = tt
worksheet_reads _ asks = absurd asks

pub check_reads : (command : Command) → AsksCheck command → ReadsInput command
check_reads Check asks = tt
check_reads _ asks = absurd asks

pub verify_reads : (command : Command) → AsksVerify command → ReadsInput command
verify_reads Verify asks = tt
verify_reads _ asks = absurd asks

pub run_reads : (command : Command) → AsksRun command → ReadsInput command
run_reads (Run words) asks = tt
run_reads _ asks = absurd asks

pub make_reads_none : (command : Command) → AsksMake command → ¬ (ReadsInput command)
make_reads_none (Make n m seed) asks = λ reads. reads
make_reads_none _ asks = absurd asks

pub selfrun_reads_none : (command : Command) → AsksSelfRun command → ¬ (ReadsInput command)
selfrun_reads_none (SelfRun words) asks = λ reads. reads
selfrun_reads_none _ asks = absurd asks

-- what is due for a command that reads no input is due whatever the input
pub due_alone : (command : Command) → ¬ (ReadsInput command) → (input other : List ℕ) (status : ℕ) (text : List ℕ)
    → DueInput command input status text → DueCommand command other status text
due_alone (Make n m seed) alone input other status text due = inr (λ reads. absurd (alone reads), due)
due_alone (SelfRun words) alone input other status text due = inr (λ reads. absurd (alone reads), due)
due_alone _ alone input other status text due = absurd (alone tt)
