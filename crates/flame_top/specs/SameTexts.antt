-- Texts that differ only in what the workers of a run leave open.
use Rattle.std.specs.Prelude.{◌≡◌, ℕ, ◌⊎◌, List, ◌++◌, length, false}
use Rattle.dependence_queue.specs.Edges.{edges_of}
use Rattle.step_replays.specs.declared.step.Step.{Step}
use Rattle.schedule_core.specs.declared.event.Event.{Event}
use Rattle.schedule_core.specs.EventBlocks.{step_access}
use Rattle.schedule_core.specs.Schedules.{IsSchedule}
use Rattle.schedule_core.specs.StepAccesses.{accesses_of}
use Rattle.variant_report.specs.declared.self_words.SelfWords.{SelfWords}
use Rattle.variant_report.specs.SummaryTexts.{words_line}
use Rattle.variant_report.specs.TraceTexts.{trace_text}
use Rattle.command_words.specs.declared.command.Command.{Command}
use Rattle.command_words.specs.declared.command.Command.TheVariants.{Run}
use Rattle.command_words.specs.declared.command.RunWords.{RunWords}
use Rattle.command_words.specs.Words.{AreWordsOf}

-- two texts with traces: the same is printed in front of them, they tell the same steps and edges, and each ends in a schedule of
-- these steps
pub record AreTracesAlike (text different : List ℕ) : Type 0 where
  pub printed : List ℕ
  pub steps : List Step
  pub events : List Event
  pub others : List Event
  pub schedule : IsSchedule (step_access steps) (length steps) events
  pub other_schedule : IsSchedule (step_access steps) (length steps) others
  pub text_is : text ≡ printed ++ trace_text steps (edges_of (accesses_of steps)) events
  pub different_is : different ≡ printed ++ trace_text steps (edges_of (accesses_of steps)) others

-- the texts are one, or differ in the schedules of their traces alone
abbrev pub AreSameToSchedule : List ℕ → List ℕ → Type 0
AreSameToSchedule text different = (text ≡ different) ⊎ AreTracesAlike text different

-- a run whose trace isn't asked for, or of one worker, has one text
abbrev pub HasOneRunText : RunWords → Type 0
HasOneRunText words = (words.trace ≡ false) ⊎ (words.workers ≡ 1)

abbrev pub HasOneTextOf : Command → Type 0
HasOneTextOf (Run words) = HasOneRunText words
HasOneTextOf _ = Unit {0}

abbrev pub HasOneText : List (List ℕ) → Type 0
HasOneText words = (command : Command) → AreWordsOf words command → HasOneTextOf command

-- the texts are one, or two summaries that differ in the line of their words alone
abbrev pub AreSameSummaries : SelfWords → SelfWords → List ℕ → List ℕ → Type 0
AreSameSummaries words changed text different = (text ≡ different)
    ⊎ ((rest : List ℕ) × (text ≡ words_line words ++ rest) × (different ≡ words_line changed ++ rest))
