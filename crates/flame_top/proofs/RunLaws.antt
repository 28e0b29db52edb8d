-- For a job and the words of a run one status is due, and there is one; the texts are the same up to their schedules, and the same where no trace
-- is asked for or one worker runs. Neither the variants nor the block size nor the workers change anything else.
use Rattle.std.proofs.Common.{◌≡◌, ◌≢◌, inl, inr, ℕ, List, ◌++◌, Bool, true, false, refl, sym, ap, ◌∙◌, append-nil}
use Rattle.std.specs.Prelude.{length}
use Rattle.residue_sums.specs.Grids.{Grid}
use Rattle.equation.specs.declared.job.Job.{Job}
use Rattle.equation.specs.Jobs.{IsJob}
use Rattle.step_replays.specs.declared.step.Step.{Step}
use Rattle.schedule_core.specs.declared.event.Event.{Event}
use Rattle.schedule_core.specs.EventBlocks.{step_access}
use Rattle.schedule_core.specs.Schedules.{IsSchedule, in_order}
use Rattle.schedule_core.proofs.StepsInOrder.{order-schedule}
use Rattle.command_words.specs.declared.command.RunWords.{RunWords}
use Rattle.variant_report.specs.ResultTexts.{result_text}
use Rattle.flame_top.specs.Events.{AreEventsOf}
use Rattle.flame_top.specs.Meaning.{DueMeaning, PrintedText}
use Rattle.flame_top.specs.Run.{DueEvents, DueRun, run_text, trace_part}
use Rattle.flame_top.specs.SameTexts.{AreSameToSchedule, HasOneRunText}
use Rattle.flame_top.specs.Steps.{steps_by}
use Rattle.flame_top.proofs.MeaningLaws.{alike_meaning, same_meaning, some_due_meaning}
use Rattle.flame_top.proofs.SameDue.{AreAlike, IsSomeDue}
use Rattle.flame_top.proofs.StepsLaws.{alike_by_steps, due_unless_refused, some_by_steps}

-- ---- by any workers

alike_traces : (trace : Bool) (printed : List ℕ) (steps : List Step) (events others : List Event)
    → IsSchedule (step_access steps) (length steps) events → IsSchedule (step_access steps) (length steps) others
    → AreSameToSchedule (printed ++ trace_part trace steps events) (printed ++ trace_part trace steps others)
alike_traces true printed steps events others schedule other = inr (record {
  printed = printed;
  steps = steps;
  events = events;
  others = others;
  schedule = schedule;
  other_schedule = other;
  text_is = refl;
  different_is = refl;
})
alike_traces false printed steps events others schedule other = inl refl

-- without a trace they are one
one_untraced : (trace : Bool) (steps : List Step) (events others : List Event) → trace ≡ false → trace_part trace steps events ≡ trace_part trace steps others
one_untraced trace steps events others none =
    ap (λ (b : Bool). trace_part b steps events) none ∙ sym (ap (λ (b : Bool). trace_part b steps others) none)

-- ---- where there is one text

-- the texts are the same up to their schedules, and the same where there is one text
abbrev pub SameText : Type 0 → List ℕ → List ℕ → Type 0
SameText one text different = AreSameToSchedule text different × (one → text ≡ different)

pub same_itself : (one : Type 0) (text : List ℕ) → SameText one text text
same_itself one text = (inl refl, λ is. refl)

module _ (words : RunWords) (workers : ℕ) (job : Job) (valid : IsJob job) where
  changed : RunWords
  changed = record words { workers = workers }

  alike_events : AreAlike (SameText (words.trace ≡ false)) (DueEvents words job) (DueEvents changed job)
  unfolding changed
  alike_events status other text different due due_other =
      let steps = steps_by job words.block words.choice in
      alike_meaning job valid (SameText (words.trace ≡ false)) (same_itself (words.trace ≡ false)) (run_text words job due.0) (run_text changed job due_other.0)
      (λ after. (
        alike_traces words.trace (result_text job after) steps due.0 due_other.0 due.1.schedule due_other.1.schedule,
        λ none. ap (λ (t : List ℕ). result_text job after ++ t) (one_untraced words.trace steps due.0 due_other.0 none),
      ))
      status other text different due.2 due_other.2

  pub alike_run : AreAlike (SameText (words.trace ≡ false)) (DueRun words job) (DueRun (record words { workers = workers }) job)
  unfolding changed
  alike_run = alike_by_steps words.block words.choice job (SameText (words.trace ≡ false)) (same_itself (words.trace ≡ false)) (DueEvents words job) (DueEvents changed job) alike_events

-- two traces by the same words are one where they are left out, or where one worker runs
one_trace : (words : RunWords) (steps : List Step) (events others : List Event) → HasOneRunText words
    → AreEventsOf words.workers steps events → AreEventsOf words.workers steps others → trace_part words.trace steps events ≡ trace_part words.trace steps others
one_trace words steps events others (inl none) are are_others = one_untraced words.trace steps events others none
one_trace words steps events others (inr one) are are_others =
    ap (λ (es : List Event). trace_part words.trace steps es) (are.alone one ∙ sym (are_others.alone one))

module _ (words : RunWords) (job : Job) (valid : IsJob job) where
  steps : List Step
  steps = steps_by job words.block words.choice

  same_events : AreAlike (SameText (HasOneRunText words)) (DueEvents words job) (DueEvents words job)
  unfolding steps
  same_events status other text different due due_other =
      alike_meaning job valid (SameText (HasOneRunText words)) (same_itself (HasOneRunText words)) (run_text words job due.0) (run_text words job due_other.0)
      (λ after. (
        alike_traces words.trace (result_text job after) steps due.0 due_other.0 due.1.schedule due_other.1.schedule,
        λ one. ap (λ (t : List ℕ). result_text job after ++ t) (one_trace words steps due.0 due_other.0 one due.1 due_other.1),
      ))
      status other text different due.2 due_other.2

  pub same_run : AreAlike (SameText (HasOneRunText words)) (DueRun words job) (DueRun words job)
  same_run = alike_by_steps words.block words.choice job (SameText (HasOneRunText words)) (same_itself (HasOneRunText words)) (DueEvents words job) (DueEvents words job) same_events

  -- the steps in their order are a schedule
  some_events : IsSomeDue (DueEvents words job)
  unfolding steps
  some_events =
      let events = in_order (length steps) in
      let due = some_due_meaning job valid (run_text words job events) in
      (due.0, due.1, (events, record { schedule = order-schedule (step_access steps) (length steps); alone = λ is. refl }, due.2))

  pub some_run : IsSomeDue (DueRun words job)
  some_run = some_by_steps words.block words.choice job (DueEvents words job) some_events

-- ---- other words

-- without a trace the matrices alone are printed
untraced : (words : RunWords) (job : Job) (events : List Event) (after : List Grid) → words.trace ≡ false → run_text words job events after ≡ result_text job after
untraced words job events after none =
    ap (λ (trace : Bool). result_text job after ++ trace_part trace (steps_by job words.block words.choice) events) none ∙ append-nil (result_text job after)

printed_so : (job : Job) (printed other : PrintedText) → ((after : List Grid) → printed after ≡ other after) → (status : ℕ) (text : List ℕ)
    → DueMeaning job printed status text → DueMeaning job other status text
printed_so job printed other same status text (inl due) = inl (due.0, due.1, (due.2.0, due.2.1 ∙ same due.0))
printed_so job printed other same status text (inr bad) = inr bad

meaning_alone : (words : RunWords) (job : Job) (status : ℕ) (text : List ℕ) → words.trace ≡ false → DueRun words job status text → status ≢ 3
    → DueMeaning job (result_text job) status text
meaning_alone words job status text none due not =
    let events = due_unless_refused words.block words.choice job (DueEvents words job) status text due not in
    printed_so job (run_text words job events.0) (result_text job) (λ after. untraced words job events.0 after none) status text events.2

pub same_by_all_words : (job : Job) → IsJob job → (words changed : RunWords) → words.trace ≡ false → changed.trace ≡ false
    → (status other : ℕ) (text different : List ℕ) → DueRun words job status text → DueRun changed job other different
    → status ≢ 3 → other ≢ 3 → (status ≡ other) × (text ≡ different)
same_by_all_words job valid words changed none none_changed status other text different due due_other not not_other =
    same_meaning job valid (result_text job) status other text different
    (meaning_alone words job status text none due not) (meaning_alone changed job other different none_changed due_other not_other)
