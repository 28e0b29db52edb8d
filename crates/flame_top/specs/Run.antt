-- What is due for `run`: a refusal of its steps, or else the matrices that the job means, or its first bad pivot. Neither of these two depends
-- on the block size, on the variants or on the workers. Behind the matrices stands the trace, where it is asked for.
use Rattle.std.specs.Prelude.{ℕ, List, [], ◌++◌, Bool, if◌then◌else◌}
use Rattle.equation.specs.declared.job.Job.{Job}
use Rattle.step_replays.specs.declared.step.Step.{Step}
use Rattle.dependence_queue.specs.Edges.{edges_of}
use Rattle.schedule_core.specs.declared.event.Event.{Event}
use Rattle.schedule_core.specs.StepAccesses.{accesses_of}
use Rattle.variant_report.specs.ResultTexts.{result_text}
use Rattle.variant_report.specs.TraceTexts.{trace_text}
use Rattle.command_words.specs.declared.command.RunWords.{RunWords}
use Rattle.flame_top.specs.Events.{AreEventsOf}
use Rattle.flame_top.specs.Meaning.{DueMeaning, PrintedText}
use Rattle.flame_top.specs.Steps.{DueBySteps, steps_by}

-- the trace, where it is asked for: the steps, the direct edges between them, and in which order the steps began and ended
abbrev pub trace_part : Bool → List Step → List Event → List ℕ
trace_part trace steps events = if trace then trace_text steps (edges_of (accesses_of steps)) events else []

-- the matrix of each print, and that behind them
abbrev pub run_text : RunWords → Job → List Event → PrintedText
run_text words job events after = result_text job after ++ trace_part words.trace (steps_by job words.block words.choice) events

-- by a schedule of the steps
abbrev pub DueEvents : RunWords → Job → ℕ → List ℕ → Type 0
DueEvents words job status text = (events : List Event) × AreEventsOf words.workers (steps_by job words.block words.choice) events
    × DueMeaning job (run_text words job events) status text

abbrev pub DueRun : RunWords → Job → ℕ → List ℕ → Type 0
DueRun words job = DueBySteps words.block words.choice job (DueEvents words job)
