-- A trace as text: the steps of a run, the direct edges between them, and the events in which they begin and end.
use Rattle.std.specs.Prelude.{ℕ, ◌+◌, List, [], ◌∷◌, ◌++◌, length, codes, decimal, Bool, if◌then◌else◌}
use Rattle.std.specs.List.{flat_map}
use Rattle.dependence_queue.specs.declared.edge.Edge.{Edge}
use Rattle.step_replays.specs.declared.step.Step.{Step}
use Rattle.schedule_core.specs.declared.event.Event.{Event}
use Rattle.schedule_core.specs.declared.event.Event.TheVariants.{Start, Finish}
use Rattle.variant_report.specs.NumberLines.{number_line}
use Rattle.task_texts.specs.TaskTexts.{task_text}

-- the number of the step, that of its statement, and its task
abbrev pub step_line : ℕ → Step → List ℕ
step_line n step = decimal n ++ codes " " ++ decimal step.statement ++ codes " " ++ task_text step.task ++ codes "\n"

-- steps that are numbered from n on
abbrev pub step_lines : ℕ → List Step → List ℕ
step_lines n [] = []
step_lines n (step ∷ steps) = step_line n step ++ step_lines (n + 1) steps

abbrev pub steps_text : List Step → List ℕ
steps_text steps = number_line (codes "tasks") (length steps) ++ step_lines 1 steps

-- the word behind a space, where it holds
abbrev pub word_if : Bool → List ℕ → List ℕ
word_if holds word = if holds then codes " " ++ word else []

-- the kinds that hold, each behind a space
abbrev pub kinds_text : Edge → List ℕ
kinds_text e = word_if e.flow (codes "flow") ++ word_if e.anti (codes "anti") ++ word_if e.output (codes "output")

-- the steps from which and to which it goes, and its kinds
abbrev pub edge_line : Edge → List ℕ
edge_line e = decimal e.from ++ codes " " ++ decimal e.to ++ kinds_text e ++ codes "\n"

abbrev pub edges_text : List Edge → List ℕ
edges_text edges = number_line (codes "edges") (length edges) ++ flat_map edge_line edges

-- whether the step begins or ends, and its number
abbrev pub event_line : Event → List ℕ
event_line (Start n) = number_line (codes "start") n
event_line (Finish n) = number_line (codes "finish") n

abbrev pub schedule_text : List Event → List ℕ
schedule_text events = number_line (codes "schedule") (length events) ++ flat_map event_line events

-- the steps, the edges in the given order, and the schedule
abbrev pub trace_text : List Step → List Edge → List Event → List ℕ
trace_text steps edges schedule = codes "trace\n" ++ steps_text steps ++ edges_text edges ++ schedule_text schedule ++ codes "end\n"
