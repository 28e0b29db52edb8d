-- What is found wrong at a place of a worksheet, and the first of several findings.
use Rattle.std.specs.Prelude.{List, [], ◌∷◌, Option, Some, None}
use Rattle.operation_spec.specs.declared.task.Task.{Task}
use Rattle.worksheet.specs.declared.verdict.Shown.{Shown}
use Rattle.worksheet.specs.declared.verdict.Shown.TheVariants as shown
use Rattle.worksheet.specs.declared.verdict.Verdict.{Verdict}
use Rattle.worksheet.specs.declared.verdict.Verdict.TheVariants.{Right, Wrong}
use Rattle.worksheet.specs.declared.verdict.WsPlace.{WsPlace}
use Rattle.worksheet_check.specs.declared.findings.Finding.{Finding}

abbrev pub finding : WsPlace → Shown → Shown → Finding
finding place found due = record { place = place; found = found; due = due }

-- a task, where there is one
abbrev pub task_shown : Option Task → Shown
task_shown None = shown.Nothing
task_shown (Some a) = shown.One a

-- the first finding of a list
abbrev pub first_finding : List (Option Finding) → Option Finding
first_finding [] = None
first_finding (None ∷ findings) = first_finding findings
first_finding (Some f ∷ findings) = Some f

-- right where nothing is found
abbrev pub verdict_by : Option Finding → Verdict
verdict_by None = Right
verdict_by (Some f) = Wrong f.place f.found f.due
