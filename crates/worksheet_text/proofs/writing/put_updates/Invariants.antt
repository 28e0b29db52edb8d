use Rattle.std.proofs.Common.{◌≡◌, ◌++◌, drop}
use Rattle.std.specs.List.{flat_map}
use Rattle.worksheet_text.specs.SheetTexts.{update_line}
use Rattle.worksheet_text.proofs.writing.put_updates.Given as goal

-- what is appended and the text of the items left is the text of all
abbrev pub invariant-loop-task : goal.invariant-loop-task
invariant-loop-task l = l.out.items ++ flat_map update_line (drop l.task-index l.updates) ≡ l.fn.out.items ++ flat_map update_line l.updates
