use Rattle.std.proofs.Common.{◌≡◌, [], length}
use Rattle.worksheet_text.specs.SheetWords.{tasks_from}
use Rattle.worksheet_text.proofs.words.read_tasks.Given as goal

-- the tasks so far, and those of the words that are left
abbrev pub invariant-loop-left : goal.invariant-loop-left
invariant-loop-left l = tasks_from l.left l.line l.found l.words ≡ tasks_from (length l.fn.words) l.line [] l.fn.words

abbrev pub decreases-loop-left : goal.decreases-loop-left
decreases-loop-left l = l.left
