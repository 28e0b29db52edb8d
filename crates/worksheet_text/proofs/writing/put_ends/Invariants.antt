use Rattle.std.proofs.Common.{◌≡◌, ◌++◌, drop}
use Rattle.worksheet_text.specs.SheetTexts.{ends_text}
use Rattle.worksheet_text.proofs.writing.put_ends.Given as goal

-- what is appended and the text of the items left is the text of all
abbrev pub invariant-loop-end : goal.invariant-loop-end
invariant-loop-end l = l.out.items ++ ends_text l.op (drop l.end-index l.ends) ≡ l.fn.out.items ++ ends_text l.op l.ends
