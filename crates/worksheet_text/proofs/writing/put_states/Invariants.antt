use Rattle.std.proofs.Common.{◌≡◌, ◌++◌, drop}
use Rattle.std.specs.List.{flat_map}
use Rattle.worksheet_text.specs.SheetTexts.{state_line}
use Rattle.worksheet_text.proofs.writing.put_states.Given as goal

-- what is appended and the text of the items left is the text of all
abbrev pub invariant-loop-state : goal.invariant-loop-state
invariant-loop-state l = l.out.items ++ flat_map (state_line l.op l.word) (drop l.state-index l.states) ≡ l.fn.out.items ++ flat_map (state_line l.op l.word) l.states
