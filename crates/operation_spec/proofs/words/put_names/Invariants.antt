use Rattle.std.proofs.Common.{◌≡◌, ◌++◌, drop}
use Rattle.operation_spec.specs.WordTexts.{words_text}
use Rattle.operation_spec.proofs.words.put_names.Given as goal

-- what is appended and the text of the names left is the text of all names
abbrev pub invariant-loop-name : goal.invariant-loop-name
invariant-loop-name l = l.out.items ++ words_text (drop l.name-index l.names) ≡ l.fn.out.items ++ words_text l.names
