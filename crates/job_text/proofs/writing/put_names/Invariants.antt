use Rattle.std.proofs.Common.{◌≡◌, ◌++◌, drop, map}
use Rattle.operation_spec.specs.OperationLines.{nth_name}
use Rattle.operation_spec.specs.WordTexts.{words_text}
use Rattle.job_text.proofs.writing.put_names.Given as goal

-- what is appended, and the texts of the names that are left
abbrev pub invariant-loop-n : goal.invariant-loop-n
invariant-loop-n l = l.out.items ++ words_text (map (nth_name l.names) (drop l.n-index l.numbers)) ≡ l.fn.out.items ++ words_text (map (nth_name l.names) l.numbers)
