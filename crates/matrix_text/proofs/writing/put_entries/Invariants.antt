use Rattle.std.proofs.Common.{◌≡◌, ◌++◌, drop}
use Rattle.matrix_text.specs.MatrixTexts.{entry_lines}
use Rattle.matrix_text.proofs.writing.put_entries.Given as goal

abbrev pub invariant-loop-i : goal.invariant-loop-i
invariant-loop-i l = l.out.items ++ entry_lines l.cols (drop l.i l.entries) ≡ l.fn.out.items ++ entry_lines l.cols l.entries
