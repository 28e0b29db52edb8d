use Rattle.std.proofs.Common.{◌≡◌, ◌++◌, drop}
use Rattle.worksheet_text.specs.SheetTexts.{dims_text}
use Rattle.worksheet_text.proofs.writing.put_dims.Given as goal

-- what is appended and the text of the items left is the text of all
abbrev pub invariant-loop-d : goal.invariant-loop-d
invariant-loop-d l = l.out.items ++ dims_text l.op (drop l.d-index l.dims) ≡ l.fn.out.items ++ dims_text l.op l.dims
