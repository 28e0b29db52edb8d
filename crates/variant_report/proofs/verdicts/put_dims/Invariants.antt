use Rattle.std.proofs.Common.{◌≡◌, ◌++◌, drop}
use Rattle.variant_report.specs.VerdictTexts.{dims_text}
use Rattle.variant_report.proofs.verdicts.put_dims.Given as goal

-- what is appended, and the dimensions that are left
abbrev pub invariant-loop-d : goal.invariant-loop-d
invariant-loop-d l = l.out.items ++ dims_text l.op (drop l.d-index l.dims) ≡ l.fn.out.items ++ dims_text l.op l.dims
