use Rattle.std.proofs.Common.{◌≡◌, ◌++◌, codes, drop, map}
use Rattle.text_scan.specs.NormalTexts.{lines_text}
use Rattle.operation_spec.specs.OperationLines.{operand_line}
use Rattle.operation_spec.proofs.writing.put_knowns.Given as goal

-- what is appended and the lines of the operands left are the lines of all operands
abbrev pub invariant-loop-known : goal.invariant-loop-known
invariant-loop-known l = l.out.items ++ lines_text (map (operand_line l.dims (codes "known")) (drop l.known-index l.knowns))
    ≡ l.fn.out.items ++ lines_text (map (operand_line l.dims (codes "known")) l.knowns)
