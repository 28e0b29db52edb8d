use Rattle.std.proofs.Common.{◌≡◌, ◌++◌, drop}
use Rattle.std.specs.List.{flat_map}
use Rattle.text_scan.specs.NormalTexts.{lines_text}
use Rattle.operation_spec.specs.OperationLines.{operation_lines}
use Rattle.job_text.proofs.writing.put_operations.Given as goal

-- what is appended, and the texts of the operations that are left
abbrev pub invariant-loop-operation : goal.invariant-loop-operation
invariant-loop-operation l = l.out.items ++ flat_map (λ op. lines_text (operation_lines op)) (drop l.operation-index l.operations) ≡ l.fn.out.items ++ flat_map (λ op. lines_text (operation_lines op)) l.operations
