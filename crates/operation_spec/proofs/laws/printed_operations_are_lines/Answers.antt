use Rattle.operation_spec.proofs.PrintedLines.{printed_lines}
use Rattle.operation_spec.proofs.laws.printed_operations_are_lines.Goals as goal

pub returns : goal.returns
returns c op valid has = printed_lines op valid has
