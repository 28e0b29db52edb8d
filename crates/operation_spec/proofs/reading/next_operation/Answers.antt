use Rattle.operation_spec.proofs.OperationTaken.{found_operation}
use Rattle.operation_spec.proofs.reading.next_operation.Goals as goal

pub returns-clause-found : goal.returns-clause-found
returns-clause-found c = found_operation _ _ _ _ c.are_lines.ensures c.read_block.ensures.read
