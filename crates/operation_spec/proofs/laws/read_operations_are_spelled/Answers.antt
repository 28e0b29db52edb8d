use Rattle.operation_spec.proofs.OperationTaken.{operation_taken}
use Rattle.operation_spec.proofs.laws.read_operations_are_spelled.Goals as goal

pub returns : goal.returns
returns c end lines op rest are read = operation_taken end lines op rest are read
