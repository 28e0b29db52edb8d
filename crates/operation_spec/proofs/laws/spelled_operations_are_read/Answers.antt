use Rattle.operation_spec.proofs.OperationAgain.{spelled_operation_is_read}
use Rattle.operation_spec.proofs.laws.spelled_operations_are_read.Goals as goal

pub returns : goal.returns
returns c end lines op rest are spells = spelled_operation_is_read end lines op rest are spells
