use Rattle.operation_spec.proofs.PrintedTexts.{printed_operation_spelled}
use Rattle.operation_spec.proofs.laws.printed_operations_are_spelled.Goals as goal

pub returns : goal.returns
returns c op valid named = printed_operation_spelled op valid named
