use Rattle.std.proofs.Common.{ap}
use Rattle.operation_spec.specs.declared.operation.Operation.{Operation}
use Rattle.job_blocks.proofs.job_blocks.JobBlocks.form.Goals as goal

pub returns-clause-form : goal.returns-clause-form
returns-clause-form c = ap (λ (o : Operation). o.form) c.operation.ensures.operation
