use Rattle.std.proofs.Common.{ap₂, ◌∙◌}
use Rattle.equation.specs.declared.job.Job.{Job}
use Rattle.equation.specs.declared.job.Statement.{Statement}
use Rattle.step_replays.specs.Accesses.{operation_of}
use Rattle.job_blocks.proofs.StatementFacts.{own_statement}
use Rattle.job_blocks.proofs.job_blocks.JobBlocks.operation.Goals as goal

pub operation_of-requires : goal.operation_of-requires
operation_of-requires c = rw (c.job.ensures.job, c.statement.ensures.statement) (own_statement c.args.self.now c.args.s c.job.ensures.valid c.requires)

pub returns-clause-operation : goal.returns-clause-operation
returns-clause-operation c =
    c.operation_of.ensures ∙ ap₂ (λ (j : Job) (t : Statement). operation_of j t) c.job.ensures.job c.statement.ensures.statement
