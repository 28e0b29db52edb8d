use Rattle.std.proofs.Common.{ap, sym, ◌∙◌}
use Rattle.equation.specs.declared.job.Statement.{Statement}
use Rattle.step_replays.specs.Accesses.{pivot_number}
use Rattle.job_blocks.specs.BlockedJobs.{binding_at, number_at}
use Rattle.job_blocks.proofs.ReadSteps.{has-task, own-block, writes-work}
use Rattle.job_blocks.proofs.job_blocks.JobBlocks.write.Goals as goal

pub block-requires : goal.block-requires
block-requires c =
    rw c.statement.ensures.statement
    (own-block c.args.self.now c.args.s c.statement.ensures.valid c.requires.statement c.args.task
    (has-task c.args.self.now c.args.s c.args.task c.requires.task c.in_default.not-Pivots))

pub returns-in_default : goal.returns-in_default
returns-in_default c =
    let x = c.args.self.now in
    c.block.ensures
    ∙ ap (λ (t : Statement). number_at x t.bind.work c.args.task.i c.args.task.j) c.statement.ensures.statement
    ∙ sym (writes-work x.b x.job.matrices (binding_at x c.args.s) (pivot_number x.job x.b c.args.s) c.args.task.kind c.args.task.i c.args.task.j c.in_default.not-Pivots)
