use Rattle.std.proofs.Common.{ap, get_or, ◌∙◌}
use Rattle.equation.specs.declared.job.Statement.{Statement}
use Rattle.step_replays.specs.declared.step.Step.{Step}
use Rattle.task_values.proofs.ReadRuns.{operation-is, step-is}
use Rattle.task_values.proofs.run.Run.task.Goals as goal

pub returns-clause-operation : goal.returns-clause-operation
returns-clause-operation c =
    c.index-as_slice-statement.is
    ∙ ap (λ (t : Statement). get_or c.as_slice-2.result.now t.operation c.index-as_slice-statement.result) c.index-as_slice-step.is
    ∙ operation-is c.args.self.now c.requires.run c.args.n c.requires.within c.index-self-n.result c.as_slice.result.now c.index-as_slice-step.result c.as_slice.ensures
    c.as_slice-2.result.now c.index-as_slice-statement.result c.as_slice-2.ensures

pub returns-clause-task : goal.returns-clause-task
returns-clause-task c = ap (λ (t : Step). t.task) (step-is c.args.self.now c.requires.run c.args.n c.requires.within c.index-self-n.result)
