use Rattle.std.proofs.Common.{subst, List}
use Rattle.std.specs.Prelude.{IfOk}
use Rattle.std.proofs.lemmas.Result.{IfOk-weaker}
use Rattle.step_replays.specs.declared.step.Step.{Step}
use Rattle.task_values.specs.Outcomes.{IsReplayOutcome}
use Rattle.task_values.proofs.Meanings.{only-meaning, outcome-means}
use Rattle.task_values.proofs.replaying.replay.Goals as goal

pub returns-clause-meaning : goal.returns-clause-meaning
returns-clause-meaning c =
    let steps = subst (λ (l : List Step). IfOk c.outcome_of.result (IsReplayOutcome c.args.job.now c.args.b l)) c.as_slice.ensures c.outcome_of.ensures in
    IfOk-weaker c.outcome_of.result _ _
    (λ o is. outcome-means c.args.job.now c.args.b c.args.steps.now c.requires.size c.requires.job c.requires.fit o is) steps

pub returns-clause-only : goal.returns-clause-only
returns-clause-only c =
    let steps = subst (λ (l : List Step). IfOk c.outcome_of.result (IsReplayOutcome c.args.job.now c.args.b l)) c.as_slice.ensures c.outcome_of.ensures in
    IfOk-weaker c.outcome_of.result _ _
    (λ o is. only-meaning c.args.job.now c.requires.job o (outcome-means c.args.job.now c.args.b c.args.steps.now c.requires.size c.requires.job c.requires.fit o is)) steps
