use Rattle.std.proofs.Common.{sym, ap, ◌∙◌, subst}
use Rattle.job_blocks.specs.BlockedJobs.{BlockedJob, HaveBlockShapes, gathered_matrices}
use Rattle.block_store.specs.Seats.{key_of}
use Rattle.dispatcher.specs.Crews.{IsReplayFailure}
use Rattle.dispatcher.proofs.RunOutcomes.{bad-outcome, done-outcome, shapes}
use Rattle.dispatcher.proofs.finishing.outcome_by.Goals as goal

pub gathered-requires : goal.gathered-requires
gathered-requires c =
    let p = c.args.plan.now in
    let blocks = c.in_ok-closed-in-None.closed.blocks.items in
    subst (λ (x : BlockedJob). HaveBlockShapes x blocks) (sym c.in_ok-blocks-in-None.ensures)
    (shapes p.job.now p.b p.steps.now _ (key_of c.args.board) c.requires.board c.requires.plan.job c.requires.plan.size c.requires.plan.fit blocks c.in_ok-closed-in-None.ensures)

pub returns-in_ok-gathered-in-None : goal.returns-in_ok-gathered-in-None
returns-in_ok-gathered-in-None c =
    let p = c.args.plan.now in
    let blocks = c.in_ok-closed-in-None.closed.blocks.items in
    done-outcome p.job.now p.b p.steps.now _ (key_of c.args.board) c.requires.board c.requires.plan.job c.requires.plan.size c.requires.plan.fit blocks c.in_ok-closed-in-None.ensures
    c.in_ok-gathered-in-None.field-0 (subst (IsReplayFailure (key_of c.args.board)) c.in-None.is c.requires.failed)
    (c.in_ok-gathered-in-None.ensures ∙ ap (λ (x : BlockedJob). gathered_matrices x blocks) c.in_ok-blocks-in-None.ensures)

pub returns-in-Some : goal.returns-in-Some
returns-in-Some c =
    let p = c.args.plan.now in
    bad-outcome p.job.now p.b p.steps.now _ (key_of c.args.board) c.requires.board c.requires.plan.job c.requires.plan.size c.requires.plan.fit c.in-Some.failure
    (subst (IsReplayFailure (key_of c.args.board)) c.in-Some.is c.requires.failed)
