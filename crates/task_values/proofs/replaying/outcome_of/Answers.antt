use Rattle.std.proofs.Common.{length, sym, ap, subst, ◌∙◌}
use Rattle.job_blocks.specs.BlockedJobs.{BlockedJob, HaveBlockShapes, gathered_matrices}
use Rattle.step_replays.proofs.FrontLaws.{front-whole}
use Rattle.task_values.specs.Progress.{IsNoted}
use Rattle.task_values.proofs.Finals.{have-shapes, is-failure, matrices-are}
use Rattle.task_values.proofs.replaying.outcome_of.Goals as goal

pub gathered-requires : goal.gathered-requires
gathered-requires c =
    let r = c.args.run.now in
    let held = c.requires.gone.1 in
    subst (λ (x : BlockedJob). HaveBlockShapes x c.args.store.blocks.items) (sym c.requires.job)
    (have-shapes r c.requires.run c.requires.gone.0 c.args.store held (subst (IsNoted r.steps.now c.requires.gone.0 (length r.steps.now)) c.in-None.is held.noted))

pub returns-in_ok-gathered-in-None : goal.returns-in_ok-gathered-in-None
returns-in_ok-gathered-in-None c =
    let r = c.args.run.now in
    let held = c.requires.gone.1 in
    let none = subst (IsNoted r.steps.now c.requires.gone.0 (length r.steps.now)) c.in-None.is held.noted in (
      c.requires.gone.0,
      front-whole r.job.now r.b r.steps.now c.requires.gone.0 held.front,
      (
        none,
        c.in_ok-gathered-in-None.ensures
            ∙ ap (λ (x : BlockedJob). gathered_matrices x c.args.store.blocks.items) c.requires.job
            ∙ matrices-are r c.requires.run c.requires.gone.0 c.args.store held none,
      ),
    )

pub returns-in-Some : goal.returns-in-Some
returns-in-Some c =
    let r = c.args.run.now in
    let held = c.requires.gone.1 in (
      c.requires.gone.0,
      front-whole r.job.now r.b r.steps.now c.requires.gone.0 held.front,
      is-failure r c.requires.run c.requires.gone.0 c.in-Some.failure
          (subst (IsNoted r.steps.now c.requires.gone.0 (length r.steps.now)) c.in-Some.is held.noted),
    )
