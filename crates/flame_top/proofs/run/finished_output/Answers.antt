use Rattle.std.proofs.Common.{◌++◌, List, inl, subst}
use Rattle.step_replays.specs.declared.step.Step.{Step}
use Rattle.variant_report.specs.ResultTexts.{result_text}
use Rattle.flame_top.specs.Events.{AreEventsOf}
use Rattle.flame_top.specs.Meaning.{DueResult}
use Rattle.flame_top.specs.Run.{trace_part}
use Rattle.flame_top.proofs.run.finished_output.Goals as goal

pub returns-in-Done : goal.returns-in-Done
returns-in-Done c =
    let output = c.in_ok-result_output-in-Done in
    let schedule = c.args.finished.schedule in (
      schedule,
      subst (λ (steps : List Step). AreEventsOf c.args.words.now.workers steps schedule) c.requires.steps c.requires.finished.events,
      inl (subst
          (λ (steps : List Step). DueResult c.args.job.now (λ after. result_text c.args.job.now after ++ trace_part c.args.words.now.trace steps schedule) output.field-0.status output.field-0.text.items)
          c.requires.steps output.ensures),
    )
