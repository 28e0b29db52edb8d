use Rattle.std.proofs.Common.{◌≡◌, length}
use Rattle.flame_top.proofs.EventsAlone.{events-alone}
use Rattle.flame_top.proofs.workers.go_alone.Goals as goal

pub returns : goal.returns
returns c =
    let plan = c.args.plan.now in
    let counted : c.len.result ≡ length plan.steps.now = c.len.ensures in
    record {
      events = events-alone plan.workers plan.steps.now c.in_ok-schedule.schedule c.len.result counted c.in_ok-schedule.ensures;
      meaning = c.in_ok-outcome.ensures.meaning;
    }
