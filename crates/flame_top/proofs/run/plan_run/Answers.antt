use Rattle.std.proofs.Common.{inl}
use Rattle.flame_top.proofs.run.plan_run.Goals as goal

pub returns-in-Refused : goal.returns-in-Refused
returns-in-Refused c = inl (c.in-Ok.job, c.in-Ok.field-0-1, c.in-Ok.ensures.found, inl (rw c.in-Refused.is at c.in_ok-steps.ensures))
