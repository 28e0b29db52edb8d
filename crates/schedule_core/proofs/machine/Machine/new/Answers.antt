use Rattle.std.proofs.Common.{List, length, ap, subst, sym, arith}
use Rattle.job_blocks.specs.BlockedJobs.{BlockedJob}
use Rattle.step_replays.specs.declared.step.Step.{Step}
use Rattle.step_replays.specs.Fits.{FitsJob}
use Rattle.schedule_core.specs.HeldSteps.{IsFirstHeld}
use Rattle.schedule_core.proofs.MachineSteps.{machine-first}
use Rattle.schedule_core.proofs.machine.Machine.new.Goals as goal

pub invariant_of-result : goal.invariant_of-result
invariant_of-result c = machine-first _ _ _ _
    (record { job = c.requires.job; size = c.requires.size; fit = subst (λ (l : List Step). FitsJob c.args.job.now c.args.b l) (sym c.as_slice.ensures) c.requires.fit })
    (omega (arith, c.requires.few, ap (λ (l : List Step). length l) c.as_slice.ensures)) c.in_ok-edges.ensures c.in_ok-turns.ensures
    (subst (λ (x : BlockedJob). IsFirstHeld x c.in_ok-held.held) c.in_ok-blocks.ensures c.in_ok-held.ensures)
