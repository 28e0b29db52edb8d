use Rattle.std.proofs.Common.{subst}
use Rattle.job_blocks.specs.BlockedJobs.{BlockedJob}
use Rattle.task_values.specs.Progress.{IsFirstStore}
use Rattle.task_values.proofs.FirstStores.{IsGone-first}
use Rattle.task_values.proofs.replaying.run_steps.Goals as goal

pub loop-n-init : goal.loop-n-init
loop-n-init c =
    IsGone-first c.args.run.now c.in_ok-store.store c.requires.run
    (subst (λ (x : BlockedJob). IsFirstStore x c.in_ok-store.store) c.requires.job c.in_ok-store.ensures)
