use Rattle.std.proofs.Common.{◌≡◌, ◌++◌, map}
use Rattle.task_graph.specs.Order.{numbers_below}
use Rattle.step_replays.specs.Accesses.{factor_number}
use Rattle.job_blocks.specs.BlockedJobs.{binding_at, operation_at}
use Rattle.job_blocks.proofs.job_blocks.JobBlocks.push_diagonal.Given as goal

abbrev pub invariant-loop-i : goal.invariant-loop-i
invariant-loop-i l =
    l.reads ≡ l.initial.reads ++ map (λ i. factor_number l.self.b l.self.job.matrices (operation_at l.self l.s) (binding_at l.self l.s) l.f i i) (numbers_below l.i)
