use Rattle.std.proofs.Common.{◌≡◌}
use Rattle.residue_sums.specs.Sums.{part_count}
use Rattle.step_replays.specs.Fits.{length_of}
use Rattle.job_blocks.specs.BlockedJobs.{binding_at, operation_at}
use Rattle.job_blocks.proofs.TableSteps.{first_items}
use Rattle.job_blocks.proofs.job_blocks.JobBlocks.counts.Given as goal

abbrev pub invariant-loop-d : goal.invariant-loop-d
invariant-loop-d l =
    l.counts.items ≡ first_items (λ d. part_count (length_of (operation_at l.self l.s) l.self.job.matrices (binding_at l.self l.s) d) l.self.b) l.d
