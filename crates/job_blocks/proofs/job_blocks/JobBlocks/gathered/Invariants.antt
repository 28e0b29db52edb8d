use Rattle.std.proofs.Common.{◌≡◌, ◌-◌, take}
use Rattle.step_replays.specs.Accesses.{blocks_in}
use Rattle.job_blocks.proofs.GatherSteps.{from_last}
use Rattle.job_blocks.proofs.TableSteps.{first_items}
use Rattle.job_blocks.proofs.job_blocks.JobBlocks.gathered.Given as goal

abbrev pub invariant-loop-done : goal.invariant-loop-done
invariant-loop-done l = record {
  left : l.left.items ≡ take (blocks_in l.self.b (take (l.count - l.done) l.self.job.matrices)) l.fn.blocks.items;
  matrices : l.last_first.items ≡ first_items (from_last l.self l.fn.blocks.items) l.done;
}
