use Rattle.std.proofs.Common.{arith, ap}
use Rattle.job_blocks.specs.BlockedJobs.{block_total}
use Rattle.schedule_core.specs.Courses.{Course}
use Rattle.schedule_core.proofs.MachineOutcomes.{block-count}
use Rattle.schedule_core.proofs.machine.Machine.block.Goals as goal

pub index-requires : goal.index-requires
index-requires c = omega (
  arith,
  c.requires,
  block-count c.self.inside.run c.self.inside.edges c.self.inside.turns c.self.inside.held c.self.invariant,
  ap (λ (v : Course). block_total (record { job = v.job; b = v.b })) c.self.view_is,
)
