use Rattle.std.proofs.Common.{◌≡◌, ℕ, ◌≤◌, List, length, ap, subst, ◌∙◌, arith}
use Rattle.step_replays.specs.Accesses.{blocks_in}
use Rattle.job_blocks.specs.BlockedJobs.{BlockedJob, block_total}
use Rattle.job_blocks.proofs.BlockCounts.{block_total-few}
use Rattle.job_blocks.proofs.TableSteps.{length-lists, list-all, list-value, list_start}
use Rattle.job_blocks.proofs.job_blocks.JobBlocks.count.Goals as goal

pub index-requires : goal.index-requires
index-requires c =
    let first = blocks_in c.self.inside.b c.self.inside.job.now.matrices in
    omega (arith, c.len.ensures, c.self.inside.lists.ok.0, ap (λ (xs : List ℕ). length xs) c.self.invariant.lists_are, length-lists c.self.inside.job.now first)

pub returns : goal.returns
returns c =
    let job = c.self.inside.job.now in
    let first = blocks_in c.self.inside.b job.matrices in
    let x : BlockedJob = record { job = job; b = c.self.inside.b } in
    let within : c.len.result ≤ length job.statements = omega (arith, c.len.ensures) in
    let value = list-value job first c.self.inside.lists.items c.len.result c.index.result.now c.self.invariant.lists_are within c.index.ensures in
    let total : c.index.result.now ≡ block_total x = value ∙ ap (list_start job first) c.len.ensures ∙ list-all job first in
    let few = block_total-few x (record { job = c.self.invariant.valid; size = c.self.invariant.size }) in
    record {
      count = subst (λ (y : BlockedJob). c.index.result.now ≡ block_total y) c.self.view_is total;
      few = omega (arith, total, few);
      valid = rw (← c.self.view_is) (record { job = c.self.invariant.valid; size = c.self.invariant.size });
    }
