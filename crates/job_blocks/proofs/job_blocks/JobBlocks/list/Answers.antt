use Rattle.std.proofs.Common.{ℕ, ◌-◌, ◌≤◌, List, length, ap, arith}
use Rattle.step_replays.specs.Accesses.{blocks_in}
use Rattle.job_blocks.specs.BlockedJobs.{HasStatement}
use Rattle.job_blocks.proofs.TableSteps.{length-lists, list-value}
use Rattle.job_blocks.proofs.job_blocks.JobBlocks.list.Goals as goal

pub overflow_sub-s : goal.overflow_sub-s
overflow_sub-s c = omega (arith, c.requires.from)

pub index-requires : goal.index-requires
index-requires c =
    let job = c.self.inside.job.now in
    let there : HasStatement (record { job = job; b = c.self.inside.b }) c.args.s = rw (← c.self.view_is) at c.requires in
    omega (arith, there.within, c.self.inside.lists.ok.0, ap (λ (xs : List ℕ). length xs) c.self.invariant.lists_are, length-lists job (blocks_in c.self.inside.b job.matrices))

pub returns : goal.returns
returns c =
    let job = c.self.inside.job.now in
    let there : HasStatement (record { job = job; b = c.self.inside.b }) c.args.s = rw (← c.self.view_is) at c.requires in
    let within : c.args.s - 1 ≤ length job.statements = omega (arith, there.within) in
    rw (← c.self.view_is)
    (list-value job (blocks_in c.self.inside.b job.matrices) c.self.inside.lists.items (c.args.s - 1) c.index.result.now c.self.invariant.lists_are within c.index.ensures)
