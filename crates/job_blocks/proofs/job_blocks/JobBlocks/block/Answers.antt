use Rattle.std.proofs.Common.{ℕ, ◌≤◌, List, length, refl, ap, arith}
use Rattle.job_blocks.specs.BlockedJobs.{BlockedJob, HasBlock}
use Rattle.job_blocks.proofs.BlockCounts.{blocks_in-le, number-below}
use Rattle.job_blocks.proofs.TableSteps.{cols-value, length-cols, length-starts, start-value}
use Rattle.job_blocks.proofs.job_blocks.JobBlocks.block.Goals as goal

pub index-requires : goal.index-requires
index-requires c =
    let there : HasBlock (record { job = c.self.inside.job.now; b = c.self.inside.b }) c.args.k c.args.i c.args.j = rw (← c.self.view_is) at c.requires in
    omega (arith, there.matrix, c.self.inside.starts.ok.0, ap (λ (xs : List ℕ). length xs) c.self.invariant.starts_are, length-starts c.self.inside.b c.self.inside.job.now.matrices)

pub index-requires-2 : goal.index-requires-2
index-requires-2 c =
    let there : HasBlock (record { job = c.self.inside.job.now; b = c.self.inside.b }) c.args.k c.args.i c.args.j = rw (← c.self.view_is) at c.requires in
    omega (arith, there.matrix, c.self.inside.cols.ok.0, ap (λ (xs : List ℕ). length xs) c.self.invariant.cols_are, length-cols c.self.inside.b c.self.inside.job.now.matrices)

pub overflow_mul-result : goal.overflow_mul-result
overflow_mul-result c =
    let x : BlockedJob = record { job = c.self.inside.job.now; b = c.self.inside.b } in
    let there : HasBlock x c.args.k c.args.i c.args.j = rw (← c.self.view_is) at c.requires in
    let cols = cols-value x.b x.job.matrices c.self.inside.cols.items c.args.k c.index-2.result.now c.self.invariant.cols_are there.matrix c.index-2.ensures in
    rw cols (omega (arith, number-below x c.args.k c.args.i c.args.j there, blocks_in-le x.b x.job.matrices c.self.invariant.size, c.self.invariant.valid.entries))

pub overflow_add-result : goal.overflow_add-result
overflow_add-result c =
    let x : BlockedJob = record { job = c.self.inside.job.now; b = c.self.inside.b } in
    let there : HasBlock x c.args.k c.args.i c.args.j = rw (← c.self.view_is) at c.requires in
    let cols = cols-value x.b x.job.matrices c.self.inside.cols.items c.args.k c.index-2.result.now c.self.invariant.cols_are there.matrix c.index-2.ensures in
    rw cols (omega (arith, number-below x c.args.k c.args.i c.args.j there, blocks_in-le x.b x.job.matrices c.self.invariant.size, c.self.invariant.valid.entries))

pub overflow_add-result-2 : goal.overflow_add-result-2
overflow_add-result-2 c =
    let x : BlockedJob = record { job = c.self.inside.job.now; b = c.self.inside.b } in
    let there : HasBlock x c.args.k c.args.i c.args.j = rw (← c.self.view_is) at c.requires in
    let cols = cols-value x.b x.job.matrices c.self.inside.cols.items c.args.k c.index-2.result.now c.self.invariant.cols_are there.matrix c.index-2.ensures in
    let within : c.args.k ≤ length x.job.matrices = omega (arith, there.matrix) in
    let first = start-value x.b x.job.matrices c.self.inside.starts.items c.args.k c.index.result.now c.self.invariant.starts_are within c.index.ensures in
    rw (first, cols) (omega (arith, number-below x c.args.k c.args.i c.args.j there, blocks_in-le x.b x.job.matrices c.self.invariant.size, c.self.invariant.valid.entries))

pub returns : goal.returns
returns c =
    let x : BlockedJob = record { job = c.self.inside.job.now; b = c.self.inside.b } in
    let there : HasBlock x c.args.k c.args.i c.args.j = rw (← c.self.view_is) at c.requires in
    let cols = cols-value x.b x.job.matrices c.self.inside.cols.items c.args.k c.index-2.result.now c.self.invariant.cols_are there.matrix c.index-2.ensures in
    let within : c.args.k ≤ length x.job.matrices = omega (arith, there.matrix) in
    let first = start-value x.b x.job.matrices c.self.inside.starts.items c.args.k c.index.result.now c.self.invariant.starts_are within c.index.ensures in
    rw (← c.self.view_is, first, cols) refl
