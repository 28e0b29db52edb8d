use Rattle.std.proofs.Common.{ℕ, ◌≤◌, List, length, ap, arith}
use Rattle.job_blocks.proofs.TableSteps.{length-starts, start-value}
use Rattle.job_blocks.proofs.job_blocks.JobBlocks.start.Goals as goal

pub index-requires : goal.index-requires
index-requires c =
    let within : c.args.k ≤ length c.self.inside.job.now.matrices = rw (← c.self.view_is) at c.requires in
    omega (arith, within, c.self.inside.starts.ok.0, ap (λ (xs : List ℕ). length xs) c.self.invariant.starts_are, length-starts c.self.inside.b c.self.inside.job.now.matrices)

pub returns : goal.returns
returns c =
    let within : c.args.k ≤ length c.self.inside.job.now.matrices = rw (← c.self.view_is) at c.requires in
    rw (← c.self.view_is)
    (start-value c.self.inside.b c.self.inside.job.now.matrices c.self.inside.starts.items c.args.k c.index.result.now c.self.invariant.starts_are within c.index.ensures)
