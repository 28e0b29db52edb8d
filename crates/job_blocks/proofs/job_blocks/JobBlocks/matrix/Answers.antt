use Rattle.std.proofs.Common.{◌≡◌, List, length, ap, ◌∙◌, arith}
use Rattle.residue_sums.specs.Grids.{Grid}
use Rattle.equation.specs.declared.job.Job.{Job}
use Rattle.job_blocks.proofs.ReadSteps.{matrix-read}
use Rattle.job_blocks.proofs.job_blocks.JobBlocks.matrix.Goals as goal

pub bounds-as_slice-k : goal.bounds-as_slice-k
bounds-as_slice-k c =
    let all : c.as_slice.result.now ≡ c.args.self.now.job.matrices = c.as_slice.ensures ∙ ap (λ (j : Job). j.matrices) c.job.ensures.job in
    omega (arith, c.requires, ap (λ (xs : List Grid). length xs) all)

pub returns : goal.returns
returns c =
    matrix-read c.args.self.now c.args.k c.as_slice.result.now c.index-as_slice-k.result c.requires
    (c.as_slice.ensures ∙ ap (λ (j : Job). j.matrices) c.job.ensures.job) c.index-as_slice-k.is
