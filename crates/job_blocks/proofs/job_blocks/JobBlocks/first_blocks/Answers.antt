use Rattle.std.proofs.Common.{ℕ, ◌++◌, List, ap, ap₂, ◌∙◌}
use Rattle.residue_sums.specs.Grids.{Grid}
use Rattle.equation.specs.declared.job.Job.{Job}
use Rattle.job_blocks.specs.Tables.{matrix_blocks, zero_lists}
use Rattle.job_blocks.proofs.NumberedBlocks.{first_blocks-listed}
use Rattle.job_blocks.proofs.job_blocks.JobBlocks.first_blocks.Goals as goal

pub push_lists-requires : goal.push_lists-requires
push_lists-requires c = rw c.job-2.ensures.job c.job-2.ensures.valid.job

pub returns : goal.returns
returns c =
    let x = c.args.self.now in
    let own =
    c.in_ok-push_blocks.ensures
    ∙ ap (λ (xs : List Grid). xs ++ matrix_blocks c.b.result c.as_slice.result.now) c.in_ok-blocks.ensures.items
    ∙ ap₂ (λ (b : ℕ) (grids : List Grid). matrix_blocks b grids) c.b.ensures.size (c.as_slice.ensures ∙ ap (λ (j : Job). j.matrices) c.job.ensures.job) in
    first_blocks-listed x _ (c.in_ok-push_lists.ensures ∙ ap₂ (λ (xs : List Grid) (j : Job). xs ++ zero_lists j) own c.job-2.ensures.job)
