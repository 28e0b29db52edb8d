use Rattle.std.proofs.Common.{◌≡◌, List, length, ap, ◌∙◌, arith}
use Rattle.equation.specs.declared.job.Job.{Job}
use Rattle.equation.specs.declared.job.Statement.{Statement}
use Rattle.job_blocks.proofs.ReadSteps.{statement-read}
use Rattle.job_blocks.proofs.job_blocks.JobBlocks.statement.Goals as goal

pub overflow_sub-result : goal.overflow_sub-result
overflow_sub-result c = omega (arith, c.requires.from)

pub bounds-as_slice-s : goal.bounds-as_slice-s
bounds-as_slice-s c =
    let all : c.as_slice.result.now ≡ c.args.self.now.job.statements = c.as_slice.ensures ∙ ap (λ (j : Job). j.statements) c.job.ensures.job in
    omega (arith, c.requires.from, c.requires.within, ap (λ (xs : List Statement). length xs) all)

pub returns : goal.returns
returns c = record {
  statement = statement-read c.args.self.now c.args.s c.as_slice.result.now c.index-as_slice-s.result c.requires
      (c.as_slice.ensures ∙ ap (λ (j : Job). j.statements) c.job.ensures.job) c.index-as_slice-s.is;
  valid = c.job.ensures.valid;
}
