use Rattle.std.proofs.Common.{ℕ, ◌<◌, subst, sym}
use Rattle.residue_sums.specs.Sums.{part_count}
use Rattle.job_blocks.proofs.ReadSteps.{pivots-cols, pivots-left, pivots-right, pivots-rows}
use Rattle.job_blocks.proofs.job_blocks.JobBlocks.pivot_reads.Goals as goal

pub diagonal_reads-requires : goal.diagonal_reads-requires
diagonal_reads-requires c = record {
  statement = c.requires;
  blocks = λ i below. pivots-left c.args.self.now c.args.s c.in-Left.ensures.valid c.requires c.in-Left.t (sym c.in-Left.ensures.form) i
      (subst (λ (n : ℕ). i < part_count n c.args.self.now.b) c.work_rows.ensures below);
}

pub diagonal_reads-requires-in-Right : goal.diagonal_reads-requires-in-Right
diagonal_reads-requires-in-Right c = record {
  statement = c.requires;
  blocks = λ i below. pivots-right c.args.self.now c.args.s c.in-Right.ensures.valid c.requires c.in-Right.u (sym c.in-Right.ensures.form) i
      (subst (λ (n : ℕ). i < part_count n c.args.self.now.b) c.work_cols.ensures below);
}

pub diagonal_reads-requires-in-Sylvester : goal.diagonal_reads-requires-in-Sylvester
diagonal_reads-requires-in-Sylvester c = record {
  statement = c.requires;
  blocks = λ i below. pivots-rows c.args.self.now c.args.s c.in-Sylvester.ensures.valid c.requires c.in-Sylvester.t c.in-Sylvester.u _
      (sym c.in-Sylvester.ensures.form) i (subst (λ (n : ℕ). i < part_count n c.args.self.now.b) c.work_rows-in-Sylvester.ensures below);
}

pub push_diagonal-requires : goal.push_diagonal-requires
push_diagonal-requires c = record {
  statement = c.requires;
  blocks = λ i below. pivots-cols c.args.self.now c.args.s c.in-Sylvester.ensures.valid c.requires c.in-Sylvester.t c.in-Sylvester.u _
      (sym c.in-Sylvester.ensures.form) i (subst (λ (n : ℕ). i < part_count n c.args.self.now.b) c.work_cols-in-Sylvester.ensures below);
}
