use Rattle.std.proofs.Common.{◌≡◌, ◌-◌, ◌≤◌}
use Rattle.equation.specs.Kernels.{IsUpdated}
use Rattle.matrix_parts.specs.Lent.{grid_of, loan_of, IsPart, IsKept}
use Rattle.matrix_parts.specs.Opers.{op_table}
use Rattle.part_updates.specs.ProductFactors.{second_table}
use Rattle.part_updates.proofs.updates.columns.update_in.Given as goal

abbrev pub invariant-loop-inner : goal.invariant-loop-inner
invariant-loop-inner l = record {
  loan : loan_of l.w ≡ loan_of l.fn.w;
  part : IsPart l.w;
  kept : IsKept l.fn.w l.w;
  end : l.inner ≤ l.all;
  updated : IsUpdated l.change.m l.change.minus l.change.inside l.inner (op_table l.factors.first) (second_table l.change.m l.factors) (grid_of l.fn.w) (grid_of l.w);
}

abbrev pub decreases-loop-inner : goal.decreases-loop-inner
decreases-loop-inner l = l.all - l.inner
