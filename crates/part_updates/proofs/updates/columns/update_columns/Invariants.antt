use Rattle.std.proofs.Common.{◌≡◌, ◌-◌, ◌≤◌}
use Rattle.matrix_parts.specs.Lent.{grid_of, loan_of, IsPart, IsKept}
use Rattle.matrix_parts.specs.Opers.{op_table}
use Rattle.part_updates.specs.Changes.{part_product, IsChanged}
use Rattle.part_updates.specs.ProductFactors.{second_table}
use Rattle.part_updates.proofs.updates.columns.update_columns.Given as goal

abbrev pub invariant-loop-left : goal.invariant-loop-left
invariant-loop-left l = record {
  loan : loan_of l.w ≡ loan_of l.fn.w;
  part : IsPart l.w;
  kept : IsKept l.fn.w l.w;
  end : l.left ≤ l.cols;
  changed : IsChanged l.change.m l.change.minus l.change.inside (part_product l.change.m l.depth.inner l.depth.height (op_table l.factors.first) (second_table l.change.m l.factors))
      0 l.fn.w.rows 0 l.left (grid_of l.fn.w) (grid_of l.w);
}

abbrev pub decreases-loop-left : goal.decreases-loop-left
decreases-loop-left l = l.cols - l.left
