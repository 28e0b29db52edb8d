use Rattle.std.proofs.Common.{ℕ, ◌+◌, ◌∙◌, subst, arith}
use Rattle.matrix_parts.specs.Lent.{grid_of}
use Rattle.matrix_parts.specs.Opers.{op_table}
use Rattle.matrix_parts.proofs.Kept.{IsKept-then}
use Rattle.part_updates.specs.Changes.{part_product, IsChanged}
use Rattle.part_updates.proofs.ChangedAreas.{changed_beside}
use Rattle.part_updates.specs.ProductFactors.{second_table}
use Rattle.part_updates.proofs.updates.columns.update_columns.Goals as goal

pub loop-left-preserved : goal.loop-left-preserved
loop-left-preserved c = record {
  loan = c.update_needed.ensures.loan ∙ c.loop-left.invariant.loan;
  part = c.update_needed.ensures.part;
  kept = IsKept-then _ _ _ c.loop-left.invariant.kept c.update_needed.ensures.kept;
  end = omega arith;
  changed = changed_beside c.args.change.now.m c.args.change.now.minus c.args.change.now.inside
      (part_product c.args.change.now.m c.args.depth.inner c.args.depth.height (op_table c.args.factors.now.first) (second_table c.args.change.now.m c.args.factors.now))
      0 c.args.w.now.rows 0 c.loop-left.left (c.loop-left.left + c.min-lines.result) (grid_of c.args.w.now) (grid_of c.loop-left.w) (grid_of c.update_needed.new.w)
      (omega arith) (omega arith) (omega arith) (omega arith) c.loop-left.invariant.changed
      (subst (λ (r : ℕ). IsChanged c.args.change.now.m c.args.change.now.minus c.args.change.now.inside
      (part_product c.args.change.now.m c.args.depth.inner c.args.depth.height (op_table c.args.factors.now.first) (second_table c.args.change.now.m c.args.factors.now))
      0 r c.loop-left.left (c.loop-left.left + c.min-lines.result) (grid_of c.loop-left.w) (grid_of c.update_needed.new.w))
      c.loop-left.invariant.kept.rows c.update_needed.ensures.changed);
}
