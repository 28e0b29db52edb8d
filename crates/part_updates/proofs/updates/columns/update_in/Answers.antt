use Rattle.std.proofs.Common.{◌≡◌, ℕ, zero, ◌+◌, ◌<◌, ◌∙◌, refl, subst, arith}
use Rattle.residue_sums.specs.Grids.{entry}
use Rattle.matrix_parts.specs.Lent.{grid_of}
use Rattle.matrix_parts.specs.Opers.{op_table}
use Rattle.matrix_parts.proofs.Kept.{IsKept-same, IsKept-then}
use Rattle.part_updates.specs.Changes.{part_product, IsChanged}
use Rattle.part_updates.proofs.ChangedAreas.{changed_residues}
use Rattle.part_updates.proofs.PartProducts.{updated_none, updated_more}
use Rattle.operand_lines.proofs.PartResidues.{IsFull-part, AreResidues-part, residue-part}
use Rattle.part_updates.specs.ProductFactors.{second_table}
use Rattle.part_updates.proofs.updates.columns.update_in.Goals as goal

pub loop-inner-init : goal.loop-inner-init
loop-inner-init c = record {
  loan = refl;
  part = c.requires.part;
  kept = IsKept-same c.args.w.now;
  end = omega arith;
  updated = updated_none c.args.change.now.m c.args.change.now.minus c.args.change.now.inside (op_table c.args.factors.now.first) (second_table c.args.change.now.m c.args.factors.now)
      (grid_of c.args.w.now) (IsFull-part c.args.w.now) c.requires.residues (residue-part c.args.change.now.m c.args.w.now c.requires.residues);
}

pub loop-inner-preserved : goal.loop-inner-preserved
loop-inner-preserved c =
    let part = part_product c.args.change.now.m c.loop-inner.inner c.min-height.result (op_table c.args.factors.now.first) (second_table c.args.change.now.m c.args.factors.now) in
    let changed = c.update_columns.ensures.changed in
    record {
      loan = c.update_columns.ensures.loan ∙ c.loop-inner.invariant.loan;
      part = c.update_columns.ensures.part;
      kept = IsKept-then _ _ _ c.loop-inner.invariant.kept c.update_columns.ensures.kept;
      end = omega arith;
      updated = updated_more c.args.change.now.m c.args.change.now.minus c.args.change.now.inside (op_table c.args.factors.now.first) (second_table c.args.change.now.m c.args.factors.now)
          c.loop-inner.inner c.min-height.result (grid_of c.args.w.now) (grid_of c.loop-inner.w) (grid_of c.update_columns.new.w)
          (omega (arith, c.modulus-modulus.ensures.range.at_least_two)) c.loop-inner.invariant.updated
          (subst (λ (r : ℕ). IsChanged c.args.change.now.m c.args.change.now.minus c.args.change.now.inside part 0 r 0 c.args.w.now.cols (grid_of c.loop-inner.w) (grid_of c.update_columns.new.w))
          c.loop-inner.invariant.kept.rows
          (subst (λ (q : ℕ). IsChanged c.args.change.now.m c.args.change.now.minus c.args.change.now.inside part 0 c.loop-inner.w.rows 0 q (grid_of c.loop-inner.w) (grid_of c.update_columns.new.w))
          c.loop-inner.invariant.kept.cols changed))
          (IsFull-part c.update_columns.new.w)
          (AreResidues-part c.args.change.now.m c.loop-inner.w c.update_columns.new.w c.update_columns.ensures.kept
          (changed_residues c.args.change.now.m c.args.change.now.minus c.args.change.now.inside part 0 c.loop-inner.w.rows 0 c.loop-inner.w.cols
          (grid_of c.loop-inner.w) (grid_of c.update_columns.new.w) changed
          (residue-part c.args.change.now.m c.loop-inner.w c.loop-inner.invariant.updated.residues)));
    }

pub update_columns-requires-clause-old : goal.update_columns-requires-clause-old
update_columns-requires-clause-old c = residue-part c.args.change.now.m c.loop-inner.w c.loop-inner.invariant.updated.residues
