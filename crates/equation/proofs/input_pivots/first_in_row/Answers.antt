use Rattle.std.proofs.Common.{◌∙◌, ap, refl, subst, below_more}
use Rattle.residue_sums.specs.Residues.{IsUnit}
use Rattle.equation.specs.Candidates.{combined_at}
use Rattle.equation.proofs.input_pivots.first_in_row.Goals as goal

pub loop-j-preserved : goal.loop-j-preserved
loop-j-preserved c = below_more _ _ c.loop-j.invariant
    (subst (IsUnit c.args.m) (c.combined.ensures.value ∙ ap (combined_at c.args.m c.args.minus c.args.a) c.entry.ensures) (c.if-not-is_unit.ensures.0 refl))
