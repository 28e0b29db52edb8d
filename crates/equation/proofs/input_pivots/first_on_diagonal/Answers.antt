use Rattle.std.proofs.Common.{refl, subst, below_more}
use Rattle.residue_sums.specs.Residues.{IsUnit}
use Rattle.equation.proofs.input_pivots.first_on_diagonal.Goals as goal

pub loop-i-preserved : goal.loop-i-preserved
loop-i-preserved c = below_more _ _ c.loop-i.invariant (subst (IsUnit c.args.m) c.entry.ensures (c.if-not-is_unit.ensures.0 refl))
