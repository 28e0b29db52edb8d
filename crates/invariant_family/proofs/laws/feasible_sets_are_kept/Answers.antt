use Rattle.invariant_family.proofs.Variants.{Contains-invariants}
use Rattle.invariant_family.proofs.laws.feasible_sets_are_kept.Goals as goal

pub returns : goal.returns
returns c op splits split dirs s in_splits in_dirs part feasible = Contains-invariants op splits split dirs s in_splits in_dirs part feasible
