use Rattle.invariant_family.proofs.Variants.{feasible_sets_by_number, invariants_once}
use Rattle.invariant_family.proofs.laws.invariants_come_in_order.Goals as goal

pub returns-clause-by_number : goal.returns-clause-by_number
returns-clause-by_number c op split dirs = feasible_sets_by_number op split dirs

pub returns-clause-once : goal.returns-clause-once
returns-clause-once c op splits once = invariants_once op splits once
