use Rattle.std.proofs.Common.{◌≡◌, true}
use Rattle.std.specs.Prelude.{Contains}
use Rattle.std.proofs.lemmas.List.Elements.{All-contains_itself}
use Rattle.task_graph.specs.Order.{tasks_of}
use Rattle.invariant_family.specs.Splits.{two_parts}
use Rattle.invariant_family.specs.Feasible.{is_feasible}
use Rattle.invariant_family.specs.Sublists.{IsSublist}
use Rattle.invariant_family.proofs.Variants.{All-invariants, invariants_go_along, feasible_sets_pass, feasible_sets_are_sublists}
use Rattle.invariant_family.proofs.laws.invariants_are_feasible.Goals as goal

pub returns-clause-feasible : goal.returns-clause-feasible
returns-clause-feasible c op splits = All-invariants op (λ split dirs s. is_feasible op split dirs s ≡ true) (feasible_sets_pass op) splits

pub returns-clause-in_order : goal.returns-clause-in_order
returns-clause-in_order c op splits = All-invariants op (λ split dirs s. IsSublist s (tasks_of op (two_parts op split))) (feasible_sets_are_sublists op) splits

pub returns-clause-along : goal.returns-clause-along
returns-clause-along c op splits = invariants_go_along op (Contains splits) splits (All-contains_itself splits)
