use Rattle.std.proofs.Common.{◌++◌}
use Rattle.operation_spec.specs.Splits.{IsSplit}
use Rattle.invariant_family.specs.Splits.{single_splits, pair_splits}
use Rattle.invariant_family.proofs.AllSplits.{All-splits, Contains-splits, splits-once}
use Rattle.invariant_family.proofs.NumberedFamilies.{variants_are_feasible, variants_keep_sublists, variants_go_along, variants_keep_each, variants_once, variants_count_up}
use Rattle.invariant_family.proofs.laws.family_is_exact.Goals as goal

pub returns-clause-feasible : goal.returns-clause-feasible
returns-clause-feasible c op = variants_are_feasible op (single_splits op ++ pair_splits op)

pub returns-clause-in_order : goal.returns-clause-in_order
returns-clause-in_order c op = variants_keep_sublists op (single_splits op ++ pair_splits op)

pub returns-clause-along : goal.returns-clause-along
returns-clause-along c op = variants_go_along op (single_splits op ++ pair_splits op) (IsSplit op) (All-splits op)

pub returns-clause-complete : goal.returns-clause-complete
returns-clause-complete c op split dirs s of_op in_dirs part feasible = variants_keep_each op (single_splits op ++ pair_splits op) split dirs s (Contains-splits op split of_op) in_dirs part feasible

pub returns-clause-once : goal.returns-clause-once
returns-clause-once c op = variants_once op (single_splits op ++ pair_splits op) (splits-once op)

pub returns-clause-numbers : goal.returns-clause-numbers
returns-clause-numbers c op k d below = variants_count_up op (single_splits op ++ pair_splits op) k d below
