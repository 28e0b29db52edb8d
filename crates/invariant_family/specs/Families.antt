-- The family of an operation: all feasible sets, for each split and its directions, in order.
use Rattle.std.specs.Prelude.{ℕ, zero, suc, ◌+◌, List, [], ◌∷◌, ◌++◌, map, filter, slice_get, Option, None}
use Rattle.std.specs.List.{flat_map}
use Rattle.operation_spec.specs.declared.operation.Operation.{Operation}
use Rattle.operation_spec.specs.declared.split.Split.{Split}
use Rattle.operation_spec.specs.declared.split.Dirs.{Dirs}
use Rattle.operation_spec.specs.declared.task.Task.{Task}
use Rattle.task_graph.specs.Order.{tasks_of}
use Rattle.invariant_family.specs.declared.variant.Variant.{Variant}
use Rattle.invariant_family.specs.Splits.{two_parts, single_splits, pair_splits, directions_of}
use Rattle.invariant_family.specs.Feasible.{is_feasible}

-- all subsets of a list, by number, where the item at place p counts 2^p: each subset of the items behind
-- comes first without the head and then with it
abbrev pub subsets : List Task → List (List Task)
subsets [] = [] ∷ []
subsets (x ∷ xs) = flat_map (λ s. s ∷ (x ∷ s) ∷ []) (subsets xs)

-- the feasible sets of a split and its directions
abbrev pub feasible_sets : Operation → Split → Dirs → List (List Task)
feasible_sets op split dirs = filter (is_feasible op split dirs) (subsets (tasks_of op (two_parts op split)))

-- a loop invariant without its number
pub record Invariant : Type 0 where
  pub split : Split
  pub dirs : Dirs
  pub kept : List Task

abbrev pub invariant_of : Split → Dirs → List Task → Invariant
invariant_of split dirs s = record { split = split; dirs = dirs; kept = s }

-- the loop invariants along a split in its directions
abbrev pub invariants_in : Operation → Split → Dirs → List Invariant
invariants_in op split dirs = map (invariant_of split dirs) (feasible_sets op split dirs)

-- along a split, in each of its directions
abbrev pub invariants_of_split : Operation → Split → List Invariant
invariants_of_split op split = flat_map (invariants_in op split) (directions_of split)

-- along these splits
abbrev pub invariants_along : Operation → List Split → List Invariant
invariants_along op splits = flat_map (invariants_of_split op) splits

-- a variant without its number
abbrev pub invariant_of_variant : Variant → Invariant
invariant_of_variant v = record { split = v.split; dirs = v.dirs; kept = v.kept }

-- numbered from n on
abbrev pub numbered_from : ℕ → List Invariant → List Variant
numbered_from n [] = []
numbered_from n (v ∷ vs) = record { number = n; split = v.split; dirs = v.dirs; kept = v.kept } ∷ numbered_from (n + 1) vs

-- the family: along each dimension alone, and then along each two
abbrev pub family_of : Operation → List Variant
family_of op = numbered_from 1 (invariants_along op (single_splits op ++ pair_splits op))

-- the variant of a list with a number, counted from 1
abbrev pub variant_numbered : List Variant → ℕ → Option Variant
variant_numbered variants zero = None
variant_numbered variants (suc place) = slice_get variants place
