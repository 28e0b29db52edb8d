-- The loop invariants along splits: what each has, which there are, and that none stands twice. Cited by the laws of
-- families.
use Rattle.std.proofs.Common.{◌≡◌, ◌≢◌, ◌<◌, List, [], ◌∷◌, Bool, true, false, if◌then◌else◌, map, refl, sym, ap, ◌∙◌, get_or, arith}
use Rattle.std.specs.Prelude.{All, AllPairs, Contains}
use Rattle.std.specs.List.{flat_map}
use Rattle.std.proofs.lemmas.List.Elements.{All-nil, All-cons, All-map, All-filter, All-contains_itself, filter_passes}
use Rattle.std.proofs.lemmas.List.Kept.{AllPairs-cons, AllPairs-filter}
use Rattle.operation_spec.specs.declared.operation.Operation.{Operation}
use Rattle.operation_spec.specs.declared.split.Split.{Split}
use Rattle.operation_spec.specs.declared.split.Dirs.{Dirs}
use Rattle.operation_spec.specs.declared.split.Dir.{Dir}
use Rattle.operation_spec.specs.declared.split.Dir.TheVariants.{Forward, Backward}
use Rattle.operation_spec.specs.declared.task.Task.{Task}
use Rattle.task_graph.specs.Order.{tasks_of}
use Rattle.task_graph.proofs.TasksSorted.{tasks_of-once}
use Rattle.invariant_family.specs.Splits.{two_parts, both_directions, directions_of}
use Rattle.invariant_family.specs.Feasible.{is_feasible}
use Rattle.invariant_family.specs.Families.{Invariant, subsets, feasible_sets, invariant_of, invariants_in, invariants_of_split, invariants_along}
use Rattle.invariant_family.specs.Sublists.{IsSublist, set_number}
use Rattle.invariant_family.proofs.FlatMaps.{All-flat_map, Contains-flat_map, Contains-map, Contains-filter, AllPairs-map, AllPairs-flat_map}
use Rattle.invariant_family.proofs.Subsets.{subsets_are_sublists, sublists_are_subsets, subsets_by_number}

-- what holds of the sets of each split and directions holds of the sets of all invariants
pub All-invariants : (op : Operation) (P : Split → Dirs → List Task → Type 0) → ((split : Split) (dirs : Dirs) → All (P split dirs) (feasible_sets op split dirs))
    → (splits : List Split) → All (λ v. P v.split v.dirs v.kept) (invariants_along op splits)
All-invariants op P each splits = All-flat_map Q (invariants_of_split op) splits (λ k d below. of_split (get_or splits k d))
  where
    Q : Invariant → Type 0
    Q v = P v.split v.dirs v.kept

    of_split : (split : Split) → All Q (invariants_of_split op split)
    of_split split = All-flat_map Q (invariants_in op split) (directions_of split)
        (λ k d below. All-map Q (invariant_of split (get_or (directions_of split) k d)) (feasible_sets op split (get_or (directions_of split) k d)) (each split (get_or (directions_of split) k d)))

-- an invariant goes along one of the splits, in one of its directions
pub invariants_go_along : (op : Operation) (Q : Split → Type 0) (splits : List Split) → All Q splits
    → All (λ v. Q v.split × Contains (directions_of v.split) v.dirs) (invariants_along op splits)
invariants_go_along op Q splits each = All-flat_map P (invariants_of_split op) splits (λ k d below. of_split (get_or splits k d) (each k d below))
  where
    P : Invariant → Type 0
    P v = Q v.split × Contains (directions_of v.split) v.dirs

    of_split : (split : Split) → Q split → All P (invariants_of_split op split)
    of_split split q = All-flat_map P (invariants_in op split) (directions_of split)
        (λ k d below. All-map P (invariant_of split (get_or (directions_of split) k d)) (feasible_sets op split (get_or (directions_of split) k d))
        (λ i e within. (q, All-contains_itself (directions_of split) k d below)))

-- a set that is kept is feasible
pub feasible_sets_pass : (op : Operation) (split : Split) (dirs : Dirs) → All (λ s. is_feasible op split dirs s ≡ true) (feasible_sets op split dirs)
feasible_sets_pass op split dirs = filter_passes (is_feasible op split dirs) (subsets (tasks_of op (two_parts op split)))

-- and a part of the tasks, in their order
pub feasible_sets_are_sublists : (op : Operation) (split : Split) (dirs : Dirs) → All (λ s. IsSublist s (tasks_of op (two_parts op split))) (feasible_sets op split dirs)
feasible_sets_are_sublists op split dirs =
    All-filter (is_feasible op split dirs) (λ s. IsSublist s (tasks_of op (two_parts op split))) (subsets (tasks_of op (two_parts op split))) (subsets_are_sublists (tasks_of op (two_parts op split)))

-- each such set is kept by one of the invariants
pub Contains-invariants : (op : Operation) (splits : List Split) (split : Split) (dirs : Dirs) (s : List Task)
    → Contains splits split → Contains (directions_of split) dirs → IsSublist s (tasks_of op (two_parts op split)) → is_feasible op split dirs s ≡ true
    → Contains (invariants_along op splits) (invariant_of split dirs s)
Contains-invariants op splits split dirs s in_splits in_dirs part feasible =
    let set = Contains-filter (is_feasible op split dirs) (subsets (tasks_of op (two_parts op split))) s (sublists_are_subsets (tasks_of op (two_parts op split)) s part) feasible in
    let kept = Contains-map (invariant_of split dirs) (feasible_sets op split dirs) s set in
    Contains-flat_map (invariants_of_split op) splits split (invariant_of split dirs s) in_splits (Contains-flat_map (invariants_in op split) (directions_of split) dirs (invariant_of split dirs s) in_dirs kept)

-- the sets of a split and its directions come by ascending number
pub feasible_sets_by_number : (op : Operation) (split : Split) (dirs : Dirs)
    → AllPairs (λ a b. set_number (tasks_of op (two_parts op split)) a < set_number (tasks_of op (two_parts op split)) b) (feasible_sets op split dirs)
feasible_sets_by_number op split dirs =
    let tasks = tasks_of op (two_parts op split) in
    AllPairs-filter (λ a b. set_number tasks a < set_number tasks b) (is_feasible op split dirs) (subsets tasks) (subsets_by_number tasks (tasks_of-once op (two_parts op split)))

-- no direction stands twice
single_once : {X : Type 0} (x : X) → AllPairs (λ a b. a ≢ b) (x ∷ [])
single_once x = AllPairs-cons (λ a b. a ≢ b) x [] (All-nil (λ b. x ≢ b)) (λ i j d before below. absurd (omega arith))

both_once : AllPairs (λ a b. a ≢ b) both_directions
both_once = AllPairs-cons (λ a b. a ≢ b) Forward (Backward ∷ []) (All-cons (λ b. Forward ≢ b) Backward [] (λ e. cc) (All-nil (λ b. Forward ≢ b))) (single_once Backward)

seconds_once : (single : Bool) → AllPairs (λ a b. a ≢ b) (if single then Forward ∷ [] else both_directions)
seconds_once true = single_once Forward
seconds_once false = both_once

abbrev with_first : Dir → Dir → Dirs
with_first first second = record { first = first; second = second }

-- directions with each first one, and with each of these second ones
dirs_once : (seconds : List Dir) → AllPairs (λ a b. a ≢ b) seconds
    → AllPairs (λ a b. a ≢ b) (flat_map (λ first. map (with_first first) seconds) both_directions)
dirs_once seconds once = AllPairs-flat_map (λ a b. a ≢ b) (λ first. map (with_first first) seconds) (λ first dirs. dirs.first ≡ first) (λ a b. a ≢ b)
    (λ a b u v ne p q same. ne (sym p ∙ ap (λ (dirs : Dirs). dirs.first) same ∙ q)) both_directions
    (λ k d below. All-map (λ dirs. dirs.first ≡ get_or both_directions k d) (with_first (get_or both_directions k d)) seconds (λ i e within. refl))
    (λ k d below. AllPairs-map (λ a b. a ≢ b) (with_first (get_or both_directions k d)) seconds
    (λ i j e before within same. once i j e before within (ap (λ (dirs : Dirs). dirs.second) same))) both_once

directions_once : (split : Split) → AllPairs (λ a b. a ≢ b) (directions_of split)
directions_once split = dirs_once _ (seconds_once _)

-- nor does an invariant, where no split does
invariants_in-once : (op : Operation) (split : Split) (dirs : Dirs) → AllPairs (λ u v. u ≢ v) (invariants_in op split dirs)
invariants_in-once op split dirs =
    let tasks = tasks_of op (two_parts op split) in
    AllPairs-map (λ u v. u ≢ v) (invariant_of split dirs) (feasible_sets op split dirs)
    (λ i j d before below same.
    let less = feasible_sets_by_number op split dirs i j d before below in
    let equal = ap (λ (v : Invariant). set_number tasks v.kept) same in
    omega (arith, less, equal))

invariants_of_split-once : (op : Operation) (split : Split) → AllPairs (λ u v. u ≢ v) (invariants_of_split op split)
invariants_of_split-once op split = AllPairs-flat_map (λ u v. u ≢ v) (invariants_in op split) (λ dirs v. v.dirs ≡ dirs) (λ a b. a ≢ b)
    (λ a b u v ne p q same. ne (sym p ∙ ap (λ (w : Invariant). w.dirs) same ∙ q)) (directions_of split)
    (λ k d below. All-map (λ v. v.dirs ≡ get_or (directions_of split) k d) (invariant_of split (get_or (directions_of split) k d)) (feasible_sets op split (get_or (directions_of split) k d)) (λ i e within. refl))
    (λ k d below. invariants_in-once op split (get_or (directions_of split) k d)) (directions_once split)

pub invariants_once : (op : Operation) (splits : List Split) → AllPairs (λ a b. a ≢ b) splits → AllPairs (λ u v. u ≢ v) (invariants_along op splits)
invariants_once op splits once = AllPairs-flat_map (λ u v. u ≢ v) (invariants_of_split op) (λ split v. v.split ≡ split) (λ a b. a ≢ b)
    (λ a b u v ne p q same. ne (sym p ∙ ap (λ (w : Invariant). w.split) same ∙ q)) splits
    (λ k d below. split_of (get_or splits k d)) (λ k d below. invariants_of_split-once op (get_or splits k d)) once
  where
    split_of : (split : Split) → All (λ v. v.split ≡ split) (invariants_of_split op split)
    split_of split = All-flat_map (λ v. v.split ≡ split) (invariants_in op split) (directions_of split)
        (λ k d below. All-map (λ v. v.split ≡ split) (invariant_of split (get_or (directions_of split) k d)) (feasible_sets op split (get_or (directions_of split) k d)) (λ i e within. refl))
