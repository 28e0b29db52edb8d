-- Families along any splits: what each variant has, which there are, and that none stands twice. Cited by the laws of
-- families.
use Rattle.std.proofs.Common.{◌≡◌, ◌≢◌, ℕ, zero, suc, ◌+◌, ◌<◌, ◌≤◌, List, [], Some, None, length, true, get_or, ap, ◌∙◌, arith}
use Rattle.std.specs.Prelude.{All, AllPairs, Contains}
use Rattle.operation_spec.specs.declared.operation.Operation.{Operation}
use Rattle.operation_spec.specs.declared.split.Split.{Split}
use Rattle.operation_spec.specs.declared.split.Dirs.{Dirs}
use Rattle.operation_spec.specs.declared.split.Dir.TheVariants.{Forward}
use Rattle.std.proofs.lemmas.Option.{slice_get-get_or}
use Rattle.operation_spec.specs.declared.task.Task.{Task}
use Rattle.task_graph.specs.Order.{tasks_of}
use Rattle.invariant_family.specs.declared.variant.Variant.{Variant}
use Rattle.invariant_family.specs.Splits.{two_parts, directions_of}
use Rattle.invariant_family.specs.Feasible.{is_feasible}
use Rattle.invariant_family.specs.Families.{invariant_of, invariant_of_variant, invariants_along, numbered_from, variant_numbered}
use Rattle.invariant_family.specs.Sublists.{IsSublist}
use Rattle.invariant_family.proofs.Numbering.{length-numbered_from, number-numbered_from, All-numbered_from, AllPairs-numbered_from, Contains-numbered_from, found_at}
use Rattle.invariant_family.proofs.Variants.{All-invariants, invariants_go_along, feasible_sets_pass, feasible_sets_are_sublists, Contains-invariants, invariants_once}

module _ (op : Operation) (splits : List Split) where
  -- the variants along the splits
  abbrev family : List Variant
  family = numbered_from 1 (invariants_along op splits)

  pub variants_are_feasible : All (λ v. is_feasible op v.split v.dirs v.kept ≡ true) family
  variants_are_feasible = All-numbered_from (λ v. is_feasible op v.split v.dirs v.kept ≡ true) 1 (invariants_along op splits)
      (All-invariants op (λ split dirs s. is_feasible op split dirs s ≡ true) (feasible_sets_pass op) splits)

  pub variants_keep_sublists : All (λ v. IsSublist v.kept (tasks_of op (two_parts op v.split))) family
  variants_keep_sublists = All-numbered_from (λ v. IsSublist v.kept (tasks_of op (two_parts op v.split))) 1 (invariants_along op splits)
      (All-invariants op (λ split dirs s. IsSublist s (tasks_of op (two_parts op split))) (feasible_sets_are_sublists op) splits)

  pub variants_go_along : (Q : Split → Type 0) → All Q splits → All (λ v. Q v.split × Contains (directions_of v.split) v.dirs) family
  variants_go_along Q each = All-numbered_from (λ v. Q v.split × Contains (directions_of v.split) v.dirs) 1 (invariants_along op splits) (invariants_go_along op Q splits each)

  pub variants_keep_each : (split : Split) (dirs : Dirs) (s : List Task)
      → Contains splits split → Contains (directions_of split) dirs → IsSublist s (tasks_of op (two_parts op split)) → is_feasible op split dirs s ≡ true
      → (v : Variant) × Contains family v × (invariant_of_variant v ≡ invariant_of split dirs s)
  variants_keep_each split dirs s in_splits in_dirs part feasible =
      Contains-numbered_from 1 (invariants_along op splits) (invariant_of split dirs s) (Contains-invariants op splits split dirs s in_splits in_dirs part feasible)

  pub variants_once : AllPairs (λ a b. a ≢ b) splits → AllPairs (λ u v. invariant_of_variant u ≢ invariant_of_variant v) family
  variants_once once = AllPairs-numbered_from (λ u v. u ≢ v) 1 (invariants_along op splits) (invariants_once op splits once)

  pub variants_count_up : (k : ℕ) (d : Variant) → k < length family → (get_or family k d).number ≡ 1 + k
  variants_count_up k d below = number-numbered_from 1 (invariants_along op splits) k d (omega (arith, length-numbered_from 1 (invariants_along op splits)))

  -- the variant with a number
  pub numbers_find : (number : ℕ) → 1 ≤ number → number ≤ length family → (v : Variant) × (variant_numbered family number ≡ Some v) × (v.number ≡ number)
  numbers_find zero low high = absurd (omega arith)
  numbers_find (suc k) low high =
      let d : Variant = record { number = 0; split = record { first = 0; second = None }; dirs = record { first = Forward; second = Forward }; kept = [] } in
      let below : k < length family = omega arith in
      (get_or family k d, slice_get-get_or family k d below, omega (arith, variants_count_up k d below))

  pub variants_found : All (λ v. variant_numbered family v.number ≡ Some v) family
  variants_found k d below =
      let next : (get_or family k d).number ≡ suc k = omega (arith, variants_count_up k d below) in
      ap (variant_numbered family) next ∙ found_at family k d below
