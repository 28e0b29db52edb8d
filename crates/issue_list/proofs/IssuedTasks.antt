-- The tasks of the iterations of a loop, by a variant of its operation: each task once, behind what it needs. Cited by the law that a list of steps
-- by variants fits its job.
use Rattle.std.proofs.Common.{◌≡◌, ℕ, zero, suc, ◌+◌, ◌<◌, ◌⊎◌, inl, inr, Bool, true, false, not, Some, None, List, ◌++◌, length, get_or, All, Contains, refl, sym, ◌∙◌, subst, arith}
use Rattle.std.specs.Prelude.{AllPairs}
use Rattle.std.specs.List.{flat_map, range_with_len}
use Rattle.std.proofs.lemmas.Bool.{and_from, and_parts, both_ways, cases_lt, not_from_false, not-true}
use Rattle.std.proofs.lemmas.List.Elements.{All-contains, All-filter, filter_passes}
use Rattle.std.proofs.lemmas.List.Kept.{AllPairs-filter}
use Rattle.std.proofs.lemmas.Option.{slice_get-get_or, slice_get_past}
use Rattle.operation_spec.specs.declared.operation.Operation.{Operation}
use Rattle.operation_spec.specs.declared.task.Task.{Task}
use Rattle.operation_spec.specs.Splits.{IsSplit}
use Rattle.operation_spec.specs.ValidOperations.{IsValid}
use Rattle.task_graph.specs.Needs.{does_need}
use Rattle.task_graph.specs.Order.{tasks_of}
use Rattle.task_graph.specs.Tasks.{has}
use Rattle.task_graph.proofs.TasksExist.{listed-has}
use Rattle.task_graph.proofs.TasksSorted.{tasks_of-sorted}
use Rattle.task_graph.proofs.ValidFactors.{lower-valid}
use Rattle.invariant_family.specs.declared.variant.Variant.{Variant}
use Rattle.invariant_family.specs.Families.{family_of, variant_numbered}
use Rattle.invariant_family.specs.Feasible.{is_feasible}
use Rattle.invariant_family.specs.Splits.{directions_of, pair_splits, single_splits}
use Rattle.invariant_family.proofs.AllSplits.{All-splits}
use Rattle.invariant_family.proofs.FlatMaps.{All-flat_map, AllPairs-flat_map, Contains-filter, Contains-flat_map}
use Rattle.invariant_family.proofs.NumberedFamilies.{variants_are_feasible, variants_go_along}
use Rattle.issue_list.specs.IssuedSteps.{is_done, is_next, issued_tasks, iterations, tasks_in}
use Rattle.issue_list.proofs.LoopsDone.{IsVariant, done-all, done-later, done-none, need-done}
use Rattle.issue_list.proofs.NumbersInOrder.{number-found, numbers-sorted}
use Rattle.issue_list.proofs.TasksOfStatements.{All-block_tasks, IsEarlier, IsListing, earlier-needs, earlier-other, listing}

-- ---- the variants of a family

found-in : (vs : List Variant) (n : ℕ) (v : Variant) → variant_numbered vs n ≡ Some v → Contains vs v
found-in vs zero v e = absurd (cc)
found-in vs (suc k) v e = elim (cases_lt k (length vs)) [
  | inl below ↦ (let same : Some (get_or vs k v) ≡ Some v = sym (slice_get-get_or vs k v below) ∙ e in
      let at : get_or vs k v ≡ v = cc in (k, below, at))
  | inr past ↦ (let none : None ≡ Some v = sym (slice_get_past vs k past) ∙ e in absurd (cc))
]

pub variant-found : (op : Operation) (n : ℕ) (v : Variant) → variant_numbered (family_of op) n ≡ Some v → IsVariant op v
variant-found op n v e =
    let splits = single_splits op ++ pair_splits op in
    let there : Contains (family_of op) v = found-in (family_of op) n v e in
    record {
      split = (All-contains (λ w. IsSplit op w.split × Contains (directions_of w.split) w.dirs) (family_of op) v (variants_go_along op splits (IsSplit op) (All-splits op)) there).0;
      feasible = All-contains (λ w. is_feasible op w.split w.dirs w.kept ≡ true) (family_of op) v (variants_are_feasible op splits) there;
    }

-- ---- where a test begins to pass

first-change : (f : ℕ → Bool) (n : ℕ) → f 0 ≡ false → f n ≡ true → (t : ℕ) × (t < n) × (f t ≡ false) × (f (t + 1) ≡ true)
first-change f zero none all = absurd (both_ways (f 0) none all)
first-change f (suc n) none all = go (f n) refl (first-change f n none)
  where
    go : (b : Bool) → f n ≡ b → (f n ≡ true → (t : ℕ) × (t < n) × (f t ≡ false) × (f (t + 1) ≡ true)) → (t : ℕ) × (t < suc n) × (f t ≡ false) × (f (t + 1) ≡ true)
    go true e earlier = let p = earlier e in (p.0, omega (arith, p.1), p.2, p.3)
    go false e earlier = let next : suc n ≡ n + 1 = omega arith in (n, omega arith, e, subst (λ m. f m ≡ true) next all)

-- ---- the tasks of the iterations

module _ (op : Operation) (counts : List ℕ) (v : Variant) where
  abbrev done : ℕ → Task → Bool
  done t u = is_done op counts v t u

  abbrev pub block_tasks : List Task
  block_tasks = flat_map (tasks_in op counts v) (range_with_len 0 (iterations counts v.split))

  -- task w comes behind u in one iteration, or u is done at a time when w isn't
  abbrev pub IsDoneBefore : Task → Task → Type 0
  IsDoneBefore u w = IsEarlier op u w ⊎ ((t : ℕ) × (done t u ≡ true) × (done t w ≡ false))

  -- a task of iteration t
  abbrev IsIn : ℕ → Task → Type 0
  IsIn t u = (has op counts u ≡ true) × (done t u ≡ false) × (done (t + 1) u ≡ true)

  All-in : (t : ℕ) → All (IsIn t) (tasks_in op counts v t)
  All-in t k d below =
      let p = and_parts (not (done t (get_or (tasks_in op counts v t) k d))) (done (t + 1) (get_or (tasks_in op counts v t) k d)) (filter_passes (is_next op counts v t) (tasks_of op counts) k d below) in
      (All-filter (is_next op counts v t) (λ u. has op counts u ≡ true) (tasks_of op counts) (All-block_tasks op counts) k d below, not-true (done t (get_or (tasks_in op counts v t) k d)) p.0, p.1)

  pub All-block_issued : All (λ u. has op counts u ≡ true) block_tasks
  All-block_issued = All-flat_map (λ u. has op counts u ≡ true) (tasks_in op counts v) (range_with_len 0 (iterations counts v.split))
      (λ k d below. λ j e inside. (All-in (get_or (range_with_len 0 (iterations counts v.split)) k d) j e inside).0)

  module _ (valid : IsValid op) (is : IsVariant op v) where
    found : (u : Task) → has op counts u ≡ true → Contains block_tasks u
    found u h =
        let when = first-change (λ t. done t u) (iterations counts v.split) (done-none op valid counts v is u h) (done-all op valid counts v is (iterations counts v.split) u (omega arith) h) in
        Contains-flat_map (tasks_in op counts v) (range_with_len 0 (iterations counts v.split)) when.0 u
        (let number : 0 + when.0 ≡ when.0 = omega arith in subst (Contains (range_with_len 0 (iterations counts v.split))) number (number-found 0 (iterations counts v.split) when.0 when.1))
        (Contains-filter (is_next op counts v when.0) (tasks_of op counts) u (listed-has op counts u (lower-valid op valid) h)
        (and_from (not (done when.0 u)) (done (when.0 + 1) u) (not_from_false (done when.0 u) when.2) when.3))

    pairs : AllPairs IsDoneBefore block_tasks
    pairs = AllPairs-flat_map IsDoneBefore (tasks_in op counts v) IsIn (λ s t. s < t)
        (λ s t u w less p q. inr (t, done-later op valid counts v is (s + 1) t u (omega arith) p.0 p.2, q.1)) (range_with_len 0 (iterations counts v.split))
        (λ k d below. All-in _)
        (λ k d below. AllPairs-filter IsDoneBefore (is_next op counts v (get_or (range_with_len 0 (iterations counts v.split)) k d)) (tasks_of op counts) (λ i j e before inside. inl (tasks_of-sorted op counts i j e before inside)))
        (numbers-sorted 0 (iterations counts v.split))

    other : (u : Task) → IsDoneBefore u u → ⊥
    other u (inl h) = earlier-other op u h
    other u (inr (t, first, second)) = both_ways (done t u) second first

    needs : (u w : Task) → has op counts u ≡ true → has op counts w ≡ true → does_need op u w ≡ true → IsDoneBefore u w → ⊥
    needs u w hu hw need (inl h) = earlier-needs op counts valid u w hu need h
    needs u w hu hw need (inr (t, first, second)) = both_ways (done t w) second (need-done op valid counts v is t u w hu hw need first)

    pub issued-listing : IsListing op counts (issued_tasks op counts v) IsDoneBefore
    issued-listing = listing op counts block_tasks All-block_issued IsDoneBefore found pairs other needs
