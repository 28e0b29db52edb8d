-- The walk over the sets of tasks finds the feasible sets: those in which each task that is held may be and brings all
-- that it wants, and each that is lacking may be. Cited by `feasible_sets`.
use Rattle.std.proofs.Common.{◌≡◌, ◌≢◌, inl, inr, ◌⊎◌, ℕ, zero, suc, ◌+◌, ◌-◌, ◌/◌, ◌<◌, ◌≤◌, List, [], ◌∷◌, Bool, true, false, ◌&&◌, ◌||◌, not, if◌then◌else◌, length, take, drop, get_or, map, filter, refl, sym, ap, ◌∙◌, subst, arith}
use Rattle.std.specs.Prelude.{All, AllPairs, Contains}
use Rattle.std.specs.List.{flat_map, list_all, list_any}
use Rattle.std.proofs.Math.Seq.{take-length}
use Rattle.std.proofs.lemmas.Bool.{and_parts, and_from, both_ways, cases_order, or_left, or_right, or_cases, or_from}
use Rattle.std.proofs.lemmas.List.{drop_more, get_or_default, length-drop}
use Rattle.std.proofs.lemmas.List.Folds.{list_any-append, list_any_at, list_all-map}
use Rattle.std.proofs.lemmas.List.Sums.{AllPass-from_list_all, list_all-from_AllPass}
use Rattle.std.proofs.lemmas.List.Elements.{All-nil, All-append, All-contains, Contains-append_left, Contains-append_right, filter_agree}
use Rattle.operation_spec.specs.declared.operation.Operation.{Operation}
use Rattle.operation_spec.specs.declared.split.Split.{Split}
use Rattle.operation_spec.specs.declared.split.Dirs.{Dirs}
use Rattle.operation_spec.specs.declared.task.Task.{Task}
use Rattle.task_graph.specs.declared.cut.Sides.{Sides}
use Rattle.task_graph.specs.Order.{tasks_of}
use Rattle.task_graph.specs.Needs.{does_need}
use Rattle.task_graph.proofs.TasksSorted.{tasks_of-once}
use Rattle.invariant_family.specs.declared.rules.ClassPair.{ClassPair}
use Rattle.invariant_family.specs.Splits.{two_parts, three_parts, done_part, remaining_part, middle_remaining, middle_done, cut_by, all_split_indices}
use Rattle.invariant_family.specs.Feasible.{same_task, holds, is_closed, is_feasible, has_nothing_remaining, has_all_done}
use Rattle.invariant_family.specs.Families.{subsets, feasible_sets}
use Rattle.invariant_family.specs.Numbers.{is_odd, has_bit, set_of, places_from, can_lack, can_hold, with_next, numbers_of}
use Rattle.invariant_family.specs.Rules.{classes_by, class_pair, wants, may_hold, may_lack}
use Rattle.invariant_family.proofs.SameTasks.{same_task-refl, same_task-true, same_task-false}
use Rattle.invariant_family.proofs.NumberedSets.{has_bit-zero, has_bit-suc, fits, kept-subsets, GoTogether, together-from_fits, fits-from_together}

-- ---- tests

-- an implication between tests
implied : (a b : Bool) → (a ≡ true → b ≡ true) → (not a || b) ≡ true
implied true b h = h refl
implied false b h = refl

implies : (a b : Bool) → (not a || b) ≡ true → a ≡ true → b ≡ true
implies true b h is = h
implies false b h is = absurd (both_ways _ refl is)

-- two tests that hold together
same-tests : (a b : Bool) → (a ≡ true → b ≡ true) → (b ≡ true → a ≡ true) → a ≡ b
same-tests true b there back = sym (there refl)
same-tests false true there back = back refl
same-tests false false there back = refl

-- an item that passes one test, where all pass another
passes-both : {X : Type 0} (f g : X → Bool) (xs : List X) → list_any f xs ≡ true → list_all g xs ≡ true → (x : X) × (f x ≡ true) × (g x ≡ true)
passes-both f g [] any all = absurd (both_ways _ refl any)
passes-both f g (x ∷ xs) any all = let parts = and_parts (g x) (list_all g xs) all in elim (or_cases (f x) (list_any f xs) any) [
  | inl first ↦ (x, first, parts.0)
  | inr later ↦ passes-both f g xs later parts.1
]

-- ---- what a set holds

holds-contained : (s : List Task) (a : Task) → Contains s a → holds s a ≡ true
holds-contained s a (k, below, at) = list_any_at (same_task a) s k a below (ap (same_task a) at ∙ same_task-refl a)

holds-none : (s : List Task) (a : Task) → All (λ x. same_task a x ≡ false) s → holds s a ≡ false
holds-none [] a none = refl
holds-none (x ∷ s) a none = or_from (same_task a x) (holds s a) (none 0 a (omega arith)) (holds-none s a (λ k d below. none (suc k) d (omega arith)))

-- the place of a task that a list holds
place-held : (s : List Task) (a : Task) → holds s a ≡ true → (k : ℕ) × (k < length s) × (a ≡ get_or s k a)
place-held [] a h = absurd (both_ways _ refl h)
place-held (x ∷ s) a h = elim (or_cases (same_task a x) (holds s a) h) [
  | inl first ↦ (zero, omega arith, same_task-true a x first)
  | inr later ↦ (let found = place-held s a later in (suc found.0, omega (arith, found.1), found.2))
]

-- ---- the set with a number

All-set_of : (P : Task → Type 0) (ts : List Task) (n : ℕ) → ((p : ℕ) (d : Task) → p < length ts → has_bit n p ≡ true → P (get_or ts p d)) → All P (set_of ts n)
All-set_of P [] n each = All-nil P
All-set_of P (t ∷ ts) n each = All-append P (if is_odd n then t ∷ [] else []) (set_of ts (n / 2)) (first (is_odd n) refl)
    (All-set_of P ts (n / 2) (λ p d below bit. each (suc p) d (omega arith) (has_bit-suc n p ∙ bit)))
  where
    first : (b : Bool) → is_odd n ≡ b → All P (if b then t ∷ [] else [])
    first true odd = λ k d below. at k d (omega arith)
      where
        at : (k : ℕ) (d : Task) → k < 1 → P (get_or (t ∷ []) k d)
        at zero d below = each 0 d (omega arith) (has_bit-zero n ∙ odd)
        at (suc k) d below = absurd (omega arith)
    first false even = All-nil P

Contains-set_of : (ts : List Task) (n p : ℕ) (d : Task) → p < length ts → has_bit n p ≡ true → Contains (set_of ts n) (get_or ts p d)
Contains-set_of [] n p d below bit = absurd (omega arith)
Contains-set_of (t ∷ ts) n zero d below bit = Contains-append_left (if is_odd n then t ∷ [] else []) (set_of ts (n / 2)) t
    (let odd : is_odd n ≡ true = sym (has_bit-zero n) ∙ bit in rw odd (0, omega arith, refl))
Contains-set_of (t ∷ ts) n (suc p) d below bit = Contains-append_right (if is_odd n then t ∷ [] else []) (set_of ts (n / 2)) (get_or ts p d)
    (Contains-set_of ts (n / 2) p d (omega arith) (sym (has_bit-suc n p) ∙ bit))

-- the place, in the list, of a task that the set holds
place-in_set : (ts : List Task) (n : ℕ) (a : Task) → holds (set_of ts n) a ≡ true → (p : ℕ) × (p < length ts) × (has_bit n p ≡ true) × (a ≡ get_or ts p a)
place-in_set [] n a h = absurd (both_ways _ refl h)
place-in_set (t ∷ ts) n a h = elim (or_cases (holds (if is_odd n then t ∷ [] else []) a) (holds (set_of ts (n / 2)) a) (sym (list_any-append (same_task a) (if is_odd n then t ∷ [] else []) (set_of ts (n / 2))) ∙ h)) [
  | inl x ↦ first (is_odd n) refl x
  | inr x ↦ (let found = place-in_set ts (n / 2) a x in (suc found.0, omega (arith, found.1), has_bit-suc n found.0 ∙ found.2, found.3))
]
  where
    first : (b : Bool) → is_odd n ≡ b → holds (if b then t ∷ [] else []) a ≡ true → (p : ℕ) × (p < suc (length ts)) × (has_bit n p ≡ true) × (a ≡ get_or (t ∷ ts) p a)
    first true odd x = (zero, omega arith, has_bit-zero n ∙ odd, same_task-true a t (elim (or_cases (same_task a t) false x) [ inl e ↦ e | inr e ↦ absurd (both_ways _ refl e) ]))
    first false even x = absurd (both_ways _ refl x)

-- two places of different tasks
apart : (ts : List Task) (p q : ℕ) (d : Task) → AllPairs (λ a b. a ≢ b) ts → p < length ts → q < length ts → p ≢ q → get_or ts q d ≢ get_or ts p d
apart ts p q d once p_below q_below other same = go (cases_order p q)
  where
    go : (p ≡ q) ⊎ ((p < q) ⊎ (q < p)) → ⊥
    go (inl e) = other e
    go (inr (inl before)) = once p q d before q_below (sym same)
    go (inr (inr behind)) = once q p d behind p_below same

-- so it holds the task at a place exactly where its number has the bit
holds-bit : (ts : List Task) (n q : ℕ) (d : Task) → AllPairs (λ a b. a ≢ b) ts → q < length ts → holds (set_of ts n) (get_or ts q d) ≡ has_bit n q
holds-bit ts n q d once below = go (has_bit n q) refl
  where
    go : (b : Bool) → has_bit n q ≡ b → holds (set_of ts n) (get_or ts q d) ≡ b
    go true bit = holds-contained (set_of ts n) (get_or ts q d) (Contains-set_of ts n q d below bit)
    go false bit = holds-none (set_of ts n) (get_or ts q d) (All-set_of (λ x. same_task (get_or ts q d) x ≡ false) ts n (λ p e p_below p_bit.
        subst (λ x. same_task (get_or ts q d) x ≡ false) (get_or_default ts p d e p_below)
        (same_task-false (get_or ts q d) (get_or ts p d) (apart ts p q d once p_below below (λ same. both_ways _ bit (subst (λ m. has_bit n m ≡ true) same p_bit))))))

-- ---- feasible sets

-- the rules over these tasks and pairs of classes
abbrev is_feasible_by : Operation → Split → Dirs → List Task → List ClassPair → List Task → Bool
is_feasible_by op split dirs tasks pairs s = list_all (λ a. list_all (λ b. not (does_need op a b) || holds s b) tasks) s && has_nothing_remaining op split dirs s
    && list_all (λ a. not (all_split_indices op split dirs done_part a) || holds s a) tasks && list_all (λ pair. not (holds s pair.remaining) || holds s pair.done) pairs

module _ (op : Operation) (split : Split) (dirs : Dirs) (tasks : List Task) (pairs : List ClassPair) (n : ℕ) (once : AllPairs (λ a b. a ≢ b) tasks) where
  -- the set with the number
  abbrev set : List Task
  set = set_of tasks n

  -- its tasks go together
  abbrev Together : Type 0
  Together = GoTogether (wants op pairs) (may_hold op split dirs tasks pairs) (may_lack op split dirs) tasks n

  held-bit : (p : ℕ) (d : Task) → p < length tasks → has_bit n p ≡ true → holds set (get_or tasks p d) ≡ true
  held-bit p d below bit = holds-bit tasks n p d once below ∙ bit

  -- a task that is held at a place
  bit-held : (q : ℕ) (d : Task) → q < length tasks → holds set (get_or tasks q d) ≡ true → has_bit n q ≡ true
  bit-held q d below held = sym (holds-bit tasks n q d once below) ∙ held

  -- what the set holds, the list holds
  in_list : (a : Task) → holds set a ≡ true → holds tasks a ≡ true
  in_list a h = let place = place-in_set tasks n a h in
      list_any_at (same_task a) tasks place.0 a place.1 (subst (λ b. same_task a b ≡ true) place.3 (same_task-refl a))

  -- ---- a feasible set

  module _ (closed : list_all (λ a. list_all (λ b. not (does_need op a b) || holds set b) tasks) set ≡ true) (moving : has_nothing_remaining op split dirs set ≡ true)
      (done : list_all (λ a. not (all_split_indices op split dirs done_part a) || holds set a) tasks ≡ true)
      (undone : list_all (λ pair. not (holds set pair.remaining) || holds set pair.done) pairs ≡ true) where
    second-class : (p : ℕ) (d : Task) → p < length tasks → has_bit n p ≡ true
        → list_all (λ pair. not (same_task pair.remaining (get_or tasks p d)) || holds tasks pair.done) pairs ≡ true
    second-class p d below bit = list_all-from_AllPass (λ pair. not (same_task pair.remaining (get_or tasks p d)) || holds tasks pair.done) pairs (λ k e k_below.
        implied (same_task (get_or pairs k e).remaining (get_or tasks p d)) (holds tasks (get_or pairs k e).done) (λ same.
        let first : holds set (get_or pairs k e).remaining ≡ true = subst (λ a. holds set a ≡ true) (sym (same_task-true (get_or pairs k e).remaining (get_or tasks p d) same)) (held-bit p d below bit) in
        in_list (get_or pairs k e).done (implies (holds set (get_or pairs k e).remaining) (holds set (get_or pairs k e).done)
        (AllPass-from_list_all (λ pair. not (holds set pair.remaining) || holds set pair.done) pairs undone k e k_below) first)))

    brought-class : (p q : ℕ) (d : Task) → p < length tasks → q < length tasks
        → list_any (λ pair. same_task pair.remaining (get_or tasks p d) && same_task pair.done (get_or tasks q d)) pairs ≡ true → has_bit n p ≡ true → has_bit n q ≡ true
    brought-class p q d p_below q_below any bit =
        let found = passes-both (λ (pair : ClassPair). same_task pair.remaining (get_or tasks p d) && same_task pair.done (get_or tasks q d)) (λ (pair : ClassPair). not (holds set pair.remaining) || holds set pair.done) pairs any undone in
        let pair : ClassPair = found.0 in
        let same = and_parts (same_task pair.remaining (get_or tasks p d)) (same_task pair.done (get_or tasks q d)) found.1 in
        let first : holds set pair.remaining ≡ true = subst (λ a. holds set a ≡ true) (sym (same_task-true pair.remaining (get_or tasks p d) same.0)) (held-bit p d p_below bit) in
        bit-held q d q_below (subst (λ a. holds set a ≡ true) (same_task-true pair.done (get_or tasks q d) same.1) (implies (holds set pair.remaining) (holds set pair.done) found.2 first))

    brought-need : (p q : ℕ) (d : Task) → p < length tasks → q < length tasks → does_need op (get_or tasks p d) (get_or tasks q d) ≡ true → has_bit n p ≡ true → has_bit n q ≡ true
    brought-need p q d p_below q_below need bit =
        let all = All-contains (λ a. list_all (λ b. not (does_need op a b) || holds set b) tasks ≡ true) set (get_or tasks p d)
        (AllPass-from_list_all (λ a. list_all (λ b. not (does_need op a b) || holds set b) tasks) set closed) (Contains-set_of tasks n p d p_below bit) in
        bit-held q d q_below (implies (does_need op (get_or tasks p d) (get_or tasks q d)) (holds set (get_or tasks q d))
        (AllPass-from_list_all (λ b. not (does_need op (get_or tasks p d) b) || holds set b) tasks all q d q_below) need)

    together : Together
    together = record {
      held = λ p d below bit. and_from (not (all_split_indices op split dirs remaining_part (get_or tasks p d))) _
          (All-contains (λ a. not (all_split_indices op split dirs remaining_part a) ≡ true) set (get_or tasks p d)
          (AllPass-from_list_all (λ a. not (all_split_indices op split dirs remaining_part a)) set moving) (Contains-set_of tasks n p d below bit))
          (second-class p d below bit);
      lacking = λ p d below bit. elim (or_cases (not (all_split_indices op split dirs done_part (get_or tasks p d))) (holds set (get_or tasks p d))
          (AllPass-from_list_all (λ a. not (all_split_indices op split dirs done_part a) || holds set a) tasks done p d below)) [
            | inl e ↦ e
            | inr e ↦ absurd (both_ways _ bit (bit-held p d below e))
          ];
      brought = λ p q d p_below q_below w bit. elim (or_cases (does_need op (get_or tasks p d) (get_or tasks q d)) _ w) [
        | inl need ↦ brought-need p q d p_below q_below need bit
        | inr any ↦ brought-class p q d p_below q_below any bit
      ];
    }

  -- ---- a set whose tasks go together

  module _ (all : Together) where
    is_closed-together : list_all (λ a. list_all (λ b. not (does_need op a b) || holds set b) tasks) set ≡ true
    is_closed-together = list_all-from_AllPass (λ a. list_all (λ b. not (does_need op a b) || holds set b) tasks) set
        (All-set_of (λ a. list_all (λ b. not (does_need op a b) || holds set b) tasks ≡ true) tasks n (λ p d below bit.
        list_all-from_AllPass (λ b. not (does_need op (get_or tasks p d) b) || holds set b) tasks (λ q e q_below.
        implied (does_need op (get_or tasks p d) (get_or tasks q e)) (holds set (get_or tasks q e)) (λ need.
        let same = get_or_default tasks p d e below in
        held-bit q e q_below (all.brought p q e below q_below
        (or_left (does_need op (get_or tasks p e) (get_or tasks q e)) _ (subst (λ a. does_need op a (get_or tasks q e) ≡ true) same need)) bit)))))

    is_moving-together : has_nothing_remaining op split dirs set ≡ true
    is_moving-together = list_all-from_AllPass (λ a. not (all_split_indices op split dirs remaining_part a)) set
        (All-set_of (λ a. not (all_split_indices op split dirs remaining_part a) ≡ true) tasks n (λ p d below bit.
        (and_parts (not (all_split_indices op split dirs remaining_part (get_or tasks p d))) _ (all.held p d below bit)).0))

    is_done-together : list_all (λ a. not (all_split_indices op split dirs done_part a) || holds set a) tasks ≡ true
    is_done-together = list_all-from_AllPass (λ a. not (all_split_indices op split dirs done_part a) || holds set a) tasks (λ q d below. by_bit q d below (has_bit n q) refl)
      where
        by_bit : (q : ℕ) (d : Task) → q < length tasks → (b : Bool) → has_bit n q ≡ b → (not (all_split_indices op split dirs done_part (get_or tasks q d)) || holds set (get_or tasks q d)) ≡ true
        by_bit q d below true bit = or_right (not (all_split_indices op split dirs done_part (get_or tasks q d))) (holds set (get_or tasks q d)) (held-bit q d below bit)
        by_bit q d below false bit = or_left (not (all_split_indices op split dirs done_part (get_or tasks q d))) (holds set (get_or tasks q d)) (all.lacking q d below bit)

    second-held : (k : ℕ) (e : ClassPair) → k < length pairs → holds set (get_or pairs k e).remaining ≡ true → holds set (get_or pairs k e).done ≡ true
    second-held k e below h =
        let first = (get_or pairs k e).remaining in
        let second = (get_or pairs k e).done in
        let place = place-in_set tasks n first h in
        let may = and_parts (not (all_split_indices op split dirs remaining_part (get_or tasks place.0 first))) _ (all.held place.0 first place.1 place.2) in
        let there = implies (same_task first (get_or tasks place.0 first)) (holds tasks second)
        (AllPass-from_list_all (λ pair. not (same_task pair.remaining (get_or tasks place.0 first)) || holds tasks pair.done) pairs may.1 k e below)
        (subst (λ a. same_task first a ≡ true) place.3 (same_task-refl first)) in
        let other = place-held tasks second there in
        let first_there : first ≡ get_or tasks place.0 second = place.3 ∙ get_or_default tasks place.0 first second place.1 in
        let both : (same_task first (get_or tasks place.0 second) && same_task second (get_or tasks other.0 second)) ≡ true = and_from _ (same_task second (get_or tasks other.0 second))
        (subst (λ a. same_task first a ≡ true) first_there (same_task-refl first)) (subst (λ a. same_task second a ≡ true) other.2 (same_task-refl second)) in
        let bit = all.brought place.0 other.0 second place.1 other.1
        (or_right (does_need op (get_or tasks place.0 second) (get_or tasks other.0 second)) _
        (list_any_at (λ (pair : ClassPair). same_task pair.remaining (get_or tasks place.0 second) && same_task pair.done (get_or tasks other.0 second)) pairs k e below both)) place.2 in
        subst (λ a. holds set a ≡ true) (sym other.2) (held-bit other.0 second other.1 bit)

    is_undone-together : list_all (λ pair. not (holds set pair.remaining) || holds set pair.done) pairs ≡ true
    is_undone-together = list_all-from_AllPass (λ pair. not (holds set pair.remaining) || holds set pair.done) pairs (λ k e below.
        implied (holds set (get_or pairs k e).remaining) (holds set (get_or pairs k e).done) (second-held k e below))

  feasible-fits : is_feasible_by op split dirs tasks pairs set ≡ fits (wants op pairs) (may_hold op split dirs tasks pairs) (may_lack op split dirs) tasks n
  feasible-fits = same-tests _ _ there back
    where
      there : is_feasible_by op split dirs tasks pairs set ≡ true → fits (wants op pairs) (may_hold op split dirs tasks pairs) (may_lack op split dirs) tasks n ≡ true
      there h =
          let outer = and_parts _ (list_all (λ pair. not (holds set pair.remaining) || holds set pair.done) pairs) h in
          let inner = and_parts _ (list_all (λ a. not (all_split_indices op split dirs done_part a) || holds set a) tasks) outer.0 in
          let first = and_parts _ (has_nothing_remaining op split dirs set) inner.0 in
          fits-from_together (wants op pairs) (may_hold op split dirs tasks pairs) (may_lack op split dirs) tasks n (together first.0 first.1 inner.1 outer.1)

      back : fits (wants op pairs) (may_hold op split dirs tasks pairs) (may_lack op split dirs) tasks n ≡ true → is_feasible_by op split dirs tasks pairs set ≡ true
      back h =
          let all = together-from_fits (wants op pairs) (may_hold op split dirs tasks pairs) (may_lack op split dirs) tasks n h in
          and_from _ (list_all (λ pair. not (holds set pair.remaining) || holds set pair.done) pairs)
          (and_from _ (list_all (λ a. not (all_split_indices op split dirs done_part a) || holds set a) tasks)
          (and_from _ (has_nothing_remaining op split dirs set) (is_closed-together all) (is_moving-together all)) (is_done-together all)) (is_undone-together all)

-- ---- the walk

-- the sets that it finds
pub feasible_sets-from_walk : (op : Operation) (split : Split) (dirs : Dirs) (parts : List ℕ) (tasks : List Task) (pairs : List ClassPair) (numbers : List ℕ) (sets : List (List Task))
    → parts ≡ two_parts op split → tasks ≡ tasks_of op parts → pairs ≡ map (class_pair op split dirs) (tasks_of op (three_parts op split))
    → numbers ≡ numbers_of (wants op pairs) (may_hold op split dirs tasks pairs) (may_lack op split dirs) tasks
    → sets ≡ map (set_of tasks) numbers → sets ≡ feasible_sets op split dirs
feasible_sets-from_walk op split dirs parts tasks pairs numbers sets parts_are tasks_are pairs_are numbers_are sets_are =
    let once : AllPairs (λ a b. a ≢ b) tasks = subst (AllPairs (λ a b. a ≢ b)) (sym tasks_are) (tasks_of-once op parts) in
    sets_are
    ∙ ap (map (set_of tasks)) numbers_are
    ∙ kept-subsets (wants op pairs) (may_hold op split dirs tasks pairs) (may_lack op split dirs) (is_feasible_by op split dirs tasks pairs) tasks
    (λ n. feasible-fits op split dirs tasks pairs n once)
    ∙ ap (λ ps. filter (is_feasible_by op split dirs tasks ps) (subsets tasks)) pairs_are
    ∙ ap (λ ts. filter (is_feasible_by op split dirs ts (map (class_pair op split dirs) (tasks_of op (three_parts op split)))) (subsets ts)) (tasks_are ∙ ap (tasks_of op) parts_are)
    ∙ filter_agree _ (is_feasible op split dirs)
    (λ s. ap (λ b. is_closed op split s && has_nothing_remaining op split dirs s && has_all_done op split dirs s && b)
    (list_all-map (λ pair. not (holds s pair.remaining) || holds s pair.done) (class_pair op split dirs) (tasks_of op (three_parts op split))))
    (subsets (tasks_of op (two_parts op split)))

-- the pairs of classes by which it goes
pub class_pairs-from_cuts : (op : Operation) (split : Split) (dirs : Dirs) (remaining done : List Sides) (parts : List ℕ) (tasks : List Task) (pairs : List ClassPair)
    → remaining ≡ cut_by op split dirs middle_remaining → done ≡ cut_by op split dirs middle_done → parts ≡ three_parts op split → tasks ≡ tasks_of op parts
    → pairs ≡ map (classes_by op remaining done) tasks → pairs ≡ map (class_pair op split dirs) (tasks_of op (three_parts op split))
class_pairs-from_cuts op split dirs remaining done parts tasks pairs remaining_is done_is parts_are tasks_are pairs_are =
    pairs_are
    ∙ ap (λ cut. map (classes_by op cut done) tasks) remaining_is
    ∙ ap (λ cut. map (classes_by op (cut_by op split dirs middle_remaining) cut) tasks) done_is
    ∙ ap (map (class_pair op split dirs)) (tasks_are ∙ ap (tasks_of op) parts_are)

-- the tasks from a place on, as a slice
pub drop-slice : (tasks : List Task) (left : ℕ) → take (length tasks - left) (drop left tasks) ≡ drop left tasks
drop-slice tasks left = ap (λ (k : ℕ). take k (drop left tasks)) (sym (length-drop left tasks)) ∙ take-length (drop left tasks)

-- it goes on with the last task that isn't decided
pub walk_goes_on : (want : Task → Task → Bool) (may may_not : Task → Bool) (tasks : List Task) (left : ℕ) (d : Task) (hold lack : Bool) (wanted wanting : List ℕ) (behind : List Task) (numbers given more : List ℕ)
    → 0 < left → left ≤ length tasks → behind ≡ drop left tasks
    → hold ≡ may (get_or tasks (left - 1) d) → lack ≡ may_not (get_or tasks (left - 1) d)
    → wanted ≡ places_from (want (get_or tasks (left - 1) d)) 0 behind → wanting ≡ places_from (λ b. want b (get_or tasks (left - 1) d)) 0 behind
    → numbers ≡ numbers_of want may may_not (drop left tasks) → given ≡ numbers → more ≡ flat_map (with_next (can_lack lack wanting) (can_hold hold wanted)) given
    → more ≡ numbers_of want may may_not (drop (left - 1) tasks)
walk_goes_on want may may_not tasks left d hold lack wanted wanting behind numbers given more some within behind_is hold_is lack_is wanted_is wanting_is numbers_are given_are more_are =
    let n = left - 1 in
    let t = get_or tasks n d in
    let same : left ≡ n + 1 = omega arith in
    let back : drop n tasks ≡ t ∷ drop left tasks = drop_more tasks n d (omega arith) ∙ ap (λ (k : ℕ). t ∷ drop k tasks) (sym same) in
    more_are
    ∙ ap (flat_map (with_next (can_lack lack wanting) (can_hold hold wanted))) (given_are ∙ numbers_are)
    ∙ ap (λ places. flat_map (with_next (can_lack lack places) (can_hold hold wanted)) (numbers_of want may may_not (drop left tasks))) (wanting_is ∙ ap (places_from (λ b. want b t) 0) behind_is)
    ∙ ap (λ places. flat_map (with_next (can_lack lack (places_from (λ b. want b t) 0 (drop left tasks))) (can_hold hold places)) (numbers_of want may may_not (drop left tasks))) (wanted_is ∙ ap (places_from (want t) 0) behind_is)
    ∙ ap (λ b. flat_map (with_next (can_lack b (places_from (λ b. want b t) 0 (drop left tasks))) (can_hold hold (places_from (want t) 0 (drop left tasks)))) (numbers_of want may may_not (drop left tasks))) lack_is
    ∙ ap (λ b. flat_map (with_next (can_lack (may_not t) (places_from (λ b. want b t) 0 (drop left tasks))) (can_hold b (places_from (want t) 0 (drop left tasks)))) (numbers_of want may may_not (drop left tasks))) hold_is
    ∙ ap (numbers_of want may may_not) (sym back)
