-- The splits of an operation: which there are, and that none stands twice. Cited by the laws of families.
use Rattle.std.proofs.Common.{◌≡◌, ◌≢◌, ℕ, zero, suc, ◌-◌, ◌<◌, inl, inr, [], ◌∷◌, ◌++◌, length, get_or, Bool, true, false, if◌then◌else◌, Option, Some, None, refl, sym, ap, ◌∙◌, subst, arith, length-append}
use Rattle.std.specs.Prelude.{All, AllPairs, Contains, nat_lt}
use Rattle.std.proofs.lemmas.Bool.{cases_lt, ltb-true, lt-ltb}
use Rattle.std.proofs.lemmas.List.{get_or_append_left, get_or-append_right}
use Rattle.std.proofs.lemmas.Grind.{get_or_head}
use Rattle.std.proofs.lemmas.List.Elements.{All-nil, All-cons, All-map, All-append, All-weaker, Contains-append_left, Contains-append_right}
use Rattle.operation_spec.specs.declared.operation.Operation.{Operation}
use Rattle.operation_spec.specs.declared.split.Split.{Split}
use Rattle.operation_spec.specs.Splits.{IsSplit}
use Rattle.task_graph.specs.Order.{numbers_below}
use Rattle.task_graph.proofs.TasksSorted.{AllPairs-append}
use Rattle.invariant_family.specs.Splits.{single_splits, pair_if_later, pairs_from, pair_splits}
use Rattle.invariant_family.proofs.FlatMaps.{All-flat_map, Contains-flat_map, Contains-map, AllPairs-map, AllPairs-flat_map}

-- ---- the numbers below n

pub length-numbers_below : (n : ℕ) → length (numbers_below n) ≡ n
length-numbers_below zero = refl
length-numbers_below (suc n) = omega (arith, length-append (numbers_below n) (n ∷ []), length-numbers_below n)

-- each stands at the place that it counts
get_or-numbers_below : (n k d : ℕ) → k < n → get_or (numbers_below n) k d ≡ k
get_or-numbers_below zero k d below = absurd (omega arith)
get_or-numbers_below (suc n) k d below =
    let size : length (numbers_below n) ≡ n = length-numbers_below n in
    elim (cases_lt k n) [
      | inl before ↦ get_or_append_left (numbers_below n) (n ∷ []) d k (omega arith) ∙ get_or-numbers_below n k d before
      | inr last ↦ get_or-append_right (numbers_below n) (n ∷ []) n k d size last ∙ get_or_head n [] (k - n) d (omega arith) ∙ omega arith
    ]

numbers_are_below : (n : ℕ) → All (λ k. k < n) (numbers_below n)
numbers_are_below n k d below =
    let size : length (numbers_below n) ≡ n = length-numbers_below n in
    omega (arith, get_or-numbers_below n k d (omega arith))

numbers_ascend : (n : ℕ) → AllPairs (λ a b. a < b) (numbers_below n)
numbers_ascend n i j d before below =
    let size : length (numbers_below n) ≡ n = length-numbers_below n in
    omega (arith, get_or-numbers_below n i d (omega arith), get_or-numbers_below n j d (omega arith))

Contains-numbers_below : (n k : ℕ) → k < n → Contains (numbers_below n) k
Contains-numbers_below n k below = (k, omega (arith, length-numbers_below n), get_or-numbers_below n k k below)

-- ---- one dimension

abbrev one : ℕ → Split
one d = record { first = d; second = None }

pub All-single_splits : (op : Operation) → All (λ split. (split.first < length op.dims) × (split.second ≡ None)) (single_splits op)
All-single_splits op = All-map (λ split. (split.first < length op.dims) × (split.second ≡ None)) one (numbers_below (length op.dims))
    (λ k d below. (numbers_are_below (length op.dims) k d below, refl))

pub Contains-single_splits : (op : Operation) (split : Split) → split.first < length op.dims → split.second ≡ None → Contains (single_splits op) split
Contains-single_splits op split below single = subst (Contains (single_splits op)) (sym (ap (λ second. record { first = split.first; second = second }) single))
    (Contains-map one (numbers_below (length op.dims)) split.first (Contains-numbers_below (length op.dims) split.first below))

pub single_splits-once : (op : Operation) → AllPairs (λ a b. a ≢ b) (single_splits op)
single_splits-once op = AllPairs-map (λ a b. a ≢ b) one (numbers_below (length op.dims))
    (λ i j d before below same.
    let less = numbers_ascend (length op.dims) i j d before below in
    let equal = ap (λ (split : Split). split.first) same in
    omega (arith, less, equal))

-- ---- two dimensions

abbrev two : ℕ → ℕ → Split
two d e = record { first = d; second = Some e }

-- what holds of a list of at most one split
All-if : (P : Split → Type 0) (b : Bool) (split : Split) → (b ≡ true → P split) → All P (if b then split ∷ [] else [])
All-if P true split h = All-cons P split [] (h refl) (All-nil P)
All-if P false split h = All-nil P

AllPairs-if : (R : Split → Split → Type 0) (b : Bool) (split : Split) → AllPairs R (if b then split ∷ [] else [])
AllPairs-if R true split = λ i j d before below. absurd (omega arith)
AllPairs-if R false split = λ i j d before below. absurd (omega arith)

-- a pair of this dimension and a later one
abbrev IsPairFrom : ℕ → ℕ → Split → Type 0
IsPairFrom n d split = (e : ℕ) × (split ≡ two d e) × (d < e) × (e < n)

All-pairs_from : (n d : ℕ) → All (IsPairFrom n d) (pairs_from n d)
All-pairs_from n d = All-flat_map (IsPairFrom n d) (pair_if_later d) (numbers_below n) (λ k z below. only (get_or (numbers_below n) k z) (numbers_are_below n k z below))
  where
    only : (e : ℕ) → e < n → All (IsPairFrom n d) (pair_if_later d e)
    only e below = All-if (IsPairFrom n d) (nat_lt d e) (two d e) (λ later. (e, refl, ltb-true d e later, below))

pairs_from-once : (n d : ℕ) → AllPairs (λ a b. a ≢ b) (pairs_from n d)
pairs_from-once n d = AllPairs-flat_map (λ a b. a ≢ b) (pair_if_later d) (λ e split. split.second ≡ Some e) (λ a b. a < b)
    apart (numbers_below n)
    (λ k z below. let e = get_or (numbers_below n) k z in All-if (λ split. split.second ≡ Some e) (nat_lt d e) (two d e) (λ later. refl))
    (λ k z below. let e = get_or (numbers_below n) k z in AllPairs-if (λ a b. a ≢ b) (nat_lt d e) (two d e))
    (numbers_ascend n)
  where
    apart : (a b : ℕ) (u v : Split) → a < b → u.second ≡ Some a → v.second ≡ Some b → u ≢ v
    apart a b u v less p q same =
        let seconds : Some a ≡ Some b = sym p ∙ ap (λ (split : Split). split.second) same ∙ q in
        let equal : a ≡ b = cc in
        omega arith

All-pair_splits : (op : Operation) → All (λ split. (d : ℕ) × IsPairFrom (length op.dims) d split) (pair_splits op)
All-pair_splits op =
    let n = length op.dims in
    All-flat_map (λ split. (d : ℕ) × IsPairFrom n d split) (pairs_from n) (numbers_below n)
    (λ k z below. let d = get_or (numbers_below n) k z in
    All-weaker (IsPairFrom n d) (λ split. (d : ℕ) × IsPairFrom n d split) (λ split h. (d, h)) (pairs_from n d) (All-pairs_from n d))

pair_splits-once : (op : Operation) → AllPairs (λ a b. a ≢ b) (pair_splits op)
pair_splits-once op =
    let n = length op.dims in
    AllPairs-flat_map (λ a b. a ≢ b) (pairs_from n) (IsPairFrom n) (λ a b. a < b) (apart n) (numbers_below n)
    (λ k z below. All-pairs_from n (get_or (numbers_below n) k z)) (λ k z below. pairs_from-once n (get_or (numbers_below n) k z)) (numbers_ascend n)
  where
    apart : (n a b : ℕ) (u v : Split) → a < b → IsPairFrom n a u → IsPairFrom n b v → u ≢ v
    apart n a b u v less p q same =
        let equal : a ≡ b = sym (ap (λ (split : Split). split.first) p.1) ∙ ap (λ (split : Split). split.first) same ∙ ap (λ (split : Split). split.first) q.1 in
        omega arith

-- ---- one dimension or two

pub All-splits : (op : Operation) → All (IsSplit op) (single_splits op ++ pair_splits op)
All-splits op =
    let n = length op.dims in
    All-append (IsSplit op) (single_splits op) (pair_splits op)
    (All-map (IsSplit op) one (numbers_below n) (λ k d below. (numbers_are_below n k d below, tt)))
    (All-weaker (λ split. (d : ℕ) × IsPairFrom n d split) (IsSplit op)
    (λ split h. subst (IsSplit op) (sym h.1.1) (omega (arith, h.1.2, h.1.3), (h.1.2, h.1.3))) (pair_splits op) (All-pair_splits op))

pub Contains-splits : (op : Operation) (split : Split) → IsSplit op split → Contains (single_splits op ++ pair_splits op) split
Contains-splits op split h = of_second split.first split.second h
  where
    of_second : (d : ℕ) (second : Option ℕ) → IsSplit op (record { first = d; second = second }) → Contains (single_splits op ++ pair_splits op) (record { first = d; second = second })
    of_second d None h = Contains-append_left (single_splits op) (pair_splits op) (one d) (Contains-single_splits op (one d) h.0 refl)
    of_second d (Some e) h =
        let n = length op.dims in
        let in_block : Contains (pair_if_later d e) (two d e) = rw (lt-ltb d e h.1.0) (0, omega arith, refl) in
        Contains-append_right (single_splits op) (pair_splits op) (two d e)
        (Contains-flat_map (pairs_from n) (numbers_below n) d (two d e) (Contains-numbers_below n d h.0)
        (Contains-flat_map (pair_if_later d) (numbers_below n) e (two d e) (Contains-numbers_below n e h.1.1) in_block))

pub splits-once : (op : Operation) → AllPairs (λ a b. a ≢ b) (single_splits op ++ pair_splits op)
splits-once op =
    let n = length op.dims in
    AllPairs-append (λ a b. a ≢ b) (λ split. (split.first < n) × (split.second ≡ None)) (λ split. (d : ℕ) × IsPairFrom n d split) (single_splits op) (pair_splits op)
    (single_splits-once op) (pair_splits-once op) (All-single_splits op) (All-pair_splits op)
    (λ u v p q same. absurd (none_or_some u v q.0 q.1.0 p.1 q.1.1 same))
  where
    none_or_some : (u v : Split) (d e : ℕ) → u.second ≡ None → v ≡ two d e → u ≡ v → ⊥
    none_or_some u v d e none some same = let equal : None ≡ Some e = sym none ∙ ap (λ (split : Split). split.second) same ∙ ap (λ (split : Split). split.second) some in cc
