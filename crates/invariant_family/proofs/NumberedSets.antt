-- Sets of tasks by their numbers: each subset has one, and the walk keeps the numbers of those sets whose tasks go
-- together. Cited by the walk over the sets of tasks.
use Rattle.std.proofs.Common.{◌≡◌, ℕ, zero, suc, ◌+◌, ◌*◌, ◌/◌, ◌%◌, ◌^◌, ◌<◌, ◌≤◌, List, [], ◌∷◌, ◌++◌, Bool, true, false, ◌&&◌, not, cond, if◌then◌else◌, length, get_or, map, filter, refl, sym, ap, ◌∙◌, arith, add-zero, zero-add, lt_of_lt_of_le, subst}
use Rattle.std.specs.List.{flat_map, list_all}
use Rattle.std.proofs.Math.Nat.{div-div-eq-div-mul, div-eq_of_lt, pow-le-pow_right, pow-succ'}
use Rattle.std.proofs.lemmas.Bool.{and_parts, and_from, both_ways, eq-eqb, ne_eqb, not-true, false_from_ne_true}
use Rattle.std.proofs.lemmas.List.Folds.{list_all-append}
use Rattle.operation_spec.specs.declared.task.Task.{Task}
use Rattle.invariant_family.specs.Families.{subsets}
use Rattle.invariant_family.specs.Numbers.{is_odd, has_bit, set_of, places_from, can_lack, can_hold, with_next, numbers_of}

-- ---- a number and its half

even-half : (n : ℕ) → 2 * n / 2 ≡ n
even-half n = omega arith

odd-half : (n : ℕ) → (2 * n + 1) / 2 ≡ n
odd-half n = omega arith

even-test : (n : ℕ) → is_odd (2 * n) ≡ false
even-test n = ne_eqb (2 * n % 2) 1 (λ e. omega arith)

odd-test : (n : ℕ) → is_odd (2 * n + 1) ≡ true
odd-test n = eq-eqb ((2 * n + 1) % 2) 1 (omega arith)

-- the first task is in the set of an odd number, and another one where it is in the set of the half
pub has_bit-zero : (n : ℕ) → has_bit n 0 ≡ is_odd n
has_bit-zero n = ap is_odd (omega arith)

pub has_bit-suc : (n k : ℕ) → has_bit n (suc k) ≡ has_bit (n / 2) k
has_bit-suc n k = ap is_odd (ap (λ (m : ℕ). n / m) (pow-succ' 2 k) ∙ sym (div-div-eq-div-mul n 2 (2 ^ k)))

-- a number of 64 bits has no others
pub has_bit-past : (n k : ℕ) → n < 2 ^ 64 → 64 ≤ k → has_bit n k ≡ false
has_bit-past n k below past = ap is_odd (div-eq_of_lt (lt_of_lt_of_le below (pow-le-pow_right (omega arith) past)))

-- ---- all numbers

abbrev all_numbers : List Task → List ℕ
all_numbers [] = 0 ∷ []
all_numbers (t ∷ ts) = flat_map (λ n. (2 * n) ∷ (2 * n + 1) ∷ []) (all_numbers ts)

set_of-even : (t : Task) (ts : List Task) (n : ℕ) → set_of (t ∷ ts) (2 * n) ≡ set_of ts n
set_of-even t ts n = rw (even-test n, even-half n) refl

set_of-odd : (t : Task) (ts : List Task) (n : ℕ) → set_of (t ∷ ts) (2 * n + 1) ≡ t ∷ set_of ts n
set_of-odd t ts n = rw (odd-test n, odd-half n) refl

-- they are the numbers of all subsets, in order
subsets-numbered : (ts : List Task) → subsets ts ≡ map (set_of ts) (all_numbers ts)
subsets-numbered [] = refl
subsets-numbered (t ∷ ts) = ap (flat_map (λ s. s ∷ (t ∷ s) ∷ [])) (subsets-numbered ts) ∙ each (all_numbers ts)
  where
    each : (ns : List ℕ) → flat_map (λ s. s ∷ (t ∷ s) ∷ []) (map (set_of ts) ns) ≡ map (set_of (t ∷ ts)) (flat_map (λ n. (2 * n) ∷ (2 * n + 1) ∷ []) ns)
    each [] = refl
    each (n ∷ ns) = rw (set_of-even t ts n, set_of-odd t ts n, each ns) refl

-- ---- places

-- what holds of the places of a list holds of those of the tasks that pass the test
all-places : (test : Task → Bool) (P : ℕ → Bool) (k : ℕ) (ts : List Task)
    → ((q : ℕ) (d : Task) → q < length ts → test (get_or ts q d) ≡ true → P (k + q) ≡ true) → list_all P (places_from test k ts) ≡ true
all-places test P k [] each = refl
all-places test P k (t ∷ ts) each =
    list_all-append P (if test t then k ∷ [] else []) (places_from test (k + 1) ts)
    ∙ and_from _ (list_all P (places_from test (k + 1) ts)) (first (test t) refl)
    (all-places test P (k + 1) ts (λ q d below passes. subst (λ m. P m ≡ true) (omega arith) (each (suc q) d (omega arith) passes)))
  where
    first : (b : Bool) → test t ≡ b → list_all P (if b then k ∷ [] else []) ≡ true
    first true passes = and_from (P k) true (subst (λ m. P m ≡ true) (add-zero k) (each 0 t (omega arith) passes)) refl
    first false fails = refl

-- and back
places-all : (test : Task → Bool) (P : ℕ → Bool) (k : ℕ) (ts : List Task) → list_all P (places_from test k ts) ≡ true
    → (q : ℕ) (d : Task) → q < length ts → test (get_or ts q d) ≡ true → P (k + q) ≡ true
places-all test P k [] each q d below passes = absurd (omega arith)
places-all test P k (t ∷ ts) each zero d below passes = subst (λ m. P m ≡ true) (sym (add-zero k))
    (first (test t) passes (and_parts _ (list_all P (places_from test (k + 1) ts)) (sym (list_all-append P (if test t then k ∷ [] else []) (places_from test (k + 1) ts)) ∙ each)).0)
  where
    first : (b : Bool) → b ≡ true → list_all P (if b then k ∷ [] else []) ≡ true → P k ≡ true
    first true is h = (and_parts (P k) true h).0
    first false is h = absurd (both_ways _ refl is)
places-all test P k (t ∷ ts) each (suc q) d below passes = subst (λ m. P m ≡ true) (omega arith)
    (places-all test P (k + 1) ts (and_parts (list_all P (if test t then k ∷ [] else [])) (list_all P (places_from test (k + 1) ts)) (sym (list_all-append P (if test t then k ∷ [] else []) (places_from test (k + 1) ts)) ∙ each)).1
    q d (omega arith) passes)

-- ---- the numbers that are kept

-- a test of two items and others
filter-two : (test : ℕ → Bool) (a b : ℕ) (ns : List ℕ) (x y : Bool) → test a ≡ x → test b ≡ y
    → filter test (a ∷ b ∷ ns) ≡ ((if x then a ∷ [] else []) ++ (if y then b ∷ [] else [])) ++ filter test ns
filter-two test a b ns true true p q = rw (p, q) refl
filter-two test a b ns true false p q = rw (p, q) refl
filter-two test a b ns false true p q = rw (p, q) refl
filter-two test a b ns false false p q = rw (p, q) refl

module _ (wants : Task → Task → Bool) (may_hold may_lack : Task → Bool) where
  -- the first task may be out of the set, or in it
  abbrev lacks : Task → List Task → ℕ → Bool
  lacks t ts = can_lack (may_lack t) (places_from (λ b. wants b t) 0 ts)

  abbrev holds_it : Task → List Task → ℕ → Bool
  holds_it t ts = can_hold (may_hold t) (places_from (wants t) 0 ts)

  -- the tasks of the set with a number go together
  abbrev pub fits : List Task → ℕ → Bool
  fits [] n = true
  fits (t ∷ ts) n = (if is_odd n then holds_it t ts (n / 2) else lacks t ts (n / 2)) && fits ts (n / 2)

  fits-even : (t : Task) (ts : List Task) (n : ℕ) → fits (t ∷ ts) (2 * n) ≡ (lacks t ts n && fits ts n)
  fits-even t ts n = rw (even-test n, even-half n) refl

  fits-odd : (t : Task) (ts : List Task) (n : ℕ) → fits (t ∷ ts) (2 * n + 1) ≡ (holds_it t ts n && fits ts n)
  fits-odd t ts n = rw (odd-test n, odd-half n) refl

  and-true : (b : Bool) → (b && true) ≡ b
  and-true true = refl
  and-true false = refl

  and-false : (b : Bool) → (b && false) ≡ false
  and-false true = refl
  and-false false = refl

  kept-numbers : (ts : List Task) → numbers_of wants may_hold may_lack ts ≡ filter (fits ts) (all_numbers ts)
  kept-numbers [] = refl
  kept-numbers (t ∷ ts) = ap (flat_map (with_next (lacks t ts) (holds_it t ts))) (kept-numbers ts) ∙ each (all_numbers ts)
    where
      one : (n : ℕ) (ns : List ℕ) (z : Bool) → fits ts n ≡ z
          → flat_map (with_next (lacks t ts) (holds_it t ts)) (filter (fits ts) ns) ≡ filter (fits (t ∷ ts)) (flat_map (λ n. (2 * n) ∷ (2 * n + 1) ∷ []) ns)
          → flat_map (with_next (lacks t ts) (holds_it t ts)) (cond z (n ∷ filter (fits ts) ns) (filter (fits ts) ns))
          ≡ filter (fits (t ∷ ts)) ((2 * n) ∷ (2 * n + 1) ∷ flat_map (λ n. (2 * n) ∷ (2 * n + 1) ∷ []) ns)
      one n ns true fit rest =
          ap (λ more. with_next (lacks t ts) (holds_it t ts) n ++ more) rest
          ∙ sym (filter-two (fits (t ∷ ts)) (2 * n) (2 * n + 1) (flat_map (λ n. (2 * n) ∷ (2 * n + 1) ∷ []) ns) (lacks t ts n) (holds_it t ts n)
          (fits-even t ts n ∙ ap (λ b. lacks t ts n && b) fit ∙ and-true (lacks t ts n)) (fits-odd t ts n ∙ ap (λ b. holds_it t ts n && b) fit ∙ and-true (holds_it t ts n)))
      one n ns false fit rest =
          rest
          ∙ sym (filter-two (fits (t ∷ ts)) (2 * n) (2 * n + 1) (flat_map (λ n. (2 * n) ∷ (2 * n + 1) ∷ []) ns) false false
          (fits-even t ts n ∙ ap (λ b. lacks t ts n && b) fit ∙ and-false (lacks t ts n)) (fits-odd t ts n ∙ ap (λ b. holds_it t ts n && b) fit ∙ and-false (holds_it t ts n)))

      each : (ns : List ℕ) → flat_map (with_next (lacks t ts) (holds_it t ts)) (filter (fits ts) ns) ≡ filter (fits (t ∷ ts)) (flat_map (λ n. (2 * n) ∷ (2 * n + 1) ∷ []) ns)
      each [] = refl
      each (n ∷ ns) = one n ns (fits ts n) refl (each ns)

  -- so they are the numbers of the subsets whose tasks go together
  pub kept-subsets : (test : List Task → Bool) (ts : List Task) → ((n : ℕ) → test (set_of ts n) ≡ fits ts n)
      → map (set_of ts) (numbers_of wants may_hold may_lack ts) ≡ filter test (subsets ts)
  kept-subsets test ts same = ap (map (set_of ts)) (kept-numbers ts) ∙ each (all_numbers ts) ∙ ap (filter test) (sym (subsets-numbered ts))
    where
      one : (n : ℕ) (ns : List ℕ) (z : Bool) → test (set_of ts n) ≡ z → fits ts n ≡ z → map (set_of ts) (filter (fits ts) ns) ≡ filter test (map (set_of ts) ns)
          → map (set_of ts) (filter (fits ts) (n ∷ ns)) ≡ filter test (set_of ts n ∷ map (set_of ts) ns)
      one n ns true p q rest = rw (p, q) (ap (λ sets. set_of ts n ∷ sets) rest)
      one n ns false p q rest = rw (p, q) rest

      each : (ns : List ℕ) → map (set_of ts) (filter (fits ts) ns) ≡ filter test (map (set_of ts) ns)
      each [] = refl
      each (n ∷ ns) = one n ns (fits ts n) (same n) refl (each ns)

  -- ---- place by place

  -- each task that is held may be and brings what it wants, and each that is lacking may be
  pub record GoTogether (ts : List Task) (n : ℕ) : Type 0 where
    pub held : (p : ℕ) (d : Task) → p < length ts → has_bit n p ≡ true → may_hold (get_or ts p d) ≡ true
    pub lacking : (p : ℕ) (d : Task) → p < length ts → has_bit n p ≡ false → may_lack (get_or ts p d) ≡ true
    pub brought : (p q : ℕ) (d : Task) → p < length ts → q < length ts → wants (get_or ts p d) (get_or ts q d) ≡ true → has_bit n p ≡ true → has_bit n q ≡ true

  -- the tasks behind the first one
  behind : (t : Task) (ts : List Task) (n : ℕ) → GoTogether (t ∷ ts) n → GoTogether ts (n / 2)
  behind t ts n all = record {
    held = λ p d below bit. all.held (suc p) d (omega arith) (has_bit-suc n p ∙ bit);
    lacking = λ p d below bit. all.lacking (suc p) d (omega arith) (has_bit-suc n p ∙ bit);
    brought = λ p q d p_below q_below w bit. sym (has_bit-suc n q) ∙ all.brought (suc p) (suc q) d (omega arith) (omega arith) w (has_bit-suc n p ∙ bit);
  }

  -- where the first one is in the set, and where it isn't
  in-front : (t : Task) (ts : List Task) (n : ℕ) → is_odd n ≡ true → holds_it t ts (n / 2) ≡ true → GoTogether ts (n / 2) → GoTogether (t ∷ ts) n
  in-front t ts n odd h rest = record { held = held; lacking = lacking; brought = brought }
    where
      parts : (may_hold t ≡ true) × (list_all (has_bit (n / 2)) (places_from (wants t) 0 ts) ≡ true)
      parts = and_parts (may_hold t) (list_all (has_bit (n / 2)) (places_from (wants t) 0 ts)) h

      held : (p : ℕ) (d : Task) → p < suc (length ts) → has_bit n p ≡ true → may_hold (get_or (t ∷ ts) p d) ≡ true
      held zero d below bit = parts.0
      held (suc p) d below bit = rest.held p d (omega arith) (sym (has_bit-suc n p) ∙ bit)

      lacking : (p : ℕ) (d : Task) → p < suc (length ts) → has_bit n p ≡ false → may_lack (get_or (t ∷ ts) p d) ≡ true
      lacking zero d below bit = absurd (both_ways _ (sym (has_bit-zero n) ∙ bit) odd)
      lacking (suc p) d below bit = rest.lacking p d (omega arith) (sym (has_bit-suc n p) ∙ bit)

      brought : (p q : ℕ) (d : Task) → p < suc (length ts) → q < suc (length ts) → wants (get_or (t ∷ ts) p d) (get_or (t ∷ ts) q d) ≡ true → has_bit n p ≡ true → has_bit n q ≡ true
      brought p zero d p_below q_below w bit = has_bit-zero n ∙ odd
      brought zero (suc q) d p_below q_below w bit =
          has_bit-suc n q ∙ subst (λ m. has_bit (n / 2) m ≡ true) (zero-add q) (places-all (wants t) (has_bit (n / 2)) 0 ts parts.1 q d (omega arith) w)
      brought (suc p) (suc q) d p_below q_below w bit = has_bit-suc n q ∙ rest.brought p q d (omega arith) (omega arith) w (sym (has_bit-suc n p) ∙ bit)

  not-in-front : (t : Task) (ts : List Task) (n : ℕ) → is_odd n ≡ false → lacks t ts (n / 2) ≡ true → GoTogether ts (n / 2) → GoTogether (t ∷ ts) n
  not-in-front t ts n even h rest = record { held = held; lacking = lacking; brought = brought }
    where
      parts : (may_lack t ≡ true) × (list_all (λ k. not (has_bit (n / 2) k)) (places_from (λ b. wants b t) 0 ts) ≡ true)
      parts = and_parts (may_lack t) (list_all (λ k. not (has_bit (n / 2) k)) (places_from (λ b. wants b t) 0 ts)) h

      held : (p : ℕ) (d : Task) → p < suc (length ts) → has_bit n p ≡ true → may_hold (get_or (t ∷ ts) p d) ≡ true
      held zero d below bit = absurd (both_ways _ even (sym (has_bit-zero n) ∙ bit))
      held (suc p) d below bit = rest.held p d (omega arith) (sym (has_bit-suc n p) ∙ bit)

      lacking : (p : ℕ) (d : Task) → p < suc (length ts) → has_bit n p ≡ false → may_lack (get_or (t ∷ ts) p d) ≡ true
      lacking zero d below bit = parts.0
      lacking (suc p) d below bit = rest.lacking p d (omega arith) (sym (has_bit-suc n p) ∙ bit)

      brought : (p q : ℕ) (d : Task) → p < suc (length ts) → q < suc (length ts) → wants (get_or (t ∷ ts) p d) (get_or (t ∷ ts) q d) ≡ true → has_bit n p ≡ true → has_bit n q ≡ true
      brought zero q d p_below q_below w bit = absurd (both_ways _ even (sym (has_bit-zero n) ∙ bit))
      brought (suc p) zero d p_below q_below w bit =
          let without = places-all (λ b. wants b t) (λ k. not (has_bit (n / 2) k)) 0 ts parts.1 p d (omega arith) w in
          let out = subst (λ m. has_bit (n / 2) m ≡ false) (zero-add p) (not-true (has_bit (n / 2) (0 + p)) without) in
          absurd (both_ways _ out (sym (has_bit-suc n p) ∙ bit))
      brought (suc p) (suc q) d p_below q_below w bit = has_bit-suc n q ∙ rest.brought p q d (omega arith) (omega arith) w (sym (has_bit-suc n p) ∙ bit)

  pub together-from_fits : (ts : List Task) (n : ℕ) → fits ts n ≡ true → GoTogether ts n
  together-from_fits [] n h = record { held = λ p d below bit. absurd (omega arith); lacking = λ p d below bit. absurd (omega arith); brought = λ p q d p_below q_below w bit. absurd (omega arith) }
  together-from_fits (t ∷ ts) n h =
      let parts = and_parts (if is_odd n then holds_it t ts (n / 2) else lacks t ts (n / 2)) (fits ts (n / 2)) h in
      go (is_odd n) refl parts.0 (together-from_fits ts (n / 2) parts.1)
    where
      go : (b : Bool) → is_odd n ≡ b → (if b then holds_it t ts (n / 2) else lacks t ts (n / 2)) ≡ true → GoTogether ts (n / 2) → GoTogether (t ∷ ts) n
      go true odd first rest = in-front t ts n odd first rest
      go false even first rest = not-in-front t ts n even first rest

  pub fits-from_together : (ts : List Task) (n : ℕ) → GoTogether ts n → fits ts n ≡ true
  fits-from_together [] n all = refl
  fits-from_together (t ∷ ts) n all = and_from (if is_odd n then holds_it t ts (n / 2) else lacks t ts (n / 2)) (fits ts (n / 2)) (first (is_odd n) refl) (fits-from_together ts (n / 2) (behind t ts n all))
    where
      first : (b : Bool) → is_odd n ≡ b → (if b then holds_it t ts (n / 2) else lacks t ts (n / 2)) ≡ true
      first true odd = and_from (may_hold t) (list_all (has_bit (n / 2)) (places_from (wants t) 0 ts)) (all.held 0 t (omega arith) (has_bit-zero n ∙ odd))
          (all-places (wants t) (has_bit (n / 2)) 0 ts (λ q d below w.
          subst (λ m. has_bit (n / 2) m ≡ true) (sym (zero-add q)) (sym (has_bit-suc n q) ∙ all.brought 0 (suc q) d (omega arith) (omega arith) w (has_bit-zero n ∙ odd))))
      first false even = and_from (may_lack t) (list_all (λ k. not (has_bit (n / 2) k)) (places_from (λ b. wants b t) 0 ts)) (all.lacking 0 t (omega arith) (has_bit-zero n ∙ even))
          (all-places (λ b. wants b t) (λ k. not (has_bit (n / 2) k)) 0 ts (λ p d below w.
          ap not (false_from_ne_true (has_bit (n / 2) (0 + p)) (λ bit.
          both_ways _ even (sym (has_bit-zero n) ∙ all.brought (suc p) 0 d (omega arith) (omega arith) w (has_bit-suc n p ∙ subst (λ m. has_bit (n / 2) m ≡ true) (zero-add p) bit))))))
