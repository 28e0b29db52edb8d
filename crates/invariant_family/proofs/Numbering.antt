-- Lists along numbers that go up by one: the variants of a family, and what stands for each dimension. Cited by the
-- functions that add variants to a family, and by those that make cuts.
use Rattle.std.proofs.Common.{◌≡◌, inl, inr, ◌⊎◌, ℕ, zero, suc, ◌+◌, ◌<◌, ◌≤◌, Option, Some, None, List, [], ◌∷◌, ◌++◌, length, take, get_or, append_assoc, length-append, refl, sym, ap, subst, ◌∙◌, arith, add-zero, add-one, map}
use Rattle.std.specs.Prelude.{◌↔◌, All, AllPairs, Contains}
use Rattle.std.proofs.lemmas.Bool.{cases_lt}
use Rattle.std.proofs.lemmas.Option.{slice_get-get_or, slice_get_past}
use Rattle.std.proofs.lemmas.List.{map-append, append-nil, take_more}
use Rattle.std.proofs.lemmas.List.Concat.{flat_map-append}
use Rattle.std.proofs.lemmas.List.Elements.{All-contains_itself}
use Rattle.std.specs.List.{flat_map}
use Rattle.task_graph.specs.Order.{numbers_below}
use Rattle.operation_spec.specs.declared.split.Split.{Split}
use Rattle.operation_spec.specs.declared.split.Dirs.{Dirs}
use Rattle.operation_spec.specs.declared.split.Dir.TheVariants.{Forward}
use Rattle.operation_spec.specs.declared.task.Task.{Task}
use Rattle.invariant_family.specs.declared.variant.Variant.{Variant}
use Rattle.invariant_family.specs.Families.{Invariant, invariant_of, invariant_of_variant, numbered_from, variant_numbered}

pub length-numbered_from : (n : ℕ) (vs : List Invariant) → length (numbered_from n vs) ≡ length vs
length-numbered_from n [] = refl
length-numbered_from n (v ∷ vs) = ap (λ k. suc k) (length-numbered_from (n + 1) vs)

-- the variant at a place
pub number-numbered_from : (n : ℕ) (vs : List Invariant) (k : ℕ) (d : Variant) → k < length vs → (get_or (numbered_from n vs) k d).number ≡ n + k
number-numbered_from n [] k d below = absurd (omega arith)
number-numbered_from n (v ∷ vs) zero d below = omega arith
number-numbered_from n (v ∷ vs) (suc k) d below = omega (arith, number-numbered_from (n + 1) vs k d (omega arith))

pub invariant-numbered_from : (n : ℕ) (vs : List Invariant) (k : ℕ) (d : Variant) (e : Invariant) → k < length vs → invariant_of_variant (get_or (numbered_from n vs) k d) ≡ get_or vs k e
invariant-numbered_from n [] k d e below = absurd (omega arith)
invariant-numbered_from n (v ∷ vs) zero d e below = refl
invariant-numbered_from n (v ∷ vs) (suc k) d e below = invariant-numbered_from (n + 1) vs k d e (omega arith)

-- what holds of the invariants holds of those that the variants keep
pub All-numbered_from : (P : Invariant → Type 0) (n : ℕ) (vs : List Invariant) → All P vs → All (λ v. P (invariant_of_variant v)) (numbered_from n vs)
All-numbered_from P n vs each k d below =
    let within : k < length vs = omega (arith, length-numbered_from n vs) in
    let e = invariant_of_variant d in
    subst P (sym (invariant-numbered_from n vs k d e within)) (each k e within)

pub AllPairs-numbered_from : (R : Invariant → Invariant → Type 0) (n : ℕ) (vs : List Invariant) → AllPairs R vs → AllPairs (λ u v. R (invariant_of_variant u) (invariant_of_variant v)) (numbered_from n vs)
AllPairs-numbered_from R n vs pairs i j d before below =
    let within : j < length vs = omega (arith, length-numbered_from n vs) in
    let e = invariant_of_variant d in
    let first = invariant-numbered_from n vs i d e (omega arith) in
    let second = invariant-numbered_from n vs j d e within in
    subst (λ u. R u (invariant_of_variant (get_or (numbered_from n vs) j d))) (sym first) (subst (λ v. R (get_or vs i e) v) (sym second) (pairs i j e before within))

-- one of the variants keeps an invariant
pub Contains-numbered_from : (n : ℕ) (vs : List Invariant) (w : Invariant) → Contains vs w → (v : Variant) × Contains (numbered_from n vs) v × (invariant_of_variant v ≡ w)
Contains-numbered_from n vs w (k, below, at) =
    let d : Variant = record { number = 0; split = w.split; dirs = w.dirs; kept = w.kept } in
    let within : k < length (numbered_from n vs) = omega (arith, length-numbered_from n vs) in
    (get_or (numbered_from n vs) k d, All-contains_itself (numbered_from n vs) k d within, invariant-numbered_from n vs k d w below ∙ at)

-- the numbers of a second part go on where those of the first end
pub numbered_from-append : (n : ℕ) (us vs : List Invariant) → numbered_from n (us ++ vs) ≡ numbered_from n us ++ numbered_from (n + length us) vs
numbered_from-append n [] vs = ap (λ k. numbered_from k vs) (sym (add-zero n))
numbered_from-append n (u ∷ us) vs =
    let next : (n + 1) + length us ≡ n + suc (length us) = omega arith in
    ap (λ rest. record { number = n; split = u.split; dirs = u.dirs; kept = u.kept } ∷ rest) (numbered_from-append (n + 1) us vs ∙ ap (λ k. numbered_from (n + 1) us ++ numbered_from k vs) next)

-- a family goes on with further invariants
pub family_more : (old family more : List Variant) (us vs : List Invariant)
    → family ≡ old ++ numbered_from (length old + 1) us → more ≡ family ++ numbered_from (length family + 1) vs
    → more ≡ old ++ numbered_from (length old + 1) (us ++ vs)
family_more old family more us vs family_is more_is =
    let size : length family ≡ length old + length us = ap length family_is ∙ length-append old (numbered_from (length old + 1) us) ∙ ap (λ k. length old + k) (length-numbered_from (length old + 1) us) in
    let next : length family + 1 ≡ (length old + 1) + length us = omega arith in
    more_is
    ∙ ap (λ (k : ℕ). family ++ numbered_from k vs) next
    ∙ ap (λ ws. ws ++ numbered_from ((length old + 1) + length us) vs) family_is
    ∙ append_assoc old (numbered_from (length old + 1) us) (numbered_from ((length old + 1) + length us) vs)
    ∙ ap (λ ws. old ++ ws) (sym (numbered_from-append (length old + 1) us vs))

-- one feasible set more
pub family_more-set : (split : Split) (dirs : Dirs) (old family more : List Variant) (sets : List (List Task)) (s : List Task)
    → family ≡ old ++ numbered_from (length old + 1) (map (invariant_of split dirs) sets)
    → more ≡ family ++ record { number = length family + 1; split = split; dirs = dirs; kept = s } ∷ []
    → more ≡ old ++ numbered_from (length old + 1) (map (invariant_of split dirs) (sets ++ s ∷ []))
family_more-set split dirs old family more sets s family_is more_is =
    family_more old family more (map (invariant_of split dirs) sets) (invariant_of split dirs s ∷ []) family_is more_is
    ∙ ap (λ us. old ++ numbered_from (length old + 1) us) (sym (map-append (invariant_of split dirs) sets (s ∷ [])))

-- one item more of a list whose items give invariants
pub family_more-item : {X : Type 0} (give : X → List Invariant) (items : List X) (n : ℕ) (d : X) (old family more : List Variant) → n < length items
    → family ≡ old ++ numbered_from (length old + 1) (flat_map give (take n items))
    → more ≡ family ++ numbered_from (length family + 1) (give (get_or items n d))
    → more ≡ old ++ numbered_from (length old + 1) (flat_map give (take (n + 1) items))
family_more-item give items n d old family more below family_is more_is =
    family_more old family more (flat_map give (take n items)) (give (get_or items n d)) family_is more_is
    ∙ ap (λ us. old ++ numbered_from (length old + 1) us) (sym (
    ap (flat_map give) (take_more items n d below)
    ∙ flat_map-append give (take n items) (get_or items n d ∷ [])
    ∙ ap (λ us. flat_map give (take n items) ++ us) (append-nil (give (get_or items n d)))))

-- a function of each number below n, with one number more
pub map_numbers_more : {X : Type 0} (f : ℕ → X) (n : ℕ) → map f (numbers_below (n + 1)) ≡ map f (numbers_below n) ++ f n ∷ []
map_numbers_more f n = rw add-one (map-append f (numbers_below n) (n ∷ []))

-- ---- finding a variant by its number

-- the variant at a place is found by the number that follows
pub found_at : (vs : List Variant) (k : ℕ) (d : Variant) → k < length vs → variant_numbered vs (suc k) ≡ Some (get_or vs k d)
found_at vs k d below = slice_get-get_or vs k d below

-- none is found by 0, and none by a number past the length
pub none_found : (vs : List Variant) (number : ℕ) (found : Option Variant) → found ≡ variant_numbered vs number
    → (found ≡ None) ↔ ((number ≡ 0) ⊎ (length vs < number))
none_found vs zero found is = (λ none. inl refl, λ past. is)
none_found vs (suc k) found is = (λ none. inr (past (cases_lt k (length vs)) none), λ number. is ∙ slice_get_past vs k (beyond number))
  where
    unnamed : Variant
    unnamed = record { number = 0; split = record { first = 0; second = None }; dirs = record { first = Forward; second = Forward }; kept = [] }

    some_or_none : {v : Variant} → Some v ≡ None → ⊥
    some_or_none e = cc

    past : (k < length vs) ⊎ (length vs ≤ k) → found ≡ None → length vs < suc k
    past (inl below) none = absurd (some_or_none (sym (slice_get-get_or vs k unnamed below) ∙ sym is ∙ none))
    past (inr beyond) none = omega arith

    beyond : (suc k ≡ 0) ⊎ (length vs < suc k) → length vs ≤ k
    beyond (inl e) = absurd (omega arith)
    beyond (inr h) = omega arith
