-- How tallies change when one seat learns a fact.
use Rattle.std.proofs.Common.{◌≡◌, ℕ, zero, suc, ◌+◌, ◌≤◌, List, [], ◌∷◌, set, refl, sym, ap, arith}
use mathlib.Core.Option.{some, some-injective, some-ne-none}
use lib.ListN.{get_elem?}
use Rattle.block_store.specs.Tallies.{weigh, amount, count_in, stand_for}
use Rattle.block_store.specs.declared.view.Fact.{Fact}
use Rattle.block_store.specs.declared.view.View.{View}

pub amount-set : (h : Fact → ℕ) (views : List View) (id : ℕ) (v w : View) → get_elem? views id ≡ some v → amount h (set views id w) + weigh h v.facts ≡ amount h views + weigh h w.facts
amount-set h [] id v w at = absurd (some-ne-none v (sym at))
amount-set h (u ∷ others) zero v w at = let e : weigh h u.facts ≡ weigh h v.facts = ap (λ (x : View). weigh h x.facts) (some-injective u v at) in omega arith
amount-set h (u ∷ others) (suc id) v w at = omega (arith, amount-set h others id v w at)

-- a seat has learned the fact e
pub amount-more : (h : Fact → ℕ) (e : Fact) (views : List View) (id : ℕ) (v w : View) → get_elem? views id ≡ some v → w.facts ≡ e ∷ v.facts → amount h (set views id w) ≡ amount h views + h e
amount-more h e views id v w at is = let more : weigh h w.facts ≡ h e + weigh h v.facts = ap (weigh h) is in omega (arith, amount-set h views id v w at)

pub amount-same : (h : Fact → ℕ) (views : List View) (id : ℕ) (v w : View) → get_elem? views id ≡ some v → w.facts ≡ v.facts → amount h (set views id w) ≡ amount h views
amount-same h views id v w at is = let more : weigh h w.facts ≡ weigh h v.facts = ap (weigh h) is in omega (arith, amount-set h views id v w at)

pub amount-still : (h : Fact → ℕ) (e : Fact) (views : List View) (id : ℕ) (v w : View) → get_elem? views id ≡ some v → w.facts ≡ e ∷ v.facts → h e ≡ 0 → amount h (set views id w) ≡ amount h views
amount-still h e views id v w at is z = omega (arith, amount-more h e views id v w at is)

pub amount-has : (h : Fact → ℕ) (views : List View) (id : ℕ) (v : View) → get_elem? views id ≡ some v → weigh h v.facts ≤ amount h views
amount-has h [] id v at = absurd (some-ne-none v (sym at))
amount-has h (u ∷ others) zero v at = let e : weigh h u.facts ≡ weigh h v.facts = ap (λ (x : View). weigh h x.facts) (some-injective u v at) in omega arith
amount-has h (u ∷ others) (suc id) v at = omega (arith, amount-has h others id v at)

-- each view weighs no more by h than by k
abbrev pub EachLe : (h k : Fact → ℕ) → List View → Type 0
EachLe h k views = (j : ℕ) (v : View) → get_elem? views j ≡ some v → weigh h v.facts ≤ weigh k v.facts

pub amount-le : (h k : Fact → ℕ) (views : List View) → EachLe h k views → amount h views ≤ amount k views
amount-le h k [] each = omega arith
amount-le h k (u ∷ others) each = omega (arith, each 0 u refl, amount-le h k others (λ j v at. each (suc j) v at))

-- so do all views but one together
pub amount-others : (h k : Fact → ℕ) (views : List View) (id : ℕ) (v : View) → EachLe h k views → get_elem? views id ≡ some v → amount h views + weigh k v.facts ≤ amount k views + weigh h v.facts
amount-others h k [] id v each at = absurd (some-ne-none v (sym at))
amount-others h k (u ∷ others) zero v each at =
    let e : weigh h u.facts ≡ weigh h v.facts = ap (λ (x : View). weigh h x.facts) (some-injective u v at) in
    let f : weigh k u.facts ≡ weigh k v.facts = ap (λ (x : View). weigh k x.facts) (some-injective u v at) in
    omega (arith, amount-le h k others (λ j x there. each (suc j) x there))
amount-others h k (u ∷ others) (suc id) v each at = omega (arith, each 0 u refl, amount-others h k others id v (λ j x there. each (suc j) x there) at)

pub weigh-sum : (h k l : Fact → ℕ) → ((f : Fact) → h f ≡ k f + l f) → (fs : List Fact) → weigh h fs ≡ weigh k fs + weigh l fs
weigh-sum h k l each [] = refl
weigh-sum h k l each (f ∷ fs) = omega (arith, each f, weigh-sum h k l each fs)

pub amount-sum : (h k l : Fact → ℕ) → ((f : Fact) → h f ≡ k f + l f) → (views : List View) → amount h views ≡ amount k views + amount l views
amount-sum h k l each [] = refl
amount-sum h k l each (v ∷ views) = omega (arith, weigh-sum h k l each v.facts, amount-sum h k l each views)

pub weigh-zero : (h k : Fact → ℕ) → ((f : Fact) → h f ≡ 0 → k f ≡ 0) → (fs : List Fact) → weigh h fs ≡ 0 → weigh k fs ≡ 0
weigh-zero h k each [] z = refl
weigh-zero h k each (f ∷ fs) z = omega (arith, each f (omega arith), weigh-zero h k each fs (omega arith))

pub amount-zero : (h k : Fact → ℕ) → ((f : Fact) → h f ≡ 0 → k f ≡ 0) → (views : List View) → amount h views ≡ 0 → amount k views ≡ 0
amount-zero h k each [] z = refl
amount-zero h k each (v ∷ views) z = omega (arith, weigh-zero h k each v.facts (omega arith), amount-zero h k each views (omega arith))

pub stand_for-set : (k : ℕ) (views : List View) (id : ℕ) (v w : View) → get_elem? views id ≡ some v → stand_for k (set views id w) + count_in k v.workers ≡ stand_for k views + count_in k w.workers
stand_for-set k [] id v w at = absurd (some-ne-none v (sym at))
stand_for-set k (u ∷ others) zero v w at = let e : count_in k u.workers ≡ count_in k v.workers = ap (λ (x : View). count_in k x.workers) (some-injective u v at) in omega arith
stand_for-set k (u ∷ others) (suc id) v w at = omega (arith, stand_for-set k others id v w at)
