-- Sums over all views, when one view changes, a view is added, or the terms are compared.
use Rattle.std.proofs.Common.{◌≡◌, ℕ, zero, suc, ◌+◌, ◌*◌, ◌<◌, ◌≤◌, inl, inr, List, [], ◌∷◌, ◌++◌, set, refl, sym, ap, subst, arith}
use Rattle.std.proofs.lemmas.Bool.{cases_eq}
use Rattle.std.specs.Prelude.{All, Contains}
use mathlib.Core.Option.{some, some-injective, some-ne-none}
use lib.ListN.{get_elem?}
use Rattle.ready_queue.specs.declared.pass_view.PassView.{PassView}
use Rattle.ready_queue.specs.PassViews.{total}

-- ---- elements by their place

pub all-at : {X : Type 0} (P : X → Type 0) (xs : List X) (i : ℕ) (x : X) → All P xs → get_elem? xs i ≡ some x → P x
all-at P [] i x all at = absurd (some-ne-none x (sym at))
all-at P (y ∷ xs) zero x all at = subst P (some-injective y x at) (all 0 x (omega arith))
all-at P (y ∷ xs) (suc i) x all at = all-at P xs i x (λ k d below. all (suc k) d (omega arith)) at

pub contains-at : {X : Type 0} (xs : List X) (i : ℕ) (x : X) → get_elem? xs i ≡ some x → Contains xs x
contains-at [] i x at = absurd (some-ne-none x (sym at))
contains-at (y ∷ xs) zero x at = (0, omega arith, some-injective y x at)
contains-at (y ∷ xs) (suc i) x at = let c = contains-at xs i x at in (suc c.0, omega (arith, c.1), c.2)

-- what is put in a place is there
pub contains-set : {X : Type 0} (xs : List X) (i : ℕ) (x y : X) → get_elem? xs i ≡ some x → Contains (set xs i y) y
contains-set [] i x y at = absurd (some-ne-none x (sym at))
contains-set (z ∷ xs) zero x y at = (0, omega arith, refl)
contains-set (z ∷ xs) (suc i) x y at = let c = contains-set xs i x y at in (suc c.0, omega (arith, c.1), c.2)

-- ---- one view changes, or is added

pub total-set : (f : PassView → ℕ) (views : List PassView) (i : ℕ) (v w : PassView) → get_elem? views i ≡ some v → total f (set views i w) + f v ≡ total f views + f w
total-set f [] i v w at = absurd (some-ne-none v (sym at))
total-set f (u ∷ views) zero v w at = let e : f u ≡ f v = ap f (some-injective u v at) in omega arith
total-set f (u ∷ views) (suc i) v w at = omega (arith, total-set f views i v w at)

pub total-push : (f : PassView → ℕ) (views : List PassView) (w : PassView) → total f (views ++ w ∷ []) ≡ total f views + f w
total-push f [] w = omega arith
total-push f (v ∷ views) w = omega (arith, total-push f views w)

-- ---- terms

pub total-le : (f g : PassView → ℕ) (views : List PassView) → All (λ v. f v ≤ g v) views → total f views ≤ total g views
total-le f g [] each = omega arith
total-le f g (u ∷ views) each = omega (arith, each 0 u (omega arith), total-le f g views (λ k d below. each (suc k) d (omega arith)))

-- the same of all views but one
pub total-others : (f g : PassView → ℕ) (views : List PassView) (i : ℕ) (v : PassView) → All (λ u. f u ≤ g u) views → get_elem? views i ≡ some v → total f views + g v ≤ total g views + f v
total-others f g [] i v each at = absurd (some-ne-none v (sym at))
total-others f g (u ∷ views) zero v each at =
    let e : f u ≡ f v = ap f (some-injective u v at) in
    let d : g u ≡ g v = ap g (some-injective u v at) in
    omega (arith, total-le f g views (λ k d below. each (suc k) d (omega arith)))
total-others f g (u ∷ views) (suc i) v each at = omega (arith, each 0 u (omega arith), total-others f g views i v (λ k d below. each (suc k) d (omega arith)) at)

pub total-scale : (n : ℕ) (f : PassView → ℕ) (views : List PassView) → total (λ v. n * f v) views ≡ n * total f views
total-scale n f [] = omega arith
total-scale n f (v ∷ views) = omega (arith, total-scale n f views)

-- each term is at most the sum
pub total-each : (f : PassView → ℕ) (views : List PassView) → All (λ v. f v ≤ total f views) views
total-each f [] k d below = absurd (omega arith)
total-each f (u ∷ views) zero d below = omega arith
total-each f (u ∷ views) (suc k) d below = omega (arith, total-each f views k d (omega arith))

-- where the sum isn't 0, some term isn't
pub total-some : (f : PassView → ℕ) (P : Type 0) (views : List PassView) → 0 < total f views → All (λ v. 0 < f v → P) views → P
total-some f P [] h each = absurd (omega arith)
total-some f P (u ∷ views) h each = elim (cases_eq (f u) 0) [
  | inl e ↦ total-some f P views (omega (arith, h, e)) (λ k d below. each (suc k) d (omega arith))
  | inr ne ↦ each 0 u (omega arith) (omega (arith, ne))
]
