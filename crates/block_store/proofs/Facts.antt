-- Facts by their weights: where a weight isn't 0, some fact has it, and what a fact of a kind is.
use Rattle.std.proofs.Common.{◌≡◌, ℕ, suc, ◌<◌, ◌≤◌, inl, inr, true, List, [], ◌∷◌, refl, sym, ap, ◌∙◌, arith}
use Rattle.std.proofs.lemmas.Bool.{cases_eq}
use mathlib.Core.Option.{some}
use lib.ListN.{get_elem?}
use Rattle.block_store.specs.declared.outcome.StepOutcome.{StepOutcome}
use Rattle.block_store.specs.declared.outcome.StepOutcome.TheVariants.{Ran, Skipped, Failed}
use Rattle.block_store.specs.declared.view.Fact.{Fact}
use Rattle.block_store.specs.declared.view.Fact.TheVariants.{Claimed, Refused, Began, Ended, Marked, Noticed, Took, Away, Gave, Put}
use Rattle.block_store.specs.declared.view.View.{View}
use Rattle.block_store.specs.Keys.{is_bad}
use Rattle.block_store.specs.Tallies.{In, weigh, amount, begin_of, end_of, good_of, bad_of}
use Rattle.block_store.proofs.Sums.{same-of}
use Rattle.block_store.proofs.Tallies.{weigh-zero}

-- ---- by weights

-- where a tally isn't 0, some view has it, and some fact of the view
pub some_view : (h : Fact → ℕ) (views : List View) → 0 < amount h views → (j : ℕ) × (v : View) × (get_elem? views j ≡ some v) × (0 < weigh h v.facts)
some_view h [] heavy = absurd (omega arith)
some_view h (v ∷ views) heavy = elim (cases_eq (weigh h v.facts) 0) [
  | inl z ↦ let r = some_view h views (omega arith) in (suc r.0, r.1, r.2, r.3)
  | inr nz ↦ (0, v, refl, omega arith)
]

pub some_fact : (h : Fact → ℕ) (facts : List Fact) → 0 < weigh h facts → (f : Fact) × In f facts × (0 < h f)
some_fact h [] heavy = absurd (omega arith)
some_fact h (f ∷ facts) heavy = elim (cases_eq (h f) 0) [
  | inl z ↦ let r = some_fact h facts (omega arith) in (r.0, inr r.1, r.2)
  | inr nz ↦ (f, inl refl, omega arith)
]

-- a fact weighs no more than all
pub in-weigh : (h : Fact → ℕ) (f : Fact) (facts : List Fact) → In f facts → h f ≤ weigh h facts
in-weigh h f [] i = absurd i
in-weigh h f (g ∷ facts) (inl e) = omega (arith, ap h e)
in-weigh h f (g ∷ facts) (inr i) = omega (arith, in-weigh h f facts i)

-- where only one fact weighs by h, its weight by k is all weight by k
pub only-weigh : (h k : Fact → ℕ) → ((f : Fact) → h f ≡ 0 → k f ≡ 0) → (f : Fact) (facts : List Fact) → In f facts → 0 < h f → weigh h facts ≤ 1 → weigh k facts ≡ k f
only-weigh h k each f [] i heavy once = absurd i
only-weigh h k each f (g ∷ facts) (inl e) heavy once = omega (arith, ap h e, ap k e, weigh-zero h k each facts (omega (arith, ap h e)))
only-weigh h k each f (g ∷ facts) (inr i) heavy once = omega (arith, in-weigh h f facts i, each g (omega (arith, in-weigh h f facts i)), only-weigh h k each f facts i heavy (omega arith))

-- and two facts that weigh by h are one
pub one-fact : (h : Fact → ℕ) (f g : Fact) (facts : List Fact) → In f facts → In g facts → 0 < h f → 0 < h g → weigh h facts ≤ 1 → f ≡ g
one-fact h f g [] i j wf wg once = absurd i
one-fact h f g (x ∷ facts) (inl e) (inl d) wf wg once = sym e ∙ d
one-fact h f g (x ∷ facts) (inl e) (inr j) wf wg once = absurd (omega (arith, ap h e, in-weigh h g facts j))
one-fact h f g (x ∷ facts) (inr i) (inl d) wf wg once = absurd (omega (arith, ap h d, in-weigh h f facts i))
one-fact h f g (x ∷ facts) (inr i) (inr j) wf wg once = one-fact h f g facts i j wf wg (omega arith)

-- ---- by kinds

pub begin-is : (t : ℕ) (f : Fact) → 0 < begin_of t f → (n : ℕ) × (f ≡ Began t n)
begin-is t (Began u n) heavy = (n, ap (λ x. Began x n) (same-of u t heavy))
begin-is t (Claimed u) heavy = absurd (omega arith)
begin-is t (Refused u n) heavy = absurd (omega arith)
begin-is t (Ended u n o) heavy = absurd (omega arith)
begin-is t (Marked from to) heavy = absurd (omega arith)
begin-is t (Noticed from to left) heavy = absurd (omega arith)
begin-is t (Took x) heavy = absurd (omega arith)
begin-is t (Away x) heavy = absurd (omega arith)
begin-is t (Gave x) heavy = absurd (omega arith)
begin-is t (Put u x) heavy = absurd (omega arith)

pub end-is : (t : ℕ) (f : Fact) → 0 < end_of t f → (n : ℕ) × (o : StepOutcome) × (f ≡ Ended t n o)
end-is t (Ended u n o) heavy = (n, o, ap (λ x. Ended x n o) (same-of u t heavy))
end-is t (Claimed u) heavy = absurd (omega arith)
end-is t (Refused u n) heavy = absurd (omega arith)
end-is t (Began u n) heavy = absurd (omega arith)
end-is t (Marked from to) heavy = absurd (omega arith)
end-is t (Noticed from to left) heavy = absurd (omega arith)
end-is t (Took x) heavy = absurd (omega arith)
end-is t (Away x) heavy = absurd (omega arith)
end-is t (Gave x) heavy = absurd (omega arith)
end-is t (Put u x) heavy = absurd (omega arith)

pub good-is : (t : ℕ) (f : Fact) → 0 < good_of t f → (n : ℕ) × (f ≡ Ended t n Ran)
good-is t (Ended u n Ran) heavy = (n, ap (λ x. Ended x n Ran) (same-of u t heavy))
good-is t (Ended u n Skipped) heavy = absurd (omega arith)
good-is t (Ended u n (Failed row col)) heavy = absurd (omega arith)
good-is t (Claimed u) heavy = absurd (omega arith)
good-is t (Refused u n) heavy = absurd (omega arith)
good-is t (Began u n) heavy = absurd (omega arith)
good-is t (Marked from to) heavy = absurd (omega arith)
good-is t (Noticed from to left) heavy = absurd (omega arith)
good-is t (Took x) heavy = absurd (omega arith)
good-is t (Away x) heavy = absurd (omega arith)
good-is t (Gave x) heavy = absurd (omega arith)
good-is t (Put u x) heavy = absurd (omega arith)

pub bad-is : (t : ℕ) (f : Fact) → 0 < bad_of t f → (n : ℕ) × (o : StepOutcome) × (f ≡ Ended t n o) × (is_bad o ≡ true)
bad-is t (Ended u n Skipped) heavy = (n, Skipped, ap (λ x. Ended x n Skipped) (same-of u t heavy), refl)
bad-is t (Ended u n (Failed row col)) heavy = (n, Failed row col, ap (λ x. Ended x n (Failed row col)) (same-of u t heavy), refl)
bad-is t (Ended u n Ran) heavy = absurd (omega arith)
bad-is t (Claimed u) heavy = absurd (omega arith)
bad-is t (Refused u n) heavy = absurd (omega arith)
bad-is t (Began u n) heavy = absurd (omega arith)
bad-is t (Marked from to) heavy = absurd (omega arith)
bad-is t (Noticed from to left) heavy = absurd (omega arith)
bad-is t (Took x) heavy = absurd (omega arith)
bad-is t (Away x) heavy = absurd (omega arith)
bad-is t (Gave x) heavy = absurd (omega arith)
bad-is t (Put u x) heavy = absurd (omega arith)
