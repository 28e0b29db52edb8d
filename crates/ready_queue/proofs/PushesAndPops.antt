-- Pushes and pops keep the rule of the queue.
use Rattle.std.proofs.Common.{◌≡◌, ◌≢◌, ℕ, suc, ◌*◌, ◌<◌, ◌≤◌, ◌⊎◌, inl, inr, List, [], ◌∷◌, length, set, refl, sym, ap, subst, arith}
use Rattle.std.proofs.lemmas.Bool.{cases_eq}
use Rattle.std.proofs.Math.ListN.{length-append}
use Rattle.std.proofs.lemmas.List.Elements.{All-cons, All-nil, All-set}
use Rattle.std.specs.Prelude.{All}
use mathlib.Core.Option.{some}
use lib.ListN.{get_elem?}
use Rattle.crossbeam_queue.specs.Fifo.{Pushes, Pops, Learns}
use Rattle.ready_queue.specs.declared.pass_view.PassView.{PassView}
use Rattle.ready_queue.specs.PassViews.{times, unset_pass_view, after_push, after_pop, IsStepNumber}
use Rattle.ready_queue.specs.Rule.{IsPassView, ArePassViews, IsRuled, AreOfOneMoment, HasRoom}
use Rattle.ready_queue.proofs.Numbers.{same-eq, same-ne, times-push, length-steps, mul-some}
use Rattle.ready_queue.proofs.Totals.{all-at, contains-at, contains-set, total-set, total-others, total-scale, total-some}

-- where a view knows the sizes, the rule has them
pub sized : (items : List ℕ) (views : List PassView) (id : ℕ) (v : PassView) → get_elem? views id ≡ some v → 0 < v.callers → IsRuled items views
    → (steps : ℕ) × (callers : ℕ) × ArePassViews steps callers items views
sized items views id v at known (inr h) = h
sized items views id v at known (inl h) =
    let none : v.callers ≡ 0 = all-at (λ u. u.callers ≡ 0) views id v (subst (All (λ (u : PassView). u.callers ≡ 0)) (sym h.1) (All-cons (λ u. u.callers ≡ 0) unset_pass_view [] refl (All-nil (λ u. u.callers ≡ 0)))) at in
    absurd (omega arith)

-- ---- a push

view-pushed : (steps callers t : ℕ) (v : PassView) → IsPassView steps callers v → 0 < v.parts → IsStepNumber steps t → times t v.pushed ≡ 0 → IsPassView steps callers (after_push t v)
view-pushed steps callers t v h part is fresh = record {
  steps_are = h.steps_are;
  callers_are = h.callers_are;
  real = λ x held. real x held (cases_eq x t);
  once = λ x. once x (cases_eq x t);
  spent = λ z. absurd (omega arith);
}
  where
    real : (x : ℕ) → 0 < times x (t ∷ v.pushed) → (x ≡ t) ⊎ (x ≢ t) → IsStepNumber steps x
    real x held (inl e) = subst (IsStepNumber steps) (sym e) is
    real x held (inr ne) = h.real x (omega (arith, held, same-ne t x (λ e. ne (sym e))))

    once : (x : ℕ) → (x ≡ t) ⊎ (x ≢ t) → times x (t ∷ v.pushed) ≤ 1
    once x (inl e) = let d : times x v.pushed ≡ times t v.pushed = ap (λ y. times y v.pushed) e in omega (arith, fresh, same-eq t x (sym e))
    once x (inr ne) = omega (arith, h.once x, same-ne t x (λ e. ne (sym e)))

-- a step joins at the back
pub pushes : (room id : ℕ) (v : PassView) (t : ℕ) → 0 < v.parts → 0 < v.callers → IsStepNumber v.steps t → times t v.pushed ≡ 0
    → Pushes IsRuled room id v t (λ w. w ≡ after_push t v)
pushes room id v t part known is fresh items views less rule at =
    let s = sized items views id v at known rule in
    let f = s.2 in
    let h = all-at (IsPassView s.0 s.1) views id v f.each at in
    let w = after_push t v in (
      w,
      inr (
        s.0,
        s.1,
        record {
          some_caller = f.some_caller;
          each = All-set (IsPassView s.0 s.1) views id w (view-pushed s.0 s.1 t v h part (subst (λ n. IsStepNumber n t) h.steps_are is) fresh) f.each;
          parts = omega (arith, f.parts, total-set (λ u. u.parts) views id v w at);
          balance = λ x. omega (arith, f.balance x, times-push x items t, total-set (λ u. times x u.pushed) views id v w at, total-set (λ u. times x u.popped) views id v w at);
          count = omega (arith, f.count, length-append items (t ∷ []), total-set (λ u. length u.pushed) views id v w at, total-set (λ u. length u.popped) views id v w at);
        },
      ),
      refl,
    )

-- ---- a pop

view-popped : (steps callers t : ℕ) (v : PassView) → IsPassView steps callers v → 0 < v.parts → IsPassView steps callers (after_pop t v)
view-popped steps callers t v h part = record { steps_are = h.steps_are; callers_are = h.callers_are; real = h.real; once = h.once; spent = λ z. absurd (omega arith) }

-- what stands in the queue is the number of a step
held-real : (steps callers t : ℕ) (items : List ℕ) (views : List PassView) → ArePassViews steps callers items views → 0 < times t items → IsStepNumber steps t
held-real steps callers t items views f held = total-some (λ u. times t u.pushed) (IsStepNumber steps t) views (omega (arith, f.balance t, held)) (λ k d below. (f.each k d below).real t)

-- the number at the front leaves
pub pops : (id : ℕ) (v : PassView) → 0 < v.parts → 0 < v.callers
    → Pops IsRuled id v (λ t w. (w ≡ after_pop t v) × IsStepNumber v.steps t × ((items : List ℕ) × AreOfOneMoment items w))
pops id v part known t items views rule at =
    let s = sized (t ∷ items) views id v at known rule in
    let f = s.2 in
    let h = all-at (IsPassView s.0 s.1) views id v f.each at in
    let w = after_pop t v in
    let after : IsRuled items (set views id w) = inr (
      s.0,
      s.1,
      record {
        some_caller = f.some_caller;
        each = All-set (IsPassView s.0 s.1) views id w (view-popped s.0 s.1 t v h part) f.each;
        parts = omega (arith, f.parts, total-set (λ u. u.parts) views id v w at);
        balance = λ x. omega (arith, f.balance x, total-set (λ u. times x u.pushed) views id v w at, total-set (λ u. times x u.popped) views id v w at);
        count = omega (arith, f.count, total-set (λ u. length u.pushed) views id v w at, total-set (λ u. length u.popped) views id v w at);
      },
    ) in
    let is : IsStepNumber s.0 t = held-real s.0 s.1 t (t ∷ items) views f (omega (arith, same-eq t t refl)) in
    (w, after, (refl, subst (λ n. IsStepNumber n t) (sym h.steps_are) is, (items, (set views id w, after, contains-set views id v w at))))

-- what a pass learns where it finds none
pub finds : (id : ℕ) (v : PassView) → Learns IsRuled id v (λ items. AreOfOneMoment items v)
finds id v items views rule at = (views, rule, contains-at views id v at)

-- ---- room

-- a pass has pushed at most as many numbers as there are steps, for each caller that it stands for
few-pushed : (steps callers : ℕ) (v : PassView) → IsPassView steps callers v → length v.pushed ≤ steps * v.parts
few-pushed steps callers v h = elim (cases_eq v.parts 0) [
  | inl z ↦ let e : length v.pushed ≡ 0 = ap length (h.spent z).0 in omega arith
  | inr nz ↦ omega (arith, length-steps steps v.pushed h.real h.once, mul-some steps v.parts (omega arith))
]

-- a pass that may push finds room
pub room : (id : ℕ) (v : PassView) → Learns IsRuled id v (HasRoom v)
room id v items views rule at t part known is fresh =
    let s = sized items views id v at known rule in
    let f = s.2 in
    let h = all-at (IsPassView s.0 s.1) views id v f.each at in
    let w = view-pushed s.0 s.1 t v h part (subst (λ n. IsStepNumber n t) h.steps_are is) fresh in
    let mine : suc (length v.pushed) ≤ s.0 = length-steps s.0 (t ∷ v.pushed) w.real w.once in
    let all = total-others (λ u. length u.pushed) (λ u. s.0 * u.parts) views id v (λ k d below. few-pushed s.0 s.1 _ (f.each k d below)) at in
    let fits : length items < s.0 * s.1 = omega (arith, f.count, mine, all, mul-some s.0 v.parts part, ap (λ k. s.0 * k) f.parts, total-scale s.0 (λ u. u.parts) views) in
    subst (λ (z : ℕ × ℕ). length items < z.0 * z.1) (λ i. (sym h.steps_are i, sym h.callers_are i)) fits
