-- What the rule of the queue says of all views: how often a number was pushed and popped.
use Rattle.std.proofs.Common.{◌≡◌, ℕ, ◌+◌, ◌*◌, ◌<◌, ◌≤◌, inl, inr, List, [], ◌∷◌, length, slice_index_or, refl, sym, ap, ◌∙◌, subst, arith}
use Rattle.std.proofs.lemmas.Bool.{cases_eq}
use Rattle.std.proofs.lemmas.List.Elements.{All-cons, All-nil}
use Rattle.std.specs.Prelude.{All, Contains}
use Rattle.crossbeam_queue.proofs.Lists.{at_index}
use Rattle.ready_queue.specs.declared.pass_view.PassView.{PassView}
use Rattle.ready_queue.specs.PassViews.{times, total, pushed_in, popped_in, unset_pass_view, IsStepNumber}
use Rattle.ready_queue.specs.Rule.{IsPassView, ArePassViews, IsRuled}
use Rattle.ready_queue.proofs.Numbers.{mul-some}
use Rattle.ready_queue.proofs.Totals.{all-at, total-le, total-others, total-scale, total-each, total-some}

-- what the first view has, all views of a queue as it was made have
unset : (P : PassView → Type 0) (views : List PassView) → views ≡ unset_pass_view ∷ [] → P unset_pass_view → All P views
unset P views e is = subst (All P) (sym e) (All-cons P unset_pass_view [] is (All-nil P))

-- of each number a pass pushed at most one for each caller that it stands for
pushed-few : (steps callers t : ℕ) (v : PassView) → IsPassView steps callers v → times t v.pushed ≤ v.parts
pushed-few steps callers t v h = elim (cases_eq v.parts 0) [
  | inl z ↦ let e : times t v.pushed ≡ 0 = ap (times t) (h.spent z).0 in omega arith
  | inr nz ↦ omega (arith, h.once t)
]

pub balance : (items : List ℕ) (views : List PassView) → IsRuled items views → (t : ℕ) → popped_in views t + times t items ≡ pushed_in views t
balance items views (inr s) t = s.2.balance t
balance items views (inl s) t =
    let none : times t items ≡ 0 = ap (times t) s.0 in
    let popped : popped_in views t ≡ 0 = ap (λ l. popped_in l t) s.1 in
    let pushed : pushed_in views t ≡ 0 = ap (λ l. pushed_in l t) s.1 in
    omega arith

pub once : (items : List ℕ) (views : List PassView) → IsRuled items views → (t : ℕ) → All (λ v. times t v.pushed ≤ 1) views
once items views (inr s) t = λ k d below. (s.2.each k d below).once t
once items views (inl s) t = unset (λ v. times t v.pushed ≤ 1) views s.1 (omega arith)

pub few : (items : List ℕ) (views : List PassView) → IsRuled items views → (t : ℕ) → All (λ v. popped_in views t ≤ v.callers) views
few items views (inr s) t = λ k d below.
    omega (arith, s.2.balance t, s.2.parts, (s.2.each k d below).callers_are, total-le (λ v. times t v.pushed) (λ v. v.parts) views (λ j u low. pushed-few s.0 s.1 t _ (s.2.each j u low)))
few items views (inl s) t = unset (λ v. popped_in views t ≤ v.callers) views s.1 (let none : popped_in views t ≡ 0 = ap (λ l. popped_in l t) s.1 in omega arith)

pub steps : (items : List ℕ) (views : List PassView) → IsRuled items views → (t : ℕ) → 0 < pushed_in views t → All (λ v. IsStepNumber v.steps t) views
steps items views (inr s) t held = λ k d below.
    subst (λ n. IsStepNumber n t) (sym (s.2.each k d below).steps_are) (total-some (λ v. times t v.pushed) (IsStepNumber s.0 t) views held (λ j u low. (s.2.each j u low).real t))
steps items views (inl s) t held = absurd (let none : pushed_in views t ≡ 0 = ap (λ l. pushed_in l t) s.1 in omega arith)

-- ---- a pass that stands for all callers

-- a pass that stands for no caller popped nothing
popped-spent : (steps callers t n : ℕ) (v : PassView) → IsPassView steps callers v → times t v.popped ≤ n → times t v.popped ≤ n * v.parts
popped-spent steps callers t n v h low = elim (cases_eq v.parts 0) [
  | inl z ↦ let e : times t v.popped ≡ 0 = ap (times t) (h.spent z).1 in omega arith
  | inr nz ↦ omega (arith, low, mul-some n v.parts (omega arith))
]

alone-sized : (steps callers t k : ℕ) (items : List ℕ) (views : List PassView) (v : PassView) → ArePassViews steps callers items views → k < length views → slice_index_or views k v ≡ v → v.parts ≡ callers
    → times t v.popped + times t items ≡ times t v.pushed
alone-sized steps callers t k items views v f low is all =
    let at = at_index views k v low (sym is) in
    let n : ℕ = popped_in views t in
    let pushed = total-others (λ u. times t u.pushed) (λ u. u.parts) views k v (λ j u below. pushed-few steps callers t _ (f.each j u below)) at in
    let popped = total-others (λ u. times t u.popped) (λ u. n * u.parts) views k v (λ j u below. popped-spent steps callers t n _ (f.each j u below) (total-each (λ w. times t w.popped) views j u below)) at in
    let whole : n * v.parts ≡ n * callers = ap (λ p. n * p) all in
    let parts : total (λ u. n * u.parts) views ≡ n * callers = total-scale n (λ u. u.parts) views ∙ ap (λ p. n * p) f.parts in
    let mine : times t v.popped ≤ n = all-at (λ u. times t u.popped ≤ n) views k v (total-each (λ w. times t w.popped) views) at in
    let mine' : times t v.pushed ≤ pushed_in views t = all-at (λ u. times t u.pushed ≤ pushed_in views t) views k v (total-each (λ w. times t w.pushed) views) at in
    omega (arith, f.balance t, f.parts)

pub alone : (items : List ℕ) (views : List PassView) → IsRuled items views → (v : PassView) → Contains views v → v.parts ≡ v.callers → (t : ℕ) → times t v.popped + times t items ≡ times t v.pushed
alone items views (inr s) v in_views all t =
    let at = at_index views in_views.0 v in_views.1 (sym in_views.2) in
    alone-sized s.0 s.1 t in_views.0 items views v s.2 in_views.1 in_views.2 (all ∙ (all-at (IsPassView s.0 s.1) views in_views.0 v s.2.each at).callers_are)
alone items views (inl s) v in_views all t =
    let at = at_index views in_views.0 v in_views.1 (sym in_views.2) in
    let none : times t items ≡ 0 = ap (times t) s.0 in
    let popped : times t v.popped ≡ 0 = all-at (λ u. times t u.popped ≡ 0) views in_views.0 v (unset (λ u. times t u.popped ≡ 0) views s.1 refl) at in
    let pushed : times t v.pushed ≡ 0 = all-at (λ u. times t u.pushed ≡ 0) views in_views.0 v (unset (λ u. times t u.pushed ≡ 0) views s.1 refl) at in
    omega arith
