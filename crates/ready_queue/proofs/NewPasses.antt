-- The passes of a new queue: the first one learns the sizes, and new ones are cut off, one for each caller.
use Rattle.std.proofs.Common.{◌≡◌, ℕ, zero, suc, ◌+◌, ◌<◌, inl, inr, List, [], ◌∷◌, ◌++◌, length, set, refl, sym, ap, ◌∙◌, subst, arith}
use Rattle.std.proofs.lemmas.List.Elements.{All-cons, All-nil, All-push, All-set}
use Rattle.std.specs.Prelude.{All}
use mathlib.Core.Option.{some, some-ne-none}
use lib.ListN.{get_elem?}
use Rattle.crossbeam_queue.specs.Fifo.{Forks}
use Rattle.ready_queue.specs.declared.pass_view.PassView.{PassView}
use Rattle.ready_queue.specs.declared.queue.Pass.{Pass}
use Rattle.ready_queue.specs.declared.queue.Ready.{Ready}
use Rattle.ready_queue.specs.PassViews.{times, total, pass_view, unset_pass_view, kept_pass_view, new_pass_view}
use Rattle.ready_queue.specs.Queues.{callers_of, view, IsFirstPass, IsNewPass}
use Rattle.ready_queue.specs.Rule.{IsPassView, ArePassViews, IsRuled}
use Rattle.ready_queue.proofs.PushesAndPops.{sized}
use Rattle.ready_queue.proofs.Totals.{all-at, total-set, total-push}

-- ---- views

blank : (steps callers parts : ℕ) → IsPassView steps callers (pass_view steps callers parts)
blank steps callers parts = record { steps_are = refl; callers_are = refl; real = λ t h. absurd (omega arith); once = λ t. omega arith; spent = λ z. (refl, refl) }

-- the first pass learns the sizes, and a pass for no caller is left over
pub sets : (id steps callers : ℕ) (v : PassView) → v ≡ unset_pass_view → 0 < callers → Forks IsRuled id v (pass_view steps callers callers) (pass_view steps callers 0)
sets id steps callers v is some_caller items views (inr s) at =
    let h = all-at (IsPassView s.0 s.1) views id v s.2.each at in
    absurd (omega (arith, s.2.some_caller, h.callers_are, ap (λ (x : PassView). x.callers) is))
sets id steps callers v is some_caller items views (inl s) at =
    let left = pass_view steps callers callers in
    let right = pass_view steps callers 0 in
    let only : id ≡ 0 = first id (subst (λ (l : List PassView). get_elem? l id ≡ some v) s.1 at) in
    let now : set views id left ++ right ∷ [] ≡ left ∷ right ∷ [] = ap (λ (l : List PassView). set l id left ++ right ∷ []) s.1 ∙ ap (λ (i : ℕ). set (unset_pass_view ∷ []) i left ++ right ∷ []) only in
    inr (
      steps,
      callers,
      subst (λ (l : List PassView). ArePassViews steps callers items l) (sym now) (subst (λ (xs : List ℕ). ArePassViews steps callers xs (left ∷ right ∷ [])) (sym s.0) (record {
        some_caller = some_caller;
        each = All-cons (IsPassView steps callers) left (right ∷ []) (blank steps callers callers) (All-cons (IsPassView steps callers) right [] (blank steps callers 0) (All-nil (IsPassView steps callers)));
        parts = omega arith;
        balance = λ t. refl;
        count = refl;
      })),
    )
  where
    first : (i : ℕ) → get_elem? (unset_pass_view ∷ []) i ≡ some v → i ≡ 0
    first zero a = refl
    first (suc i) a = absurd (some-ne-none v (sym a))

-- a new pass for one of the callers
pub cuts : (id : ℕ) (v : PassView) → 1 < v.parts → 0 < v.callers → Forks IsRuled id v (kept_pass_view v) (new_pass_view v)
cuts id v many known items views rule at =
    let s = sized items views id v at known rule in
    let f = s.2 in
    let h = all-at (IsPassView s.0 s.1) views id v f.each at in
    let left = kept_pass_view v in
    let right = new_pass_view v in
    let kept : IsPassView s.0 s.1 left = record { steps_are = h.steps_are; callers_are = h.callers_are; real = h.real; once = h.once; spent = λ z. absurd (omega arith) } in
    let new : IsPassView s.0 s.1 right = record { steps_are = h.steps_are; callers_are = h.callers_are; real = λ t held. absurd (omega arith); once = λ t. omega arith; spent = λ z. absurd (omega arith) } in
    let same : (g : PassView → ℕ) → total g (set views id left ++ right ∷ []) + g v ≡ total g views + g left + g right = λ g. omega (arith, total-push g (set views id left) right, total-set g views id v left at) in
    inr (
      s.0,
      s.1,
      record {
        some_caller = f.some_caller;
        each = All-push (IsPassView s.0 s.1) (set views id left) right (All-set (IsPassView s.0 s.1) views id left kept f.each) new;
        parts = omega (arith, f.parts, same (λ u. u.parts));
        balance = λ t. omega (arith, f.balance t, same (λ u. times t u.pushed), same (λ u. times t u.popped));
        count = omega (arith, f.count, same (λ u. length u.pushed), same (λ u. length u.popped));
      },
    )

-- ---- passes

-- k - 1 passes, and a last one for those callers that are left
abbrev pub AreSoFar : Ready → ℕ → Pass → List Pass → Type 0
AreSoFar queue k last so_far = IsNewPass queue (view last).parts last × (0 < (view last).parts) × ((view last).parts + k ≡ callers_of queue + 1) × (length so_far + 1 ≡ k) × All (IsFirstPass queue) so_far
