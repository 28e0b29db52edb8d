-- How many writes of a block have ended: before any event, after one more, and after all.
use Rattle.std.proofs.Common.{◌≡◌, ℕ, zero, suc, ◌+◌, ◌<◌, ◌≤◌, inl, inr, true, false, cond, List, [], ◌∷◌, ◌++◌, refl, sym, ◌∙◌, ap, subst, arith}
use Rattle.std.specs.Prelude.{◌==◌, ◌&&◌}
use Rattle.std.proofs.lemmas.Bool.{cases_Bool, cases_eq, eq-eqb, ne_eqb, and_right}
use Rattle.dependence_queue.specs.declared.access.Access.{Access}
use Rattle.schedule_core.specs.declared.event.Event.{Event}
use Rattle.schedule_core.specs.declared.event.Event.TheVariants.{Start, Finish}
use Rattle.schedule_core.specs.Schedules.{has_event, all_over, writes_upto, ended_writes}
use Rattle.schedule_core.proofs.EventTests.{has-append, or-false, or-true, start-ends}
use Rattle.schedule_core.proofs.ScheduleTests.{all-at}

module _ (accesses : ℕ → Access) where
  pub ended-none : (x k : ℕ) → ended_writes accesses [] x k ≡ 0
  ended-none x zero = refl
  ended-none x (suc k) = rw (and_right ((accesses (suc k)).write == x) false refl) (omega (arith, ended-none x k))

  -- lists with the same ends
  ended-same : (es fs : List Event) (x k : ℕ) → ((s : ℕ) → 0 < s → s ≤ k → has_event es (Finish s) ≡ has_event fs (Finish s))
      → ended_writes accesses es x k ≡ ended_writes accesses fs x k
  ended-same es fs x zero same = refl
  ended-same es fs x (suc k) same =
      rw (same (suc k) (omega arith) (omega arith)) (ap (λ (v : ℕ). cond ((accesses (suc k)).write == x && has_event fs (Finish (suc k))) 1 0 + v)
      (ended-same es fs x k (λ s first within. same s first (omega arith))))

  -- a step begins
  pub ended-start : (events : List Event) (t x k : ℕ) → ended_writes accesses (events ++ Start t ∷ []) x k ≡ ended_writes accesses events x k
  ended-start events t x k = ended-same (events ++ Start t ∷ []) events x k (λ s first within. start-ends events t s)

  -- a step ends
  finish-other : (events : List Event) (t s : ℕ) → (t ≡ s → ⊥) → has_event (events ++ Finish t ∷ []) (Finish s) ≡ has_event events (Finish s)
  finish-other events t s apart =
      has-append events (Finish t ∷ []) (Finish s) ∙ (rw (ne_eqb t s apart) (or-false (has_event events (Finish s))))

  finish-same : (events : List Event) (t : ℕ) → has_event (events ++ Finish t ∷ []) (Finish t) ≡ true
  finish-same events t = has-append events (Finish t ∷ []) (Finish t) ∙ (rw (eq-eqb t t refl) (or-true (has_event events (Finish t))))

  pub ended-finish_other : (events : List Event) (t x k : ℕ) → ((accesses t).write == x) ≡ false
      → ended_writes accesses (events ++ Finish t ∷ []) x k ≡ ended_writes accesses events x k
  ended-finish_other events t x zero other = refl
  ended-finish_other events t x (suc k) other = elim (cases_eq t (suc k)) [
    | inl here ↦ (let e : ((accesses (suc k)).write == x) ≡ false = rw here at other in
        rw e (omega (arith, ended-finish_other events t x k other)))
    | inr apart ↦ rw (finish-other events t (suc k) apart)
        (ap (λ (v : ℕ). cond ((accesses (suc k)).write == x && has_event events (Finish (suc k))) 1 0 + v) (ended-finish_other events t x k other))
  ]

  -- among the first steps the one that ends is the last
  ended-last : (events : List Event) (x k : ℕ) → ((accesses (suc k)).write == x) ≡ true → has_event events (Finish (suc k)) ≡ false
      → ended_writes accesses (events ++ Finish (suc k) ∷ []) x (suc k) ≡ suc (ended_writes accesses events x (suc k))
  ended-last events x k writes runs =
      rw (writes, runs, finish-same events (suc k))
      (omega (arith, ended-same (events ++ Finish (suc k) ∷ []) events x k (λ s first within. finish-other events (suc k) s (λ same. omega arith))))

  pub ended-finish : (events : List Event) (t x k : ℕ) → 0 < t → t ≤ k → ((accesses t).write == x) ≡ true → has_event events (Finish t) ≡ false
      → ended_writes accesses (events ++ Finish t ∷ []) x k ≡ suc (ended_writes accesses events x k)
  ended-finish events t x zero first within writes runs = absurd (omega arith)
  ended-finish events t x (suc k) first within writes runs = elim (cases_eq t (suc k)) [
    | inl here ↦ subst (λ (u : ℕ). ended_writes accesses (events ++ Finish u ∷ []) x (suc k) ≡ suc (ended_writes accesses events x (suc k))) (sym here)
        (ended-last events x k (rw here at writes) (rw here at runs))
    | inr apart ↦ rw (finish-other events t (suc k) apart)
        (omega (arith, ended-finish events t x k first (omega arith) writes runs))
  ]

  -- all steps have ended
  pub ended-all : (events : List Event) (n x k : ℕ) → k ≤ n → all_over events n ≡ true → ended_writes accesses events x k ≡ writes_upto accesses x k
  ended-all events n x zero within over = refl
  ended-all events n x (suc k) within over =
      rw (all-at accesses n events n (suc k) over (omega arith) within) (elim (cases_Bool ((accesses (suc k)).write == x)) [
        | inl writes ↦ rw writes (ap (λ (v : ℕ). 1 + v) (ended-all events n x k (omega arith) over))
        | inr other ↦ rw other (ap (λ (v : ℕ). 0 + v) (ended-all events n x k (omega arith) over))
      ])
