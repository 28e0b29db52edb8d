-- Steps that have begun and not ended: what has ended by then, and which writes of the blocks that they use.
use Rattle.std.proofs.Common.{◌≡◌, ℕ, zero, suc, ◌+◌, ◌-◌, ◌<◌, ◌≤◌, ◌⊎◌, inl, inr, true, false, List, ◌∷◌, refl, sym, ◌∙◌, ap, subst, arith}
use Rattle.std.specs.Prelude.{◌==◌}
use Rattle.std.proofs.lemmas.Bool.{cases_Bool, cases_eq, eqb-true, false≢true, or_cases}
use Rattle.dependence_queue.specs.declared.access.Access.{Access}
use Rattle.dependence_queue.specs.Conflicts.{has_number, conflicts, IsDirectEdge, ConflictOn}
use Rattle.dependence_queue.specs.Chains.{IsConflict}
use Rattle.dependence_queue.proofs.EdgesBetween.{conflicts-from, edge-conflicts, conflict-comes_in}
use Rattle.schedule_core.specs.declared.event.Event.{Event}
use Rattle.schedule_core.specs.declared.event.Event.TheVariants.{Start, Finish}
use Rattle.schedule_core.specs.Schedules.{has_event, is_begun, may_come, uses_block, writes_upto, ended_writes}
use Rattle.schedule_core.proofs.EventTests.{has-cut}
use Rattle.schedule_core.proofs.ScheduleTests.{has-left, has-start, at-cut, over-at, over-from, may-is, may-from}

module _ (accesses : ℕ → Access) (n : ℕ) (events : List Event) (begun : is_begun accesses n events ≡ true) where
  -- a step that has begun comes behind the end of what conflicts with it before
  pub conflict-ended : (s t : ℕ) → 0 < s → IsConflict accesses s t → has_event events (Start t) ≡ true → has_event events (Finish s) ≡ true
  conflict-ended s t first conflict h =
      let c = has-cut events (Start t) h in
      let ready = (at-cut accesses n events begun c.0 (Start t) c.1 c.2).2 in
      subst (λ (es : List Event). has_event es (Finish s) ≡ true) (sym c.2)
      (has-left c.0 (Start t ∷ c.1) (Finish s) (over-at accesses n c.0 t (t - 1) s ready first (omega (arith, conflict.0)) conflict.1))

  -- ---- writes

  module _ (t x : ℕ) (began : has_event events (Start t) ≡ true) (runs : has_event events (Finish t) ≡ false) (uses : uses_block (accesses t) x ≡ true) where
    -- a step before that writes the block has ended
    write-before : (s : ℕ) → 0 < s → s < t → (accesses s).write ≡ x → has_event events (Finish s) ≡ true
    write-before s first below writes =
        conflict-ended s t first (below, conflicts-from (accesses s) (accesses t) x (on (or_cases (has_number (accesses t).reads x) ((accesses t).write == x) uses))) began
      where
        on : (has_number (accesses t).reads x ≡ true) ⊎ (((accesses t).write == x) ≡ true) → ConflictOn (accesses s) (accesses t) x
        on (inl reads) = inl (reads, writes)
        on (inr also) = inr (inr (writes, eqb-true (accesses t).write x also))

    -- and one behind has not
    write-behind : (s : ℕ) → 0 < t → t < s → (accesses s).write ≡ x → has_event events (Finish s) ≡ false
    write-behind s first below writes = elim (cases_Bool (has_event events (Finish s))) [
      | inr waits ↦ waits
      | inl ended ↦ absurd (false≢true (sym runs
          ∙ conflict-ended t s first (below, conflicts-from (accesses t) (accesses s) x (on (or_cases (has_number (accesses t).reads x) ((accesses t).write == x) uses)))
          (has-start accesses n events begun s ended)))
    ]
      where
        on : (has_number (accesses t).reads x ≡ true) ⊎ (((accesses t).write == x) ≡ true) → ConflictOn (accesses t) (accesses s) x
        on (inl reads) = inr (inl (reads, writes))
        on (inr also) = inr (inr (eqb-true (accesses t).write x also, writes))

    writes-below : (k : ℕ) → k < t → ended_writes accesses events x k ≡ writes_upto accesses x k
    writes-below zero below = refl
    writes-below (suc k) below = elim (cases_Bool ((accesses (suc k)).write == x)) [
      | inl writes ↦ rw (writes, write-before (suc k) (omega arith) below (eqb-true (accesses (suc k)).write x writes))
          (ap (λ (v : ℕ). 1 + v) (writes-below k (omega arith)))
      | inr other ↦ rw other (ap (λ (v : ℕ). 0 + v) (writes-below k (omega arith)))
    ]

    -- the step itself, and those behind it, add nothing
    none-from : (k : ℕ) → 0 < t → t ≤ k → (accesses k).write ≡ x → has_event events (Finish k) ≡ false
    none-from k first from writes = elim (cases_eq k t) [
      | inl same ↦ rw same runs
      | inr later ↦ write-behind k first (omega arith) writes
    ]

    writes-from : (k : ℕ) → 0 < t → t ≤ suc k → ended_writes accesses events x k ≡ writes_upto accesses x (t - 1)
    writes-from zero first from = let e : t - 1 ≡ 0 = omega arith in rw e refl
    writes-from (suc k) first from = elim (cases_eq t (suc (suc k))) [
      | inl next ↦ (let e : t - 1 ≡ suc k = omega arith in rw e (writes-below (suc k) (omega arith)))
      | inr inside ↦ elim (cases_Bool ((accesses (suc k)).write == x)) [
        | inl writes ↦ rw (writes, none-from (suc k) first (omega arith) (eqb-true (accesses (suc k)).write x writes))
            (omega (arith, writes-from k first (omega arith)))
        | inr other ↦ rw other (omega (arith, writes-from k first (omega arith)))
      ]
    ]

    pub running-writes : ended_writes accesses events x n ≡ writes_upto accesses x (t - 1)
    running-writes =
        let c = has-cut events (Start t) began in
        let is = (at-cut accesses n events begun c.0 (Start t) c.1 c.2).0 in
        writes-from n is.0 (omega (arith, is.1))

  -- ---- direct edges

  pub begin-from_edges : (t : ℕ) → 0 < t → t ≤ n → has_event events (Start t) ≡ false
      → ((s : ℕ) → 0 < s → IsDirectEdge accesses s t → has_event events (Finish s) ≡ true) → may_come accesses n events (Start t) ≡ true
  begin-from_edges t first within waits edges =
      may-from accesses n events (Start t) (first, within) waits (over-from accesses n events t (t - 1) over)
    where
      over : (s : ℕ) → 0 < s → s ≤ t - 1 → conflicts (accesses s) (accesses t) ≡ true → has_event events (Finish s) ≡ true
      over s low below conflict = elim (conflict-comes_in accesses s t (omega arith) conflict) [
        | inl edge ↦ edges s low edge
        | inr between ↦ conflict-ended s between.0 low (between.1, between.3)
            (has-start accesses n events begun between.0 (edges between.0 (omega (arith, between.1)) between.4))
      ]

  pub edges-from_begin : (t : ℕ) → may_come accesses n events (Start t) ≡ true → (s : ℕ) → 0 < s → IsDirectEdge accesses s t
      → has_event events (Finish s) ≡ true
  edges-from_begin t may s first edge =
      let e = edge-conflicts accesses s t edge in
      over-at accesses n events t (t - 1) s (may-is accesses n events (Start t) may).2 first (omega (arith, e.0)) e.1
