-- Conflicts as tests and on a block, and the edge by which a conflict comes in. Cited by the laws of conflicts, and where a step is skipped
-- for what came before it.
use Rattle.std.proofs.Common.{◌≡◌, ◌≢◌, ℕ, zero, suc, ◌<◌, ◌⊎◌, inl, inr, true, refl, sym, ◌∙◌, ap, arith}
use Rattle.std.specs.Prelude.{◌==◌, ◌||◌}
use Rattle.std.proofs.lemmas.Bool.{cases_eq, cases_lt, eq-eqb, eqb-true, or_cases, or_left, or_right}
use Rattle.dependence_queue.specs.declared.access.Access.{Access}
use Rattle.dependence_queue.specs.Conflicts.{has_number, conflicts, ConflictOn, IsDirectEdge}

-- ---- the test of conflicts

pub conflicts-from : (a c : Access) (x : ℕ) → ConflictOn a c x → conflicts a c ≡ true
conflicts-from a c x (inl flow) = or_left (has_number c.reads a.write || has_number a.reads c.write) (a.write == c.write)
    (or_left (has_number c.reads a.write) (has_number a.reads c.write) (ap (λ (y : ℕ). has_number c.reads y) flow.1 ∙ flow.0))
conflicts-from a c x (inr (inl anti)) = or_left (has_number c.reads a.write || has_number a.reads c.write) (a.write == c.write)
    (or_right (has_number c.reads a.write) (has_number a.reads c.write) (ap (λ (y : ℕ). has_number a.reads y) anti.1 ∙ anti.0))
conflicts-from a c x (inr (inr output)) = or_right (has_number c.reads a.write || has_number a.reads c.write) (a.write == c.write)
    (eq-eqb a.write c.write (output.0 ∙ sym output.1))

pub conflict-on : (a c : Access) → conflicts a c ≡ true → (x : ℕ) × ConflictOn a c x
conflict-on a c h = elim (or_cases (has_number c.reads a.write || has_number a.reads c.write) (a.write == c.write) h) [
  | inr output ↦ (c.write, inr (inr (eqb-true a.write c.write output, refl)))
  | inl read ↦ elim (or_cases (has_number c.reads a.write) (has_number a.reads c.write) read) [
    | inl flow ↦ (a.write, inl (flow, refl))
    | inr anti ↦ (c.write, inr (inl (anti, refl)))
  ]
]

-- ---- a step between two that conflict on a block, which writes the block

-- the first conflicts with it
between-first : (a d c : Access) (x : ℕ) → ConflictOn a c x → d.write ≡ x → ConflictOn a d x
between-first a d c x (inl flow) e = inr (inr (flow.1, e))
between-first a d c x (inr (inl anti)) e = inr (inl (anti.0, e))
between-first a d c x (inr (inr output)) e = inr (inr (output.0, e))

-- and it with the second
between-second : (a d c : Access) (x : ℕ) → ConflictOn a c x → d.write ≡ x → ConflictOn d c x
between-second a d c x (inl flow) e = inl (flow.0, e)
between-second a d c x (inr (inl anti)) e = inr (inr (e, anti.1))
between-second a d c x (inr (inr output)) e = inr (inr (e, output.1))

module _ (accesses : ℕ → Access) where
  -- no step from s + 1 on and before t writes block x
  abbrev IsUnwritten : ℕ → ℕ → ℕ → Type 0
  IsUnwritten s t x = (r : ℕ) → s < r → r < t → (accesses r).write ≢ x

  -- the last step between two that writes a block, or none does
  last-between : (s t x : ℕ) → ((r : ℕ) × (s < r) × (r < t) × ((accesses r).write ≡ x) × IsUnwritten r t x) ⊎ IsUnwritten s t x
  last-between s zero x = inr (λ r after before e. absurd (omega arith))
  last-between s (suc t) x = elim (cases_lt s t) [
    | inr past ↦ inr (λ r after before e. absurd (omega arith))
    | inl inside ↦ elim (cases_eq (accesses t).write x) [
      | inl writes ↦ inl (t, inside, omega arith, writes, λ r after before e. absurd (omega arith))
      | inr other ↦ elim (last-between s t x) [
        | inl h ↦ inl (
          h.0,
          h.1,
          omega (arith, h.2),
          h.3,
          λ r after before e. elim (cases_eq r t) [
            | inl last ↦ other (rw last at e)
            | inr less ↦ h.4 r after (omega arith) e
          ],
        )
        | inr none ↦ inr (λ r after before e. elim (cases_eq r t) [ inl last ↦ other (rw last at e) | inr less ↦ none r after (omega arith) e ])
      ]
    ]
  ]

  -- a direct edge is a conflict
  pub edge-conflicts : (s t : ℕ) → IsDirectEdge accesses s t → (s < t) × (conflicts (accesses s) (accesses t) ≡ true)
  edge-conflicts s t edge = (edge.1, conflicts-from (accesses s) (accesses t) edge.0 edge.2)

  -- a conflict is a direct edge, or one goes into its second step from a step between that conflicts with the first
  pub conflict-comes_in : (s t : ℕ) → s < t → conflicts (accesses s) (accesses t) ≡ true
      → IsDirectEdge accesses s t ⊎ ((r : ℕ) × (s < r) × (r < t) × (conflicts (accesses s) (accesses r) ≡ true) × IsDirectEdge accesses r t)
  conflict-comes_in s t before h =
      let on = conflict-on (accesses s) (accesses t) h in
      elim (last-between s t on.0) [
        | inr none ↦ inl (on.0, before, on.1, none)
        | inl r ↦ inr (
          r.0,
          r.1,
          r.2,
          conflicts-from (accesses s) (accesses r.0) on.0 (between-first (accesses s) (accesses r.0) (accesses t) on.0 on.1 r.3),
          (on.0, r.2, between-second (accesses s) (accesses r.0) (accesses t) on.0 on.1 r.3, r.4),
        )
      ]
