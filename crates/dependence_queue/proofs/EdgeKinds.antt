-- The tests of `edge_between` as statements: what it means that a step between writes a block, and each kind of edge.
use Rattle.std.proofs.Common.{◌≡◌, ◌≢◌, ℕ, zero, suc, ◌<◌, inl, inr, true, false, not, ltb, eqb, refl, sym, ◌∙◌, arith}
use Rattle.std.specs.Prelude.{◌||◌, ◌&&◌}
use Rattle.std.proofs.lemmas.Bool.{cases_eq, both_ways, false≢true, false_from_ne_true, lt-ltb, ltb-true, eq-eqb, eqb-true, and_parts, and_from, or_parts, or_cases, or_left, or_right, not-true, not_from_false}
use Rattle.dependence_queue.specs.declared.access.Access.{Access}
use Rattle.dependence_queue.specs.Conflicts.{has_number, ConflictOn, IsDirectEdge, IsFlowEdge, IsAntiEdge, IsOutputEdge}
use Rattle.dependence_queue.specs.Edges.{is_written_between, edge_between, is_edge}

module _ (accesses : ℕ → Access) where
  -- ---- a writer between

  pub writer_between : (x s t : ℕ) → is_written_between accesses x s t ≡ true → (r : ℕ) × (s < r) × (r < t) × ((accesses r).write ≡ x)
  writer_between x s zero h = absurd (false≢true h)
  writer_between x s (suc t) h = elim (or_cases (ltb s t && eqb (accesses t).write x) (is_written_between accesses x s t) h) [
    | inl last ↦ let p = and_parts (ltb s t) (eqb (accesses t).write x) last in
        (t, ltb-true s t p.0, omega arith, eqb-true (accesses t).write x p.1)
    | inr before ↦ let r = writer_between x s t before in (r.0, r.1, omega (arith, r.2), r.3)
  ]

  pub none_between : (x s t : ℕ) → is_written_between accesses x s t ≡ false → (r : ℕ) → s < r → r < t → (accesses r).write ≢ x
  none_between x s zero h r after before e = absurd (omega arith)
  none_between x s (suc t) h r after before e =
      let p = or_parts (ltb s t && eqb (accesses t).write x) (is_written_between accesses x s t) h in
      elim (cases_eq r t) [
        | inl last ↦ both_ways (ltb s t && eqb (accesses t).write x) p.0 (and_from (ltb s t) (eqb (accesses t).write x)
            (lt-ltb s t (omega arith)) (eq-eqb (accesses t).write x (rw last at e)))
        | inr less ↦ none_between x s t p.1 r after (omega arith) e
      ]

  pub not_written_between : (x s t : ℕ) → ((r : ℕ) → s < r → r < t → (accesses r).write ≢ x) → is_written_between accesses x s t ≡ false
  not_written_between x s t none =
      false_from_ne_true (is_written_between accesses x s t) (λ h. let r = writer_between x s t h in none r.0 r.1 r.2 r.3)

  -- ---- kinds of edges

  pub flow_edge : (s t : ℕ) → s < t → (edge_between accesses s t).flow ≡ true → IsFlowEdge accesses s t
  unfolding edge_between
  flow_edge s t before h =
      let p = and_parts (has_number (accesses t).reads (accesses s).write) (not (is_written_between accesses (accesses s).write s t)) h in
      ((accesses s).write, before, (p.0, refl), none_between (accesses s).write s t (not-true (is_written_between accesses (accesses s).write s t) p.1))

  pub flow-from_edge : (s t : ℕ) → IsFlowEdge accesses s t → (edge_between accesses s t).flow ≡ true
  unfolding edge_between
  flow-from_edge s t h = and_from (has_number (accesses t).reads (accesses s).write) (not (is_written_between accesses (accesses s).write s t))
      (rw h.2.1 h.2.0) (rw h.2.1 (not_from_false (is_written_between accesses h.0 s t) (not_written_between h.0 s t h.3)))

  pub anti_edge : (s t : ℕ) → s < t → (edge_between accesses s t).anti ≡ true → IsAntiEdge accesses s t
  unfolding edge_between
  anti_edge s t before h =
      let p = and_parts (has_number (accesses s).reads (accesses t).write) (not (is_written_between accesses (accesses t).write s t)) h in
      ((accesses t).write, before, (p.0, refl), none_between (accesses t).write s t (not-true (is_written_between accesses (accesses t).write s t) p.1))

  pub anti-from_edge : (s t : ℕ) → IsAntiEdge accesses s t → (edge_between accesses s t).anti ≡ true
  unfolding edge_between
  anti-from_edge s t h = and_from (has_number (accesses s).reads (accesses t).write) (not (is_written_between accesses (accesses t).write s t))
      (rw h.2.1 h.2.0) (rw h.2.1 (not_from_false (is_written_between accesses h.0 s t) (not_written_between h.0 s t h.3)))

  pub output_edge : (s t : ℕ) → s < t → (edge_between accesses s t).output ≡ true → IsOutputEdge accesses s t
  unfolding edge_between
  output_edge s t before h =
      let p = and_parts (eqb (accesses s).write (accesses t).write) (not (is_written_between accesses (accesses t).write s t)) h in (
        (accesses t).write,
        before,
        (eqb-true (accesses s).write (accesses t).write p.0, refl),
        none_between (accesses t).write s t (not-true (is_written_between accesses (accesses t).write s t) p.1),
      )

  pub output-from_edge : (s t : ℕ) → IsOutputEdge accesses s t → (edge_between accesses s t).output ≡ true
  unfolding edge_between
  output-from_edge s t h = and_from (eqb (accesses s).write (accesses t).write) (not (is_written_between accesses (accesses t).write s t))
      (eq-eqb (accesses s).write (accesses t).write (h.2.0 ∙ sym h.2.1)) (rw h.2.1 (not_from_false (is_written_between accesses h.0 s t) (not_written_between h.0 s t h.3)))

  -- ---- of some kind

  pub direct_edge : (s t : ℕ) → s < t → is_edge (edge_between accesses s t) ≡ true → IsDirectEdge accesses s t
  direct_edge s t before h = elim (or_cases ((edge_between accesses s t).flow || (edge_between accesses s t).anti) (edge_between accesses s t).output h) [
    | inr output ↦ let e = output_edge s t before output in (e.0, e.1, inr (inr e.2), e.3)
    | inl other ↦ elim (or_cases (edge_between accesses s t).flow (edge_between accesses s t).anti other) [
      | inl flow ↦ let e = flow_edge s t before flow in (e.0, e.1, inl e.2, e.3)
      | inr anti ↦ let e = anti_edge s t before anti in (e.0, e.1, inr (inl e.2), e.3)
    ]
  ]

  pub is_edge-from_direct : (s t : ℕ) → IsDirectEdge accesses s t → is_edge (edge_between accesses s t) ≡ true
  is_edge-from_direct s t h = kinds h.2
    where
      kinds : ConflictOn (accesses s) (accesses t) h.0 → is_edge (edge_between accesses s t) ≡ true
      kinds (inl flow) = or_left ((edge_between accesses s t).flow || (edge_between accesses s t).anti) (edge_between accesses s t).output
          (or_left (edge_between accesses s t).flow (edge_between accesses s t).anti (flow-from_edge s t (h.0, h.1, flow, h.3)))
      kinds (inr (inl anti)) = or_left ((edge_between accesses s t).flow || (edge_between accesses s t).anti) (edge_between accesses s t).output
          (or_right (edge_between accesses s t).flow (edge_between accesses s t).anti (anti-from_edge s t (h.0, h.1, anti, h.3)))
      kinds (inr (inr output)) = or_right ((edge_between accesses s t).flow || (edge_between accesses s t).anti) (edge_between accesses s t).output
          (output-from_edge s t (h.0, h.1, output, h.3))
