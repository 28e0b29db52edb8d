-- Every conflict is a chain of direct edges, so chains of edges reach what chains of conflicts reach.
use Rattle.std.proofs.Common.{◌≡◌, ℕ, zero, suc, ◌<◌, ◌≤◌, inl, inr, Bool, true, List, [], ◌∷◌, ◌++◌, arith}
use Rattle.dependence_queue.specs.declared.access.Access.{Access}
use Rattle.dependence_queue.specs.Conflicts.{IsDirectEdge}
use Rattle.dependence_queue.specs.Chains.{IsConflict, IsChain, Reaches}
use Rattle.dependence_queue.proofs.EdgesBetween.{edge-conflicts, conflict-comes_in}

-- ---- chains of any relation

-- two chains, one after the other
chain-append : (R : ℕ → ℕ → Type 0) (s r t : ℕ) (first second : List ℕ) → IsChain R s first r → IsChain R r second t → IsChain R s (first ++ r ∷ second) t
chain-append R s r t [] second one two = (one, two)
chain-append R s r t (q ∷ qs) second one two = (one.0, chain-append R q r t qs second one.1 two)

pub reaches-then : (R : ℕ → ℕ → Type 0) (s r t : ℕ) → Reaches R s r → Reaches R r t → Reaches R s t
reaches-then R s r t one two = (one.0 ++ r ∷ two.0, chain-append R s r t one.0 two.0 one.1 two.1)

pub reaches-one : (R : ℕ → ℕ → Type 0) (s t : ℕ) → R s t → Reaches R s t
reaches-one R s t h = ([], h)

-- a relation that goes upward has chains that do
chain-upward : (R : ℕ → ℕ → Type 0) → ((s t : ℕ) → R s t → s < t) → (s t : ℕ) (between : List ℕ) → IsChain R s between t → s < t
chain-upward R upward s t [] h = upward s t h
chain-upward R upward s t (r ∷ rs) h = omega (arith, upward s r h.0, chain-upward R upward r t rs h.1)

-- where another relation reaches what each link of a chain between two bounds joins, it reaches the chain's end
chain-reaches : (R S : ℕ → ℕ → Type 0) (low high : ℕ) → ((s t : ℕ) → R s t → s < t) → ((s t : ℕ) → low ≤ s → t ≤ high → R s t → Reaches S s t)
    → (s t : ℕ) (between : List ℕ) → low ≤ s → t ≤ high → IsChain R s between t → Reaches S s t
chain-reaches R S low high upward each s t [] from to h = each s t from to h
chain-reaches R S low high upward each s t (r ∷ rs) from to h =
    let first : s < r = upward s r h.0 in
    let last : r < t = chain-upward R upward r t rs h.1 in
    reaches-then S s r t (each s r from (omega arith) h.0) (chain-reaches R S low high upward each r t rs (omega arith) to h.1)

pub reaches-upward : (R : ℕ → ℕ → Type 0) → ((s t : ℕ) → R s t → s < t) → (s t : ℕ) → Reaches R s t → s < t
reaches-upward R upward s t h = chain-upward R upward s t h.0 h.1

pub reaches-by : (R S : ℕ → ℕ → Type 0) (low high : ℕ) → ((s t : ℕ) → R s t → s < t) → ((s t : ℕ) → low ≤ s → t ≤ high → R s t → Reaches S s t)
    → (s t : ℕ) → low ≤ s → t ≤ high → Reaches R s t → Reaches S s t
reaches-by R S low high upward each s t from to h = chain-reaches R S low high upward each s t h.0 from to h.1

-- ---- edges and conflicts

module _ (accesses : ℕ → Access) where
  pub edge-upward : (s t : ℕ) → IsDirectEdge accesses s t → s < t
  edge-upward s t h = h.1

  pub conflict-upward : (s t : ℕ) → IsConflict accesses s t → s < t
  conflict-upward s t h = h.0

  -- by the greatest step that the later one may be
  conflict-reached_below : (k s t : ℕ) → t ≤ k → IsConflict accesses s t → Reaches (IsDirectEdge accesses) s t
  conflict-reached_below zero s t below h = absurd (omega (arith, h.0))
  conflict-reached_below (suc k) s t below h = elim (conflict-comes_in accesses s t h.0 h.1) [
    | inl edge ↦ reaches-one (IsDirectEdge accesses) s t edge
    | inr r ↦ reaches-then (IsDirectEdge accesses) s r.0 t
        (conflict-reached_below k s r.0 (omega (arith, r.2)) (r.1, r.3)) (reaches-one (IsDirectEdge accesses) r.0 t r.4)
  ]

  pub conflict-reached : (s t : ℕ) → IsConflict accesses s t → Reaches (IsDirectEdge accesses) s t
  conflict-reached s t h = conflict-reached_below t s t (omega arith) h

  pub conflicts-from_edges : (s t : ℕ) → Reaches (IsDirectEdge accesses) s t → Reaches (IsConflict accesses) s t
  conflicts-from_edges s t h = reaches-by (IsDirectEdge accesses) (IsConflict accesses) s t edge-upward
      (λ q r from to edge. reaches-one (IsConflict accesses) q r (edge-conflicts accesses q r edge)) s t (omega arith) (omega arith) h

  pub edges-from_conflicts : (s t : ℕ) → Reaches (IsConflict accesses) s t → Reaches (IsDirectEdge accesses) s t
  edges-from_conflicts s t h = reaches-by (IsConflict accesses) (IsDirectEdge accesses) s t conflict-upward
      (λ q r from to conflict. conflict-reached q r conflict) s t (omega arith) (omega arith) h

  -- ---- what is passed on by conflicts comes in by an edge

  -- the last link of a chain of edges, where each link passes a mark on
  last-marked : (marked : ℕ → Bool) (low high : ℕ)
      → ((q r : ℕ) → low ≤ q → r < high → marked q ≡ true → IsConflict accesses q r → marked r ≡ true)
      → (s : ℕ) (between : List ℕ) → low ≤ s → marked s ≡ true → IsChain (IsDirectEdge accesses) s between high
      → (r : ℕ) × (low ≤ r) × (marked r ≡ true) × IsDirectEdge accesses r high
  last-marked marked low high passes s [] from here h = (s, from, here, h)
  last-marked marked low high passes s (r ∷ rs) from here h =
      let first : s < r = h.0.1 in
      let last : r < high = chain-upward (IsDirectEdge accesses) edge-upward r high rs h.1 in
      last-marked marked low high passes r rs (omega arith) (passes s r from last here (edge-conflicts accesses s r h.0)) h.1

  pub marked-by_edge : (marked : ℕ → Bool) (s t : ℕ)
      → ((q r : ℕ) → s ≤ q → r < t → marked q ≡ true → IsConflict accesses q r → marked r ≡ true)
      → marked s ≡ true → IsConflict accesses s t → (r : ℕ) × (s ≤ r) × (marked r ≡ true) × IsDirectEdge accesses r t
  marked-by_edge marked s t passes here h =
      let chain = conflict-reached s t h in
      last-marked marked s t passes s chain.0 (omega arith) here chain.1
