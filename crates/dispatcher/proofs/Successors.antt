-- The steps to which edges go from a step, by their places.
use Rattle.std.proofs.Common.{◌≡◌, ℕ, zero, suc, ◌+◌, ◌<◌, ◌≤◌, inl, inr, true, List, [], ◌∷◌, length, slice_get, Some, refl, ap, arith}
use Rattle.std.specs.Prelude.{All, AllPairs, ◌==◌, ◌&&◌}
use Rattle.std.proofs.lemmas.Bool.{and_from, and_parts, cases_Bool, eq-eqb, eqb-true, false≢true, or_cases, or_left, or_right}
use Rattle.std.proofs.lemmas.List.Elements.{All-head, All-tail, All-weaker}
use Rattle.std.proofs.lemmas.Option.{same_Some}
use Rattle.dependence_queue.specs.declared.edge.Edge.{Edge}
use Rattle.dependence_queue.specs.Edges.{IsOrdered, edges_of, has_edge, successors}
use Rattle.dependence_queue.proofs.ListedEdges.{sorted, All-steps}
use Rattle.block_store.specs.declared.key.BoardKey.{BoardKey}
use Rattle.block_store.specs.Keys.{accesses, edge, step_count}
use Rattle.block_store.proofs.Edges.{edge-listed, edge-steps, listed-edge}

-- ---- an edge goes to each of them

module _ (e : Edge) (edges : List Edge) (s a : ℕ) where
  this-had : e.from ≡ s → e.to ≡ a → has_edge (e ∷ edges) s a ≡ true
  this-had from to = or_left ((e.from == s) && (e.to == a)) (has_edge edges s a) (and_from (e.from == s) (e.to == a) (eq-eqb e.from s from) (eq-eqb e.to a to))

  later-had : has_edge edges s a ≡ true → has_edge (e ∷ edges) s a ≡ true
  later-had had = or_right ((e.from == s) && (e.to == a)) (has_edge edges s a) had

  own-had : ((k : ℕ) → slice_get (successors edges s) k ≡ Some a → has_edge edges s a ≡ true)
      → (k : ℕ) → e.from ≡ s → slice_get (e.to ∷ successors edges s) k ≡ Some a → has_edge (e ∷ edges) s a ≡ true
  own-had rest zero from at = this-had from (same_Some e.to a at)
  own-had rest (suc k) from at = later-had (rest k at)

successor-had : (edges : List Edge) (s k a : ℕ) → slice_get (successors edges s) k ≡ Some a → has_edge edges s a ≡ true
successor-had [] s k a at = absurd cc
successor-had (e ∷ edges) s k a at = elim (cases_Bool (e.from == s)) [
  | inl own ↦ own-had e edges s a (λ j. successor-had edges s j a) k (eqb-true e.from s own) (rw own at at)
  | inr other ↦ later-had e edges s a (successor-had edges s k a (rw other at at))
]

pub key-successor : (key : BoardKey) (t k a : ℕ) → slice_get (successors (edges_of (accesses key)) t) k ≡ Some a → 0 < edge key t a
key-successor key t k a at = listed-edge key t a (successor-had (edges_of (accesses key)) t k a at)

-- ---- they are different ones

tail-sorted : (e : Edge) (edges : List Edge) → AllPairs IsOrdered (e ∷ edges) → AllPairs IsOrdered edges
tail-sorted e edges sorted_all i j d less below = sorted_all (suc i) (suc j) d (omega (arith, less)) (omega (arith, below))

-- all edges behind one from s go further
behind : (e : Edge) (edges : List Edge) (s : ℕ) → e.from ≡ s → AllPairs IsOrdered (e ∷ edges) → All (λ (d : Edge). d.from ≡ s → e.to < d.to) edges
behind e edges s is sorted_all k d below same = elim (sorted_all 0 (suc k) d (omega arith) (omega (arith, below))) [
  | inl less ↦ absurd (omega (arith, less, is, same))
  | inr next ↦ next.1
]

own-above : (e : Edge) (edges : List Edge) (s b a : ℕ) → ((k : ℕ) → slice_get (successors edges s) k ≡ Some a → b < a)
    → (k : ℕ) → b < e.to → slice_get (e.to ∷ successors edges s) k ≡ Some a → b < a
own-above e edges s b a rest zero first at = omega (arith, first, same_Some e.to a at)
own-above e edges s b a rest (suc k) first at = rest k at

above : (edges : List Edge) (s b k a : ℕ) → All (λ (d : Edge). d.from ≡ s → b < d.to) edges → slice_get (successors edges s) k ≡ Some a → b < a
above [] s b k a all at = absurd cc
above (e ∷ edges) s b k a all at =
    let rest : All (λ (d : Edge). d.from ≡ s → b < d.to) edges = All-tail (λ (d : Edge). d.from ≡ s → b < d.to) e edges all in
    elim (cases_Bool (e.from == s)) [
      | inl own ↦ own-above e edges s b a (λ j. above edges s b j a rest) k (All-head (λ (d : Edge). d.from ≡ s → b < d.to) e edges all (eqb-true e.from s own)) (rw own at at)
      | inr other ↦ above edges s b k a rest (rw other at at)
    ]

module _ (e : Edge) (edges : List Edge) (s a : ℕ) (from : e.from ≡ s) (sorted_all : AllPairs IsOrdered (e ∷ edges)) where
  own-apart : ((k l : ℕ) → slice_get (successors edges s) k ≡ Some a → slice_get (successors edges s) l ≡ Some a → k ≡ l)
      → (k l : ℕ) → slice_get (e.to ∷ successors edges s) k ≡ Some a → slice_get (e.to ∷ successors edges s) l ≡ Some a → k ≡ l
  own-apart rest zero zero here there = refl
  own-apart rest zero (suc l) here there = absurd (omega (arith, same_Some e.to a here, above edges s e.to l a (behind e edges s from sorted_all) there))
  own-apart rest (suc k) zero here there = absurd (omega (arith, same_Some e.to a there, above edges s e.to k a (behind e edges s from sorted_all) here))
  own-apart rest (suc k) (suc l) here there = ap suc (rest k l here there)

apart : (edges : List Edge) (s k l a : ℕ) → AllPairs IsOrdered edges → slice_get (successors edges s) k ≡ Some a → slice_get (successors edges s) l ≡ Some a → k ≡ l
apart [] s k l a sorted_all here there = absurd cc
apart (e ∷ edges) s k l a sorted_all here there =
    let rest : (i j : ℕ) → slice_get (successors edges s) i ≡ Some a → slice_get (successors edges s) j ≡ Some a → i ≡ j
    = λ i j. apart edges s i j a (tail-sorted e edges sorted_all) in
    elim (cases_Bool (e.from == s)) [
      | inl own ↦ own-apart e edges s a (eqb-true e.from s own) sorted_all rest k l (rw own at here) (rw own at there)
      | inr other ↦ rest k l (rw other at here) (rw other at there)
    ]

pub key-apart : (key : BoardKey) (t k l a : ℕ) → slice_get (successors (edges_of (accesses key)) t) k ≡ Some a
    → slice_get (successors (edges_of (accesses key)) t) l ≡ Some a → k ≡ l
key-apart key t k l a here there = apart (edges_of (accesses key)) t k l a (sorted (accesses key)) here there

-- ---- they are all to which an edge goes

had-successor : (edges : List Edge) (s a : ℕ) → has_edge edges s a ≡ true → (k : ℕ) × (slice_get (successors edges s) k ≡ Some a)
had-successor [] s a had = absurd (false≢true had)
had-successor (e ∷ edges) s a had = elim (or_cases ((e.from == s) && (e.to == a)) (has_edge edges s a) had) [
  | inl this ↦
      let is = and_parts (e.from == s) (e.to == a) this in
      rw is.0 (0, ap Some (eqb-true e.to a is.1))
  | inr later ↦
      let k = had-successor edges s a later in
      elim (cases_Bool (e.from == s)) [
        | inl own ↦ rw own (suc k.0, k.1)
        | inr other ↦ rw other k
      ]
]

pub key-listed : (key : BoardKey) (t a : ℕ) → 0 < edge key t a → (k : ℕ) × (slice_get (successors (edges_of (accesses key)) t) k ≡ Some a)
key-listed key t a is = had-successor (edges_of (accesses key)) t a (edge-listed key t a is)

-- ---- the place of one is less than its number, so there are no more of them than steps

place-low : (edges : List Edge) (s b k a : ℕ) → AllPairs IsOrdered edges → All (λ (d : Edge). d.from ≡ s → b < d.to) edges
    → slice_get (successors edges s) k ≡ Some a → b + k < a
place-low [] s b k a sorted_all all at = absurd cc
place-low (e ∷ edges) s b k a sorted_all all at =
    let tail : AllPairs IsOrdered edges = tail-sorted e edges sorted_all in
    let first = All-head (λ (d : Edge). d.from ≡ s → b < d.to) e edges all in
    elim (cases_Bool (e.from == s)) [
      | inl own ↦
          let from : e.from ≡ s = eqb-true e.from s own in
          own-low e.to b k a (successors edges s) (first from) (λ j. place-low edges s e.to j a tail (behind e edges s from sorted_all)) (rw own at at)
      | inr other ↦ place-low edges s b k a tail (All-tail (λ (d : Edge). d.from ≡ s → b < d.to) e edges all) (rw other at at)
    ]
  where
    own-low : (to b k a : ℕ) (row : List ℕ) → b < to → ((j : ℕ) → slice_get row j ≡ Some a → to + j < a) → slice_get (to ∷ row) k ≡ Some a → b + k < a
    own-low to b zero a row low rest at = omega (arith, low, same_Some to a at)
    own-low to b (suc k) a row low rest at = omega (arith, low, rest k at)

pub key-place : (key : BoardKey) (t k a : ℕ) → slice_get (successors (edges_of (accesses key)) t) k ≡ Some a → k < step_count key
key-place key t k a at =
    let edges = edges_of (accesses key) in
    let upward : All (λ (d : Edge). d.from ≡ t → 0 < d.to) edges
    = All-weaker (λ (d : Edge). (0 < d.from) × (d.from < d.to) × (d.to ≤ length (accesses key))) (λ (d : Edge). d.from ≡ t → 0 < d.to)
    (λ d steps from. omega (arith, steps.0, steps.1)) edges (All-steps (accesses key)) in
    omega (arith, place-low edges t 0 k a (sorted (accesses key)) upward at, (edge-steps key t a (key-successor key t k a at)).1.1)
