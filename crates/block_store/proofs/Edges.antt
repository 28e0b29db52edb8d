-- The direct edges between the steps of a key, as numbers.
use Rattle.std.proofs.Common.{◌≡◌, ℕ, ◌+◌, ◌<◌, ◌≤◌, Bool, true, false, cond, length, refl, sym, ◌∙◌, arith}
use Rattle.std.proofs.lemmas.Bool.{false≢true}
use Rattle.dependence_queue.specs.Conflicts.{IsDirectEdge}
use Rattle.dependence_queue.specs.Edges.{access_at, edges_of, has_edge, joins}
use Rattle.dependence_queue.proofs.ListedEdges.{had, had-direct, direct-has, had-joins}
use Rattle.schedule_core.proofs.TurnTests.{count-accesses}
use Rattle.residue_sums.proofs.Sums.{sum_below-le}
use Rattle.block_store.specs.declared.key.BoardKey.{BoardKey}
use Rattle.block_store.specs.Keys.{step_count, accesses, IsStep, edge, preds}

pub access-count : (key : BoardKey) → length (accesses key) ≡ step_count key
access-count key = count-accesses key.steps.value

one_if-le : (b : Bool) → cond b 1 0 ≤ 1
one_if-le true = omega arith
one_if-le false = omega arith

one_if-yes : (b : Bool) → 0 < cond b 1 0 → b ≡ true
one_if-yes true h = refl
one_if-yes false h = absurd (omega arith)

one_if-is : (b : Bool) → b ≡ true → 0 < cond b 1 0
one_if-is true e = omega arith
one_if-is false e = absurd (false≢true e)

pub edge-le : (key : BoardKey) (s t : ℕ) → edge key s t ≤ 1
unfolding edge
edge-le key s t = one_if-le (joins (accesses key) s t)

-- an edge as a number, and in the list of edges
pub edge-listed : (key : BoardKey) (s t : ℕ) → 0 < edge key s t → has_edge (edges_of (accesses key)) s t ≡ true
unfolding edge
edge-listed key s t h = had-joins (accesses key) s t ∙ one_if-yes (joins (accesses key) s t) h

pub listed-edge : (key : BoardKey) (s t : ℕ) → has_edge (edges_of (accesses key)) s t ≡ true → 0 < edge key s t
unfolding edge
listed-edge key s t h = one_if-is (joins (accesses key) s t) (sym (had-joins (accesses key) s t) ∙ h)

-- it goes from a step to a later one
pub edge-steps : (key : BoardKey) (s t : ℕ) → 0 < edge key s t → IsStep key s × IsStep key t × (s < t)
edge-steps key s t h =
    let e = had (accesses key) s t (edge-listed key s t h) in
    let low : 0 < s = e.0 in
    let upward : s < t = e.1 in
    let within : t ≤ step_count key = omega (arith, e.2, access-count key) in
    ((low, omega arith), (omega arith, within), upward)

pub edge-direct : (key : BoardKey) (s t : ℕ) → 0 < edge key s t → IsDirectEdge (access_at (accesses key)) s t
edge-direct key s t h = had-direct (accesses key) s t (edge-listed key s t h)

pub direct-edge : (key : BoardKey) (s t : ℕ) → 0 < s → t ≤ step_count key → IsDirectEdge (access_at (accesses key)) s t → 0 < edge key s t
direct-edge key s t low within h = listed-edge key s t (direct-has (accesses key) s t low (omega (arith, access-count key)) h)

pub preds-le : (key : BoardKey) (t : ℕ) → preds key t ≤ step_count key + 1
preds-le key t = omega (arith, sum_below-le (λ s. edge key s t) (step_count key + 1) 1 (λ i q. edge-le key i t))
