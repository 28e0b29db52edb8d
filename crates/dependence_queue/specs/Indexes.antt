-- What is kept beside a list of edges: where the edges from each step begin, and how many go into each.
use Rattle.std.specs.Prelude.{◌≡◌, ℕ, ◌+◌, ◌<◌, ◌≤◌, List, [], length, slice_get, slice_index, slice_index_or, All, Some, None, nat_lt, if◌then◌else◌}
use Rattle.dependence_queue.specs.declared.edge.Edge.{Edge}
use Rattle.dependence_queue.specs.Edges.{successors, count_into}
use Rattle.dependence_queue.specs.Marks.{no_edge}

-- rows of edges from step s and those after it, one for each, to steps up to n
abbrev pub AreRowsFrom : ℕ → ℕ → List (List Edge) → Type 0
AreRowsFrom s n rows = (j : ℕ) → j < length rows → All (λ e. (e.from ≡ s + j) × (e.to ≤ n)) (slice_index_or rows j [])

-- the edges from step s stand from place starts s on and before place starts (s + 1); no edge comes from a step past the
-- last of these, and preds tells how many go into each step
pub record IsIndexed (edges : List Edge) (starts preds : List ℕ) : Type 0 where
  pub ends : (s : ℕ) → s + 1 < length starts → slice_index starts (s + 1) ≤ length edges
  pub begins : (s : ℕ) → s + 1 < length starts → slice_index starts s ≤ length edges
  pub at : (s p : ℕ) → s + 1 < length starts → slice_get (successors edges s) p
      ≡ (if nat_lt (slice_index starts s + p) (slice_index starts (s + 1)) then Some (slice_index_or edges (slice_index starts s + p) no_edge).to else None)
  pub past : (s : ℕ) → length starts ≤ s + 1 → successors edges s ≡ []
  pub counts : (t : ℕ) → slice_index preds t ≡ count_into edges t
