-- Chains of steps: what is reached over edges, and what over conflicts.
use Rattle.std.specs.Prelude.{ℕ, ◌<◌, List, [], ◌∷◌, IsTrue}
use Rattle.dependence_queue.specs.declared.access.Access.{Access}
use Rattle.dependence_queue.specs.declared.edge.Edge.{Edge}
use Rattle.dependence_queue.specs.Conflicts.{conflicts}
use Rattle.dependence_queue.specs.Edges.{has_edge}

-- step s conflicts with a later step t
abbrev pub IsConflict : (ℕ → Access) → ℕ → ℕ → Type 0
IsConflict accesses s t = (s < t) × IsTrue (conflicts (accesses s) (accesses t))

-- a list has an edge from s to t
abbrev pub IsEdgeIn : List Edge → ℕ → ℕ → Type 0
IsEdgeIn edges s t = IsTrue (has_edge edges s t)

-- from s over these steps to t, each in relation R to the next
abbrev pub IsChain : (ℕ → ℕ → Type 0) → ℕ → List ℕ → ℕ → Type 0
IsChain R s [] t = R s t
IsChain R s (r ∷ rs) t = R s r × IsChain R r rs t

-- some chain leads from s to t
abbrev pub Reaches : (ℕ → ℕ → Type 0) → ℕ → ℕ → Type 0
Reaches R s t = (between : List ℕ) × IsChain R s between t
