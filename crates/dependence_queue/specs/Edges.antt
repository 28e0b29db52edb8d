-- The direct edges of a list of accesses as a list: by the earlier step and then the later one, each once, with all its kinds.
-- The steps of a list are numbered from 1.
use Rattle.std.specs.Prelude.{◌≡◌, ◌↔◌, ◌⊎◌, ℕ, zero, suc, ◌+◌, ◌-◌, ◌<◌, IsTrue, List, [], length, map, filter, count_by, slice_index_or, Bool, false, not, ◌==◌, ◌&&◌, ◌||◌, nat_lt, nat_le, if◌then◌else◌}
use Rattle.std.specs.List.{flat_map, range_with_len, list_any}
use Rattle.dependence_queue.specs.declared.access.Access.{Access}
use Rattle.dependence_queue.specs.declared.edge.Edge.{Edge}
use Rattle.dependence_queue.specs.Conflicts.{has_number, IsFlowEdge, IsAntiEdge, IsOutputEdge}

-- how many accesses are analysed at most
abbrev pub most_accesses : ℕ
most_accesses = 262144

abbrev pub no_access : Access
no_access = record { write = 0; reads = [] }

-- what step t uses
abbrev pub access_at : List Access → ℕ → Access
access_at accesses t = slice_index_or accesses (t - 1) no_access

-- ---- edges

-- a step strictly between s and t writes block x
abbrev pub is_written_between : (ℕ → Access) → ℕ → ℕ → ℕ → Bool
is_written_between accesses x s zero = false
is_written_between accesses x s (suc t) = (nat_lt s t && ((accesses t).write == x)) || is_written_between accesses x s t

-- steps s and t with all kinds of edge that go from s to t: what both use in that way, and no step between them writes
unfoldable pub edge_between : (ℕ → Access) → ℕ → ℕ → Edge
edge_between accesses s t = record {
  from = s;
  to = t;
  flow = has_number (accesses t).reads (accesses s).write && not (is_written_between accesses (accesses s).write s t);
  anti = has_number (accesses s).reads (accesses t).write && not (is_written_between accesses (accesses t).write s t);
  output = ((accesses s).write == (accesses t).write) && not (is_written_between accesses (accesses t).write s t);
}

-- it is of some kind
abbrev pub is_edge : Edge → Bool
is_edge e = e.flow || e.anti || e.output

-- the edges from step s to later ones, up to step n
unfoldable pub edges_from : (ℕ → Access) → ℕ → ℕ → List Edge
edges_from accesses n s = filter is_edge (map (edge_between accesses s) (range_with_len (s + 1) (n - s)))

-- the edges of a list
unfoldable pub edges_of : List Access → List Edge
edges_of accesses = flat_map (edges_from (access_at accesses) (length accesses)) (range_with_len 1 (length accesses))

-- an edge goes from step s to step t of a list
unfoldable pub joins : List Access → ℕ → ℕ → Bool
joins accesses s t = nat_lt 0 s && (nat_lt s t && (nat_le t (length accesses) && is_edge (edge_between (access_at accesses) s t)))

-- the same as 1 or 0, for sums
abbrev pub edge_number : List Access → ℕ → ℕ → ℕ
edge_number accesses s t = if joins accesses s t then 1 else 0

-- ---- what is asked of a list of edges

-- an edge from s to t is among them
abbrev pub has_edge : List Edge → ℕ → ℕ → Bool
has_edge edges s t = list_any (λ e. (e.from == s) && (e.to == t)) edges

-- the steps to which they go from s
abbrev pub successors : List Edge → ℕ → List ℕ
successors edges s = map (λ e. e.to) (filter (λ e. e.from == s) edges)

-- how many go into t
abbrev pub count_into : List Edge → ℕ → ℕ
count_into edges t = count_by (λ e. e.to == t) edges

-- ---- what an edge says

-- each kind is marked exactly where there is an edge of that kind, from a step to a later one
pub record HasItsKinds (accesses : ℕ → Access) (e : Edge) : Type 0 where
  pub flow : IsTrue e.flow ↔ IsFlowEdge accesses e.from e.to
  pub anti : IsTrue e.anti ↔ IsAntiEdge accesses e.from e.to
  pub output : IsTrue e.output ↔ IsOutputEdge accesses e.from e.to

-- by the earlier step, and then by the later one
abbrev pub IsOrdered : Edge → Edge → Type 0
IsOrdered d e = (d.from < e.from) ⊎ ((d.from ≡ e.from) × (d.to < e.to))
