-- Edges as they are found, one kind at a time, and the rows in which they are marked: the row at place j has the edges
-- from step j + 1.
use Rattle.std.specs.Prelude.{ℕ, ◌-◌, ◌<◌, ◌≤◌, List, [], ◌∷◌, ◌++◌, length, slice_index_or, slice_set, Bool, true, false, ◌==◌, ◌&&◌, ◌||◌, nat_lt, if◌then◌else◌}
use Rattle.dependence_queue.specs.declared.edge.Edge.{Edge}
use Rattle.dependence_queue.specs.declared.edge.EdgeKind.{EdgeKind}
use Rattle.dependence_queue.specs.declared.edge.EdgeKind.TheVariants as kinds

abbrev pub is_flow : EdgeKind → Bool
is_flow kinds.Flow = true
is_flow kinds.Anti = false
is_flow kinds.Output = false

abbrev pub is_anti : EdgeKind → Bool
is_anti kinds.Flow = false
is_anti kinds.Anti = true
is_anti kinds.Output = false

abbrev pub is_output : EdgeKind → Bool
is_output kinds.Flow = false
is_output kinds.Anti = false
is_output kinds.Output = true

-- an edge of one kind
abbrev pub found_edge : EdgeKind → ℕ → ℕ → Edge
found_edge kind t s = record { from = s; to = t; flow = is_flow kind; anti = is_anti kind; output = is_output kind }

-- an edge with the kinds of another one too
abbrev pub joined : Edge → Edge → Edge
joined e f = record { from = e.from; to = e.to; flow = e.flow || f.flow; anti = e.anti || f.anti; output = e.output || f.output }

abbrev pub no_edge : Edge
no_edge = record { from = 0; to = 0; flow = false; anti = false; output = false }

-- the last edge of a row
abbrev pub last_edge : List Edge → Edge
last_edge row = slice_index_or row (length row - 1) no_edge

-- it goes to step t
abbrev pub ends_at : ℕ → List Edge → Bool
ends_at t row = nat_lt 0 (length row) && ((last_edge row).to == t)

-- a row with an edge marked, which is joined with the last one where that goes to the same step
unfoldable pub marked : Edge → List Edge → List Edge
marked f row = if ends_at f.to row then slice_set row (length row - 1) (joined (last_edge row) f) else row ++ f ∷ []

-- the rows with an edge marked in its row, and with a list of edges
abbrev pub mark_at : Edge → List (List Edge) → List (List Edge)
mark_at f rows = slice_set rows (f.from - 1) (marked f (slice_index_or rows (f.from - 1) []))

abbrev pub mark_all : List Edge → List (List Edge) → List (List Edge)
mark_all [] rows = rows
mark_all (f ∷ fs) rows = mark_all fs (mark_at f rows)

-- a number of one of the first n steps
abbrev pub IsStepOf : ℕ → ℕ → Type 0
IsStepOf n s = (0 < s) × (s ≤ n)
