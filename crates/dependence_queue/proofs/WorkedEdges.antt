-- The edges of small lists of steps come out as they are drawn by hand.
use Rattle.std.proofs.Common.{◌≡◌, ℕ, List, [], ◌∷◌, Bool, true, false, refl}
use Rattle.dependence_queue.specs.declared.access.Access.{Access}
use Rattle.dependence_queue.specs.declared.edge.Edge.{Edge}
use Rattle.dependence_queue.specs.Edges.{edges_of, edges_from, edge_between}

abbrev uses : ℕ → List ℕ → Access
uses write reads = record { write = write; reads = reads }

abbrev edge : ℕ → ℕ → Bool → Bool → Bool → Edge
edge from to flow anti output = record { from = from; to = to; flow = flow; anti = anti; output = output }

abbrev flow : ℕ → ℕ → Edge
flow from to = edge from to true false false

abbrev anti : ℕ → ℕ → Edge
anti from to = edge from to false true false

abbrev output : ℕ → ℕ → Edge
output from to = edge from to false false true

-- an LU factorisation of two by two blocks: the first block, its row, its column, the update and the last block
abbrev lu_steps : List Access
lu_steps = uses 0 [] ∷ uses 1 (0 ∷ []) ∷ uses 2 (0 ∷ []) ∷ uses 3 (2 ∷ 1 ∷ []) ∷ uses 3 [] ∷ []

lu_edges : edges_of lu_steps ≡ flow 1 2 ∷ flow 1 3 ∷ flow 2 4 ∷ flow 3 4 ∷ output 4 5 ∷ []
unfolding edges_of edges_from edge_between
lu_edges = refl

-- C := C + A B by two by two blocks of one entry, and then A := A + D E, with blocks of A, B, C, D and E in this order
abbrev product_steps : List Access
product_steps =
    uses 8 (0 ∷ 4 ∷ []) ∷ uses 8 (1 ∷ 6 ∷ []) ∷ uses 9 (0 ∷ 5 ∷ []) ∷ uses 9 (1 ∷ 7 ∷ [])
    ∷ uses 10 (2 ∷ 4 ∷ []) ∷ uses 10 (3 ∷ 6 ∷ []) ∷ uses 11 (2 ∷ 5 ∷ []) ∷ uses 11 (3 ∷ 7 ∷ [])
    ∷ uses 0 (12 ∷ 14 ∷ []) ∷ uses 1 (12 ∷ 15 ∷ []) ∷ uses 2 (13 ∷ 14 ∷ []) ∷ uses 3 (13 ∷ 15 ∷ []) ∷ []

product_edges : edges_of product_steps ≡
    output 1 2 ∷ anti 1 9 ∷ anti 2 10 ∷ output 3 4 ∷ anti 3 9 ∷ anti 4 10
    ∷ output 5 6 ∷ anti 5 11 ∷ anti 6 12 ∷ output 7 8 ∷ anti 7 11 ∷ anti 8 12 ∷ []
unfolding edges_of edges_from edge_between
product_edges = refl

-- a writer between hides the first one, a reader doesn't; two steps that each read what the other writes; a block that is
-- read twice
abbrev mixed_steps : List Access
mixed_steps = uses 0 [] ∷ uses 0 (1 ∷ []) ∷ uses 1 (0 ∷ 0 ∷ []) ∷ uses 0 (1 ∷ []) ∷ []

mixed_edges : edges_of mixed_steps ≡ output 1 2 ∷ edge 2 3 true true false ∷ output 2 4 ∷ edge 3 4 true true false ∷ []
unfolding edges_of edges_from edge_between
mixed_edges = refl
