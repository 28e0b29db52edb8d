-- The blocks of W's structure.
use Rattle.std.specs.Prelude.{ℕ, zero, suc, List, [], ◌∷◌, ◌++◌, if◌then◌else◌}
use Rattle.operation_spec.specs.declared.operation.Operation.{Operation}
use Rattle.equation.specs.declared.job.Place.{Place}
use Rattle.task_graph.specs.Tasks.{is_work_block, parts_of}

-- f 0, f 1, .., f (n - 1), one behind the other
abbrev pub each_below : {X : Type 0} → (ℕ → List X) → ℕ → List X
each_below f zero = []
each_below f (suc n) = each_below f n ++ f n

abbrev pub place_at : ℕ → ℕ → Place
place_at i j = record { row = i; col = j }

-- block (i, j), where it is one of W's structure
abbrev pub if_work_block : Operation → List ℕ → ℕ → ℕ → List Place
if_work_block op counts i j = if is_work_block op counts i j then place_at i j ∷ [] else []

-- those of row i
abbrev pub row_places : Operation → List ℕ → ℕ → List Place
row_places op counts i = each_below (if_work_block op counts i) (parts_of counts op.work.cols)

-- all, row by row
abbrev pub work_places : Operation → List ℕ → List Place
work_places op counts = each_below (row_places op counts) (parts_of counts op.work.rows)
