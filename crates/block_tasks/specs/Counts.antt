-- The numbers of parts of the dimensions of an operation.
use Rattle.std.specs.Prelude.{◌≡◌, ℕ, ◌<◌, List}
use Rattle.residue_sums.specs.Sums.{part_count}
use Rattle.task_graph.specs.Tasks.{parts_of}

-- dimensions of such lengths have so many parts of length b
abbrev pub AreCounts : ℕ → ℕ → (ℕ → ℕ) → List ℕ → Type 0
AreCounts b dim_count lengths counts = (d : ℕ) → d < dim_count → parts_of counts d ≡ part_count (lengths d) b
