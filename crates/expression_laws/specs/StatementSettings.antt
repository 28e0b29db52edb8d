-- The setting of a statement whose matrices fit, and cuts of its dimensions.
use Rattle.std.specs.Prelude.{◌≡◌, ℕ, ◌*◌, min, List, nat_lt, ◌==◌, if◌then◌else◌}
use Rattle.residue_sums.specs.Grids.{Grid, IsFull, AreResidues}
use Rattle.operation_spec.specs.declared.operation.Operation.{Operation}
use Rattle.operation_spec.specs.declared.operation.Binding.{Binding}
use Rattle.equation.specs.Jobs.{nth_grid, known_grids}
use Rattle.task_graph.specs.Tasks.{parts_of}
use Rattle.block_values.specs.Cuts.{Starts}
use Rattle.block_values.specs.Values.{Setting}

-- a matrix that may stand after a statement where the other one stood before: it has its sizes, and holds residues
pub record MayFollow (m : ℕ) (before after : Grid) : Type 0 where
  pub rows : after.rows ≡ before.rows
  pub cols : after.cols ≡ before.cols
  pub full : IsFull after
  pub residues : AreResidues m after

-- the matrices of a statement, the work matrix after it, and parts
abbrev pub setting_of : ℕ → Operation → List Grid → Binding → Grid → Starts → Setting
setting_of m op grids bind after starts = record { modulus = m; op = op; knowns = known_grids grids bind; work = nth_grid grids bind.work; solution = after; starts = starts }

-- parts of size b, but for a shorter last one
abbrev pub starts_by_size : ℕ → (ℕ → ℕ) → Starts
starts_by_size b lengths d p = min (p * b) (lengths d)

-- two parts with a given edge between them, or one part
abbrev pub starts_by_edge : List ℕ → (ℕ → ℕ) → (ℕ → ℕ) → Starts
starts_by_edge counts edges lengths d p = if p == 0 then 0 else (if nat_lt p (parts_of counts d) then edges d else lengths d)
