-- The matrices and parts that block expressions are taken over.
use Rattle.std.specs.Prelude.{ℕ, ◌<◌, List, length, All}
use Rattle.residue_sums.specs.Residues.{IsModulus}
use Rattle.residue_sums.specs.Grids.{IsFull, AreResidues}
use Rattle.operation_spec.specs.ValidOperations.{IsValid}
use Rattle.equation.specs.Equations.{known_grid}
use Rattle.equation.specs.Jobs.{HasLengths}
use Rattle.task_graph.specs.Factors.{known}
use Rattle.block_values.specs.Cuts.{IsCut}
use Rattle.block_values.specs.Values.{Setting}

-- matrices of residues that fit a valid operation, the work matrix before and after, and parts of its dimensions
pub record IsSetting (s : Setting) (counts : List ℕ) : Type 0 where
  pub modulus : IsModulus s.modulus
  pub valid : IsValid s.op
  pub lengths : ℕ → ℕ
  pub work : HasLengths lengths s.op.work s.work
  pub solution : HasLengths lengths s.op.work s.solution
  pub knowns : (k : ℕ) → k < length s.op.knowns → HasLengths lengths (known s.op k) (known_grid s.knowns k)
  pub work_residues : AreResidues s.modulus s.work
  pub solution_residues : AreResidues s.modulus s.solution
  pub known_residues : All (AreResidues s.modulus) s.knowns
  pub solution_full : IsFull s.solution
  pub cut : IsCut (length s.op.dims) lengths counts s.starts
