-- Matrices of n by n residues modulo m, as kernels are given them.
use Rattle.std.specs.Prelude.{◌≡◌, ℕ, ◌+◌, ◌*◌, ◌%◌, ◌<◌, ◌≤◌, List, length, slice_index}
use Rattle.residue_sums.specs.Tables.{times}
use Rattle.residue_sums.specs.Grids.{Grid, AreResidues, entry}
use Rattle.matrix_parts.specs.declared.oper.Oper.{Oper}
use Rattle.matrix_parts.specs.declared.part_mut.PartMut.{PartMut}
use Rattle.matrix_parts.specs.Lent.{grid_of, IsPart}
use Rattle.matrix_parts.specs.Opers.{op_rows, op_cols, IsOper}

-- a matrix of its own
pub record IsSquare (m n : ℕ) (g : Grid) : Type 0 where
  pub rows : g.rows ≡ n
  pub cols : g.cols ≡ n
  pub residues : AreResidues m g

-- one that is read as an operand
pub record IsSquareOper (m n : ℕ) (o : Oper) : Type 0 where
  pub oper : IsOper o
  pub rows : op_rows o ≡ n
  pub cols : op_cols o ≡ n
  pub residues : AreResidues m o.part

-- one that is lent to be written
pub record IsSquarePart (m n : ℕ) (w : PartMut) : Type 0 where
  pub part : IsPart w
  pub rows : w.rows ≡ n
  pub cols : w.cols ≡ n
  pub residues : AreResidues m (grid_of w)

-- row by row, the first rows have the product of two matrices added, and the others are as they were
pub record HasProduct (m rows : ℕ) (first second : Grid) (old new : List ℕ) : Type 0 where
  pub len : length new ≡ length old
  pub done : (i j : ℕ) → i < rows → j < second.cols → slice_index new (i * second.cols + j)
      ≡ (slice_index old (i * second.cols + j) + times m first.cols (entry first) (entry second) i j) % m
  pub kept : (i j : ℕ) → j < second.cols → rows ≤ i → slice_index new (i * second.cols + j) ≡ slice_index old (i * second.cols + j)
