-- Matrices of residues modulo m with so many rows and columns, as kernels are given them.
use Rattle.std.specs.Prelude.{◌≡◌, ◌≢◌, ℕ, Bool, if◌then◌else◌}
use Rattle.residue_sums.specs.Grids.{Grid, AreResidues}
use Rattle.structure_rules.specs.declared.Structure.{Structure}
use Rattle.structure_rules.specs.declared.Structure.TheVariants.{General}
use Rattle.matrix_parts.specs.declared.part_mut.PartMut.{PartMut}
use Rattle.matrix_parts.specs.Lent.{grid_of, IsPart}

-- read through the view of a structure, transposed where it is primed
pub record IsRead (m r c : ℕ) (s : Structure) (primed : Bool) (a : Grid) : Type 0 where
  pub square : s ≢ General → a.rows ≡ a.cols
  pub rows : (if primed then a.cols else a.rows) ≡ r
  pub cols : (if primed then a.rows else a.cols) ≡ c
  pub residues : AreResidues m a

-- lent to be written
pub record IsWork (m r c : ℕ) (w : PartMut) : Type 0 where
  pub part : IsPart w
  pub rows : w.rows ≡ r
  pub cols : w.cols ≡ c
  pub residues : AreResidues m (grid_of w)
