-- What kernels ask of the inverses that they are given.
use Rattle.std.specs.Prelude.{◌≡◌, ℕ, ◌*◌, ◌%◌, ◌<◌, ◌⊎◌, Bool}
use Rattle.residue_sums.specs.Tables.{Table}
use Rattle.residue_sums.specs.Grids.{Grid, AreResidues, entry}
use Rattle.structure_rules.specs.declared.Structure.{Structure}
use Rattle.structure_rules.specs.declared.Structure.TheVariants.{UnitLower, UnitUpper}
use Rattle.equation.specs.Kernels.{combined}

-- a structure with ones on its diagonal, whatever is stored there
abbrev pub IsUnitTriangle : Structure → Type 0
IsUnitTriangle s = (s ≡ UnitLower) ⊎ (s ≡ UnitUpper)

-- one row with the inverses of the first n diagonal entries of t
pub record HasInverses (m n : ℕ) (t : Table) (inverses : Grid) : Type 0 where
  pub one_row : inverses.rows ≡ 1
  pub cols : inverses.cols ≡ n
  pub residues : AreResidues m inverses
  pub inverts : (i : ℕ) → i < n → (t i i * entry inverses 0 i) % m ≡ 1

-- a block of so many rows and columns with the inverses of the sums of the diagonal entries of t and of u, or of their
-- differences where `negative` is true
pub record HasInversesOfPairs (m rows cols : ℕ) (negative : Bool) (t u : Table) (inverses : Grid) : Type 0 where
  pub same_rows : inverses.rows ≡ rows
  pub same_cols : inverses.cols ≡ cols
  pub residues : AreResidues m inverses
  pub inverts : (i j : ℕ) → i < rows → j < cols → (combined m negative (λ a b. t a a) (λ a b. u b b) i j * entry inverses i j) % m ≡ 1
