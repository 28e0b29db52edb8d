-- What a kernel leaves in the block that it writes: the one solution of its own small equation.
use Rattle.std.specs.Prelude.{◌≡◌, ℕ, ◌*◌, ◌%◌, ◌<◌, List, Bool, if◌then◌else◌}
use Rattle.residue_sums.specs.Tables.{Table, plus, times, transpose}
use Rattle.residue_sums.specs.Grids.{Grid, IsFull, AreResidues, entry}
use Rattle.structure_rules.specs.declared.Structure.{Structure}
use Rattle.structure_rules.specs.declared.Structure.TheVariants as structures
use Rattle.structure_rules.specs.Structures.{IsInside, IsZero, view}
use Rattle.operation_spec.specs.declared.operation.Operation.{Operation}
use Rattle.operation_spec.specs.declared.operation.Term.{Term}
use Rattle.equation.specs.Equations.{minus, right_side, with_terms}

-- a block becomes another of its sizes, with entries below m: on the entries of the structure an equation holds between a
-- left side, over the new entries, and a right side; the other entries are the old ones
pub record IsValue (m : ℕ) (s : Structure) (left : Table → Table) (right : Table) (old new : Grid) : Type 0 where
  pub rows : new.rows ≡ old.rows
  pub cols : new.cols ≡ old.cols
  pub full : IsFull new
  pub residues : AreResidues m new
  pub equation : (i j : ℕ) → i < old.rows → j < old.cols → IsInside s i j → left (entry new) i j ≡ right i j
  pub others : (i j : ℕ) → i < old.rows → j < old.cols → IsZero s i j → entry new i j ≡ entry old i j

-- a table with another one added, or subtracted where `negative` is true
abbrev pub combined : ℕ → Bool → Table → Table → Table
combined m negative a b = if negative then minus m a b else plus m a b

-- A * B, with an inner length n, is added to the block or subtracted from it
abbrev pub IsUpdated : ℕ → Bool → Structure → ℕ → Table → Table → Grid → Grid → Type 0
IsUpdated m negative s n a b old = IsValue m s (λ x. x) (combined m negative (entry old) (times m n a b)) old

-- A * D * B, with D of size n, is subtracted from the block
abbrev pub IsUpdatedLdl : ℕ → Structure → ℕ → Table → Table → Table → Grid → Grid → Type 0
IsUpdatedLdl m s n a d b old = IsValue m s (λ x. x) (minus m (entry old) (times m n (times m n a d) b)) old

-- X with T * X = the old block
abbrev pub IsSolvedLeft : ℕ → Structure → Table → Grid → Grid → Type 0
IsSolvedLeft m s t old = IsValue m s (λ x. times m old.rows t (view s x)) (entry old) old

-- X with X * U = the old block
abbrev pub IsSolvedRight : ℕ → Structure → Table → Grid → Grid → Type 0
IsSolvedRight m s u old = IsValue m s (λ x. times m old.cols (view s x) u) (entry old) old

-- X with X * D * L' = the old block, where f holds L below its diagonal and D on it
abbrev pub IsSolvedRightLdl : ℕ → Table → Grid → Grid → Type 0
IsSolvedRightLdl m f old = IsValue m structures.General
    (λ x. times m old.cols (times m old.cols x (view structures.Diagonal f)) (transpose (view structures.UnitLower f))) (entry old) old

-- X with T * X + X * U = the old block, or with T * X - X * U
abbrev pub IsSolvedSylvester : ℕ → Bool → Table → Table → Grid → Grid → Type 0
IsSolvedSylvester m negative t u old =
    IsValue m structures.General (λ x. combined m negative (times m old.rows t x) (times m old.cols x u)) (entry old) old

-- L, unit lower, and U, upper, packed in one block, with L * U = the old block
abbrev pub IsFactoredLu : ℕ → Grid → Grid → Type 0
IsFactoredLu m old = IsValue m structures.General (λ x. times m old.rows (view structures.UnitLower x) (view structures.Upper x)) (entry old) old

-- L, unit lower, and D, diagonal, packed in one block, with L * D * L' = the old block on the diagonal and below
abbrev pub IsFactoredLdl : ℕ → Grid → Grid → Type 0
IsFactoredLdl m old = IsValue m structures.Lower
    (λ x. times m old.rows (times m old.rows (view structures.UnitLower x) (view structures.Diagonal x)) (transpose (view structures.UnitLower x))) (entry old) old

-- a row with the inverses of the diagonal of t
abbrev pub AreInverses : ℕ → Table → Grid → Grid → Type 0
AreInverses m t old = IsValue m structures.General (λ x i j. (t j j * x i j) % m) (λ i j. 1) old

-- the inverses of the sums of the pivots of t and of u, or of their differences
abbrev pub AreInversesOfPairs : ℕ → Bool → Table → Table → Grid → Grid → Type 0
AreInversesOfPairs m negative t u old =
    IsValue m structures.General (λ x i j. (combined m negative (λ a b. t a a) (λ a b. u b b) i j * x i j) % m) (λ i j. 1) old

-- on the entries of the work structure the work matrix has become one with these terms added, or subtracted, one after another
abbrev pub HasTerms : ℕ → Operation → List Grid → List Term → Grid → Grid → Type 0
HasTerms m op knowns terms work = IsValue m op.work.structure (λ x. x) (with_terms m op knowns terms (entry work)) work

-- and one with all terms: R, the right side
abbrev pub HasRightSide : ℕ → Operation → List Grid → Grid → Grid → Type 0
HasRightSide m op knowns work = IsValue m op.work.structure (λ x. x) (right_side m op knowns work) work
