-- Triangular systems on the lines of a part: row i of a triangular table is an equation between the unknowns of each line.
use Rattle.std.specs.Prelude.{◌≡◌, ◌≢◌, ℕ, ◌+◌, ◌-◌, ◌*◌, ◌<◌, ◌%◌, ◌≤◌, ◌⊎◌, ◌^◌, Bool, true, false, List, length, slice_index, if◌then◌else◌}
use Rattle.residue_sums.specs.Residues.{Cong}
use Rattle.residue_sums.specs.Sums.{sum_below}
use Rattle.residue_sums.specs.Tables.{Table, oriented}
use Rattle.residue_sums.specs.Grids.{Grid, AreResidues, entry}
use Rattle.structure_rules.specs.declared.Structure.{Structure}
use Rattle.structure_rules.specs.declared.Structure.TheVariants.{General, Upper, UnitUpper, Diagonal}
use Rattle.structure_rules.specs.Structures.{view, IsInside, IsTriangular, IsWorkStructure}
use Rattle.matrix_algebra.proofs.Triangles.{order_of, structure_of}
use Rattle.matrix_parts.specs.declared.oper.Oper.{Oper}
use Rattle.matrix_parts.specs.Opers.{op_rows, op_cols, op_table, IsOper}
use Rattle.part_solves.specs.declared.line_systems.LineSystem.{LineSystem}
use Rattle.part_solves.specs.declared.line_systems.Equation.{Equation}
use Rattle.part_solves.specs.declared.line_systems.Band.{Band}
use Rattle.part_solves.specs.Conditions.{IsUnitTriangle, HasInverses}

-- the lines of a part that is read on the entries of a structure: its columns where it is turned, else its rows
abbrev pub line_table : Bool → Structure → Table → Table
line_table turned s x = oriented turned (view s x)

-- unknown i of line g is an entry of the structure
abbrev pub IsInLine : Bool → Structure → ℕ → ℕ → Type 0
IsInLine true s g i = IsInside s i g
IsInLine false s g i = IsInside s g i

-- when the unknown i of a line is solved for
abbrev pub order_in : Oper → ℕ → ℕ
order_in t i = order_of (structure_of t.primed t.structure) (op_rows t) i

-- the table is square and triangular, of residues, and the part is one that a solve writes
pub record IsReadable (system : LineSystem) : Type 0 where
  pub oper : IsOper system.table
  pub triangular : IsTriangular system.table.structure
  pub square : op_cols system.table ≡ op_rows system.table
  pub residues : AreResidues system.reducer system.table.part
  pub work : IsWorkStructure system.inside

-- and the inverses are those of its diagonal
pub record IsReady (system : LineSystem) : Type 0 where
  pub readable : IsReadable system
  pub inverses : IsUnitTriangle system.table.structure ⊎ HasInverses system.reducer (op_rows system.table) (op_table system.table) system.inverses

-- beside its own unknown, an equation of the table reads those of its span alone
pub record IsEquation (t : Oper) (e : Equation) : Type 0 where
  pub below : e.unknown < op_rows t
  pub within : e.from + e.len ≤ op_rows t
  pub apart : (e.unknown < e.from) ⊎ (e.from + e.len ≤ e.unknown)
  pub zeros : (k : ℕ) → k < op_rows t → k ≢ e.unknown → (k < e.from) ⊎ (e.from + e.len ≤ k) → op_table t e.unknown k ≡ 0

-- the equation that is solved after r others, where n are solved in the order of a structure
abbrev pub equation_of : Structure → ℕ → ℕ → Equation
equation_of Upper n r = record { unknown = n - 1 - r; from = n - r; len = r }
equation_of UnitUpper n r = record { unknown = n - 1 - r; from = n - r; len = r }
equation_of Diagonal n r = record { unknown = r; from = 0; len = 0 }
equation_of _ n r = record { unknown = r; from = 0; len = r }

-- of the unknowns that the equation after r + late others reads, those solved for before the last `late` of these, and those
abbrev pub early_of : Structure → ℕ → ℕ → ℕ → Equation
early_of Upper n r late = record { unknown = n - 1 - (r + late); from = n - r; len = r }
early_of UnitUpper n r late = record { unknown = n - 1 - (r + late); from = n - r; len = r }
early_of Diagonal n r late = record { unknown = r + late; from = 0; len = 0 }
early_of _ n r late = record { unknown = r + late; from = 0; len = r }

abbrev pub late_of : Structure → ℕ → ℕ → ℕ → Equation
late_of Upper n r late = record { unknown = n - 1 - (r + late); from = n - (r + late); len = late }
late_of UnitUpper n r late = record { unknown = n - 1 - (r + late); from = n - (r + late); len = late }
late_of Diagonal n r late = record { unknown = r + late; from = 0; len = 0 }
late_of _ n r late = record { unknown = r + late; from = r; len = late }

-- the equation has one of the rows of a band, and reads columns of the band
pub record IsInBand (band : Band) (e : Equation) : Type 0 where
  pub above : band.row ≤ e.unknown
  pub below : e.unknown < band.row + band.count
  pub left : band.from ≤ e.from
  pub right : e.from + e.len ≤ band.from + band.width

-- a list has the rows of a band, one behind the other
pub record AreBandRows (t : Oper) (band : Band) (xs : List ℕ) : Type 0 where
  pub room : band.count * band.width ≤ length xs
  pub entries : (i k : ℕ) → i < band.count → k < band.width → slice_index xs (i * band.width + k) ≡ op_table t (band.row + i) (band.from + k)

-- line g of a list that has lines of n numbers, one behind the other
abbrev pub line_of : List ℕ → ℕ → ℕ → ℕ → ℕ
line_of xs n g k = slice_index xs (g * n + k)

-- for each of so many lines the sum of an equation's terms over its span, which it reads of lines of a list
abbrev pub AreSpanSums : LineSystem → Equation → ℕ → List ℕ → (ℕ → ℕ) → Type 0
AreSpanSums system e lines xs sums = (g : ℕ) → g < lines → sums g
    ≡ sum_below (λ k. op_table system.table e.unknown (e.from + k) * line_of xs (op_rows system.table) g (e.from + k)) e.len % system.reducer

-- of n unknowns on a line, those that are asked for and come before place q are solved for; all others are as before
pub record IsSolvedTo (m n : ℕ) (IsAsked : ℕ → Type 0) (t : Table) (order : ℕ → ℕ) (before now : ℕ → ℕ) (q : ℕ) : Type 0 where
  pub solved : (i : ℕ) → i < n → IsAsked i → order i < q → Cong m (sum_below (λ k. t i k * now k) n) (before i)
  pub pending : (i : ℕ) → i < n → ¬ (IsAsked i) ⊎ (q ≤ order i) → now i ≡ before i

-- the unknowns of so many lines of a list, of which the first is line `first` of the part, are solved for as far as place q
abbrev pub AreSolvedTo : LineSystem → ℕ → ℕ → (ℕ → ℕ → ℕ) → List ℕ → ℕ → Type 0
AreSolvedTo system first lines before now q = (g : ℕ) → g < lines
    → IsSolvedTo system.reducer (op_rows system.table) (IsInLine system.turned system.inside (first + g)) (op_table system.table) (order_in system.table)
    (before g) (line_of now (op_rows system.table) g) q

-- how many lines a block has, and how many entries a line
abbrev pub line_count : Bool → Grid → ℕ
line_count turned g = if turned then g.cols else g.rows

abbrev pub line_size : Bool → Grid → ℕ
line_size turned g = if turned then g.rows else g.cols

-- a block of residues on whose lines the system is
pub record IsFor (system : LineSystem) (g : Grid) : Type 0 where
  pub square : system.inside ≢ General → g.rows ≡ g.cols
  pub size : line_size system.turned g ≡ op_rows system.table
  pub few : op_rows system.table < 2 ^ 32
  pub residues : (i j : ℕ) → i < g.rows → j < g.cols → entry g i j < system.reducer

-- of so many lines of a block, from one on, the unknowns before `to` are those of a list; all other entries are as before
pub record AreWritten (system : LineSystem) (first lines to : ℕ) (xs : List ℕ) (old new : Grid) : Type 0 where
  pub here : (g k : ℕ) → g < lines → k < to → IsInLine system.turned system.inside (first + g) k
      → oriented system.turned (entry new) (first + g) k ≡ line_of xs (op_rows system.table) g k
  pub others : (h k : ℕ) → h < line_count system.turned old → k < op_rows system.table
      → (h < first) ⊎ ((first + lines ≤ h) ⊎ ((to ≤ k) ⊎ ¬ (IsInLine system.turned system.inside h k)))
      → oriented system.turned (entry new) h k ≡ oriented system.turned (entry old) h k
  pub residues : (i j : ℕ) → i < old.rows → j < old.cols → entry new i j < system.reducer

-- of a block's lines those from one on, and before another, are solved; all other entries are as before
pub record AreLinesSolved (system : LineSystem) (from to : ℕ) (old new : Grid) : Type 0 where
  pub solved : (g i : ℕ) → from ≤ g → g < to → i < op_rows system.table → IsInLine system.turned system.inside g i
      → Cong system.reducer (sum_below (λ k. op_table system.table i k * line_table system.turned system.inside (entry new) g k) (op_rows system.table))
      (oriented system.turned (entry old) g i)
  pub others : (g i : ℕ) → g < line_count system.turned old → i < op_rows system.table → (g < from) ⊎ ((to ≤ g) ⊎ ¬ (IsInLine system.turned system.inside g i))
      → oriented system.turned (entry new) g i ≡ oriented system.turned (entry old) g i
  pub residues : (i j : ℕ) → i < old.rows → j < old.cols → entry new i j < system.reducer
