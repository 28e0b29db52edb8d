-- The equation T * X + X * U = R, or T * X - X * U = R, on a block that is read by its columns for T and by its rows for U.
use Rattle.std.specs.Prelude.{◌≡◌, ◌≢◌, ◌⊎◌, ℕ, ◌+◌, ◌-◌, ◌*◌, ◌<◌, ◌≤◌, List, Bool, true, false, if◌then◌else◌}
use Rattle.residue_sums.specs.Residues.{Cong}
use Rattle.residue_sums.specs.Tables.{Table, product, transpose}
use Rattle.residue_sums.specs.Grids.{Grid, entry}
use Rattle.structure_rules.specs.declared.Structure.TheVariants.{General}
use Rattle.matrix_algebra.proofs.InPlace.{WrittenBelow}
use Rattle.matrix_algebra.proofs.Places.{rowwise}
use Rattle.matrix_algebra.proofs.Triangles.{order_of, structure_of}
use Rattle.matrix_parts.specs.Opers.{op_rows, op_table}
use Rattle.matrix_parts.specs.declared.oper.Oper.{Oper}
use Rattle.part_solves.specs.declared.line_systems.Equation.{Equation}
use Rattle.part_solves.specs.declared.sylvester.SylvesterSystem.{SylvesterSystem}
use Rattle.part_solves.specs.declared.sylvester_pieces.Piece.{Piece}
use Rattle.part_solves.specs.Conditions.{HasInversesOfPairs}
use Rattle.part_solves.specs.LineSystems.{IsReadable, IsFor, order_in, line_of}

-- 1, or -1 modulo m where `negative` is true
abbrev pub sign : ℕ → Bool → ℕ
sign m negative = if negative then m - 1 else 1

-- T * x with x * U added, or subtracted, as whole numbers: u has U's columns for its rows
abbrev pub two_sided : ℕ → ℕ → ℕ → Bool → Table → Table → Table → Table
two_sided m rows cols negative t u x i j = product rows t x i j + sign m negative * product cols x (transpose u) i j

-- a system whose columns go by one triangular table and whose rows by another
pub record IsSylvester (system : SylvesterSystem) : Type 0 where
  pub columns : IsReadable system.columns
  pub rows : IsReadable system.rows
  pub one_modulus : system.rows.reducer ≡ system.columns.reducer
  pub columns_turned : system.columns.turned ≡ true
  pub rows_straight : system.rows.turned ≡ false
  pub columns_general : system.columns.inside ≡ General
  pub rows_general : system.rows.inside ≡ General
  pub inverses : HasInversesOfPairs system.columns.reducer (op_rows system.columns.table) (op_rows system.rows.table) system.negative
      (op_table system.columns.table) (op_table system.rows.table) system.inverses

-- a block of residues that the system is on
pub record IsSylvesterBlock (system : SylvesterSystem) (g : Grid) : Type 0 where
  pub rows : g.rows ≡ op_rows system.columns.table
  pub cols : g.cols ≡ op_rows system.rows.table
  pub columns_for : IsFor system.columns g
  pub rows_for : IsFor system.rows g

-- the entries that come before place q, row by row in the order of the first table and each row in that of the second, are
-- solved for; all others are as before
abbrev pub IsSylvesterTo : SylvesterSystem → Table → Table → ℕ → Type 0
IsSylvesterTo system before now q =
    WrittenBelow (op_rows system.columns.table) (op_rows system.rows.table) General
    (rowwise (op_rows system.rows.table) (order_in system.columns.table) (order_in system.rows.table))
    (λ x i j. Cong system.columns.reducer
    (two_sided system.columns.reducer (op_rows system.columns.table) (op_rows system.rows.table) system.negative
    (op_table system.columns.table) (op_table system.rows.table) x i j) (before i j))
    before now q

-- ---- columns by pieces

-- the rows and columns of a table from one on
abbrev pub block_of : ℕ → Table → Table
block_of first u g k = u (first + g) (first + k)

-- when column g of a piece of so many is solved for
abbrev pub order_within : Oper → ℕ → ℕ → ℕ
order_within u lines g = order_of (structure_of u.primed u.structure) lines g

-- the columns of a piece are those whose turn comes behind the columns solved for before, which lie side by side
pub record IsPiece (u : Oper) (p : Piece) : Type 0 where
  pub within : p.first + p.lines ≤ op_rows u
  pub done_within : p.from + p.len ≤ op_rows u
  pub apart : (p.first + p.lines ≤ p.from) ⊎ (p.from + p.len ≤ p.first)
  pub here : (j : ℕ) → j < op_rows u → p.len ≤ order_in u j → order_in u j < p.len + p.lines → (p.first ≤ j) × (j < p.first + p.lines)
  pub turns : (j : ℕ) → p.first ≤ j → j < p.first + p.lines → (p.len ≤ order_in u j) × (order_in u j < p.len + p.lines)
  pub done : (j : ℕ) → p.from ≤ j → j < p.from + p.len → order_in u j < p.len
  pub before : (j : ℕ) → j < op_rows u → order_in u j < p.len → (p.from ≤ j) × (j < p.from + p.len)

-- within a piece, column e.unknown reads the columns of a span alone
pub record IsPieceEquation (u : Oper) (p : Piece) (e : Equation) : Type 0 where
  pub below : e.unknown < p.lines
  pub within : e.from + e.len ≤ p.lines
  pub apart : (e.unknown < e.from) ⊎ (e.from + e.len ≤ e.unknown)
  pub zeros : (k : ℕ) → k < p.lines → k ≢ e.unknown → (k < e.from) ⊎ (e.from + e.len ≤ k) → block_of p.first (op_table u) e.unknown k ≡ 0

-- a panel's lines as the columns of a table
abbrev pub columns_of : List ℕ → ℕ → Table
columns_of xs n i g = line_of xs n g i

-- of a piece's columns the entries that come before place q are solved for
abbrev pub IsPieceTo : SylvesterSystem → Piece → Table → Table → ℕ → Type 0
IsPieceTo system p before now q =
    WrittenBelow (op_rows system.columns.table) p.lines General
    (rowwise p.lines (order_in system.columns.table) (order_within system.rows.table p.lines))
    (λ x i g. Cong system.columns.reducer
    (two_sided system.columns.reducer (op_rows system.columns.table) p.lines system.negative
    (op_table system.columns.table) (block_of p.first (op_table system.rows.table)) x i g) (before i g))
    before now q

-- the columns whose turn is from one on, and before another, are solved; those of later turns, or earlier ones, are as before
pub record AreColumnsSolved (system : SylvesterSystem) (from to : ℕ) (old new : Grid) : Type 0 where
  pub solved : (i j : ℕ) → i < op_rows system.columns.table → j < op_rows system.rows.table
      → from ≤ order_in system.rows.table j → order_in system.rows.table j < to
      → Cong system.columns.reducer
      (two_sided system.columns.reducer (op_rows system.columns.table) (op_rows system.rows.table) system.negative
      (op_table system.columns.table) (op_table system.rows.table) (entry new) i j) (entry old i j)
  pub others : (i j : ℕ) → i < op_rows system.columns.table → j < op_rows system.rows.table
      → (order_in system.rows.table j < from) ⊎ (to ≤ order_in system.rows.table j) → entry new i j ≡ entry old i j
  pub residues : (i j : ℕ) → i < old.rows → j < old.cols → entry new i j < system.columns.reducer
