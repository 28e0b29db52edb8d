-- The factors of a matrix that is cut in two, as a textbook states them: an equation for each block, modulo m.
use Rattle.std.specs.Prelude.{ℕ, ◌+◌, ◌<◌, ◌≤◌}
use Rattle.residue_sums.specs.Residues.{Cong}
use Rattle.residue_sums.specs.Tables.{Table, transpose, product, times}
use Rattle.structure_rules.specs.declared.Structure.TheVariants.{UnitLower, Upper, Diagonal}
use Rattle.structure_rules.specs.Structures.{view}
use Rattle.equation.specs.Equations.{minus}

-- the four blocks of a matrix: those above, b00 and b01, and those below, b10 and b11
pub record Blocks : Type 0 where
  pub b00 : Table
  pub b01 : Table
  pub b10 : Table
  pub b11 : Table

-- the blocks of a matrix that is cut behind its first n0 rows and its first n0 columns
abbrev pub four_blocks : ℕ → Table → Blocks
four_blocks n0 a = record { b00 = a; b01 = λ i j. a i (n0 + j); b10 = λ i j. a (n0 + i) j; b11 = λ i j. a (n0 + i) (n0 + j) }

-- the factors that are packed in one block: the unit lower, the upper and the diagonal one
abbrev pub lower : Table → Table
lower x = view UnitLower x

abbrev pub upper : Table → Table
upper x = view Upper x

abbrev pub diagonal : Table → Table
diagonal x = view Diagonal x

-- a is b in the first rows and columns
abbrev pub Agree : ℕ → ℕ → ℕ → Table → Table → Type 0
Agree m rows cols a b = (i j : ℕ) → i < rows → j < cols → Cong m (a i j) (b i j)

-- a is b on and below the diagonal of the first n rows and columns
abbrev pub AgreeBelow : ℕ → ℕ → Table → Table → Type 0
AgreeBelow m n a b = (i j : ℕ) → j ≤ i → i < n → Cong m (a i j) (b i j)

-- L00 * U00 = W00, L00 * X01 = W01, X10 * U00 = W10 and L11 * U11 = W11 - X10 * X01, with L00 and U00 packed in X00, L11 and U11 in X11
pub record IsLuInTwo (m n0 n1 : ℕ) (w x : Blocks) : Type 0 where
  pub leading : Agree m n0 n0 (product n0 (lower x.b00) (upper x.b00)) w.b00
  pub right : Agree m n0 n1 (product n0 (lower x.b00) x.b01) w.b01
  pub below : Agree m n1 n0 (product n0 x.b10 (upper x.b00)) w.b10
  pub trailing : Agree m n1 n1 (product n1 (lower x.b11) (upper x.b11)) (minus m w.b11 (times m n0 x.b10 x.b01))

-- L00 * D00 * L00' = W00 and L11 * D11 * L11' = W11 - X10 * D00 * X10' on and below the diagonal, and X10 * (D00 * L00') = W10, with L00
-- and D00 packed in X00, L11 and D11 in X11
pub record IsLdlInTwo (m n0 n1 : ℕ) (w x : Blocks) : Type 0 where
  pub leading : AgreeBelow m n0 (product n0 (product n0 (lower x.b00) (diagonal x.b00)) (transpose (lower x.b00))) w.b00
  pub below : Agree m n1 n0 (product n0 x.b10 (product n0 (diagonal x.b00) (transpose (lower x.b00)))) w.b10
  pub trailing : AgreeBelow m n1 (product n1 (product n1 (lower x.b11) (diagonal x.b11)) (transpose (lower x.b11)))
      (minus m w.b11 (times m n0 (product n0 x.b10 (diagonal x.b00)) (transpose x.b10)))
