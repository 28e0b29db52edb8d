-- Reading grids, and what a write leaves in one. Cited by each function that reads or writes a matrix, and where two matrices that
-- have the entries of one table are one.
use Rattle.std.proofs.Common.{◌≡◌, ◌≢◌, ℕ, ◌+◌, ◌*◌, ◌/◌, ◌%◌, ◌<◌, length, get_or, sym, ap, ◌∙◌, arith, length-set, get_or-set_same, get_or-set_other}
use Rattle.std.proofs.Math.Nat.{mod-lt, pos_of_ne-zero}
use Rattle.std.proofs.lemmas.Nat.{mul-add-lt, same_from_place, div_below, div-add-mod'}
use Rattle.std.proofs.lemmas.List.{ext_get_or}
use Rattle.std.proofs.lemmas.List.Elements.{All-get_or, All-set}
use Rattle.residue_sums.specs.Tables.{Table}
use Rattle.residue_sums.specs.Grids.{Grid, IsFull, entry, with_entry, AreResidues, HasEntries}

-- a place is within the entries
pub place_below : (g : Grid) (i j : ℕ) → IsFull g → i < g.rows → j < g.cols → i * g.cols + j < length g.entries
place_below g i j full row col = omega (arith, mul-add-lt i g.cols j g.rows row col)

-- an entry of a grid of residues is below m
pub entry_below : (m : ℕ) (g : Grid) (i j : ℕ) → IsFull g → AreResidues m g → i < g.rows → j < g.cols → entry g i j < m
entry_below m g i j full residues row col = All-get_or (λ x. x < m) g.entries (i * g.cols + j) 0 (place_below g i j full row col) residues

-- what a write of v in row i and column j leaves
module _ (g : Grid) (i j v : ℕ) where
  -- the entry that was written
  pub entry-with_entry_same : IsFull g → i < g.rows → j < g.cols → entry (with_entry g i j v) i j ≡ v
  entry-with_entry_same full row col = get_or-set_same g.entries (i * g.cols + j) v 0 (place_below g i j full row col)

  -- an entry of another row
  pub entry-with_entry_other_row : (a b : ℕ) → j < g.cols → b < g.cols → a ≢ i → entry (with_entry g i j v) a b ≡ entry g a b
  entry-with_entry_other_row a b col other_col ne =
      get_or-set_other g.entries (i * g.cols + j) (a * g.cols + b) v 0 (λ e. ne (same_from_place a b i j g.cols other_col col e).0)

  -- an entry of another column
  pub entry-with_entry_other_col : (a b : ℕ) → j < g.cols → b < g.cols → b ≢ j → entry (with_entry g i j v) a b ≡ entry g a b
  entry-with_entry_other_col a b col other_col ne =
      get_or-set_other g.entries (i * g.cols + j) (a * g.cols + b) v 0 (λ e. ne (same_from_place a b i j g.cols other_col col e).1)

  -- the grid is still full
  pub IsFull-with_entry : IsFull g → IsFull (with_entry g i j v)
  IsFull-with_entry full = length-set g.entries (i * g.cols + j) v ∙ full

  -- a write of a residue leaves residues
  pub AreResidues-with_entry : (m : ℕ) → v < m → AreResidues m g → AreResidues m (with_entry g i j v)
  AreResidues-with_entry m below residues = All-set (λ x. x < m) g.entries (i * g.cols + j) v below residues

-- an entry in the list, by its row and its column
entry_at : (g : Grid) (a : Table) (k : ℕ) → IsFull g → HasEntries g a → k < length g.entries → get_or g.entries k 0 ≡ a (k / g.cols) (k % g.cols)
entry_at g a k full has below =
    let pos : 0 < g.cols = pos_of_ne-zero (λ e. let none : g.rows * g.cols ≡ 0 = rw e (omega arith) in omega arith) in
    let place : k / g.cols * g.cols + k % g.cols ≡ k = div-add-mod' k g.cols in
    let row : k / g.cols < g.rows = div_below k g.cols g.rows pos (omega arith) in
    ap (λ (q : ℕ). get_or g.entries q 0) (sym place) ∙ has (k / g.cols) (k % g.cols) row (mod-lt k pos)

-- two full grids of the same sizes with the entries of one table are one
pub same_from_HasEntries : (g h : Grid) (a : Table) → IsFull g → IsFull h → g.rows ≡ h.rows → g.cols ≡ h.cols → HasEntries g a → HasEntries h a → g ≡ h
same_from_HasEntries g h a g_full h_full rows cols g_has h_has =
    let lengths : length g.entries ≡ length h.entries = g_full ∙ (rw (rows, cols) (sym h_full)) in
    let entries : g.entries ≡ h.entries = ext_get_or 0 g.entries h.entries lengths
    (λ k p. entry_at g a k g_full g_has p ∙ (rw cols (sym (entry_at h a k h_full h_has (rw lengths at p))))) in
    λ x. record { rows = rows x; cols = cols x; entries = entries x }
