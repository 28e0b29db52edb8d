-- Parts of which each entry is known, as grids. Cited where blocks are copied.
use Rattle.std.proofs.Common.{◌≡◌, ℕ, ◌+◌, ◌<◌, inl, inr, refl, sym, ap, ◌∙◌, subst, arith}
use Rattle.std.proofs.lemmas.Bool.{cases_eq}
use Rattle.residue_sums.specs.Tables.{Table}
use Rattle.residue_sums.specs.Grids.{Grid, IsFull, entry}
use Rattle.residue_sums.proofs.Grids.{same_from_HasEntries}
use Rattle.matrix_parts.specs.declared.part_mut.PartMut.{PartMut}
use Rattle.matrix_parts.specs.Lent.{grid_of}
use Rattle.matrix_parts.proofs.Rects.{IsFull-rect}
use Rattle.flash_blocks.specs.Blocks.{grid_of as table_grid}
use Rattle.flash_blocks.proofs.TableGrids.{IsFull-grid_of, HasEntries-grid_of}
use Rattle.block_store.specs.Parts.{part_of}

-- a part with the sizes of a full grid and its entries is that grid
pub part-is : (p : PartMut) (g : Grid) → IsFull g → p.rows ≡ g.rows → p.cols ≡ g.cols
    → ((i j : ℕ) → i < p.rows → j < p.cols → entry (grid_of p) i j ≡ entry g i j) → grid_of p ≡ g
part-is p g full rows cols each = same_from_HasEntries (grid_of p) g (entry g) (IsFull-rect p.entries.now p.first p.stride p.rows p.cols) full rows cols each (λ i j row col. refl)

-- a part with so many rows and columns and the entries of a table is the table's grid
pub part-of_table : (p : PartMut) (a : Table) (rows cols : ℕ) → p.rows ≡ rows → p.cols ≡ cols
    → ((i j : ℕ) → i < p.rows → j < p.cols → entry (grid_of p) i j ≡ a i j) → grid_of p ≡ table_grid a rows cols
part-of_table p a rows cols rows_are cols_are each = part-is p (table_grid a rows cols) (IsFull-grid_of a rows cols) rows_are cols_are
    (λ i j row col. each i j row col ∙ sym (HasEntries-grid_of a rows cols i j (rw rows_are at row) (rw cols_are at col)))

-- q has one row more of a table than p
pub next-row : (p q : PartMut) (a : Table) (i cols : ℕ) → ((r j : ℕ) → r < i → j < cols → entry (grid_of p) r j ≡ a r j)
    → ((j : ℕ) → j < cols → entry (grid_of q) i (0 + j) ≡ a i j) → ((r j : ℕ) → r < i → j < cols → entry (grid_of q) r j ≡ entry (grid_of p) r j)
    → (r j : ℕ) → r < i + 1 → j < cols → entry (grid_of q) r j ≡ a r j
next-row p q a i cols before here others r j row col = elim (cases_eq r i) [
  | inl same ↦ (let at : j ≡ 0 + j = omega arith in subst (λ (k : ℕ). entry (grid_of q) k j ≡ a k j) (sym same) (ap (λ (c : ℕ). entry (grid_of q) i c) at ∙ here j col))
  | inr apart ↦ (let above : r < i = omega (arith, row, apart) in others r j above col ∙ before r j above col)
]

-- all rows and columns of a grid are the grid
pub whole-part : (g : Grid) → IsFull g → part_of g (record { row = 0; col = 0; rows = g.rows; cols = g.cols }) ≡ g
whole-part g full = same_from_HasEntries (table_grid (λ i j. entry g (0 + i) (0 + j)) g.rows g.cols) g (entry g) (IsFull-grid_of (λ i j. entry g (0 + i) (0 + j)) g.rows g.cols) full refl refl
    (λ i j row col. HasEntries-grid_of (λ i j. entry g (0 + i) (0 + j)) g.rows g.cols i j row col ∙ ap (λ (r : ℕ). entry g r (0 + j)) (omega arith) ∙ ap (λ (c : ℕ). entry g i c) (omega arith))
    (λ i j row col. refl)
