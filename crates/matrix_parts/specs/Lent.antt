-- What a part that is lent to be written is seen as, and what a write to it keeps.
use Rattle.std.specs.Prelude.{◌≡◌, ◌≢◌, ℕ, ◌+◌, ◌-◌, ◌*◌, ◌<◌, List, ◌++◌, length, slice_index}
use Rattle.std.specs.Borrow.{GName, Fml, MutBor, Array, u64 as word, follows, follows_both}
use Rattle.matrix_core.specs.LentEntries.{with_entries}
use Rattle.matrix_core.specs.contracts.matrix.Matrix as matrix
use Rattle.residue_sums.specs.Grids.{Grid}
use Rattle.matrix_parts.specs.declared.part_mut.PartMut.{PartMut}
use Rattle.matrix_parts.specs.Rects.{rect, IsWithin, IsBlockOf}

-- its entries
abbrev pub grid_of : PartMut → Grid
grid_of p = rect p.entries.now p.first p.stride p.rows p.cols

-- the loan that it holds: what a write through the part changes is what this loan's owner finds changed
abbrev pub loan_of : PartMut → GName
loan_of p = p.entries.ghost_name

-- each of its rows lies within the lent numbers, and no two rows overlap
abbrev pub IsPart : PartMut → Type 0
IsPart p = IsWithin (length p.entries.now) p.first p.stride p.rows p.cols

-- the place is none of its entries'
abbrev pub IsAround : PartMut → ℕ → Type 0
IsAround p at = (i j : ℕ) → i < p.rows → j < p.cols → at ≢ p.first + i * p.stride + j

-- the same rectangle of the same lent numbers, of which at most the rectangle's own have changed
pub record IsKept (old new : PartMut) : Type 0 where
  pub first : new.first ≡ old.first
  pub stride : new.stride ≡ old.stride
  pub rows : new.rows ≡ old.rows
  pub cols : new.cols ≡ old.cols
  pub len : length new.entries.now ≡ length old.entries.now
  pub around : (at : ℕ) → IsAround old at → slice_index new.entries.now at ≡ slice_index old.entries.now at

-- its entries, where its lent numbers are these
abbrev pub seen_in : PartMut → List ℕ → Grid
seen_in p xs = rect xs p.first p.stride p.rows p.cols

-- what a part was lent ends as this function of what its two parts were lent and end as
abbrev pub EndsAsBoth : PartMut → PartMut × PartMut → (List ℕ → List ℕ → List ℕ) → Fml
EndsAsBoth p halves = follows_both (Array word 0) (Array word 0) (Array word 0) (loan_of p) (loan_of halves.0) (loan_of halves.1)

-- whatever numbers the two end with, the part that was split then has the rows of the first and below them those of the second
pub record AreRowsOf (p : PartMut) (at : ℕ) (halves : PartMut × PartMut) : Type 0 where
  pub now : p.entries.now ≡ halves.0.entries.now ++ halves.1.entries.now
  pub above : (xs ys : List ℕ) → length xs ≡ length halves.0.entries.now → IsBlockOf (seen_in p (xs ++ ys)) 0 0 at p.cols (seen_in halves.0 xs)
  pub below : (xs ys : List ℕ) → length xs ≡ length halves.0.entries.now → IsBlockOf (seen_in p (xs ++ ys)) at 0 (p.rows - at) p.cols (seen_in halves.1 ys)

-- the matrix that was lent whole ends with the entries that the part ends with
abbrev pub EndsAsPart : MutBor Grid → PartMut → Fml
EndsAsPart m p = follows matrix.the_row (Array word 0) m.ghost_name (loan_of p) (with_entries m.now)
