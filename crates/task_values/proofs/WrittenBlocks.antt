-- A matrix whose entries a kernel went over, as one part. Cited where a block is handed to its kernel.
use Rattle.std.proofs.Common.{◌≡◌, ℕ, List, length, sym, ◌∙◌}
use Rattle.residue_sums.specs.Grids.{Grid, IsFull}
use Rattle.matrix_core.specs.LentEntries.{with_entries}
use Rattle.matrix_parts.specs.declared.part_mut.PartMut.{PartMut}
use Rattle.matrix_parts.specs.Lent.{grid_of, IsKept}
use Rattle.matrix_parts.proofs.Back.{whole_back}

-- it ends as what the part of it has become
pub grid_written : (g : Grid) (xs : List ℕ) (made written : PartMut) (rows cols : ℕ) → IsFull g → length xs ≡ length g.entries → xs ≡ written.entries.now
    → rows ≡ g.rows → cols ≡ g.cols → made.first ≡ 0 → made.stride ≡ cols → made.rows ≡ rows → made.cols ≡ cols → IsKept made written
    → grid_of written ≡ with_entries g xs
grid_written g xs made written rows cols full long same rows_are cols_are first stride own_rows own_cols kept =
    sym (whole_back g xs written full long same (kept.first ∙ first) (kept.stride ∙ stride ∙ cols_are) (kept.rows ∙ own_rows ∙ rows_are) (kept.cols ∙ own_cols ∙ cols_are))

-- it was lent as itself
pub grid_lent : (g : Grid) (xs : List ℕ) (rows cols : ℕ) → rows ≡ g.rows → cols ≡ g.cols → xs ≡ g.entries → record { rows = rows; cols = cols; entries = xs } ≡ g
grid_lent g xs rows cols rows_are cols_are entries_are = λ k. record { rows = rows_are k; cols = cols_are k; entries = entries_are k }
