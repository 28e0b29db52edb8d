-- A matrix whose entries were lent ends as the part that they were lent to.
use Rattle.std.proofs.Common.{◌≡◌, List, ℕ, length, sym, ◌∙◌, ap, take_at, drop}
use Rattle.residue_sums.specs.Grids.{Grid, IsFull}
use Rattle.matrix_core.specs.LentEntries.{with_entries}
use Rattle.matrix_parts.specs.declared.part_mut.PartMut.{PartMut}
use Rattle.matrix_parts.specs.Lent.{grid_of}
use Rattle.matrix_parts.proofs.Rects.{rect-whole}

pub whole_back : (g : Grid) (xs : List ℕ) (p : PartMut) → IsFull g → length xs ≡ length g.entries → xs ≡ p.entries.now
    → p.first ≡ 0 → p.stride ≡ g.cols → p.rows ≡ g.rows → p.cols ≡ g.cols → with_entries g xs ≡ grid_of p
whole_back g xs p full long same first stride rows cols =
    ap (λ (ys : List ℕ). record { rows = g.rows; cols = g.cols; entries = ys }) (take_at xs (drop (length xs) g.entries) (length g.entries) long)
    ∙ (rw (first, stride, rows, cols, ← same) (sym (rect-whole xs g.rows g.cols (long ∙ full))))
