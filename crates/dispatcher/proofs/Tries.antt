-- A block is copied again and again until it is there: what stays meanwhile. Cited where blocks are copied and kept.
use Rattle.std.proofs.Common.{◌≡◌, ℕ, ◌*◌, List, length, refl, sym, ap, ◌∙◌}
use Rattle.matrix_parts.specs.declared.part_mut.PartMut.{PartMut}
use Rattle.matrix_parts.specs.Lent.{grid_of, loan_of, IsKept, IsPart}
use Rattle.matrix_parts.proofs.Kept.{IsKept-same, IsKept-then}
use Rattle.matrix_parts.proofs.Rects.{rect-whole}
use Rattle.block_store.specs.declared.key.BoardKey.{BoardKey}
use Rattle.block_store.specs.declared.rect.Rect.{Rect}
use Rattle.block_store.specs.declared.seat.Board.{Board}
use Rattle.block_store.specs.declared.seat.Seat.{Seat}
use Rattle.block_store.specs.Blocks.{block_cols, block_rows}
use Rattle.block_store.specs.Parts.{HasSizeOf}
use Rattle.block_store.specs.Plays.{NotHolds}
use Rattle.block_store.specs.Seats.{view, IsSame, IsSameSeat, IsSeatOf}
use Rattle.dispatcher.specs.Copying.{HasBlockSize, HasCopied}
use Rattle.dispatcher.proofs.CopiedViews.{copied-none, copied-then}

-- ---- seats

pub same_seat-then : (a b c : Seat) → IsSameSeat a b → IsSameSeat b c → IsSameSeat a c
same_seat-then a b c h k = (k.0 ∙ h.0, k.1 ∙ h.1, k.2 ∙ h.2)

pub same-then : (a b c : Seat) → IsSame a b → IsSame b c → IsSame a c
same-then a b c h k = (same_seat-then a b c h.0 k.0, k.1 ∙ h.1)

pub seat-then : (board : Board) (a b : Seat) → IsSeatOf board a → IsSameSeat a b → IsSeatOf board b
seat-then board a b of same = (same.0 ∙ of.0, same.1 ∙ of.1)

-- ---- tries

-- a seat that holds nothing copied some blocks, and wrote into a part at most
pub record IsTried (old new : Seat) (before after : PartMut) : Type 0 where
  pub same : IsSame old new
  pub copied : HasCopied (view old) (view new)
  pub free : (y : ℕ) → NotHolds (view new) y
  pub loan : loan_of after ≡ loan_of before
  pub part : IsPart after
  pub kept : IsKept before after

pub tried-none : (s : Seat) (p : PartMut) → ((y : ℕ) → NotHolds (view s) y) → IsPart p → IsTried s s p p
tried-none s p free part = record { same = ((refl, refl, refl), refl); copied = copied-none (view s); free = free; loan = refl; part = part; kept = IsKept-same p }

pub tried-more : (s u w : Seat) (p q r : PartMut) → IsTried s u p q → IsSame u w → HasCopied (view u) (view w) → ((y : ℕ) → NotHolds (view w) y)
    → loan_of r ≡ loan_of q → IsPart r → IsKept q r → IsTried s w p r
tried-more s u w p q r so_far same copied free loan part kept = record {
  same = same-then s u w so_far.same same;
  copied = copied-then (view s) (view u) (view w) so_far.copied copied;
  free = free;
  loan = loan ∙ so_far.loan;
  part = part;
  kept = IsKept-then p q r so_far.kept kept;
}

-- ---- sizes

-- a part of a block's size stays one, so that all of the block goes into it
pub sized : (key : BoardKey) (x : ℕ) (p q : PartMut) (part : Rect) → HasBlockSize key x (grid_of p) → IsKept p q
    → part ≡ record { row = 0; col = 0; rows = block_rows key x; cols = block_cols key x } → HasSizeOf part (grid_of q)
sized key x p q part size kept e = record {
  rows = kept.rows ∙ (size.rows ∙ sym (ap (λ (r : Rect). r.rows) e));
  cols = kept.cols ∙ (size.cols ∙ sym (ap (λ (r : Rect). r.cols) e));
}

-- numbers that were lent as one part, once that is gone
pub numbers-back : (xs : List ℕ) (rows cols : ℕ) (made written : PartMut) → made.first ≡ 0 → made.stride ≡ cols → made.rows ≡ rows → made.cols ≡ cols → IsKept made written
    → xs ≡ written.entries.now → length xs ≡ rows * cols → grid_of written ≡ record { rows = rows; cols = cols; entries = xs }
numbers-back xs rows cols made written first stride rows_are cols_are kept same full =
    rw (← same, kept.first ∙ first, kept.stride ∙ stride, kept.rows ∙ rows_are, kept.cols ∙ cols_are) (rect-whole xs rows cols full)
