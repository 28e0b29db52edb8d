-- Blocks that stand in a room one behind the other. Cited where they are copied there.
use Rattle.std.proofs.Common.{◌≡◌, ℕ, ◌+◌, ◌-◌, ◌*◌, ◌<◌, ◌≤◌, inl, inr, List, length, get_or, set, take, drop, All, sym, ap, ap₂, ◌∙◌, subst, arith}
use Rattle.std.proofs.lemmas.Bool.{cases_eq}
use Rattle.std.proofs.lemmas.List.{drop_at, drop-take, get_or-set_other, get_or-set_same, get_or-take, length-take-le}
use Rattle.std.proofs.lemmas.Slice.{take-put_mid, take-put_mid_below}
use Rattle.std.specs.List.{range_with_len}
use Rattle.std.proofs.lemmas.List.FromFn.{get_or-range_with_len, length-range_with_len}
use borrow.Rule.Slice.PartMut.{put_mid}
use Rattle.residue_sums.specs.Grids.{Grid}
use Rattle.block_kernels.specs.declared.stored_blocks.Cut.{Cut}
use Rattle.block_kernels.specs.LaidBlocks.{cut_grid, IsInRoom}
use Rattle.task_values.specs.FoundBlocks.{AreFirstNumbers}
use Rattle.block_store.specs.declared.key.BoardKey.{BoardKey}
use Rattle.block_store.specs.Blocks.{access_of, block_cols, block_rows, IsFound}
use Rattle.dispatcher.specs.Copying.{block_with, AreCopied, IsCopied}

-- what stands before the place of a write stays
kept-before : (xs ys : List ℕ) (a k c n : ℕ) → c + n ≤ a → a ≤ length xs → take n (drop c (put_mid a k xs ys)) ≡ take n (drop c xs)
kept-before xs ys a k c n before within = sym (drop-take c n (put_mid a k xs ys)) ∙ (ap (drop c) (take-put_mid_below a k xs ys (c + n) before within) ∙ drop-take c n xs)

-- and at the place is what was written
written-there : (xs ys : List ℕ) (a k n : ℕ) → length ys ≡ n → a ≤ length xs → take n (drop a (put_mid a k xs ys)) ≡ ys
written-there xs ys a k n long within =
    sym (drop-take a n (put_mid a k xs ys)) ∙ (ap (drop a) (take-put_mid a k xs ys (a + n) (omega arith) within) ∙ drop_at (take a xs) ys a (length-take-le a xs within))

module _ (key : BoardKey) (t k : ℕ) (room own : List ℕ) (cuts : List Cut) (a n x : ℕ) (cut : Cut) where
  -- one block more was copied, behind those before
  one_more : AreCopied key t k room cuts a → x ≡ get_or (access_of key t).reads k 0 → k < length cuts → a ≤ length room
      → cut.at ≡ a → cut.rows ≡ block_rows key x → cut.cols ≡ block_cols key x → cut.rows * cut.cols ≡ n → length own ≡ n → IsFound key t x (block_with key x own)
      → AreCopied key t (k + 1) (put_mid a n room own) (set cuts k cut) (a + n)
  one_more before read within inside at rows cols count long found j d less = elim (cases_eq j k) [
    | inl same ↦ subst (λ (i : ℕ). IsCopied key t (get_or (access_of key t).reads i 0) (put_mid a n room own) (a + n) (get_or (set cuts k cut) i d)) (sym same) here
    | inr other ↦ (let h = before j d (omega arith) in
        subst (IsCopied key t (get_or (access_of key t).reads j 0) (put_mid a n room own) (a + n)) (sym (get_or-set_other cuts k j cut d other)) (record {
          below = omega (arith, h.below);
          found = subst (λ (es : List ℕ). IsFound key t (get_or (access_of key t).reads j 0) (record { rows = (get_or cuts j d).rows; cols = (get_or cuts j d).cols; entries = es }))
              (sym (kept-before room own a n (get_or cuts j d).at ((get_or cuts j d).rows * (get_or cuts j d).cols) h.below inside)) h.found;
        }))
  ]
    where
      stands : cut_grid (put_mid a n room own) cut ≡ block_with key x own
      stands = ap₂ (λ (p : ℕ × ℕ) (es : List ℕ). record { rows = p.0; cols = p.1; entries = es }) (λ i. (rows i, cols i))
          (ap₂ (λ (m c : ℕ). take m (drop c (put_mid a n room own))) count at ∙ written-there room own a n n long inside)

      here : IsCopied key t (get_or (access_of key t).reads k 0) (put_mid a n room own) (a + n) (get_or (set cuts k cut) k d)
      here = subst (λ (y : ℕ). IsCopied key t y (put_mid a n room own) (a + n) (get_or (set cuts k cut) k d)) read
          (subst (IsCopied key t x (put_mid a n room own) (a + n)) (sym (get_or-set_same cuts k cut d within)) (record {
            below = omega (arith, at, count);
            found = subst (IsFound key t x) (sym stands) found;
          }))

-- as the code has it: from a place to the end of the block
pub copied-next : (key : BoardKey) (t k : ℕ) (room own : List ℕ) (cuts : List Cut) (a e x : ℕ) (cut : Cut) → AreCopied key t k room cuts a
    → x ≡ get_or (access_of key t).reads k 0 → k < length cuts → e ≤ length room → cut.at ≡ a → cut.rows ≡ block_rows key x → cut.cols ≡ block_cols key x
    → a + cut.rows * cut.cols ≡ e → length own ≡ e - a → IsFound key t x (block_with key x own) → AreCopied key t (k + 1) (put_mid a (e - a) room own) (set cuts k cut) e
copied-next key t k room own cuts a e x cut before read within inside at rows cols end long found =
    let whole : a + (e - a) ≡ e = omega (arith, end) in
    subst (AreCopied key t (k + 1) (put_mid a (e - a) room own) (set cuts k cut)) whole
    (one_more key t k room own cuts a (e - a) x cut before read within (omega (arith, end, inside)) at rows cols (omega (arith, end)) long found)

-- ---- behind all copies

pub copied-same : (key : BoardKey) (t k : ℕ) (room seen : List ℕ) (cuts marks : List Cut) → seen ≡ room → marks ≡ cuts → AreCopied key t k room cuts (length room)
    → AreCopied key t k seen marks (length seen)
copied-same key t k room seen cuts marks rooms cuts_are copied =
    subst (λ (xs : List ℕ). AreCopied key t k xs marks (length xs)) (sym rooms) (subst (λ (cs : List Cut). AreCopied key t k room cs (length room)) (sym cuts_are) copied)

pub in-room : (key : BoardKey) (t k place : ℕ) (room : List ℕ) (cuts : List Cut) → AreCopied key t k room cuts place → place ≤ length room → k ≤ length cuts
    → All (IsInRoom (length room)) (take k cuts)
in-room key t k place room cuts copied inside within j d less =
    let lt : j < k = omega (arith, length-take-le k cuts within) in
    subst (IsInRoom (length room)) (sym (get_or-take k cuts j d lt)) (omega (arith, (copied j d lt).below))

-- the numbers below the count of the blocks
pub first-numbers : (numbers : List ℕ) (count many : ℕ) (grids : List Grid) → numbers ≡ range_with_len 0 many → count ≤ many → length grids ≡ count
    → AreFirstNumbers (take count numbers) (length grids)
first-numbers numbers count many grids are within long =
    let all : length numbers ≡ many = ap (λ (xs : List ℕ). length xs) are ∙ length-range_with_len 0 many in record {
      length_is = length-take-le count numbers (omega arith) ∙ sym long;
      each = λ k below. get_or-take count numbers k 0 (omega (arith, below, long))
          ∙ (ap (λ (xs : List ℕ). get_or xs k 0) are ∙ (get_or-range_with_len 0 many k 0 (omega (arith, below, long, within)) ∙ omega arith));
    }
