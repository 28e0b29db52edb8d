-- What a region of numbers has: after a write, and where the numbers are those of two regions.
use Rattle.std.proofs.Common.{◌≡◌, ℕ, ◌+◌, ◌*◌, ◌<◌, ◌≤◌, List, length, get_or, set, refl, sym, ap, ◌∙◌, subst, arith}
use Rattle.residue_sums.specs.Grids.{Grid, with_entry}
use Rattle.matrix_parts.specs.declared.region.Region.{Region}
use Rattle.matrix_parts.specs.declared.panel_mut.PanelMut.{PanelMut}
use Rattle.matrix_parts.specs.Rects.{rect, IsWithin, IsBlockOf}
use Rattle.matrix_parts.specs.Regions.{is_in, covers}
use Rattle.matrix_parts.specs.Panels.{region_in, joined_in, IsPanel, AreApart, AreBlocksOf}
use Rattle.matrix_parts.proofs.Rects.{IsFull-rect, entry-rect, rect-set}
use Rattle.matrix_parts.proofs.Regions.{covers-place, woven-same, woven-first, woven-second}

module _ (r : Region) where
  -- where its first number lies
  abbrev pub begin : ℕ
  begin = r.first + r.top * r.stride + r.left

  abbrev pub place_of : ℕ → ℕ → ℕ
  place_of i j = r.first + (r.top + i) * r.stride + (r.left + j)

  pub place-begin : (i j : ℕ) → begin + i * r.stride + j ≡ place_of i j
  place-begin i j = omega arith

  module _ (n : ℕ) (reach : (i : ℕ) → i < r.rows → r.first + (r.top + i) * r.stride + (r.left + r.cols) ≤ n) (apart : r.left + r.cols ≤ r.stride) where
    pub IsWithin-region : IsWithin n begin r.stride r.rows r.cols
    IsWithin-region = record { reach = λ i row. omega (arith, reach i row); apart = omega (arith, apart) }

    -- a block of a rectangle, whose numbers agree with others at the places of a region
    pub IsBlockOf-region : (zs ws : List ℕ) (first rows cols row col : ℕ) → begin ≡ first + row * r.stride + col → row + r.rows ≤ rows → col + r.cols ≤ cols
        → ((k : ℕ) → k < n → covers r k → get_or zs k 0 ≡ get_or ws k 0) → IsBlockOf (rect zs first r.stride rows cols) row col r.rows r.cols (region_in r ws)
    IsBlockOf-region zs ws first rows cols row col begins rows_in cols_in agree = record {
      rows = refl;
      cols = refl;
      full = IsFull-rect ws begin r.stride r.rows r.cols;
      entries = λ i j i_in j_in.
          entry-rect ws begin r.stride r.rows r.cols i j i_in j_in
          ∙ ap (λ (p : ℕ). get_or ws p 0) (place-begin i j)
          ∙ sym (agree (place_of i j) (omega (arith, reach i i_in)) (covers-place r i j i_in j_in apart))
          ∙ ap (λ (p : ℕ). get_or zs p 0) (omega (arith, begins))
          ∙ sym (entry-rect zs first r.stride rows cols (row + i) (col + j) (omega arith) (omega arith));
    }

pub IsWithin-panel : (p : PanelMut) → IsPanel p → IsWithin (length p.lent.numbers) (begin p.region) p.region.stride p.region.rows p.region.cols
IsWithin-panel p h = IsWithin-region p.region (length p.lent.numbers) h.reach h.apart

-- a write at the place of an entry
pub region-set : (r : Region) (xs : List ℕ) (i j v at : ℕ) → IsWithin (length xs) (begin r) r.stride r.rows r.cols → i < r.rows → j < r.cols → at ≡ place_of r i j
    → region_in r (set xs at v) ≡ with_entry (region_in r xs) i j v
region-set r xs i j v at within row col e =
    ap (λ (p : ℕ). region_in r (set xs p v)) (e ∙ sym (place-begin r i j)) ∙ rect-set xs (begin r) r.stride r.rows r.cols within i j v row col

-- two panels of one rectangle, apart from each other
module _ (one two : PanelMut) (xs : List ℕ) (same : two.region.stride ≡ one.region.stride) (h : IsPanel one) (h' : IsPanel two) (now : one.lent.numbers ≡ xs) (now' : two.lent.numbers ≡ xs) (apart : AreApart (one, two))
    (first rows cols row col : ℕ) (begins : begin one.region ≡ first + 0 * one.region.stride + 0) (begins' : begin two.region ≡ first + row * one.region.stride + col)
    (rows_in : 0 + one.region.rows ≤ rows) (cols_in : 0 + one.region.cols ≤ cols) (rows_in' : row + two.region.rows ≤ rows) (cols_in' : col + two.region.cols ≤ cols) where
  pub AreBlocksOf-panels : AreBlocksOf (λ zs. rect zs first one.region.stride rows cols) xs row col one.region.rows one.region.cols two.region.rows two.region.cols (one, two)
  AreBlocksOf-panels = record {
    first_now = now;
    second_now = now';
    first = λ us vs e e'. IsBlockOf-region one.region (length xs) (λ i below. omega (arith, h.reach i below, ap length now)) h.apart (joined_in (one, two) xs us vs) us first rows cols 0 0 begins rows_in cols_in
        (λ k below there. woven-first (is_in one.region) (is_in two.region) apart us vs xs e e' k below there);
    second = λ us vs e e'. subst (λ (s : ℕ). IsBlockOf (rect (joined_in (one, two) xs us vs) first s rows cols) row col two.region.rows two.region.cols (region_in two.region vs)) same
        (IsBlockOf-region two.region (length xs) (λ i below. omega (arith, h'.reach i below, ap length now')) h'.apart (joined_in (one, two) xs us vs) vs first rows cols row col
        (begins' ∙ ap (λ (s : ℕ). first + row * s + col) (sym same)) rows_in' cols_in' (λ k below there. woven-second (is_in one.region) (is_in two.region) apart us vs xs e e' k below there));
  }

-- what is had of the blocks while nothing has been written
module _ (seen : List ℕ → Grid) (old : List ℕ) (row col n₁ k₁ n₂ k₂ : ℕ) (one two : PanelMut) (blocks : AreBlocksOf seen old row col n₁ k₁ n₂ k₂ (one, two)) where
  unwritten : joined_in (one, two) old old old ≡ old
  unwritten = woven-same (is_in one.region) (is_in two.region) old

  pub first_block : IsBlockOf (seen old) 0 0 n₁ k₁ (region_in one.region old)
  first_block = subst (λ (zs : List ℕ). IsBlockOf (seen zs) 0 0 n₁ k₁ (region_in one.region old)) unwritten (blocks.first old old refl refl)

  pub second_block : IsBlockOf (seen old) row col n₂ k₂ (region_in two.region old)
  second_block = subst (λ (zs : List ℕ). IsBlockOf (seen zs) row col n₂ k₂ (region_in two.region old)) unwritten (blocks.second old old refl refl)
