-- Numbers that are cut where a row of a rectangle begins: what the rectangle's two parts have, whatever they end with.
use Rattle.std.proofs.Common.{◌≡◌, ℕ, ◌+◌, ◌-◌, ◌*◌, ◌<◌, ◌≤◌, List, ◌++◌, length, get_or, refl, sym, ap, ◌∙◌, inl, inr, arith}
use Rattle.std.proofs.lemmas.List.{get_or_append_left, get_or-append-add}
use Rattle.std.proofs.lemmas.Bool.{cases_lt}
use Rattle.std.proofs.lemmas.Nat.{row_fits}
use Rattle.matrix_parts.specs.Rects.{rect, IsWithin, IsBlockOf}
use Rattle.matrix_parts.proofs.Rects.{IsFull-rect, entry-rect}

module _ (n first stride rows cols at cut : ℕ) (within : IsWithin n first stride rows cols) (at_most : at ≤ rows) (inside : cut ≤ n)
    (begins : at < rows → cut ≡ first + at * stride) (ends : rows ≤ at → cut ≡ n) where
  -- each row above lies before the cut
  before : (i : ℕ) → i < at → first + i * stride + cols ≤ cut
  before i above = elim (cases_lt at rows) [
    | inl some ↦ omega (arith, row_fits i stride at stride above (omega arith), within.apart, begins some)
    | inr none ↦ omega (arith, within.reach i (omega arith), ends none)
  ]

  pub above_within : IsWithin cut first stride at cols
  above_within = record { reach = before; apart = within.apart }

  pub below_within : IsWithin (n - cut) 0 stride (rows - at) cols
  below_within = record { reach = λ i below. omega (arith, within.reach (at + i) (omega arith), begins (omega arith)); apart = within.apart }

  module _ (xs ys : List ℕ) (cut_there : length xs ≡ cut) where
    pub above_block : IsBlockOf (rect (xs ++ ys) first stride rows cols) 0 0 at cols (rect xs first stride at cols)
    above_block = record {
      rows = refl;
      cols = refl;
      full = IsFull-rect xs first stride at cols;
      entries = λ i j row col.
          entry-rect xs first stride at cols i j row col
          ∙ sym (get_or_append_left xs ys 0 (first + i * stride + j) (omega (arith, before i row, cut_there)))
          ∙ sym (entry-rect (xs ++ ys) first stride rows cols (0 + i) (0 + j) (omega arith) (omega arith) ∙ ap (λ (p : ℕ). get_or (xs ++ ys) p 0) (omega arith));
    }

    pub below_block : IsBlockOf (rect (xs ++ ys) first stride rows cols) at 0 (rows - at) cols (rect ys 0 stride (rows - at) cols)
    below_block = record {
      rows = refl;
      cols = refl;
      full = IsFull-rect ys 0 stride (rows - at) cols;
      entries = λ i j row col.
          entry-rect ys 0 stride (rows - at) cols i j row col
          ∙ sym (get_or-append-add xs ys (0 + i * stride + j) 0)
          ∙ ap (λ (p : ℕ). get_or (xs ++ ys) p 0) (omega (arith, cut_there, begins (omega arith)))
          ∙ sym (entry-rect (xs ++ ys) first stride rows cols (at + i) (0 + j) (omega arith) (omega arith));
    }
