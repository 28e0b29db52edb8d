-- Areas of a matrix that were changed, one beside or below another.
use Rattle.std.proofs.Common.{◌≡◌, ◌≢◌, ℕ, ◌+◌, ◌-◌, ◌<◌, ◌≤◌, ◌⊎◌, inl, inr, Bool, List, get_or, refl, ap, ◌∙◌, arith}
use Rattle.std.proofs.lemmas.Bool.{cases_eq, cases_lt}
use Rattle.residue_sums.specs.Tables.{Table}
use Rattle.residue_sums.specs.Grids.{Grid, entry}
use Rattle.structure_rules.specs.declared.Structure.{Structure}
use Rattle.structure_rules.specs.Structures.{IsInside, IsZero}
use Rattle.part_updates.specs.Changes.{added, IsIn, IsChanged}

module _ (m : ℕ) (minus : Bool) (s : Structure) (t : Table) where
  -- an area without rows
  pub changed_no_rows : (top left right : ℕ) (g : Grid) → IsChanged m minus s t top top left right g g
  changed_no_rows top left right g = record {
    rows = refl;
    cols = refl;
    here = λ i j h inside. absurd (omega (arith, h.from_top, h.above_bottom));
    range = λ i j h. absurd (omega (arith, h.from_top, h.above_bottom));
    zero = λ i j h z. refl;
    others = λ i j row col h. refl;
  }

  -- an area without columns
  pub changed_no_cols : (top bottom left : ℕ) (g : Grid) → IsChanged m minus s t top bottom left left g g
  changed_no_cols top bottom left g = record {
    rows = refl;
    cols = refl;
    here = λ i j h inside. absurd (omega (arith, h.from_left, h.before_right));
    range = λ i j h. absurd (omega (arith, h.from_left, h.before_right));
    zero = λ i j h z. refl;
    others = λ i j row col h. refl;
  }

  -- a further area below
  module _ (top middle bottom left right : ℕ) (old mid new : Grid) (order : top ≤ middle) (order' : middle ≤ bottom) (within : bottom ≤ old.rows) (across : right ≤ old.cols)
      (first : IsChanged m minus s t top middle left right old mid) (second : IsChanged m minus s t middle bottom left right mid new) where
    keep_second : (i j : ℕ) → i < old.rows → j < old.cols → ((i < middle) ⊎ (bottom ≤ i)) ⊎ ((j < left) ⊎ (right ≤ j)) → entry new i j ≡ entry mid i j
    keep_second i j row col out = second.others i j (omega (arith, first.rows)) (omega (arith, first.cols)) out

    keep_first : (i j : ℕ) → i < old.rows → j < old.cols → ((i < top) ⊎ (middle ≤ i)) ⊎ ((j < left) ⊎ (right ≤ j)) → entry mid i j ≡ entry old i j
    keep_first i j row col out = first.others i j row col out

    upper : (i j : ℕ) → IsIn top bottom left right i j → i < middle → IsIn top middle left right i j
    upper i j h above = record { from_top = h.from_top; above_bottom = above; from_left = h.from_left; before_right = h.before_right }

    lower : (i j : ℕ) → IsIn top bottom left right i j → middle ≤ i → IsIn middle bottom left right i j
    lower i j h below = record { from_top = below; above_bottom = h.above_bottom; from_left = h.from_left; before_right = h.before_right }

    in_rows : (i j : ℕ) → IsIn top bottom left right i j → i < old.rows
    in_rows i j h = omega (arith, h.above_bottom)

    in_cols : (i j : ℕ) → IsIn top bottom left right i j → j < old.cols
    in_cols i j h = omega (arith, h.before_right)

    pub changed_below : IsChanged m minus s t top bottom left right old new
    changed_below = record {
      rows = second.rows ∙ first.rows;
      cols = second.cols ∙ first.cols;
      here = λ i j h inside. elim (cases_lt i middle) [
        | inl above ↦ keep_second i j (in_rows i j h) (in_cols i j h) (inl (inl above)) ∙ first.here i j (upper i j h above) inside
        | inr below ↦ second.here i j (lower i j h below) inside ∙ ap (λ (x : ℕ). added m minus x (t i j)) (keep_first i j (in_rows i j h) (in_cols i j h) (inl (inr below)))
      ];
      range = λ i j h. elim (cases_lt i middle) [
        | inl above ↦ rw (keep_second i j (in_rows i j h) (in_cols i j h) (inl (inl above))) (first.range i j (upper i j h above))
        | inr below ↦ second.range i j (lower i j h below)
      ];
      zero = λ i j h z. elim (cases_lt i middle) [
        | inl above ↦ keep_second i j (in_rows i j h) (in_cols i j h) (inl (inl above)) ∙ first.zero i j (upper i j h above) z
        | inr below ↦ second.zero i j (lower i j h below) z ∙ keep_first i j (in_rows i j h) (in_cols i j h) (inl (inr below))
      ];
      others = λ i j row col out. keep_second i j row col (elim out [
        | inl rows ↦ inl (elim rows [ inl above ↦ inl (omega arith) | inr below ↦ inr below ])
        | inr cols ↦ inr cols
      ]) ∙ keep_first i j row col (elim out [
        | inl rows ↦ inl (elim rows [ inl above ↦ inl above | inr below ↦ inr (omega arith) ])
        | inr cols ↦ inr cols
      ]);
    }

  -- a further area beside
  module _ (top bottom left middle right : ℕ) (old mid new : Grid) (order : left ≤ middle) (order' : middle ≤ right) (within : bottom ≤ old.rows) (across : right ≤ old.cols)
      (first : IsChanged m minus s t top bottom left middle old mid) (second : IsChanged m minus s t top bottom middle right mid new) where
    keep_beside : (i j : ℕ) → i < old.rows → j < old.cols → ((i < top) ⊎ (bottom ≤ i)) ⊎ ((j < middle) ⊎ (right ≤ j)) → entry new i j ≡ entry mid i j
    keep_beside i j row col out = second.others i j (omega (arith, first.rows)) (omega (arith, first.cols)) out

    near : (i j : ℕ) → IsIn top bottom left right i j → j < middle → IsIn top bottom left middle i j
    near i j h before = record { from_top = h.from_top; above_bottom = h.above_bottom; from_left = h.from_left; before_right = before }

    far : (i j : ℕ) → IsIn top bottom left right i j → middle ≤ j → IsIn top bottom middle right i j
    far i j h behind = record { from_top = h.from_top; above_bottom = h.above_bottom; from_left = behind; before_right = h.before_right }

    rows_beside : (i j : ℕ) → IsIn top bottom left right i j → i < old.rows
    rows_beside i j h = omega (arith, h.above_bottom)

    cols_beside : (i j : ℕ) → IsIn top bottom left right i j → j < old.cols
    cols_beside i j h = omega (arith, h.before_right)

    pub changed_beside : IsChanged m minus s t top bottom left right old new
    changed_beside = record {
      rows = second.rows ∙ first.rows;
      cols = second.cols ∙ first.cols;
      here = λ i j h inside. elim (cases_lt j middle) [
        | inl before ↦ keep_beside i j (rows_beside i j h) (cols_beside i j h) (inr (inl before)) ∙ first.here i j (near i j h before) inside
        | inr behind ↦ second.here i j (far i j h behind) inside ∙ ap (λ (x : ℕ). added m minus x (t i j)) (first.others i j (rows_beside i j h) (cols_beside i j h) (inr (inr behind)))
      ];
      range = λ i j h. elim (cases_lt j middle) [
        | inl before ↦ rw (keep_beside i j (rows_beside i j h) (cols_beside i j h) (inr (inl before))) (first.range i j (near i j h before))
        | inr behind ↦ second.range i j (far i j h behind)
      ];
      zero = λ i j h z. elim (cases_lt j middle) [
        | inl before ↦ keep_beside i j (rows_beside i j h) (cols_beside i j h) (inr (inl before)) ∙ first.zero i j (near i j h before) z
        | inr behind ↦ second.zero i j (far i j h behind) z ∙ first.others i j (rows_beside i j h) (cols_beside i j h) (inr (inr behind))
      ];
      others = λ i j row col out. keep_beside i j row col (elim out [
        | inl rows ↦ inl rows
        | inr cols ↦ inr (elim cols [ inl before ↦ inl (omega arith) | inr behind ↦ inr behind ])
      ]) ∙ first.others i j row col (elim out [
        | inl rows ↦ inl rows
        | inr cols ↦ inr (elim cols [ inl before ↦ inl before | inr behind ↦ inr (omega arith) ])
      ]);
    }

  -- what was a residue is one still
  pub changed_residues : (top bottom left right : ℕ) (old new : Grid) → IsChanged m minus s t top bottom left right old new
      → ((i j : ℕ) → i < old.rows → j < old.cols → entry old i j < m) → (i j : ℕ) → i < old.rows → j < old.cols → entry new i j < m
  changed_residues top bottom left right old new changed residues i j row col = go (cases_lt i top) (cases_lt i bottom) (cases_lt j left) (cases_lt j right)
    where
      same : ((i < top) ⊎ (bottom ≤ i)) ⊎ ((j < left) ⊎ (right ≤ j)) → entry new i j < m
      same out = rw (changed.others i j row col out) (residues i j row col)

      go : (i < top) ⊎ (top ≤ i) → (i < bottom) ⊎ (bottom ≤ i) → (j < left) ⊎ (left ≤ j) → (j < right) ⊎ (right ≤ j) → entry new i j < m
      go (inl h) _ _ _ = same (inl (inl h))
      go (inr _) (inr h) _ _ = same (inl (inr h))
      go (inr _) (inl _) (inl h) _ = same (inr (inl h))
      go (inr _) (inl _) (inr _) (inr h) = same (inr (inr h))
      go (inr a) (inl b) (inr c) (inl d) = changed.range i j (record { from_top = a; above_bottom = b; from_left = c; before_right = d })

-- a table with the same entries there
pub changed_by_same : (m : ℕ) (minus : Bool) (s : Structure) (t u : Table) (top bottom left right : ℕ) (old new : Grid)
    → ((i j : ℕ) → IsIn top bottom left right i j → t i j ≡ u i j)
    → IsChanged m minus s t top bottom left right old new → IsChanged m minus s u top bottom left right old new
changed_by_same m minus s t u top bottom left right old new same changed = record {
  rows = changed.rows;
  cols = changed.cols;
  here = λ i j h inside. changed.here i j h inside ∙ ap (λ (x : ℕ). added m minus (entry old i j) x) (same i j h);
  range = changed.range;
  zero = changed.zero;
  others = changed.others;
}

-- one row
pub changed_row : (m : ℕ) (minus : Bool) (s : Structure) (t : Table) (i left width : ℕ) (old new : Grid) (residues : List ℕ)
    → new.rows ≡ old.rows → new.cols ≡ old.cols → i < old.rows → left + width ≤ old.cols
    → ((j : ℕ) → j < width → IsInside s i (left + j) → entry new i (left + j) ≡ added m minus (entry old i (left + j)) (get_or residues j 0))
    → ((j : ℕ) → j < width → entry new i (left + j) < m)
    → ((j : ℕ) → j < width → IsZero s i (left + j) → entry new i (left + j) ≡ entry old i (left + j))
    → ((a b : ℕ) → a < old.rows → b < old.cols → (a ≢ i) ⊎ ((b < left) ⊎ (left + width ≤ b)) → entry new a b ≡ entry old a b)
    → ((j : ℕ) → j < width → get_or residues j 0 ≡ t i (left + j))
    → IsChanged m minus s t i (i + 1) left (left + width) old new
changed_row m minus s t i left width old new residues rows cols row within here range zero others table = record {
  rows = rows;
  cols = cols;
  here = λ a b h inside. at_row a b h (λ (a b : ℕ). IsInside s a b → entry new a b ≡ added m minus (entry old a b) (t a b))
      (λ j below in_s. here j below in_s ∙ ap (λ (x : ℕ). added m minus (entry old i (left + j)) x) (table j below)) inside;
  range = λ a b h. at_row a b h (λ (a b : ℕ). entry new a b < m) range;
  zero = λ a b h z. at_row a b h (λ (a b : ℕ). IsZero s a b → entry new a b ≡ entry old a b) zero z;
  others = λ a b row_in col_in out. others a b row_in col_in (elim out [
    | inl r ↦ inl (elim r [ inl above ↦ (λ e. omega arith) | inr below ↦ (λ e. omega arith) ])
    | inr c ↦ inr c
  ]);
}
  where
    at_row : (a b : ℕ) → IsIn i (i + 1) left (left + width) a b → (P : ℕ → ℕ → Type 0) → ((j : ℕ) → j < width → P i (left + j)) → P a b
    at_row a b h P all =
        let same : i ≡ a = omega (arith, h.from_top, h.above_bottom) in
        let place : left + (b - left) ≡ b = omega (arith, h.from_left) in
        rw (← same, ← place) (all (b - left) (omega (arith, h.from_left, h.before_right)))
