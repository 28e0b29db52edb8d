-- Loops that write the entries of a structure in place, one after another. Cited by the kernels: their loop invariant is
-- `WrittenBelow`, which says which entries are written, and what each entry is, written or not.
--
-- `place` says which entry comes when, and `Holds w i j` is what a written entry meets: an equation that may read the entry and
-- those that come before it, as in a solve, or the value of the entry alone, as in an update.
use Rattle.std.proofs.Common.{◌≡◌, ◌≢◌, ℕ, ◌+◌, ◌*◌, ◌<◌, ◌≤◌, ◌⊎◌, inl, inr, refl, sym, ◌∙◌, arith}
use Rattle.std.proofs.lemmas.Bool.{cases_eq, cases_lt}
use Rattle.residue_sums.specs.Residues.{Cong}
use Rattle.residue_sums.specs.Grids.{Grid, entry, with_entry}
use Rattle.residue_sums.specs.Tables.{Table}
use Rattle.residue_sums.proofs.Congruence.{Cong-sym, Cong-trans, Cong-add, Cong-by, Cong-from_same}
use Rattle.residue_sums.proofs.Grids.{entry-with_entry_other_row, entry-with_entry_other_col}
use Rattle.structure_rules.specs.declared.Structure.{Structure}
use Rattle.structure_rules.specs.Structures.{IsInside, IsEntry}
use Rattle.matrix_algebra.proofs.Substitution.{IsSystem, left-Cong}

-- the entries of a structure whose place is below q are written in `now`, and all other entries are as in `before`
pub record WrittenBelow (rows cols : ℕ) (s : Structure) (place : Table) (Holds : Table → ℕ → ℕ → Type 0) (before now : Table) (q : ℕ) : Type 0 where
  pub written : (i j : ℕ) → IsEntry rows cols s i j → place i j < q → Holds now i j
  pub pending : (i j : ℕ) → IsEntry rows cols s i j → q ≤ place i j → now i j ≡ before i j
  pub outside : (i j : ℕ) → i < rows → j < cols → ¬ (IsInside s i j) → now i j ≡ before i j

-- the table `now` is `before` but in row i and column j
abbrev pub OnlyAt : ℕ → ℕ → Table → Table → ℕ → ℕ → Type 0
OnlyAt rows cols before now i j = (a b : ℕ) → a < rows → b < cols → (a ≢ i) ⊎ (b ≢ j) → now a b ≡ before a b

-- a write into a grid
pub OnlyAt-with_entry : (g : Grid) (i j v : ℕ) → j < g.cols → OnlyAt g.rows g.cols (entry g) (entry (with_entry g i j v)) i j
OnlyAt-with_entry g i j v col a b other_row other_col (inl apart) = entry-with_entry_other_row g i j v a b col other_col apart
OnlyAt-with_entry g i j v col a b other_row other_col (inr apart) = entry-with_entry_other_col g i j v a b col other_col apart

-- what a written entry meets doesn't change with entries that come later
pub record IsLocal (rows cols : ℕ) (s : Structure) (place : Table) (Holds : Table → ℕ → ℕ → Type 0) : Type 0 where
  pub same : (w w' : Table) (i j : ℕ) → IsEntry rows cols s i j
      → ((a b : ℕ) → IsEntry rows cols s a b → place a b ≤ place i j → w' a b ≡ w a b) → Holds w i j → Holds w' i j

-- no two entries have one place
pub record IsPlacing (rows cols : ℕ) (s : Structure) (place : Table) : Type 0 where
  pub one : (a b i j : ℕ) → IsEntry rows cols s a b → IsEntry rows cols s i j → place a b ≡ place i j → (a ≡ i) × (b ≡ j)

module _ (rows cols : ℕ) (s : Structure) (place : Table) (Holds : Table → ℕ → ℕ → Type 0) where
  -- before the loop
  pub WrittenBelow-none : (w : Table) → WrittenBelow rows cols s place Holds w w 0
  WrittenBelow-none w = record {
    written = λ i j entry below. absurd (omega arith);
    pending = λ i j entry later. refl;
    outside = λ i j row col out. refl;
  }

  -- a place that no entry has is passed over
  pub WrittenBelow-skip : (before now : Table) (q : ℕ) → ((i j : ℕ) → IsEntry rows cols s i j → place i j ≢ q)
      → WrittenBelow rows cols s place Holds before now q → WrittenBelow rows cols s place Holds before now (q + 1)
  WrittenBelow-skip before now q none h = record {
    written = λ i j entry below. h.written i j entry (let other : place i j ≢ q = none i j entry in omega arith);
    pending = λ i j entry later. h.pending i j entry (omega arith);
    outside = h.outside;
  }

  -- an entry is written
  module _ (local : IsLocal rows cols s place Holds) (placing : IsPlacing rows cols s place) (before w w' : Table) (i j : ℕ)
      (entry : IsEntry rows cols s i j) (so_far : WrittenBelow rows cols s place Holds before w (place i j)) (only : OnlyAt rows cols w w' i j) where
    -- the entries at other places are kept
    kept_elsewhere : (a b : ℕ) → IsEntry rows cols s a b → place a b ≢ place i j → w' a b ≡ w a b
    kept_elsewhere a b other apart = go (cases_eq a i) (cases_eq b j)
      where
        go : (a ≡ i) ⊎ (a ≢ i) → (b ≡ j) ⊎ (b ≢ j) → w' a b ≡ w a b
        go (inr row) _ = only a b other.row other.col (inl row)
        go (inl _) (inr col) = only a b other.row other.col (inr col)
        go (inl row) (inl col) = absurd (apart (rw (row, col) refl))

    -- and so are the entries outside
    kept_outside : (a b : ℕ) → a < rows → b < cols → ¬ (IsInside s a b) → w' a b ≡ w a b
    kept_outside a b row col out = go (cases_eq a i) (cases_eq b j)
      where
        go : (a ≡ i) ⊎ (a ≢ i) → (b ≡ j) ⊎ (b ≢ j) → w' a b ≡ w a b
        go (inr apart) _ = only a b row col (inl apart)
        go (inl _) (inr apart) = only a b row col (inr apart)
        go (inl same_row) (inl same_col) = absurd (out (rw (same_row, same_col) entry.inside))

    pub WrittenBelow-step : Holds w' i j → WrittenBelow rows cols s place Holds before w' (place i j + 1)
    WrittenBelow-step holds = record {
      written = λ a b other below. go a b other below (cases_lt (place a b) (place i j));
      pending = λ a b other later. kept_elsewhere a b other (omega arith) ∙ so_far.pending a b other (omega arith);
      outside = λ a b row col out. kept_outside a b row col out ∙ so_far.outside a b row col out;
    }
      where
        go : (a b : ℕ) → IsEntry rows cols s a b → place a b < place i j + 1 → (place a b < place i j) ⊎ (place i j ≤ place a b) → Holds w' a b
        go a b other below (inl earlier) = local.same w w' a b other (λ c d third le. kept_elsewhere c d third (omega arith)) (so_far.written a b other earlier)
        go a b other below (inr last) = let here = placing.one a b i j other entry (omega arith) in rw (here.0, here.1) holds

-- what a written entry meets speaks of that entry alone
pub IsLocal-entry : (rows cols : ℕ) (s : Structure) (place : Table) (Meets : ℕ → ℕ → ℕ → Type 0) → IsLocal rows cols s place (λ w i j. Meets i j (w i j))
IsLocal-entry rows cols s place Meets = record {
  same = λ w w' i j entry agree holds. let e : w' i j ≡ w i j = agree i j entry (omega arith) in rw e holds;
}

module _ (m rows cols : ℕ) (s : Structure) (place : Table) (left pivot : Table → Table) (system : IsSystem m (IsEntry rows cols s) place left pivot) where
  -- the equations of a system that is solved in place, against the table before
  pub IsLocal-system : (before : Table) → IsLocal rows cols s place (λ w i j. Cong m (left w i j) (before i j))
  IsLocal-system before = record {
    same = λ w w' i j entry agree holds. Cong-trans
        (left-Cong m (IsEntry rows cols s) place left pivot system w' w i j entry
        (λ a b other earlier. Cong-from_same (agree a b other (omega arith)))
        (Cong-from_same (agree i j entry (omega arith))))
        holds;
  }

  -- the next entry is solved for: `others` is the left side without its term, and w' has the entry for which the equation holds
  pub WrittenBelow-solve : IsPlacing rows cols s place → (before w w' : Table) (i j others : ℕ) → IsEntry rows cols s i j
      → WrittenBelow rows cols s place (λ w i j. Cong m (left w i j) (before i j)) before w (place i j)
      → OnlyAt rows cols w w' i j
      → Cong m (left w i j) (others + pivot w i j * w i j)
      → Cong m (others + pivot w i j * w' i j) (w i j)
      → WrittenBelow rows cols s place (λ w i j. Cong m (left w i j) (before i j)) before w' (place i j + 1)
  WrittenBelow-solve placing before w w' i j others entry so_far only terms solved =
      WrittenBelow-step rows cols s place (λ w i j. Cong m (left w i j) (before i j)) (IsLocal-system before) placing before w w' i j entry so_far only
      (Cong-by (Cong-add (Cong-sym differs) (Cong-add terms solved)) (omega (arith, so_far.pending i j entry (omega arith))))
    where
      differs : Cong m (left w i j + pivot w i j * w' i j) (left w' i j + pivot w i j * w i j)
      differs = system.differs w w' i j entry (λ a b other earlier. Cong-from_same (sym
          (kept_elsewhere rows cols s place (λ w i j. Cong m (left w i j) (before i j)) (IsLocal-system before) placing before w w' i j entry so_far only
          a b other (omega arith))))
