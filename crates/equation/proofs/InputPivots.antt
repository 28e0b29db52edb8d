-- Pivots that the known matrices give: the first bad one of views is that of the statement.
use Rattle.std.proofs.Common.{◌≡◌, ℕ, ◌+◌, ◌<◌, List, Option, None, Some, MatchOption, Bool, true, false, inl, inr, sym, subst, arith}
use Rattle.std.proofs.lemmas.Bool.{cases_lt}
use Rattle.residue_sums.specs.Residues.{IsUnit}
use Rattle.residue_sums.specs.Tables.{Table}
use Rattle.residue_sums.specs.Grids.{Grid}
use Rattle.operation_spec.specs.declared.operation.Operation.{Operation}
use Rattle.operation_spec.specs.declared.operation.Factor.{Factor}
use Rattle.operation_spec.specs.declared.operation.Form.TheVariants.{Left, Right, Sylvester}
use Rattle.equation.specs.declared.job.Place.{Place}
use Rattle.equation.specs.Candidates.{combined_at}
use Rattle.equation.specs.Equations.{factor_table}
use Rattle.equation.specs.Pivots.{IsBefore, IsFirstBadInputPivot, IsFirstBadPivot, IsFirstByRows, IsFirstOnDiagonal, factor_pivots}

-- ---- pivots in rows, one row more

module _ (m rows cols : ℕ) (negative : Bool) (t u : ℕ → ℕ) (i a : ℕ) (row : i < rows) (a_is : a ≡ t i)
    (so_far : (k j : ℕ) → k < i → j < cols → IsUnit m (combined_at m negative (t k) (u j))) where
  pub first_by_rows_found : (col : ℕ) → col < cols → ¬ (IsUnit m (combined_at m negative a (u col))) → ((j : ℕ) → j < col → IsUnit m (combined_at m negative a (u j)))
      → IsFirstByRows m rows cols (λ p j. combined_at m negative (t p) (u j)) (record { row = i; col = col })
  first_by_rows_found col within bad first = record {
    row = row;
    col = within;
    bad = rw (sym a_is) bad;
    first = earlier;
  }
    where
      earlier : (k j : ℕ) → k < rows → j < cols → IsBefore k j (record { row = i; col = col }) → IsUnit m (combined_at m negative (t k) (u j))
      earlier k j k_row j_col (inl above) = so_far k j above j_col
      earlier k j k_row j_col (inr here) = rw (here.0, sym a_is) (first j here.1)

  pub units_more : ((j : ℕ) → j < cols → IsUnit m (combined_at m negative a (u j))) → (k j : ℕ) → k < i + 1 → j < cols → IsUnit m (combined_at m negative (t k) (u j))
  units_more here k j within col = elim (cases_lt k i) [
    | inl earlier ↦ so_far k j earlier col
    | inr last ↦ (let same : k ≡ i = omega arith in rw (same, sym a_is) (here j col))
  ]

-- ---- of a statement

module _ (m : ℕ) (op : Operation) (knowns : List Grid) (work : Grid) (r : Option Place) where
  abbrev IsExact : Type 0
  IsExact = MatchOption r ((place : Place) → ¬ (IsFirstBadInputPivot m op knowns work place)) (IsFirstBadInputPivot m op knowns work)

  weaker : (P : Type 0) (Q : Place → Type 0) → (o : Option Place) → MatchOption o P Q → (P → (place : Place) → ¬ (IsFirstBadInputPivot m op knowns work place))
      → ((place : Place) → Q place → IsFirstBadInputPivot m op knowns work place)
      → MatchOption o ((place : Place) → ¬ (IsFirstBadInputPivot m op knowns work place)) (IsFirstBadInputPivot m op knowns work)
  weaker P Q None h none first = none h
  weaker P Q (Some place) h none first = first place h

  -- on the diagonal of a factor's table
  module _ (t : Factor) (a : Table) (n : ℕ) (table : a ≡ factor_table op knowns t) (h : MatchOption r ((i : ℕ) → i < n → IsUnit m (a i i)) (IsFirstOnDiagonal m n (λ i. a i i))) where
    on_diagonal : (bound : ℕ) → n ≡ bound → ((place : Place) → IsFirstBadInputPivot m op knowns work place → IsFirstOnDiagonal m bound (factor_pivots op knowns t) place)
        → ((place : Place) → IsFirstOnDiagonal m bound (factor_pivots op knowns t) place → IsFirstBadInputPivot m op knowns work place) → IsExact
    on_diagonal bound size down up = weaker _ _ r h
        (λ units place first. let is = down place first in is.bad (subst (λ (b : Table). IsUnit m (b place.row place.row)) table (units place.row (rw size is.within))))
        (λ place first. up place (subst (λ (b : Table). IsFirstOnDiagonal m bound (λ i. b i i) place) table (rw size at first)))

    pub left_exact : op.form ≡ Left t → n ≡ work.rows → IsExact
    left_exact form size = on_diagonal work.rows size (λ place first. rw form at first.1) (λ place is. rw form (tt, is))

    pub right_exact : op.form ≡ Right t → n ≡ work.cols → IsExact
    right_exact form size = on_diagonal work.cols size (λ place first. rw form at first.1) (λ place is. rw form (tt, is))

  -- in the rows and columns of two diagonals
  module _ (t u : Factor) (a b : Table) (n k : ℕ) (t_is : a ≡ factor_table op knowns t) (u_is : b ≡ factor_table op knowns u) (n_is : n ≡ work.rows) (k_is : k ≡ work.cols) where
    abbrev pairs : Bool → Table
    pairs negative i j = combined_at m negative (factor_pivots op knowns t i) (factor_pivots op knowns u j)

    by_rows : (negative : Bool) → op.form ≡ Sylvester t u negative → (place : Place) → IsFirstByRows m work.rows work.cols (pairs negative) place → IsFirstBadPivot m op knowns work place
    by_rows true form place is = rw form is
    by_rows false form place is = rw form is

    to_rows : (negative : Bool) → op.form ≡ Sylvester t u negative → (place : Place) → IsFirstBadPivot m op knowns work place → IsFirstByRows m work.rows work.cols (pairs negative) place
    to_rows true form place first = rw form at first
    to_rows false form place first = rw form at first

    pub sylvester_exact : (negative : Bool) → op.form ≡ Sylvester t u negative
        → MatchOption r ((i j : ℕ) → i < n → j < k → IsUnit m (combined_at m negative (a i i) (b j j))) (IsFirstByRows m n k (λ i j. combined_at m negative (a i i) (b j j))) → IsExact
    sylvester_exact negative form h = weaker _ _ r h
        (λ units place first. let is = to_rows negative form place first.1 in is.bad (unit_at place (units place.row place.col (rw n_is is.row) (rw k_is is.col))))
        (λ place is. (rw form tt, by_rows negative form place (first_at place is)))
      where
        unit_at : (place : Place) → IsUnit m (combined_at m negative (a place.row place.row) (b place.col place.col)) → IsUnit m (pairs negative place.row place.col)
        unit_at place unit = subst (λ (c : Table). IsUnit m (combined_at m negative (factor_pivots op knowns t place.row) (c place.col place.col))) u_is
            (subst (λ (c : Table). IsUnit m (combined_at m negative (c place.row place.row) (b place.col place.col))) t_is unit)

        first_at : (place : Place) → IsFirstByRows m n k (λ i j. combined_at m negative (a i i) (b j j)) place → IsFirstByRows m work.rows work.cols (pairs negative) place
        first_at place is = subst (λ (c : Table). IsFirstByRows m work.rows work.cols (λ i j. combined_at m negative (factor_pivots op knowns t i) (c j j)) place) u_is
            (subst (λ (c : Table). IsFirstByRows m work.rows work.cols (λ i j. combined_at m negative (c i i) (b j j)) place) t_is (rw (n_is, k_is) at is))
