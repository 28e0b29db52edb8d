-- Simplifying keeps the values of solves, and so those of all expressions whose blocks fit together.
use Rattle.std.proofs.Common.{◌≡◌, ℕ, ◌+◌, ◌-◌, ◌%◌, Bool, true, false, if◌then◌else◌, refl, sym, ◌∙◌, ap, ap₂, subst}
use Rattle.residue_sums.specs.Tables.{Table, plus, transpose}
use Rattle.structure_rules.specs.declared.Structure.TheVariants as structures
use Rattle.structure_rules.specs.Structures.{view}
use Rattle.equation.specs.Equations.{minus}
use Rattle.block_values.specs.Cuts.{Range, IsIn, times_over}
use Rattle.block_values.specs.Trees.{Tree, Zero, Block, Add, Sub, Mul, SolveLeft, SolveRight, Sylvester, Lu, Ldl}
use Rattle.block_values.specs.Values.{Setting, IsValue, rows_of, cols_of}
use Rattle.block_values.proofs.PureTrees.{IsPure, value, IsValue-value, value-only}
use Rattle.block_expr.specs.Simplified.{simplified}
use Rattle.block_expr.specs.Shapes.{IsSum, IsRunning, IsShaped, HasValuesOf}
use Rattle.block_expr.proofs.SimplifiedTrees.{IsPlain, IsPure-sum, IsPure-simplified}
use Rattle.block_expr.proofs.SimplifiedValues.{IsPure-flat, IsFlat-running, running-rows, running-cols, flat_kept, flat_both, same_times, factor_left, factor_right}

module _ (s : Setting) (plain : IsPlain s) (sum : Tree) (running : IsRunning s sum) where
  pure_sum : IsPure sum
  pure_sum = IsPure-flat s sum (IsFlat-running s sum running)

  pure_left : IsPure (simplified s.op sum)
  pure_left = IsPure-simplified s sum pure_sum

  -- a place of what is left, and of the sum
  row_there : (r : ℕ) → IsIn (rows_of s (simplified s.op sum)) r → IsIn (rows_of s sum) r
  row_there r row = subst (λ g. IsIn g r) (running-rows s sum running) row

  col_there : (c : ℕ) → IsIn (cols_of s (simplified s.op sum)) c → IsIn (cols_of s sum) c
  col_there c col = subst (λ g. IsIn g c) (running-cols s sum running) col

  row_back : (r : ℕ) → IsIn (rows_of s sum) r → IsIn (rows_of s (simplified s.op sum)) r
  row_back r row = subst (λ g. IsIn g r) (sym (running-rows s sum running)) row

  col_back : (c : ℕ) → IsIn (cols_of s sum) c → IsIn (cols_of s (simplified s.op sum)) c
  col_back c col = subst (λ g. IsIn g c) (sym (running-cols s sum running)) col

  sum_same : (r c : ℕ) → IsIn (rows_of s sum) r → IsIn (cols_of s sum) c → value s (simplified s.op sum) r c ≡ value s sum r c
  sum_same r c row col = flat_kept s plain sum (IsFlat-running s sum running) r c row col

  -- ---- Lu and Ldl

  lu_there : (y : Table) → IsValue s (Lu sum) y → IsValue s (Lu (simplified s.op sum)) y
  lu_there y is = (
    value s (simplified s.op sum),
    IsValue-value s (simplified s.op sum) pure_left,
    λ r c row col inside.
        ap (λ (g : Range). times_over s.modulus g (view structures.UnitLower y) (view structures.Upper y) r c) (running-cols s sum running)
        ∙ is.2 r c (row_there r row) (col_there c col) inside ∙ value-only s sum is.0 pure_sum is.1 r c ∙ sym (sum_same r c (row_there r row) (col_there c col)),
  )

  lu_back : (y : Table) → IsValue s (Lu (simplified s.op sum)) y → IsValue s (Lu sum) y
  lu_back y is = (
    value s sum,
    IsValue-value s sum pure_sum,
    λ r c row col inside.
        ap (λ (g : Range). times_over s.modulus g (view structures.UnitLower y) (view structures.Upper y) r c) (sym (running-cols s sum running))
        ∙ is.2 r c (row_back r row) (col_back c col) inside ∙ value-only s (simplified s.op sum) is.0 pure_left is.1 r c ∙ sum_same r c row col,
  )

  abbrev ldl_product : Table → Range → Table
  ldl_product y g = times_over s.modulus g (times_over s.modulus g (view structures.UnitLower y) (view structures.Diagonal y)) (transpose (view structures.UnitLower y))

  ldl_there : (y : Table) → IsValue s (Ldl sum) y → IsValue s (Ldl (simplified s.op sum)) y
  ldl_there y is = (
    value s (simplified s.op sum),
    IsValue-value s (simplified s.op sum) pure_left,
    λ r c row col inside.
        ap (λ (g : Range). ldl_product y g r c) (running-cols s sum running)
        ∙ is.2 r c (row_there r row) (col_there c col) inside ∙ value-only s sum is.0 pure_sum is.1 r c ∙ sym (sum_same r c (row_there r row) (col_there c col)),
  )

  ldl_back : (y : Table) → IsValue s (Ldl (simplified s.op sum)) y → IsValue s (Ldl sum) y
  ldl_back y is = (
    value s sum,
    IsValue-value s sum pure_sum,
    λ r c row col inside.
        ap (λ (g : Range). ldl_product y g r c) (sym (running-cols s sum running))
        ∙ is.2 r c (row_back r row) (col_back c col) inside ∙ value-only s (simplified s.op sum) is.0 pure_left is.1 r c ∙ sum_same r c row col,
  )

  -- ---- a factor on the left, and on the right, over any value of it

  module _ (t : Tree) (factor : IsSum s t) where
    pure_t : IsPure t
    pure_t = IsPure-sum s t factor

    left_there : (p y : Table) (r c : ℕ) → IsValue s t p → IsIn (rows_of s t) r
        → times_over s.modulus (cols_of s (simplified s.op t)) (value s (simplified s.op t)) y r c ≡ times_over s.modulus (cols_of s t) p y r c
    left_there p y r c is row = factor_left s plain t factor y r c row
        ∙ same_times s plain (cols_of s t) (value s t) y p y r c (λ k k_in. sym (value-only s t p pure_t is r k)) (λ k k_in. refl)

    left_back : (p y : Table) (r c : ℕ) → IsValue s (simplified s.op t) p → IsIn (rows_of s t) r
        → times_over s.modulus (cols_of s t) (value s t) y r c ≡ times_over s.modulus (cols_of s (simplified s.op t)) p y r c
    left_back p y r c is row = sym (factor_left s plain t factor y r c row)
        ∙ same_times s plain (cols_of s (simplified s.op t)) (value s (simplified s.op t)) y p y r c
        (λ k k_in. sym (value-only s (simplified s.op t) p (IsPure-simplified s t pure_t) is r k)) (λ k k_in. refl)

    right_there : (p y : Table) (r c : ℕ) → IsValue s t p → IsIn (cols_of s t) c
        → times_over s.modulus (rows_of s (simplified s.op t)) y (value s (simplified s.op t)) r c ≡ times_over s.modulus (rows_of s t) y p r c
    right_there p y r c is col = factor_right s plain t factor y r c col
        ∙ same_times s plain (rows_of s t) y (value s t) y p r c (λ k k_in. refl) (λ k k_in. sym (value-only s t p pure_t is k c))

    right_back : (p y : Table) (r c : ℕ) → IsValue s (simplified s.op t) p → IsIn (cols_of s t) c
        → times_over s.modulus (rows_of s t) y (value s t) r c ≡ times_over s.modulus (rows_of s (simplified s.op t)) y p r c
    right_back p y r c is col = sym (factor_right s plain t factor y r c col)
        ∙ same_times s plain (rows_of s (simplified s.op t)) y (value s (simplified s.op t)) y p r c (λ k k_in. refl)
        (λ k k_in. sym (value-only s (simplified s.op t) p (IsPure-simplified s t pure_t) is k c))

    -- ---- solves with one factor

    solve_left_there : rows_of s t ≡ rows_of s sum → (y : Table) → IsValue s (SolveLeft t sum) y → IsValue s (SolveLeft (simplified s.op t) (simplified s.op sum)) y
    solve_left_there rows y is = (
      value s (simplified s.op t),
      value s (simplified s.op sum),
      IsValue-value s (simplified s.op t) (IsPure-simplified s t pure_t),
      IsValue-value s (simplified s.op sum) pure_left,
      λ r c row col inside. left_there is.0 y r c is.2 (subst (λ g. IsIn g r) (sym rows) (row_there r row))
          ∙ is.4 r c (row_there r row) (col_there c col) inside ∙ value-only s sum is.1 pure_sum is.3 r c ∙ sym (sum_same r c (row_there r row) (col_there c col)),
      λ r c row col outside. is.5 r c (row_there r row) (col_there c col) outside,
    )

    solve_left_back : rows_of s t ≡ rows_of s sum → (y : Table) → IsValue s (SolveLeft (simplified s.op t) (simplified s.op sum)) y → IsValue s (SolveLeft t sum) y
    solve_left_back rows y is = (
      value s t,
      value s sum,
      IsValue-value s t pure_t,
      IsValue-value s sum pure_sum,
      λ r c row col inside. left_back is.0 y r c is.2 (subst (λ g. IsIn g r) (sym rows) row)
          ∙ is.4 r c (row_back r row) (col_back c col) inside ∙ value-only s (simplified s.op sum) is.1 pure_left is.3 r c ∙ sum_same r c row col,
      λ r c row col outside. is.5 r c (row_back r row) (col_back c col) outside,
    )

    solve_right_there : cols_of s t ≡ cols_of s sum → (y : Table) → IsValue s (SolveRight sum t) y → IsValue s (SolveRight (simplified s.op sum) (simplified s.op t)) y
    solve_right_there cols y is = (
      value s (simplified s.op t),
      value s (simplified s.op sum),
      IsValue-value s (simplified s.op t) (IsPure-simplified s t pure_t),
      IsValue-value s (simplified s.op sum) pure_left,
      λ r c row col inside. right_there is.0 y r c is.2 (subst (λ g. IsIn g c) (sym cols) (col_there c col))
          ∙ is.4 r c (row_there r row) (col_there c col) inside ∙ value-only s sum is.1 pure_sum is.3 r c ∙ sym (sum_same r c (row_there r row) (col_there c col)),
      λ r c row col outside. is.5 r c (row_there r row) (col_there c col) outside,
    )

    solve_right_back : cols_of s t ≡ cols_of s sum → (y : Table) → IsValue s (SolveRight (simplified s.op sum) (simplified s.op t)) y → IsValue s (SolveRight sum t) y
    solve_right_back cols y is = (
      value s t,
      value s sum,
      IsValue-value s t pure_t,
      IsValue-value s sum pure_sum,
      λ r c row col inside. right_back is.0 y r c is.2 (subst (λ g. IsIn g c) (sym cols) col)
          ∙ is.4 r c (row_back r row) (col_back c col) inside ∙ value-only s (simplified s.op sum) is.1 pure_left is.3 r c ∙ sum_same r c row col,
      λ r c row col outside. is.5 r c (row_back r row) (col_back c col) outside,
    )

  -- ---- Sylvester

  abbrev combined : Bool → Table → Table → Table
  combined negative a b = if negative then minus s.modulus a b else plus s.modulus a b

  combined_same : (negative : Bool) (a b a' b' : Table) (r c : ℕ) → a r c ≡ a' r c → b r c ≡ b' r c → combined negative a b r c ≡ combined negative a' b' r c
  combined_same true a b a' b' r c e h = ap₂ (λ (x y : ℕ). (x + (s.modulus - y)) % s.modulus) e h
  combined_same false a b a' b' r c e h = ap₂ (λ (x y : ℕ). (x + y) % s.modulus) e h

  module _ (t u : Tree) (negative : Bool) (first : IsSum s t) (second : IsSum s u) (rows : rows_of s t ≡ rows_of s sum) (cols : cols_of s u ≡ cols_of s sum) where
    sylvester_there : (y : Table) → IsValue s (Sylvester t u negative sum) y → IsValue s (Sylvester (simplified s.op t) (simplified s.op u) negative (simplified s.op sum)) y
    sylvester_there y is = (
      value s (simplified s.op t),
      value s (simplified s.op u),
      value s (simplified s.op sum),
      IsValue-value s (simplified s.op t) (IsPure-simplified s t (IsPure-sum s t first)),
      IsValue-value s (simplified s.op u) (IsPure-simplified s u (IsPure-sum s u second)),
      IsValue-value s (simplified s.op sum) pure_left,
      λ r c row col inside. combined_same negative
          (times_over s.modulus (cols_of s (simplified s.op t)) (value s (simplified s.op t)) y) (times_over s.modulus (rows_of s (simplified s.op u)) y (value s (simplified s.op u)))
          (times_over s.modulus (cols_of s t) is.0 y) (times_over s.modulus (rows_of s u) y is.1) r c
          (left_there t first is.0 y r c is.3 (subst (λ g. IsIn g r) (sym rows) (row_there r row)))
          (right_there u second is.1 y r c is.4 (subst (λ g. IsIn g c) (sym cols) (col_there c col)))
          ∙ is.6 r c (row_there r row) (col_there c col) inside ∙ value-only s sum is.2 pure_sum is.5 r c ∙ sym (sum_same r c (row_there r row) (col_there c col)),
      λ r c row col outside. is.7 r c (row_there r row) (col_there c col) outside,
    )

    sylvester_back : (y : Table) → IsValue s (Sylvester (simplified s.op t) (simplified s.op u) negative (simplified s.op sum)) y → IsValue s (Sylvester t u negative sum) y
    sylvester_back y is = (
      value s t,
      value s u,
      value s sum,
      IsValue-value s t (IsPure-sum s t first),
      IsValue-value s u (IsPure-sum s u second),
      IsValue-value s sum pure_sum,
      λ r c row col inside. combined_same negative
          (times_over s.modulus (cols_of s t) (value s t) y) (times_over s.modulus (rows_of s u) y (value s u))
          (times_over s.modulus (cols_of s (simplified s.op t)) is.0 y) (times_over s.modulus (rows_of s (simplified s.op u)) y is.1) r c
          (left_back t first is.0 y r c is.3 (subst (λ g. IsIn g r) (sym rows) row))
          (right_back u second is.1 y r c is.4 (subst (λ g. IsIn g c) (sym cols) col))
          ∙ is.6 r c (row_back r row) (col_back c col) inside ∙ value-only s (simplified s.op sum) is.2 pure_left is.5 r c ∙ sum_same r c row col,
      λ r c row col outside. is.7 r c (row_back r row) (col_back c col) outside,
    )

-- ---- all

module _ (s : Setting) (plain : IsPlain s) where
  pub simplified_both : (e : Tree) → IsShaped s e → HasValuesOf s e e (simplified s.op e) × HasValuesOf s e (simplified s.op e) e
  simplified_both (Block leaf primed i j) shaped = flat_both s plain (Block leaf primed i j) shaped
  simplified_both (Add a b) shaped = flat_both s plain (Add a b) shaped
  simplified_both (Sub a b) shaped = flat_both s plain (Sub a b) shaped
  simplified_both (Mul a b) shaped = flat_both s plain (Mul a b) shaped
  simplified_both (SolveLeft t sum) shaped = (
    λ x is. (x, solve_left_there s plain sum shaped.1 t shaped.0 shaped.2 x is, λ r c row col. refl),
    λ x is. (x, solve_left_back s plain sum shaped.1 t shaped.0 shaped.2 x is, λ r c row col. refl),
  )
  simplified_both (SolveRight sum t) shaped = (
    λ x is. (x, solve_right_there s plain sum shaped.1 t shaped.0 shaped.2 x is, λ r c row col. refl),
    λ x is. (x, solve_right_back s plain sum shaped.1 t shaped.0 shaped.2 x is, λ r c row col. refl),
  )
  simplified_both (Sylvester t u negative sum) shaped = (
    λ x is. (x, sylvester_there s plain sum shaped.2 t u negative shaped.0 shaped.1 shaped.3 shaped.4 x is, λ r c row col. refl),
    λ x is. (x, sylvester_back s plain sum shaped.2 t u negative shaped.0 shaped.1 shaped.3 shaped.4 x is, λ r c row col. refl),
  )
  simplified_both (Lu sum) shaped = (
    λ x is. (x, lu_there s plain sum shaped x is, λ r c row col. refl),
    λ x is. (x, lu_back s plain sum shaped x is, λ r c row col. refl),
  )
  simplified_both (Ldl sum) shaped = (
    λ x is. (x, ldl_there s plain sum shaped x is, λ r c row col. refl),
    λ x is. (x, ldl_back s plain sum shaped x is, λ r c row col. refl),
  )
  simplified_both Zero shaped = absurd shaped
