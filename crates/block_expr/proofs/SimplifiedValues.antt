-- Simplifying keeps the values of expressions whose blocks fit together.
use Rattle.std.proofs.Common.{◌≡◌, ℕ, ◌*◌, ◌%◌, ◌<◌, Bool, true, false, if◌then◌else◌, refl, sym, ◌∙◌, ap, ap₂, subst, arith}
use Rattle.std.proofs.Math.Nat.{mod-lt, mod-eq_of_lt}
use Rattle.residue_sums.specs.Tables.{Table}
use Rattle.block_values.specs.declared.leaf.Leaf.{Leaf}
use Rattle.block_values.specs.declared.leaf.Leaf.TheVariants.{Work}
use Rattle.block_values.specs.Cuts.{Range, IsIn, times_over}
use Rattle.block_values.specs.Trees.{Tree, Zero, Block, Add, Sub, Mul, SolveLeft, SolveRight, Sylvester, Lu, Ldl}
use Rattle.block_values.specs.Values.{Setting, rows_of, cols_of}
use Rattle.block_values.proofs.Ranges.{range_sum-same, range_sum-zero}
use Rattle.block_values.proofs.PureTrees.{IsPure, value, IsValue-value, value-only}
use Rattle.block_expr.specs.Simplified.{is_zero_block, is_none, simplified_sum, simplified_difference, simplified}
use Rattle.block_expr.specs.Shapes.{IsSum, IsRunning, IsFlat, HasValuesOf}
use Rattle.block_expr.proofs.SimplifiedTrees.{IsPlain, none-zero, block_value, block-below, add_value, sub_value, sum-below, sum_kept, cols_kept, rows_kept, IsPure-sum, IsPure-simplified}

pub IsPure-flat : (s : Setting) (e : Tree) → IsFlat s e → IsPure e
IsPure-flat s (Block leaf primed i j) flat = tt
IsPure-flat s (Add a b) flat = (IsPure-flat s a flat.0, IsPure-sum s b flat.1)
IsPure-flat s (Sub a b) flat = (IsPure-flat s a flat.0, IsPure-sum s b flat.1)
IsPure-flat s (Mul a b) flat = IsPure-sum s (Mul a b) flat
IsPure-flat s Zero flat = absurd flat
IsPure-flat s (SolveLeft t x) flat = absurd flat
IsPure-flat s (SolveRight x t) flat = absurd flat
IsPure-flat s (Sylvester t u negative x) flat = absurd flat
IsPure-flat s (Lu x) flat = absurd flat
IsPure-flat s (Ldl x) flat = absurd flat

pub IsFlat-running : (s : Setting) (e : Tree) → IsRunning s e → IsFlat s e
IsFlat-running s (Block leaf primed i j) running = rw running tt
IsFlat-running s (Add a b) running = (IsFlat-running s a running.0, running.1, running.2)
IsFlat-running s (Sub a b) running = (IsFlat-running s a running.0, running.1, running.2)
IsFlat-running s Zero running = absurd running
IsFlat-running s (Mul a b) running = absurd running
IsFlat-running s (SolveLeft t x) running = absurd running
IsFlat-running s (SolveRight x t) running = absurd running
IsFlat-running s (Sylvester t u negative x) running = absurd running
IsFlat-running s (Lu x) running = absurd running
IsFlat-running s (Ldl x) running = absurd running

-- ---- a block of W with sums added and subtracted stays, with its rows and columns

work_stays : (s : Setting) (leaf : Leaf) (primed : Bool) (i j : ℕ) → leaf ≡ Work → is_zero_block s.op leaf primed i j ≡ false
work_stays s leaf true i j h = rw h refl
work_stays s leaf false i j h = rw h refl

-- what is left of a first summand that stays, and what a range makes of it
sum_stays : (a' b' : Tree) → is_none a' ≡ false → is_none (simplified_sum a' b') ≡ false
sum_stays a' b' h = go (is_none a') (is_none b') h refl
  where
    go : (x y : Bool) → x ≡ false → is_none a' ≡ x → is_none (if x then b' else (if y then a' else Add a' b')) ≡ false
    go true y e k = absurd (cc)
    go false true e k = k
    go false false e k = refl

difference_stays : (a' b' : Tree) → is_none a' ≡ false → is_none (simplified_difference a' b') ≡ false
difference_stays a' b' h = go (is_none b')
  where
    go : (y : Bool) → is_none (if y then a' else Sub a' b') ≡ false
    go true = h
    go false = refl

sum_range : (at : Tree → Range) → ((a b : Tree) → at (Add a b) ≡ at a) → (a' b' : Tree) → is_none a' ≡ false → at (simplified_sum a' b') ≡ at a'
sum_range at first a' b' h = go (is_none a') (is_none b') h
  where
    go : (x y : Bool) → x ≡ false → at (if x then b' else (if y then a' else Add a' b')) ≡ at a'
    go true y e = absurd (cc)
    go false true e = refl
    go false false e = first a' b'

difference_range : (at : Tree → Range) → ((a b : Tree) → at (Sub a b) ≡ at a) → (a' b' : Tree) → at (simplified_difference a' b') ≡ at a'
difference_range at first a' b' = go (is_none b')
  where
    go : (y : Bool) → at (if y then a' else Sub a' b') ≡ at a'
    go true = refl
    go false = first a' b'

running-stays : (s : Setting) (e : Tree) → IsRunning s e → is_none (simplified s.op e) ≡ false
running-stays s (Block leaf primed i j) running = let stays : is_zero_block s.op leaf primed i j ≡ false = work_stays s leaf primed i j running in rw stays refl
running-stays s (Add a b) running = sum_stays (simplified s.op a) (simplified s.op b) (running-stays s a running.0)
running-stays s (Sub a b) running = difference_stays (simplified s.op a) (simplified s.op b) (running-stays s a running.0)
running-stays s Zero running = absurd running
running-stays s (Mul a b) running = absurd running
running-stays s (SolveLeft t x) running = absurd running
running-stays s (SolveRight x t) running = absurd running
running-stays s (Sylvester t u negative x) running = absurd running
running-stays s (Lu x) running = absurd running
running-stays s (Ldl x) running = absurd running

-- a range that goes by the first summand, as the rows and the columns do
running-range : (s : Setting) (at : Tree → Range) → ((a b : Tree) → at (Add a b) ≡ at a) → ((a b : Tree) → at (Sub a b) ≡ at a)
    → (e : Tree) → IsRunning s e → at (simplified s.op e) ≡ at e
running-range s at add sub (Block leaf primed i j) running = let stays : is_zero_block s.op leaf primed i j ≡ false = work_stays s leaf primed i j running in rw stays refl
running-range s at add sub (Add a b) running =
    sum_range at add (simplified s.op a) (simplified s.op b) (running-stays s a running.0) ∙ running-range s at add sub a running.0 ∙ sym (add a b)
running-range s at add sub (Sub a b) running =
    difference_range at sub (simplified s.op a) (simplified s.op b) ∙ running-range s at add sub a running.0 ∙ sym (sub a b)
running-range s at add sub Zero running = absurd running
running-range s at add sub (Mul a b) running = absurd running
running-range s at add sub (SolveLeft t x) running = absurd running
running-range s at add sub (SolveRight x t) running = absurd running
running-range s at add sub (Sylvester t u negative x) running = absurd running
running-range s at add sub (Lu x) running = absurd running
running-range s at add sub (Ldl x) running = absurd running

pub running-rows : (s : Setting) (e : Tree) → IsRunning s e → rows_of s (simplified s.op e) ≡ rows_of s e
running-rows s e running = running-range s (rows_of s) (λ a b. refl) (λ a b. refl) e running

pub running-cols : (s : Setting) (e : Tree) → IsRunning s e → cols_of s (simplified s.op e) ≡ cols_of s e
running-cols s e running = running-range s (cols_of s) (λ a b. refl) (λ a b. refl) e running

module _ (s : Setting) (plain : IsPlain s) where
  -- ---- sums added and subtracted

  flat-below : (e : Tree) → IsFlat s e → (r c : ℕ) → value s e r c < s.modulus
  flat-below (Block leaf primed i j) flat r c = block-below s plain leaf primed r c
  flat-below (Add a b) flat r c = mod-lt _ plain.pos
  flat-below (Sub a b) flat r c = mod-lt _ plain.pos
  flat-below (Mul a b) flat r c = mod-lt _ plain.pos
  flat-below Zero flat r c = absurd flat
  flat-below (SolveLeft t x) flat r c = absurd flat
  flat-below (SolveRight x t) flat r c = absurd flat
  flat-below (Sylvester t u negative x) flat r c = absurd flat
  flat-below (Lu x) flat r c = absurd flat
  flat-below (Ldl x) flat r c = absurd flat

  pub flat_kept : (e : Tree) → IsFlat s e → (r c : ℕ) → IsIn (rows_of s e) r → IsIn (cols_of s e) c → value s (simplified s.op e) r c ≡ value s e r c
  flat_kept (Block leaf primed i j) flat r c row col = block_value s plain leaf primed i j r c flat row col (is_zero_block s.op leaf primed i j) refl
  flat_kept (Add a b) flat r c row col = add_value s plain (simplified s.op a) (simplified s.op b) (value s a r c) (value s b r c) r c
      (flat_kept a flat.0 r c row col) (sum_kept s plain b flat.1 r c (subst (λ g. IsIn g r) (sym flat.2.0) row) (subst (λ g. IsIn g c) (sym flat.2.1) col))
      (flat-below a flat.0 r c) (sum-below s plain b flat.1 r c)
  flat_kept (Sub a b) flat r c row col = sub_value s plain (simplified s.op a) (simplified s.op b) (value s a r c) (value s b r c) r c
      (flat_kept a flat.0 r c row col) (sum_kept s plain b flat.1 r c (subst (λ g. IsIn g r) (sym flat.2.0) row) (subst (λ g. IsIn g c) (sym flat.2.1) col))
      (flat-below a flat.0 r c)
  flat_kept (Mul a b) flat r c row col = sum_kept s plain (Mul a b) flat r c row col
  flat_kept Zero flat r c row col = absurd flat
  flat_kept (SolveLeft t x) flat r c row col = absurd flat
  flat_kept (SolveRight x t) flat r c row col = absurd flat
  flat_kept (Sylvester t u negative x) flat r c row col = absurd flat
  flat_kept (Lu x) flat r c row col = absurd flat
  flat_kept (Ldl x) flat r c row col = absurd flat

  pub flat_both : (e : Tree) → IsFlat s e → HasValuesOf s e e (simplified s.op e) × HasValuesOf s e (simplified s.op e) e
  flat_both e flat =
      let pure = IsPure-flat s e flat in
      let left = IsPure-simplified s e pure in (
        λ x is_value. (value s (simplified s.op e), IsValue-value s (simplified s.op e) left, λ r c row col. value-only s e x pure is_value r c ∙ sym (flat_kept e flat r c row col)),
        λ x is_value. (value s e, IsValue-value s e pure, λ r c row col. value-only s (simplified s.op e) x left is_value r c ∙ flat_kept e flat r c row col),
      )

  -- ---- the factor of a solve

  zero_times : (g : Range) (a b : Table) (r c : ℕ) → ((k : ℕ) → IsIn g k → a r k * b k c ≡ 0) → times_over s.modulus g a b r c ≡ 0
  zero_times g a b r c zeros = ap (λ (x : ℕ). x % s.modulus) (range_sum-zero g (λ k. a r k * b k c) zeros) ∙ mod-eq_of_lt plain.pos

  pub same_times : (g : Range) (a b a' b' : Table) (r c : ℕ) → ((k : ℕ) → IsIn g k → a r k ≡ a' r k) → ((k : ℕ) → IsIn g k → b k c ≡ b' k c)
      → times_over s.modulus g a b r c ≡ times_over s.modulus g a' b' r c
  same_times g a b a' b' r c left right =
      ap (λ (x : ℕ). x % s.modulus) (range_sum-same g (λ k. a r k * b k c) (λ k. a' r k * b' k c) (λ k k_in. ap₂ (λ (p q : ℕ). p * q) (left k k_in) (right k k_in)))

  -- on the left
  pub factor_left : (t : Tree) → IsSum s t → (y : Table) (r c : ℕ) → IsIn (rows_of s t) r
      → times_over s.modulus (cols_of s (simplified s.op t)) (value s (simplified s.op t)) y r c ≡ times_over s.modulus (cols_of s t) (value s t) y r c
  factor_left t sum y r c row = go (is_none (simplified s.op t)) refl
    where
      go : (z : Bool) → is_none (simplified s.op t) ≡ z
          → times_over s.modulus (cols_of s (simplified s.op t)) (value s (simplified s.op t)) y r c ≡ times_over s.modulus (cols_of s t) (value s t) y r c
      go true h = zero_times (cols_of s (simplified s.op t)) (value s (simplified s.op t)) y r c
          (λ k k_in. let none : value s (simplified s.op t) r k ≡ 0 = none-zero s (simplified s.op t) h r k in rw none (omega arith))
          ∙ sym (zero_times (cols_of s t) (value s t) y r c
          (λ k k_in. let none : value s t r k ≡ 0 = sym (sum_kept s plain t sum r k row k_in) ∙ none-zero s (simplified s.op t) h r k in rw none (omega arith)))
      go false h = ap (λ (g : Range). times_over s.modulus g (value s (simplified s.op t)) y r c) (cols_kept s plain t sum h)
          ∙ same_times (cols_of s t) (value s (simplified s.op t)) y (value s t) y r c (λ k k_in. sum_kept s plain t sum r k row k_in) (λ k k_in. refl)

  -- on the right
  pub factor_right : (t : Tree) → IsSum s t → (y : Table) (r c : ℕ) → IsIn (cols_of s t) c
      → times_over s.modulus (rows_of s (simplified s.op t)) y (value s (simplified s.op t)) r c ≡ times_over s.modulus (rows_of s t) y (value s t) r c
  factor_right t sum y r c col = go (is_none (simplified s.op t)) refl
    where
      go : (z : Bool) → is_none (simplified s.op t) ≡ z
          → times_over s.modulus (rows_of s (simplified s.op t)) y (value s (simplified s.op t)) r c ≡ times_over s.modulus (rows_of s t) y (value s t) r c
      go true h = zero_times (rows_of s (simplified s.op t)) y (value s (simplified s.op t)) r c
          (λ k k_in. let none : value s (simplified s.op t) k c ≡ 0 = none-zero s (simplified s.op t) h k c in rw none (omega arith))
          ∙ sym (zero_times (rows_of s t) y (value s t) r c
          (λ k k_in. let none : value s t k c ≡ 0 = sym (sum_kept s plain t sum k c k_in col) ∙ none-zero s (simplified s.op t) h k c in rw none (omega arith)))
      go false h = ap (λ (g : Range). times_over s.modulus g y (value s (simplified s.op t)) r c) (rows_kept s plain t sum h)
          ∙ same_times (rows_of s t) y (value s (simplified s.op t)) y (value s t) r c (λ k k_in. refl) (λ k k_in. sum_kept s plain t sum k c k_in col)
