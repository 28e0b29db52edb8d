-- Dropping zero blocks keeps the values of a sum on the places of its block.
use Rattle.std.proofs.Common.{◌≡◌, ◌≢◌, ℕ, suc, ◌+◌, ◌*◌, ◌-◌, ◌%◌, ◌<◌, ◌≤◌, Bool, true, false, if◌then◌else◌, refl, sym, ◌∙◌, ap, ap₂, subst, arith}
use Rattle.std.specs.Prelude.{◌||◌}
use Rattle.std.proofs.Math.Nat.{mod-lt, mod-eq_of_lt}
use Rattle.residue_sums.specs.Tables.{oriented}
use Rattle.residue_sums.specs.Grids.{entry}
use Rattle.residue_sums.specs.Residues.{Cong}
use Rattle.residue_sums.proofs.Congruence.{Cong-by, Cong-multiple}
use Rattle.structure_rules.specs.declared.Structure.TheVariants.{General}
use Rattle.structure_rules.specs.Structures.{IsZero, is_zero}
use Rattle.structure_rules.proofs.Views.{view-zero}
use Rattle.block_values.specs.declared.leaf.Leaf.{Leaf}
use Rattle.block_values.specs.declared.leaf.Leaf.TheVariants.{Work, Known, Solution, L, D, U}
use Rattle.block_values.specs.Cuts.{Range, IsIn, part, times_over}
use Rattle.block_values.specs.Trees.{Tree, Zero, Block, Add, Sub, Mul, SolveLeft, SolveRight, Sylvester, Lu, Ldl}
use Rattle.block_values.specs.Values.{Setting, leaf_table, leaf_operand, rows_of, cols_of}
use Rattle.block_values.proofs.Ranges.{range_sum-same, range_sum-zero, IsZero-part}
use Rattle.block_values.proofs.PureTrees.{IsPure, value}
use Rattle.block_values.proofs.ZeroBlocks.{IsZero-from_test}
use Rattle.block_values.proofs.Assigned.{X-zero}
use Rattle.block_expr.specs.Simplified.{leaf_structure, is_zero_block, is_none, simplified_sum, simplified_difference, simplified_product, simplified}
use Rattle.block_expr.specs.Shapes.{IsReadable, IsSum}
use Rattle.equation.specs.Equations.{known_grid}

-- what the matrices of a setting need
pub record IsPlain (s : Setting) : Type 0 where
  pub pos : 0 < s.modulus
  pub from_zero : (d : ℕ) → s.starts d 0 ≡ 0
  pub ascending : (d p : ℕ) → s.starts d p ≤ s.starts d (suc p)
  pub square : (leaf : Leaf) → IsReadable s leaf → leaf_structure s.op leaf ≢ General → (leaf_operand s.op leaf).rows ≡ (leaf_operand s.op leaf).cols
  pub below : (leaf : Leaf) (r c : ℕ) → leaf_table s leaf r c < s.modulus

-- ---- zero blocks

leaf-zero : (s : Setting) (leaf : Leaf) (r c : ℕ) → IsZero (leaf_structure s.op leaf) r c → leaf_table s leaf r c ≡ 0
leaf-zero s Work r c h = absurd h
leaf-zero s (Known k) r c h = view-zero (leaf_structure s.op (Known k)) (entry (known_grid s.knowns k)) r c h
leaf-zero s Solution r c h = X-zero s r c h
leaf-zero s L r c h = view-zero (leaf_structure s.op L) (entry s.solution) r c h
leaf-zero s D r c h = view-zero (leaf_structure s.op D) (entry s.solution) r c h
leaf-zero s U r c h = view-zero (leaf_structure s.op U) (entry s.solution) r c h

pub none-zero : (s : Setting) (e : Tree) → is_none e ≡ true → (r c : ℕ) → value s e r c ≡ 0
none-zero s Zero h r c = refl
none-zero s other h r c = absurd (cc)

module _ (s : Setting) (plain : IsPlain s) where
  zero_block : (leaf : Leaf) (i j r c : ℕ) → IsReadable s leaf → is_zero (leaf_structure s.op leaf) i j ≡ true
      → IsIn (part s.starts (leaf_operand s.op leaf).rows i) r → IsIn (part s.starts (leaf_operand s.op leaf).cols j) c → leaf_table s leaf r c ≡ 0
  zero_block leaf i j r c readable h row col =
      let dims : (leaf_operand s.op leaf).rows ≡ (leaf_operand s.op leaf).cols = plain.square leaf readable (λ e. none (subst (λ z. is_zero z i j ≡ true) e h)) in
      leaf-zero s leaf r c (IsZero-part s.starts (leaf_operand s.op leaf).cols (plain.from_zero _) (plain.ascending _) (leaf_structure s.op leaf) i j r c
      (subst (λ d. IsIn (part s.starts d i) r) dims row) col (IsZero-from_test _ i j h))
    where
      none : is_zero General i j ≡ true → ⊥
      none e = cc

  pub block_value : (leaf : Leaf) (primed : Bool) (i j r c : ℕ) → IsReadable s leaf → IsIn (rows_of s (Block leaf primed i j)) r → IsIn (cols_of s (Block leaf primed i j)) c
      → (outside : Bool) → is_zero_block s.op leaf primed i j ≡ outside → value s (if outside then Zero else Block leaf primed i j) r c ≡ value s (Block leaf primed i j) r c
  block_value leaf primed i j r c readable row col false h = refl
  block_value leaf false i j r c readable row col true h = sym (zero_block leaf i j r c readable h row col)
  block_value leaf true i j r c readable row col true h = sym (zero_block leaf j i c r readable h col row)

  -- ---- residues

  pub block-below : (leaf : Leaf) (primed : Bool) (r c : ℕ) → oriented primed (leaf_table s leaf) r c < s.modulus
  block-below leaf true r c = plain.below leaf c r
  block-below leaf false r c = plain.below leaf r c

  pub sum-below : (e : Tree) → IsSum s e → (r c : ℕ) → value s e r c < s.modulus
  sum-below (Block leaf primed i j) sum r c = block-below leaf primed r c
  sum-below (Add a b) sum r c = mod-lt _ plain.pos
  sum-below (Mul a b) sum r c = mod-lt _ plain.pos
  sum-below Zero sum r c = absurd sum
  sum-below (Sub a b) sum r c = absurd sum
  sum-below (SolveLeft t x) sum r c = absurd sum
  sum-below (SolveRight x t) sum r c = absurd sum
  sum-below (Sylvester t u negative x) sum r c = absurd sum
  sum-below (Lu x) sum r c = absurd sum
  sum-below (Ldl x) sum r c = absurd sum

  -- ---- steps

  pub add_value : (a' b' : Tree) (va vb r c : ℕ) → value s a' r c ≡ va → value s b' r c ≡ vb → va < s.modulus → vb < s.modulus
      → value s (simplified_sum a' b') r c ≡ (va + vb) % s.modulus
  add_value a' b' va vb r c a_is b_is a_below b_below = go (is_none a') (is_none b') refl refl
    where
      go : (x y : Bool) → is_none a' ≡ x → is_none b' ≡ y → value s (if x then b' else (if y then a' else Add a' b')) r c ≡ (va + vb) % s.modulus
      go true y e k =
          let none : va ≡ 0 = sym a_is ∙ none-zero s a' e r c in
          let whole : va + vb ≡ vb = omega arith in
          b_is ∙ sym (ap (λ (p : ℕ). p % s.modulus) whole ∙ mod-eq_of_lt b_below)
      go false true e k =
          let none : vb ≡ 0 = sym b_is ∙ none-zero s b' k r c in
          let whole : va + vb ≡ va = omega arith in
          a_is ∙ sym (ap (λ (p : ℕ). p % s.modulus) whole ∙ mod-eq_of_lt a_below)
      go false false e k = ap₂ (λ (p q : ℕ). (p + q) % s.modulus) a_is b_is

  pub sub_value : (a' b' : Tree) (va vb r c : ℕ) → value s a' r c ≡ va → value s b' r c ≡ vb → va < s.modulus
      → value s (simplified_difference a' b') r c ≡ (va + (s.modulus - vb)) % s.modulus
  sub_value a' b' va vb r c a_is b_is a_below = go (is_none b') refl
    where
      go : (y : Bool) → is_none b' ≡ y → value s (if y then a' else Sub a' b') r c ≡ (va + (s.modulus - vb)) % s.modulus
      go true k =
          let none : vb ≡ 0 = sym b_is ∙ none-zero s b' k r c in
          let same : Cong s.modulus (va + (s.modulus - vb)) va = Cong-by (Cong-multiple s.modulus 1) (omega arith) in
          a_is ∙ sym (same.same ∙ mod-eq_of_lt a_below)
      go false k = ap₂ (λ (p q : ℕ). (p + (s.modulus - q)) % s.modulus) a_is b_is

  mul_value : (a b : Tree) (r c : ℕ) → ((k : ℕ) → IsIn (cols_of s a) k → value s (simplified s.op a) r k ≡ value s a r k)
      → ((k : ℕ) → IsIn (cols_of s a) k → value s (simplified s.op b) k c ≡ value s b k c)
      → (is_none (simplified s.op a) ≡ false → cols_of s (simplified s.op a) ≡ cols_of s a)
      → value s (simplified_product (simplified s.op a) (simplified s.op b)) r c ≡ times_over s.modulus (cols_of s a) (value s a) (value s b) r c
  mul_value a b r c left_kept right_kept cols_are = go (is_none (simplified s.op a)) (is_none (simplified s.op b)) refl refl
    where
      zero_value : ((k : ℕ) → IsIn (cols_of s a) k → value s a r k * value s b k c ≡ 0) → 0 ≡ times_over s.modulus (cols_of s a) (value s a) (value s b) r c
      zero_value zeros = sym (ap (λ (x : ℕ). x % s.modulus) (range_sum-zero (cols_of s a) (λ k. value s a r k * value s b k c) zeros) ∙ mod-eq_of_lt plain.pos)

      go : (x y : Bool) → is_none (simplified s.op a) ≡ x → is_none (simplified s.op b) ≡ y
          → value s (if x || y then Zero else Mul (simplified s.op a) (simplified s.op b)) r c ≡ times_over s.modulus (cols_of s a) (value s a) (value s b) r c
      go true y e k = zero_value (λ x x_in. let none : value s a r x ≡ 0 = sym (left_kept x x_in) ∙ none-zero s (simplified s.op a) e r x in rw none (omega arith))
      go false true e k = zero_value (λ x x_in. let none : value s b x c ≡ 0 = sym (right_kept x x_in) ∙ none-zero s (simplified s.op b) k x c in rw none (omega arith))
      go false false e k = ap (λ (g : Range). times_over s.modulus g (value s (simplified s.op a)) (value s (simplified s.op b)) r c) (cols_are e)
          ∙ ap (λ (x : ℕ). x % s.modulus) (range_sum-same (cols_of s a) _ _ (λ x x_in. ap₂ (λ (p q : ℕ). p * q) (left_kept x x_in) (right_kept x x_in)))

  -- ---- what is left of a sum has its columns and its rows

  block_shape : (at : Tree → Range) (leaf : Leaf) (primed : Bool) (i j : ℕ) (z : Bool) → is_none (if z then Zero else Block leaf primed i j) ≡ false
      → at (if z then Zero else Block leaf primed i j) ≡ at (Block leaf primed i j)
  block_shape at leaf primed i j true e = absurd (cc)
  block_shape at leaf primed i j false e = refl

  sum_shape : (at : Tree → Range) → ((a b : Tree) → at (Add a b) ≡ at a) → (a b a' b' : Tree) → (is_none a' ≡ false → at a' ≡ at a) → (is_none b' ≡ false → at b' ≡ at b) → at b ≡ at a
      → is_none (simplified_sum a' b') ≡ false → at (simplified_sum a' b') ≡ at a
  sum_shape at first a b a' b' a_kept b_kept same = go (is_none a') (is_none b') refl refl
    where
      go : (x y : Bool) → is_none a' ≡ x → is_none b' ≡ y → is_none (if x then b' else (if y then a' else Add a' b')) ≡ false → at (if x then b' else (if y then a' else Add a' b')) ≡ at a
      go true true e k h = absurd (cc)
      go true false e k h = b_kept k ∙ same
      go false true e k h = a_kept e
      go false false e k h = first a' b' ∙ a_kept e

  product_shape : (at : Tree → Range) (pick : Tree → Tree → Tree) → ((a b : Tree) → at (Mul a b) ≡ at (pick a b)) → (a' b' : Tree) (g : Range)
      → (is_none a' ≡ false → is_none b' ≡ false → at (pick a' b') ≡ g) → is_none (simplified_product a' b') ≡ false → at (simplified_product a' b') ≡ g
  product_shape at pick first a' b' g kept = go (is_none a') (is_none b') refl refl
    where
      go : (x y : Bool) → is_none a' ≡ x → is_none b' ≡ y → is_none (if x || y then Zero else Mul a' b') ≡ false → at (if x || y then Zero else Mul a' b') ≡ g
      go true y e k h = absurd (cc)
      go false true e k h = absurd (cc)
      go false false e k h = first a' b' ∙ kept e k

  pub cols_kept : (e : Tree) → IsSum s e → is_none (simplified s.op e) ≡ false → cols_of s (simplified s.op e) ≡ cols_of s e
  cols_kept (Block leaf primed i j) sum h = block_shape (cols_of s) leaf primed i j (is_zero_block s.op leaf primed i j) h
  cols_kept (Add a b) sum h = sum_shape (cols_of s) (λ x y. refl) a b (simplified s.op a) (simplified s.op b) (cols_kept a sum.0) (cols_kept b sum.1) sum.2.1 h
  cols_kept (Mul a b) sum h = product_shape (cols_of s) (λ x y. y) (λ x y. refl) (simplified s.op a) (simplified s.op b) (cols_of s b) (λ x y. cols_kept b sum.1 y) h
  cols_kept Zero sum h = absurd sum
  cols_kept (Sub a b) sum h = absurd sum
  cols_kept (SolveLeft t x) sum h = absurd sum
  cols_kept (SolveRight x t) sum h = absurd sum
  cols_kept (Sylvester t u negative x) sum h = absurd sum
  cols_kept (Lu x) sum h = absurd sum
  cols_kept (Ldl x) sum h = absurd sum

  pub rows_kept : (e : Tree) → IsSum s e → is_none (simplified s.op e) ≡ false → rows_of s (simplified s.op e) ≡ rows_of s e
  rows_kept (Block leaf primed i j) sum h = block_shape (rows_of s) leaf primed i j (is_zero_block s.op leaf primed i j) h
  rows_kept (Add a b) sum h = sum_shape (rows_of s) (λ x y. refl) a b (simplified s.op a) (simplified s.op b) (rows_kept a sum.0) (rows_kept b sum.1) sum.2.0 h
  rows_kept (Mul a b) sum h = product_shape (rows_of s) (λ x y. x) (λ x y. refl) (simplified s.op a) (simplified s.op b) (rows_of s a) (λ x y. rows_kept a sum.0 x) h
  rows_kept Zero sum h = absurd sum
  rows_kept (Sub a b) sum h = absurd sum
  rows_kept (SolveLeft t x) sum h = absurd sum
  rows_kept (SolveRight x t) sum h = absurd sum
  rows_kept (Sylvester t u negative x) sum h = absurd sum
  rows_kept (Lu x) sum h = absurd sum
  rows_kept (Ldl x) sum h = absurd sum

  -- ---- a sum keeps its value

  pub sum_kept : (e : Tree) → IsSum s e → (r c : ℕ) → IsIn (rows_of s e) r → IsIn (cols_of s e) c → value s (simplified s.op e) r c ≡ value s e r c
  sum_kept (Block leaf primed i j) sum r c row col = block_value leaf primed i j r c sum row col (is_zero_block s.op leaf primed i j) refl
  sum_kept (Add a b) sum r c row col = add_value (simplified s.op a) (simplified s.op b) (value s a r c) (value s b r c) r c
      (sum_kept a sum.0 r c row col) (sum_kept b sum.1 r c (subst (λ g. IsIn g r) (sym sum.2.0) row) (subst (λ g. IsIn g c) (sym sum.2.1) col))
      (sum-below a sum.0 r c) (sum-below b sum.1 r c)
  sum_kept (Mul a b) sum r c row col = mul_value a b r c (λ k k_in. sum_kept a sum.0 r k row k_in)
      (λ k k_in. sum_kept b sum.1 k c (subst (λ g. IsIn g k) (sym sum.2) k_in) col) (cols_kept a sum.0)
  sum_kept Zero sum r c row col = absurd sum
  sum_kept (Sub a b) sum r c row col = absurd sum
  sum_kept (SolveLeft t x) sum r c row col = absurd sum
  sum_kept (SolveRight x t) sum r c row col = absurd sum
  sum_kept (Sylvester t u negative x) sum r c row col = absurd sum
  sum_kept (Lu x) sum r c row col = absurd sum
  sum_kept (Ldl x) sum r c row col = absurd sum

pub IsPure-sum : (s : Setting) (e : Tree) → IsSum s e → IsPure e
IsPure-sum s (Block leaf primed i j) sum = tt
IsPure-sum s (Add a b) sum = (IsPure-sum s a sum.0, IsPure-sum s b sum.1)
IsPure-sum s (Mul a b) sum = (IsPure-sum s a sum.0, IsPure-sum s b sum.1)
IsPure-sum s Zero sum = absurd sum
IsPure-sum s (Sub a b) sum = absurd sum
IsPure-sum s (SolveLeft t x) sum = absurd sum
IsPure-sum s (SolveRight x t) sum = absurd sum
IsPure-sum s (Sylvester t u negative x) sum = absurd sum
IsPure-sum s (Lu x) sum = absurd sum
IsPure-sum s (Ldl x) sum = absurd sum

-- what is left of pure trees is pure
pub IsPure-simplified : (s : Setting) (e : Tree) → IsPure e → IsPure (simplified s.op e)
IsPure-simplified s Zero pure = tt
IsPure-simplified s (Block leaf primed i j) pure = go (is_zero_block s.op leaf primed i j)
  where
    go : (z : Bool) → IsPure (if z then Zero else Block leaf primed i j)
    go true = tt
    go false = tt
IsPure-simplified s (Add a b) pure = go (is_none (simplified s.op a)) (is_none (simplified s.op b)) (IsPure-simplified s a pure.0) (IsPure-simplified s b pure.1)
  where
    go : (x y : Bool) → IsPure (simplified s.op a) → IsPure (simplified s.op b) → IsPure (if x then simplified s.op b else (if y then simplified s.op a else Add (simplified s.op a) (simplified s.op b)))
    go true y p q = q
    go false true p q = p
    go false false p q = (p, q)
IsPure-simplified s (Sub a b) pure = go (is_none (simplified s.op b)) (IsPure-simplified s a pure.0) (IsPure-simplified s b pure.1)
  where
    go : (y : Bool) → IsPure (simplified s.op a) → IsPure (simplified s.op b) → IsPure (if y then simplified s.op a else Sub (simplified s.op a) (simplified s.op b))
    go true p q = p
    go false p q = (p, q)
IsPure-simplified s (Mul a b) pure = go (is_none (simplified s.op a)) (is_none (simplified s.op b)) (IsPure-simplified s a pure.0) (IsPure-simplified s b pure.1)
  where
    go : (x y : Bool) → IsPure (simplified s.op a) → IsPure (simplified s.op b) → IsPure (if x || y then Zero else Mul (simplified s.op a) (simplified s.op b))
    go true y p q = tt
    go false true p q = tt
    go false false p q = (p, q)
IsPure-simplified s (SolveLeft t x) pure = absurd pure
IsPure-simplified s (SolveRight x t) pure = absurd pure
IsPure-simplified s (Sylvester t u negative x) pure = absurd pure
IsPure-simplified s (Lu x) pure = absurd pure
IsPure-simplified s (Ldl x) pure = absurd pure
