-- What is left after simplifying has no block that is zero by structure.
use Rattle.std.proofs.Common.{◌≡◌, Bool, true, false, if◌then◌else◌, refl}
use Rattle.std.specs.Prelude.{◌||◌}
use Rattle.operation_spec.specs.declared.operation.Operation.{Operation}
use Rattle.block_values.specs.Trees.{Tree, Zero, Block, Add, Sub, Mul, SolveLeft, SolveRight, Sylvester, Lu, Ldl}
use Rattle.block_expr.specs.Simplified.{is_zero_block, is_none, simplified_sum, simplified_difference, simplified_product, simplified}
use Rattle.block_expr.specs.Shapes.{HasNoZeroBlock}

module _ (op : Operation) where
  either : (b : Bool) (x y : Tree) → HasNoZeroBlock op x → HasNoZeroBlock op y → HasNoZeroBlock op (if b then x else y)
  either true x y p q = p
  either false x y p q = q

  none_in_sum : (a b : Tree) → HasNoZeroBlock op a → HasNoZeroBlock op b → HasNoZeroBlock op (simplified_sum a b)
  none_in_sum a b p q = either (is_none a) b _ q (either (is_none b) a (Add a b) p (p, q))

  none_in_difference : (a b : Tree) → HasNoZeroBlock op a → HasNoZeroBlock op b → HasNoZeroBlock op (simplified_difference a b)
  none_in_difference a b p q = either (is_none b) a (Sub a b) p (p, q)

  none_in_product : (a b : Tree) → HasNoZeroBlock op a → HasNoZeroBlock op b → HasNoZeroBlock op (simplified_product a b)
  none_in_product a b p q = either (is_none a || is_none b) Zero (Mul a b) tt (p, q)

  pub none_left : (e : Tree) → HasNoZeroBlock op (simplified op e)
  none_left Zero = tt
  none_left (Block leaf primed i j) = go (is_zero_block op leaf primed i j) refl
    where
      go : (z : Bool) → is_zero_block op leaf primed i j ≡ z → HasNoZeroBlock op (if z then Zero else Block leaf primed i j)
      go true h = tt
      go false h = h
  none_left (Add a b) = none_in_sum (simplified op a) (simplified op b) (none_left a) (none_left b)
  none_left (Sub a b) = none_in_difference (simplified op a) (simplified op b) (none_left a) (none_left b)
  none_left (Mul a b) = none_in_product (simplified op a) (simplified op b) (none_left a) (none_left b)
  none_left (SolveLeft t sum) = (none_left t, none_left sum)
  none_left (SolveRight sum t) = (none_left sum, none_left t)
  none_left (Sylvester t u minus sum) = (none_left t, none_left u, none_left sum)
  none_left (Lu sum) = none_left sum
  none_left (Ldl sum) = none_left sum
