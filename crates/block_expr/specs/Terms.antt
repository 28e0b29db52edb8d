-- The terms of an operation, by their numbers.
use Rattle.std.specs.Prelude.{ℕ, zero, suc, slice_get, Option, Some, None, Bool, false}
use Rattle.operation_spec.specs.declared.operation.Operation.{Operation}
use Rattle.operation_spec.specs.declared.operation.Term.{Term}
use Rattle.block_values.specs.Trees.{Tree, Zero, Mul}
use Rattle.block_values.specs.States.{factor_block}

-- terms are numbered from 1
abbrev pub numbered_term : Operation → ℕ → Option Term
numbered_term op zero = None
numbered_term op (suc t) = slice_get op.terms t

-- its product at (i, j) over part k, and whether it is subtracted
abbrev pub product_of_term : Option Term → ℕ → ℕ → ℕ → Tree
product_of_term None i j k = Zero
product_of_term (Some term) i j k = Mul (factor_block term.first i k) (factor_block term.second k j)

abbrev pub minus_of_term : Option Term → Bool
minus_of_term None = false
minus_of_term (Some term) = term.minus
