-- Sums of expressions, one part more.
use Rattle.std.proofs.Common.{◌≡◌, ℕ, zero, suc, ◌+◌, ◌≤◌, refl, arith, add-one}
use Rattle.operation_spec.specs.declared.operation.Term.{Term}
use Rattle.block_values.specs.Trees.{Tree, Add}
use Rattle.block_expr.specs.Expanded.{sum_of, with_product, with_products}

pub sum_of_more : (f : ℕ → Tree) (n : ℕ) → 1 ≤ n → sum_of f (n + 1) ≡ Add (sum_of f n) (f n)
sum_of_more f zero h = absurd (omega arith)
sum_of_more f (suc n) h = rw (add-one (suc n)) refl

pub with_products_more : (term : Term) (i j n : ℕ) (sum : Tree) → with_products term i j (n + 1) sum ≡ with_product term i j n (with_products term i j n sum)
with_products_more term i j n sum = rw (add-one n) refl
