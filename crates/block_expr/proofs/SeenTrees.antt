-- What the constructors of an expression are seen as.
use denote.Hole.Carrier.{hidden}
use Rattle.std.proofs.Common.{◌≡◌, ap, Bool}
use Rattle.block_expr.specs.declared.expr.Expr.{Expr}
use Rattle.block_expr.specs.declared.expr.Expr.TheBlock.{hidden-the_row-Expr-0}
use Rattle.block_expr.specs.declared.expr.Expr.TheVariants as variants
use Rattle.block_expr.specs.Seen.{tree_of}
use Rattle.block_values.specs.Trees as trees

pub added : (e a b : Expr) → e ≡ variants.Add a b → tree_of e ≡ trees.Add (tree_of a) (tree_of b)
unfolding hidden-the_row-Expr-0 hidden
added e a b h = ap tree_of h

pub subtracted : (e a b : Expr) → e ≡ variants.Sub a b → tree_of e ≡ trees.Sub (tree_of a) (tree_of b)
unfolding hidden-the_row-Expr-0 hidden
subtracted e a b h = ap tree_of h

pub multiplied : (e a b : Expr) → e ≡ variants.Mul a b → tree_of e ≡ trees.Mul (tree_of a) (tree_of b)
unfolding hidden-the_row-Expr-0 hidden
multiplied e a b h = ap tree_of h

pub solved_left : (e t sum : Expr) → e ≡ variants.SolveLeft t sum → tree_of e ≡ trees.SolveLeft (tree_of t) (tree_of sum)
unfolding hidden-the_row-Expr-0 hidden
solved_left e t sum h = ap tree_of h

pub solved_right : (e sum t : Expr) → e ≡ variants.SolveRight sum t → tree_of e ≡ trees.SolveRight (tree_of sum) (tree_of t)
unfolding hidden-the_row-Expr-0 hidden
solved_right e sum t h = ap tree_of h

pub solved_both : (e t u : Expr) (minus : Bool) (sum : Expr) → e ≡ variants.Sylvester t u minus sum
    → tree_of e ≡ trees.Sylvester (tree_of t) (tree_of u) minus (tree_of sum)
unfolding hidden-the_row-Expr-0 hidden
solved_both e t u minus sum h = ap tree_of h

pub lu_factored : (e sum : Expr) → e ≡ variants.Lu sum → tree_of e ≡ trees.Lu (tree_of sum)
unfolding hidden-the_row-Expr-0 hidden
lu_factored e sum h = ap tree_of h

pub ldl_factored : (e sum : Expr) → e ≡ variants.Ldl sum → tree_of e ≡ trees.Ldl (tree_of sum)
unfolding hidden-the_row-Expr-0 hidden
ldl_factored e sum h = ap tree_of h
