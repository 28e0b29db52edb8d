-- An expression as definitions speak of it.
use Rattle.block_expr.specs.declared.expr.Expr.{Expr, Zero, Block, Add', Sub', Mul', SolveLeft', SolveRight', Sylvester', Lu', Ldl', more_of-Expr, end_of-Expr}
use Rattle.block_values.specs.Trees as trees
use Rattle.block_values.specs.Trees.{Tree}

abbrev pub tree_of : Expr → Tree
tree_of Zero = trees.Zero
tree_of (Block leaf primed i j) = trees.Block leaf primed i j
tree_of (Add' p (more_of-Expr a end_of-Expr) q (more_of-Expr b end_of-Expr)) = trees.Add (tree_of a) (tree_of b)
tree_of (Sub' p (more_of-Expr a end_of-Expr) q (more_of-Expr b end_of-Expr)) = trees.Sub (tree_of a) (tree_of b)
tree_of (Mul' p (more_of-Expr a end_of-Expr) q (more_of-Expr b end_of-Expr)) = trees.Mul (tree_of a) (tree_of b)
tree_of (SolveLeft' p (more_of-Expr t end_of-Expr) q (more_of-Expr sum end_of-Expr)) = trees.SolveLeft (tree_of t) (tree_of sum)
tree_of (SolveRight' p (more_of-Expr sum end_of-Expr) q (more_of-Expr t end_of-Expr)) = trees.SolveRight (tree_of sum) (tree_of t)
tree_of (Sylvester' p (more_of-Expr t end_of-Expr) q (more_of-Expr u end_of-Expr) minus r (more_of-Expr sum end_of-Expr)) = trees.Sylvester (tree_of t) (tree_of u) minus (tree_of sum)
tree_of (Lu' p (more_of-Expr sum end_of-Expr)) = trees.Lu (tree_of sum)
tree_of (Ldl' p (more_of-Expr sum end_of-Expr)) = trees.Ldl (tree_of sum)
