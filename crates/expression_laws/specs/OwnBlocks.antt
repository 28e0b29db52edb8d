-- The block that an expression stands for.
use Rattle.std.specs.Prelude.{◌≡◌, ℕ, List, true}
use Rattle.task_graph.specs.Tasks.{is_work_block}
use Rattle.block_values.specs.Cuts.{part}
use Rattle.block_values.specs.Trees.{Tree}
use Rattle.block_values.specs.Values.{Setting, rows_of, cols_of}
use Rattle.block_expr.specs.Expanded.{Equation}

-- the rows and columns of the expression are those of block (i, j) of W
pub record IsOfBlock (s : Setting) (i j : ℕ) (e : Tree) : Type 0 where
  pub rows : rows_of s e ≡ part s.starts s.op.work.rows i
  pub cols : cols_of s e ≡ part s.starts s.op.work.cols j

-- the equation is that of a block of W's structure, and both its sides stand for this block
pub record IsEquationOfItsBlock (s : Setting) (counts : List ℕ) (e : Equation) : Type 0 where
  pub work : is_work_block s.op counts e.row e.col ≡ true
  pub left : IsOfBlock s e.row e.col e.left
  pub right : IsOfBlock s e.row e.col e.right
