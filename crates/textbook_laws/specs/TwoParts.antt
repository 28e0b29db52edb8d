-- A statement whose work matrix is cut in two.
use Rattle.std.specs.Prelude.{◌≡◌, ℕ, ◌+◌, List}
use Rattle.task_graph.specs.Tasks.{parts_of}
use Rattle.block_values.specs.Values.{Setting}

-- the rows of W are cut into two parts, the first with n0 rows and the second with n1; either may have none
pub record IsInTwo (s : Setting) (counts : List ℕ) (n0 n1 : ℕ) : Type 0 where
  pub parts : parts_of counts s.op.work.rows ≡ 2
  pub first : s.starts s.op.work.rows 1 ≡ n0
  pub second : s.starts s.op.work.rows 2 ≡ n0 + n1
