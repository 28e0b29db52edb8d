-- The equation of a statement, block by block.
use Rattle.std.specs.Prelude.{◌≡◌, ℕ, ◌<◌, List, true}
use Rattle.residue_sums.specs.Tables.{Table}
use Rattle.residue_sums.specs.Grids.{entry}
use Rattle.structure_rules.specs.Structures.{IsZero, IsInside}
use Rattle.equation.specs.Equations.{left_side, right_side}
use Rattle.task_graph.specs.Tasks.{is_work_block}
use Rattle.block_values.specs.Cuts.{IsIn, part}
use Rattle.block_values.specs.Trees.{Tree}
use Rattle.block_values.specs.States.{full_tree}
use Rattle.block_values.specs.Values.{Setting, IsValue}

-- (r, c) is an entry of W's structure in block (i, j)
pub record IsBlockEntry (s : Setting) (i j r c : ℕ) : Type 0 where
  pub row : IsIn (part s.starts s.op.work.rows i) r
  pub col : IsIn (part s.starts s.op.work.cols j) c
  pub inside : IsInside s.op.work.structure r c

-- on the entries of block (i, j) in W's structure the stored solution has a value of the expression
pub record HasBlock (s : Setting) (i j : ℕ) (e : Tree) : Type 0 where
  pub y : Table
  pub value : IsValue s e y
  pub same : (r c : ℕ) → IsBlockEntry s i j r c → entry s.solution r c ≡ y r c

-- on the entries of block (i, j) in W's structure the equation of the whole holds
abbrev pub EquationHolds : Setting → ℕ → ℕ → Type 0
EquationHolds s i j = (r c : ℕ) → IsBlockEntry s i j r c
    → left_side s.modulus s.op s.knowns s.solution r c ≡ right_side s.modulus s.op s.knowns s.work r c

-- each block of W's structure has, on its entries in W's structure, a value of its expression with all its tasks done
abbrev pub HaveValues : Setting → List ℕ → Type 0
HaveValues s counts = (i j : ℕ) → is_work_block s.op counts i j ≡ true → HasBlock s i j (full_tree s.op counts i j)

-- outside W's structure the solution has the entries of the work matrix
abbrev pub KeepsOthers : Setting → Type 0
KeepsOthers s = (r c : ℕ) → r < s.work.rows → c < s.work.cols → IsZero s.op.work.structure r c → entry s.solution r c ≡ entry s.work r c
