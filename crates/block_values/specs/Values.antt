-- What an expression of blocks stands for. A block is read at its places in the whole matrix, so a value is a table, and
-- only its entries in the rows and columns of the block matter.
use Rattle.std.specs.Prelude.{◌≡◌, ℕ, List, Bool, if◌then◌else◌}
use Rattle.residue_sums.specs.Tables.{Table, oriented, plus, transpose}
use Rattle.residue_sums.specs.Grids.{Grid, entry}
use Rattle.structure_rules.specs.declared.Structure.TheVariants as structures
use Rattle.structure_rules.specs.Structures.{view, IsInside, IsZero}
use Rattle.operation_spec.specs.declared.operation.Operation.{Operation}
use Rattle.operation_spec.specs.declared.operation.Operand.{Operand}
use Rattle.equation.specs.Equations.{minus, known_grid, solution_table}
use Rattle.task_graph.specs.Factors.{known}
use Rattle.block_values.specs.declared.leaf.Leaf.{Leaf}
use Rattle.block_values.specs.declared.leaf.Leaf.TheVariants.{Work, Known, Solution, L, D, U}
use Rattle.block_values.specs.Cuts.{Range, IsIn, Starts, part, times_over}
use Rattle.block_values.specs.Trees.{Tree, Zero, Block, Add, Sub, Mul, SolveLeft, SolveRight, Sylvester, Lu, Ldl}

-- the matrices that blocks are taken from: those of the known operands, the work matrix before and after, and the parts
pub record Setting : Type 0 where
  pub modulus : ℕ
  pub op : Operation
  pub knowns : List Grid
  pub work : Grid
  pub solution : Grid
  pub starts : Starts

-- the whole matrix
abbrev pub leaf_table : Setting → Leaf → Table
leaf_table s Work = entry s.work
leaf_table s (Known k) = view (known s.op k).structure (entry (known_grid s.knowns k))
leaf_table s Solution = solution_table s.op s.solution
leaf_table s L = view structures.UnitLower (entry s.solution)
leaf_table s D = view structures.Diagonal (entry s.solution)
leaf_table s U = view structures.Upper (entry s.solution)

-- its operand
abbrev pub leaf_operand : Operation → Leaf → Operand
leaf_operand op (Known k) = known op k
leaf_operand op _ = op.work

abbrev pub leaf_rows : Operation → Leaf → Bool → ℕ
leaf_rows op leaf primed = if primed then (leaf_operand op leaf).cols else (leaf_operand op leaf).rows

abbrev pub leaf_cols : Operation → Leaf → Bool → ℕ
leaf_cols op leaf primed = if primed then (leaf_operand op leaf).rows else (leaf_operand op leaf).cols

-- the rows of the block that an expression stands for
abbrev pub rows_of : Setting → Tree → Range
rows_of s Zero = record { first = 0; past = 0 }
rows_of s (Block leaf primed i j) = part s.starts (leaf_rows s.op leaf primed) i
rows_of s (Add a b) = rows_of s a
rows_of s (Sub a b) = rows_of s a
rows_of s (Mul a b) = rows_of s a
rows_of s (SolveLeft t sum) = rows_of s sum
rows_of s (SolveRight sum t) = rows_of s sum
rows_of s (Sylvester t u negative sum) = rows_of s sum
rows_of s (Lu sum) = rows_of s sum
rows_of s (Ldl sum) = rows_of s sum

-- its columns
abbrev pub cols_of : Setting → Tree → Range
cols_of s Zero = record { first = 0; past = 0 }
cols_of s (Block leaf primed i j) = part s.starts (leaf_cols s.op leaf primed) j
cols_of s (Add a b) = cols_of s a
cols_of s (Sub a b) = cols_of s a
cols_of s (Mul a b) = cols_of s b
cols_of s (SolveLeft t sum) = cols_of s sum
cols_of s (SolveRight sum t) = cols_of s sum
cols_of s (Sylvester t u negative sum) = cols_of s sum
cols_of s (Lu sum) = cols_of s sum
cols_of s (Ldl sum) = cols_of s sum

-- on the places of a block that lie in the structure of W, the left side of the equation of Y is the sum
abbrev pub Meets : Setting → Range → Range → Table → Table → Type 0
Meets s rows cols left sum = (r c : ℕ) → IsIn rows r → IsIn cols c → IsInside s.op.work.structure r c → left r c ≡ sum r c

-- and Y is zero on its other places
abbrev pub IsZeroOutside : Setting → Range → Range → Table → Type 0
IsZeroOutside s rows cols y = (r c : ℕ) → IsIn rows r → IsIn cols c → IsZero s.op.work.structure r c → y r c ≡ 0

-- y is a value of the expression
abbrev pub IsValue : Setting → Tree → Table → Type 0
IsValue s Zero y = (r c : ℕ) → y r c ≡ 0
IsValue s (Block leaf primed i j) y = (r c : ℕ) → y r c ≡ oriented primed (leaf_table s leaf) r c
IsValue s (Add a b) y = (p : Table) × (q : Table) × IsValue s a p × IsValue s b q × ((r c : ℕ) → y r c ≡ plus s.modulus p q r c)
IsValue s (Sub a b) y = (p : Table) × (q : Table) × IsValue s a p × IsValue s b q × ((r c : ℕ) → y r c ≡ minus s.modulus p q r c)
IsValue s (Mul a b) y = (p : Table) × (q : Table) × IsValue s a p × IsValue s b q × ((r c : ℕ) → y r c ≡ times_over s.modulus (cols_of s a) p q r c)
IsValue s (SolveLeft t sum) y = (p : Table) × (q : Table) × IsValue s t p × IsValue s sum q
    × Meets s (rows_of s sum) (cols_of s sum) (times_over s.modulus (cols_of s t) p y) q
    × IsZeroOutside s (rows_of s sum) (cols_of s sum) y
IsValue s (SolveRight sum t) y = (p : Table) × (q : Table) × IsValue s t p × IsValue s sum q
    × Meets s (rows_of s sum) (cols_of s sum) (times_over s.modulus (rows_of s t) y p) q
    × IsZeroOutside s (rows_of s sum) (cols_of s sum) y
IsValue s (Sylvester t u negative sum) y = (p : Table) × (p' : Table) × (q : Table) × IsValue s t p × IsValue s u p' × IsValue s sum q
    × Meets s (rows_of s sum) (cols_of s sum)
    (if negative then minus s.modulus (times_over s.modulus (cols_of s t) p y) (times_over s.modulus (rows_of s u) y p')
    else plus s.modulus (times_over s.modulus (cols_of s t) p y) (times_over s.modulus (rows_of s u) y p')) q
    × IsZeroOutside s (rows_of s sum) (cols_of s sum) y
IsValue s (Lu sum) y = (q : Table) × IsValue s sum q
    × Meets s (rows_of s sum) (cols_of s sum)
    (times_over s.modulus (cols_of s sum) (view structures.UnitLower y) (view structures.Upper y)) q
IsValue s (Ldl sum) y = (q : Table) × IsValue s sum q
    × Meets s (rows_of s sum) (cols_of s sum)
    (times_over s.modulus (cols_of s sum) (times_over s.modulus (cols_of s sum) (view structures.UnitLower y) (view structures.Diagonal y)) (transpose (view structures.UnitLower y))) q
