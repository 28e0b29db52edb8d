-- Expressions without what is zero by structure.
use Rattle.std.specs.Prelude.{ℕ, Bool, true, false, ◌||◌, if◌then◌else◌}
use Rattle.structure_rules.specs.declared.Structure.{Structure}
use Rattle.structure_rules.specs.declared.Structure.TheVariants as structures
use Rattle.structure_rules.specs.Structures.{is_zero}
use Rattle.operation_spec.specs.declared.operation.Operation.{Operation}
use Rattle.task_graph.specs.Factors.{known}
use Rattle.block_values.specs.declared.leaf.Leaf.{Leaf}
use Rattle.block_values.specs.declared.leaf.Leaf.TheVariants.{Work, Known, Solution, L, D, U}
use Rattle.block_values.specs.Trees.{Tree, Zero, Block, Add, Sub, Mul, SolveLeft, SolveRight, Sylvester, Lu, Ldl}

-- the structure that the leaf is read through; the work matrix is read as it is stored
abbrev pub leaf_structure : Operation → Leaf → Structure
leaf_structure op Work = structures.General
leaf_structure op (Known k) = (known op k).structure
leaf_structure op Solution = op.work.structure
leaf_structure op L = structures.UnitLower
leaf_structure op D = structures.Diagonal
leaf_structure op U = structures.Upper

-- block (i, j) of the leaf, or of its transpose, is zero by structure
abbrev pub is_zero_block : Operation → Leaf → Bool → ℕ → ℕ → Bool
is_zero_block op leaf primed i j = if primed then is_zero (leaf_structure op leaf) j i else is_zero (leaf_structure op leaf) i j

-- nothing is left
abbrev pub is_none : Tree → Bool
is_none Zero = true
is_none _ = false

abbrev pub simplified_sum : Tree → Tree → Tree
simplified_sum a b = if is_none a then b else (if is_none b then a else Add a b)

abbrev pub simplified_difference : Tree → Tree → Tree
simplified_difference a b = if is_none b then a else Sub a b

abbrev pub simplified_product : Tree → Tree → Tree
simplified_product a b = if is_none a || is_none b then Zero else Mul a b

-- without the blocks that are zero by structure, and the sums and products with them
abbrev pub simplified : Operation → Tree → Tree
simplified op Zero = Zero
simplified op (Block leaf primed i j) = if is_zero_block op leaf primed i j then Zero else Block leaf primed i j
simplified op (Add a b) = simplified_sum (simplified op a) (simplified op b)
simplified op (Sub a b) = simplified_difference (simplified op a) (simplified op b)
simplified op (Mul a b) = simplified_product (simplified op a) (simplified op b)
simplified op (SolveLeft t sum) = SolveLeft (simplified op t) (simplified op sum)
simplified op (SolveRight sum t) = SolveRight (simplified op sum) (simplified op t)
simplified op (Sylvester t u minus sum) = Sylvester (simplified op t) (simplified op u) minus (simplified op sum)
simplified op (Lu sum) = Lu (simplified op sum)
simplified op (Ldl sum) = Ldl (simplified op sum)
