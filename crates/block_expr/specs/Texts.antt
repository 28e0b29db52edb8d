-- Expressions as text.
use Rattle.std.specs.Prelude.{ℕ, List, [], ◌++◌, codes, decimal, Bool, if◌then◌else◌}
use Rattle.operation_spec.specs.declared.operation.Operation.{Operation}
use Rattle.task_graph.specs.Factors.{known}
use Rattle.block_values.specs.declared.leaf.Leaf.{Leaf}
use Rattle.block_values.specs.declared.leaf.Leaf.TheVariants.{Work, Known, Solution, L, D, U}
use Rattle.block_values.specs.Trees.{Tree, Zero, Block, Add, Sub, Mul, SolveLeft, SolveRight, Sylvester, Lu, Ldl}

abbrev pub leaf_text : Operation → Leaf → List ℕ
leaf_text op Work = op.work.name
leaf_text op (Known k) = (known op k).name
leaf_text op Solution = codes "X"
leaf_text op L = codes "X.l"
leaf_text op D = codes "X.d"
leaf_text op U = codes "X.u"

-- the place of a block, in brackets
abbrev pub place_text : ℕ → ℕ → List ℕ
place_text i j = codes "[" ++ decimal i ++ codes "," ++ decimal j ++ codes "]"

abbrev pub prime_text : Bool → List ℕ
prime_text primed = if primed then codes "'" else []

-- what stands between the two factors of Sylvester
abbrev pub between_text : Bool → List ℕ
between_text minus = if minus then codes ",-" else codes ","

abbrev pub tree_text : Operation → Tree → List ℕ
tree_text op Zero = codes "0"
tree_text op (Block leaf primed i j) = leaf_text op leaf ++ prime_text primed ++ place_text i j
tree_text op (Add a b) = tree_text op a ++ codes " + " ++ tree_text op b
tree_text op (Sub a b) = tree_text op a ++ codes " - " ++ tree_text op b
tree_text op (Mul a b) = tree_text op a ++ codes "*" ++ tree_text op b
tree_text op (SolveLeft t sum) = codes "inv(" ++ tree_text op t ++ codes ")*(" ++ tree_text op sum ++ codes ")"
tree_text op (SolveRight sum t) = codes "(" ++ tree_text op sum ++ codes ")*inv(" ++ tree_text op t ++ codes ")"
tree_text op (Sylvester t u minus sum) =
    codes "sylvester(" ++ tree_text op t ++ between_text minus ++ tree_text op u ++ codes "," ++ tree_text op sum ++ codes ")"
tree_text op (Lu sum) = codes "lu(" ++ tree_text op sum ++ codes ")"
tree_text op (Ldl sum) = codes "ldl(" ++ tree_text op sum ++ codes ")"
