-- Expressions whose blocks fit together, as `expand` and `state_expr` make them, and when two expressions stand for the same.
use Rattle.std.specs.Prelude.{◌≡◌, ℕ, false}
use Rattle.residue_sums.specs.Tables.{Table}
use Rattle.operation_spec.specs.declared.operation.Operation.{Operation}
use Rattle.block_values.specs.declared.leaf.Leaf.{Leaf}
use Rattle.block_values.specs.declared.leaf.Leaf.TheVariants.{Work, L, D, U}
use Rattle.block_values.specs.Cuts.{IsIn}
use Rattle.block_values.specs.Trees.{Tree, Zero, Block, Add, Sub, Mul, SolveLeft, SolveRight, Sylvester, Lu, Ldl}
use Rattle.block_values.specs.Values.{Setting, IsValue, rows_of, cols_of}
use Rattle.block_expr.specs.Simplified.{is_zero_block}

-- of one block's rows and columns
abbrev pub HaveOneShape : Setting → Tree → Tree → Type 0
HaveOneShape s a b = (rows_of s b ≡ rows_of s a) × (cols_of s b ≡ cols_of s a)

-- the factors in the packed solution are those of a square W
abbrev pub IsReadable : Setting → Leaf → Type 0
IsReadable s L = s.op.work.rows ≡ s.op.work.cols
IsReadable s D = s.op.work.rows ≡ s.op.work.cols
IsReadable s U = s.op.work.rows ≡ s.op.work.cols
IsReadable s _ = Unit {0}

-- a block, or a sum of products of such
abbrev pub IsSum : Setting → Tree → Type 0
IsSum s (Block leaf primed i j) = IsReadable s leaf
IsSum s (Add a b) = IsSum s a × IsSum s b × HaveOneShape s a b
IsSum s (Mul a b) = IsSum s a × IsSum s b × (rows_of s b ≡ cols_of s a)
IsSum s _ = ⊥

-- a block of W with sums added and subtracted
abbrev pub IsRunning : Setting → Tree → Type 0
IsRunning s (Block leaf primed i j) = leaf ≡ Work
IsRunning s (Add a b) = IsRunning s a × IsSum s b × HaveOneShape s a b
IsRunning s (Sub a b) = IsRunning s a × IsSum s b × HaveOneShape s a b
IsRunning s _ = ⊥

-- sums added and subtracted
abbrev pub IsFlat : Setting → Tree → Type 0
IsFlat s (Block leaf primed i j) = IsReadable s leaf
IsFlat s (Add a b) = IsFlat s a × IsSum s b × HaveOneShape s a b
IsFlat s (Sub a b) = IsFlat s a × IsSum s b × HaveOneShape s a b
IsFlat s (Mul a b) = IsSum s (Mul a b)
IsFlat s _ = ⊥

-- sums added and subtracted, or a block of W with such, solved
abbrev pub IsShaped : Setting → Tree → Type 0
IsShaped s (SolveLeft t sum) = IsSum s t × IsRunning s sum × (rows_of s t ≡ rows_of s sum)
IsShaped s (SolveRight sum t) = IsSum s t × IsRunning s sum × (cols_of s t ≡ cols_of s sum)
IsShaped s (Sylvester t u minus sum) = IsSum s t × IsSum s u × IsRunning s sum × (rows_of s t ≡ rows_of s sum) × (cols_of s u ≡ cols_of s sum)
IsShaped s (Lu sum) = IsRunning s sum
IsShaped s (Ldl sum) = IsRunning s sum
IsShaped s e = IsFlat s e

-- two tables that agree on the places of an expression's block
abbrev pub AgreeOn : Setting → Tree → Table → Table → Type 0
AgreeOn s e x y = (r c : ℕ) → IsIn (rows_of s e) r → IsIn (cols_of s e) c → x r c ≡ y r c

-- each value of one expression is, on the places of e, one of the other
abbrev pub HasValuesOf : Setting → Tree → Tree → Tree → Type 0
HasValuesOf s e a b = (x : Table) → IsValue s a x → (y : Table) × IsValue s b y × AgreeOn s e x y

-- no block is zero by structure
abbrev pub HasNoZeroBlock : Operation → Tree → Type 0
HasNoZeroBlock op Zero = Unit {0}
HasNoZeroBlock op (Block leaf primed i j) = is_zero_block op leaf primed i j ≡ false
HasNoZeroBlock op (Add a b) = HasNoZeroBlock op a × HasNoZeroBlock op b
HasNoZeroBlock op (Sub a b) = HasNoZeroBlock op a × HasNoZeroBlock op b
HasNoZeroBlock op (Mul a b) = HasNoZeroBlock op a × HasNoZeroBlock op b
HasNoZeroBlock op (SolveLeft t sum) = HasNoZeroBlock op t × HasNoZeroBlock op sum
HasNoZeroBlock op (SolveRight sum t) = HasNoZeroBlock op sum × HasNoZeroBlock op t
HasNoZeroBlock op (Sylvester t u minus sum) = HasNoZeroBlock op t × HasNoZeroBlock op u × HasNoZeroBlock op sum
HasNoZeroBlock op (Lu sum) = HasNoZeroBlock op sum
HasNoZeroBlock op (Ldl sum) = HasNoZeroBlock op sum
