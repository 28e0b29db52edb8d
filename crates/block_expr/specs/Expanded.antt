-- The equation of an operation cut into parts: for each block of W the left side and the right side, with every product.
use Rattle.std.specs.Prelude.{◌≡◌, ℕ, zero, suc, List, [], ◌∷◌, Bool, false, true, if◌then◌else◌, map}
use Rattle.residue_sums.specs.Tables.{Table}
use Rattle.operation_spec.specs.declared.operation.Operation.{Operation}
use Rattle.operation_spec.specs.declared.operation.Factor.{Factor}
use Rattle.operation_spec.specs.declared.operation.Term.{Term}
use Rattle.operation_spec.specs.declared.operation.Form.{Form}
use Rattle.operation_spec.specs.declared.operation.Form.TheVariants as forms
use Rattle.equation.specs.declared.job.Place.{Place}
use Rattle.task_graph.specs.Factors.{factor_cols}
use Rattle.task_graph.specs.Tasks.{parts_of}
use Rattle.block_values.specs.declared.leaf.Leaf.{Leaf}
use Rattle.block_values.specs.declared.leaf.Leaf.TheVariants.{Work, Known, Solution, L, D, U}
use Rattle.block_values.specs.Trees.{Tree, Zero, Block, Add, Sub, Mul}
use Rattle.block_values.specs.Values.{Setting, IsValue}
use Rattle.block_values.specs.States.{factor_block}
use Rattle.block_values.specs.PartitionedEquations.{IsBlockEntry}
use Rattle.block_expr.specs.declared.expr.BlockEquation.{BlockEquation}
use Rattle.block_expr.specs.Places.{work_places}
use Rattle.block_expr.specs.Seen.{tree_of}

-- f 0 + f 1 + .. + f (n - 1)
abbrev pub sum_of : (ℕ → Tree) → ℕ → Tree
sum_of f zero = Zero
sum_of f (suc zero) = f zero
sum_of f (suc (suc n)) = Add (sum_of f (suc n)) (f (suc n))

-- the sum of the products of blocks (i, k) of one leaf and (k, j) of another, each perhaps transposed, over n parts
abbrev pub products_of : Leaf → Bool → Leaf → Bool → ℕ → ℕ → ℕ → Tree
products_of a a_primed b b_primed n i j = sum_of (λ k. Mul (Block a a_primed i k) (Block b b_primed k j)) n

abbrev pub times_x : Operation → List ℕ → Factor → ℕ → ℕ → Tree
times_x op counts t i j = products_of (Known t.known) t.primed Solution false (parts_of counts op.work.rows) i j

abbrev pub x_times : Operation → List ℕ → Factor → ℕ → ℕ → Tree
x_times op counts u i j = products_of Solution false (Known u.known) u.primed (parts_of counts op.work.cols) i j

-- the sum over n parts k of block (i, k) of L * D and block (k, j) of L'
abbrev pub ldl_left : ℕ → ℕ → ℕ → Tree
ldl_left n i j = sum_of (λ k. Mul (products_of L false D false n i k) (Block L true k j)) n

-- the left side
abbrev pub left_by : Operation → List ℕ → Form → ℕ → ℕ → Tree
left_by op counts forms.Assign i j = Block Solution false i j
left_by op counts (forms.Left t) i j = times_x op counts t i j
left_by op counts (forms.Right u) i j = x_times op counts u i j
left_by op counts (forms.Sylvester t u minus) i j =
    if minus then Sub (times_x op counts t i j) (x_times op counts u i j) else Add (times_x op counts t i j) (x_times op counts u i j)
left_by op counts forms.Lu i j = products_of L false U false (parts_of counts op.work.cols) i j
left_by op counts forms.Ldl i j = ldl_left (parts_of counts op.work.cols) i j

-- a sum with the product of a term over part k added, or subtracted
abbrev pub with_product : Term → ℕ → ℕ → ℕ → Tree → Tree
with_product term i j k sum = let product = Mul (factor_block term.first i k) (factor_block term.second k j) in
    if term.minus then Sub sum product else Add sum product

-- with its products over the first n parts
abbrev pub with_products : Term → ℕ → ℕ → ℕ → Tree → Tree
with_products term i j zero sum = sum
with_products term i j (suc n) sum = with_product term i j n (with_products term i j n sum)

-- with all products of some terms
abbrev pub with_terms : Operation → List ℕ → ℕ → ℕ → List Term → Tree → Tree
with_terms op counts i j [] sum = sum
with_terms op counts i j (term ∷ terms) sum =
    with_terms op counts i j terms (with_products term i j (parts_of counts (factor_cols op term.first)) sum)

abbrev pub expanded_left : Operation → List ℕ → ℕ → ℕ → Tree
expanded_left op counts i j = left_by op counts op.form i j

abbrev pub expanded_right : Operation → List ℕ → ℕ → ℕ → Tree
expanded_right op counts i j = with_terms op counts i j op.terms (Block Work false i j)

-- ---- the equations of all blocks

-- the equation of one block
pub record Equation : Type 0 where
  pub row : ℕ
  pub col : ℕ
  pub left : Tree
  pub right : Tree

abbrev pub equation_of : BlockEquation → Equation
equation_of e = record { row = e.row; col = e.col; left = tree_of e.left; right = tree_of e.right }

abbrev pub expanded_block : Operation → List ℕ → Place → Equation
expanded_block op counts at = record { row = at.row; col = at.col; left = expanded_left op counts at.row at.col; right = expanded_right op counts at.row at.col }

-- those of the blocks of W's structure, row by row
abbrev pub expanded : Operation → List ℕ → List Equation
expanded op counts = map (expanded_block op counts) (work_places op counts)

-- on the entries of block (i, j) in W's structure both sides have values, and these agree
pub record SidesAgree (s : Setting) (i j : ℕ) (left right : Tree) : Type 0 where
  pub x : Table
  pub y : Table
  pub left_value : IsValue s left x
  pub right_value : IsValue s right y
  pub same : (r c : ℕ) → IsBlockEntry s i j r c → x r c ≡ y r c
