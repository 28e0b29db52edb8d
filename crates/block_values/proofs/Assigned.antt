-- The block expressions of the form `X = R`, and what is common to all forms.
pub use Rattle.block_values.proofs.Fitting.{IsFitting}
use Rattle.std.proofs.Common.{◌≡◌, ℕ, zero, ◌<◌, inl, inr, List, [], ◌∷◌, ◌++◌, length, Bool, true, false, if◌then◌else◌, refl, sym, ◌∙◌, subst, arith}
use Rattle.std.specs.Prelude.{◌||◌, ◌↔◌}
use Rattle.std.proofs.lemmas.Bool.Decides.{nat_tests}
use Rattle.residue_sums.specs.Tables.{Table}
use Rattle.residue_sums.specs.Grids.{entry}
use Rattle.residue_sums.proofs.Congruence.{Cong-by, same_from_Cong}
use Rattle.residue_sums.proofs.Sums.{sum_below-zero}
use Rattle.structure_rules.specs.declared.Structure.{Structure}
use Rattle.structure_rules.specs.Structures.{IsZero, IsInside, is_zero}
use Rattle.structure_rules.proofs.Views.{IsZero-or_inside}
use Rattle.operation_spec.specs.declared.operation.Operation.{Operation}
use Rattle.operation_spec.specs.declared.operation.Form.{Form}
use Rattle.operation_spec.specs.declared.operation.Form.TheVariants as forms
use Rattle.operation_spec.specs.declared.task.Kind.TheVariants as kinds
use Rattle.operation_spec.specs.declared.task.Task.{Task}
use Rattle.equation.specs.Equations.{left_side, right_side, solution_table}
use Rattle.task_graph.specs.Needs.{is_solve}
use Rattle.task_graph.specs.Order.{task_of}
use Rattle.task_graph.specs.Tasks.{is_work_block, has_solve}
use Rattle.task_graph.specs.Listing.{block_of, products_of, updates_of, task_if_any, inner_count}
use Rattle.block_values.specs.declared.leaf.Leaf.TheVariants.{Work}
use Rattle.block_values.specs.Cuts.{IsIn, part}
use Rattle.block_values.specs.Trees.{Tree, Block, Add, Sub}
use Rattle.block_values.specs.Values.{Setting, IsValue, rows_of, cols_of}
use Rattle.block_values.specs.States.{task_product, task_minus, with_updates, has_solved, solved, full_tree}
use Rattle.block_values.specs.PartitionedEquations.{IsBlockEntry, HasBlock, EquationHolds}
use Rattle.block_values.proofs.PureTrees.{IsPure, value, IsValue-value, value-only}
use Rattle.block_values.proofs.TaskShares.{IsPure-with_updates}
use Rattle.block_values.proofs.ZeroBlocks.{test-from_IsInside}
use Rattle.block_values.proofs.BlockSums.{block_sum, left_shares, right_shares, block_sum-shares, with_updates-below, with_terms-below}

-- ---- the tree of a block

pub rows-with_updates : (s : Setting) (tasks : List Task) (sum : Tree) → rows_of s (with_updates s.op tasks sum) ≡ rows_of s sum
rows-with_updates s [] sum = refl
rows-with_updates s (a ∷ tasks) sum = rows-with_updates s tasks _ ∙ step (is_solve a.kind) (task_minus s.op a.kind a.term) (task_product s.op a.kind a.term a.i a.j a.k)
  where
    step : (solves negative : Bool) (p : Tree) → rows_of s (if solves then sum else (if negative then Sub sum p else Add sum p)) ≡ rows_of s sum
    step true negative p = refl
    step false true p = refl
    step false false p = refl

pub cols-with_updates : (s : Setting) (tasks : List Task) (sum : Tree) → cols_of s (with_updates s.op tasks sum) ≡ cols_of s sum
cols-with_updates s [] sum = refl
cols-with_updates s (a ∷ tasks) sum = cols-with_updates s tasks _ ∙ step (is_solve a.kind) (task_minus s.op a.kind a.term) (task_product s.op a.kind a.term a.i a.j a.k)
  where
    step : (solves negative : Bool) (p : Tree) → cols_of s (if solves then sum else (if negative then Sub sum p else Add sum p)) ≡ cols_of s sum
    step true negative p = refl
    step false true p = refl
    step false false p = refl

has_solved-last : (xs ys : List Task) → has_solved ys ≡ true → has_solved (xs ++ ys) ≡ true
has_solved-last [] ys h = h
has_solved-last (a ∷ xs) ys h = either (is_solve a.kind) (has_solved-last xs ys h)
  where
    either : (b : Bool) {x : Bool} → x ≡ true → (b || x) ≡ true
    either true e = refl
    either false e = e

-- each form but Assign solves its blocks
pub has_solved-block : (op : Operation) (counts : List ℕ) (i j : ℕ) → is_work_block op counts i j ≡ true → has_solve op.form ≡ true → has_solved (block_of op counts i j) ≡ true
unfolding block_of task_if_any
has_solved-block op counts i j work solves = has_solved-last
    (products_of op counts i j (length op.terms) ++ updates_of op counts kinds.Left 0 i j (inner_count op counts kinds.Left 0) ++ updates_of op counts kinds.Right 0 i j (inner_count op counts kinds.Right 0))
    (task_if_any op counts (task_of kinds.Solve 0 i j 0)) (rw work (rw solves refl))

-- with the form at hand, since `rw` of `op.form` finds the operation itself
unsolved : (f : Form) → f ≡ forms.Assign → (b : Bool) (i j : ℕ) (sum : Tree) → (if b then solved f i j sum else sum) ≡ sum
unsolved f e true i j sum = rw e refl
unsolved f e false i j sum = refl

pub solved_by : (f g : Form) → f ≡ g → (b : Bool) → b ≡ true → (i j : ℕ) (sum : Tree) → (if b then solved f i j sum else sum) ≡ solved g i j sum
solved_by f g e true h i j sum = rw e refl
solved_by f g e false h i j sum = absurd (cc)

-- ---- the solution

pub X-inside : (s : Setting) (r c : ℕ) → IsInside s.op.work.structure r c → solution_table s.op s.solution r c ≡ entry s.solution r c
X-inside s r c inside = rw (test-from_IsInside s.op.work.structure r c inside) refl

pub test-from_IsZero : (s : Structure) (i j : ℕ) → IsZero s i j → is_zero s i j ≡ true
test-from_IsZero s i j h = grind (arith, nat_tests)

pub X-zero : (s : Setting) (r c : ℕ) → IsZero s.op.work.structure r c → solution_table s.op s.solution r c ≡ 0
X-zero s r c outside = rw (test-from_IsZero s.op.work.structure r c outside) refl

-- a table that has the solution's entries inside, and zeros outside, is X on the block
pub X-by_places : (s : Setting) (i j : ℕ) (y : Table) → ((r c : ℕ) → IsBlockEntry s i j r c → entry s.solution r c ≡ y r c)
    → ((r c : ℕ) → IsIn (part s.starts s.op.work.rows i) r → IsIn (part s.starts s.op.work.cols j) c → IsZero s.op.work.structure r c → y r c ≡ 0)
    → (r c : ℕ) → IsIn (part s.starts s.op.work.rows i) r → IsIn (part s.starts s.op.work.cols j) c → y r c ≡ solution_table s.op s.solution r c
X-by_places s i j y same zeros r c row col = elim (IsZero-or_inside s.op.work.structure r c) [
  | inl outside ↦ zeros r c row col outside ∙ sym (X-zero s r c outside)
  | inr inside ↦ sym (same r c (record { row = row; col = col; inside = inside })) ∙ sym (X-inside s r c inside)
]

-- ---- sums of a block are residues

pub left_shares-given : (s : Setting) (counts : List ℕ) (i j r c : ℕ) → left_shares s counts i j r c false ≡ 0
left_shares-given s counts i j r c = sum_below-zero _ _ (λ k below. either _)
  where
    either : (b : Bool) → (if b then zero else zero) ≡ zero
    either true = refl
    either false = refl

module _ (s : Setting) (lengths : ℕ → ℕ) (counts : List ℕ) (is : IsFitting s lengths counts) (i j r c : ℕ) where
  pub block_sum-below : block_sum s counts i j r c < s.modulus
  block_sum-below = with_updates-below s (block_of s.op counts i j) (Block Work false i j) r c is.pos (is.work_residues r c)

  pub right_side-below : right_side s.modulus s.op s.knowns s.work r c < s.modulus
  right_side-below = with_terms-below s s.op.terms (entry s.work) r c is.pos (is.work_residues r c)

  -- ---- X = R

  module _ (form : s.op.form ≡ forms.Assign) (work : is_work_block s.op counts i j ≡ true) where
    assign-sum : IsBlockEntry s i j r c → block_sum s counts i j r c ≡ right_side s.modulus s.op s.knowns s.work r c
    assign-sum within =
        let lefts : (taken : Bool) → left_shares s counts i j r c taken ≡ 0 = λ taken. rw form refl in
        let rights : (taken : Bool) → right_shares s counts i j r c taken ≡ 0 = λ taken. rw form refl in
        same_from_Cong block_sum-below right_side-below
        (Cong-by (block_sum-shares s lengths counts is.cut is.pos is.terms i j r c within.row within.col work) (omega (arith, lefts true, lefts false, rights true, rights false)))

module _ (s : Setting) (lengths : ℕ → ℕ) (counts : List ℕ) (is : IsFitting s lengths counts) (form : s.op.form ≡ forms.Assign)
    (i j : ℕ) (work : is_work_block s.op counts i j ≡ true) where
  sum : Tree
  sum = with_updates s.op (block_of s.op counts i j) (Block Work false i j)

  tree_is : full_tree s.op counts i j ≡ sum
  unfolding sum
  tree_is = unsolved s.op.form form (has_solved (block_of s.op counts i j)) i j (with_updates s.op (block_of s.op counts i j) (Block Work false i j))

  pure : IsPure sum
  unfolding sum
  pure = IsPure-with_updates s (block_of s.op counts i j) (Block Work false i j) tt

  left_is : (r c : ℕ) → IsBlockEntry s i j r c → left_side s.modulus s.op s.knowns s.solution r c ≡ entry s.solution r c
  left_is r c within = rw form (X-inside s r c within.inside)

  -- a block has its value exactly where the equation of the whole holds on it
  pub assigned_block : HasBlock s i j (full_tree s.op counts i j) ↔ EquationHolds s i j
  unfolding sum
  assigned_block = (
    λ has r c within.
        let is_value : IsValue s sum has.y = subst (λ e. IsValue s e has.y) tree_is has.value in
        left_is r c within ∙ has.same r c within ∙ value-only s sum has.y pure is_value r c ∙ assign-sum s lengths counts is i j r c form work within,
    λ holds. record {
      y = value s sum;
      value = subst (λ e. IsValue s e (value s sum)) (sym tree_is) (IsValue-value s sum pure);
      same = λ r c within. sym (left_is r c within) ∙ holds r c within ∙ sym (assign-sum s lengths counts is i j r c form work within);
    },
  )
