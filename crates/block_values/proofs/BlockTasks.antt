-- The list of a block's tasks: which tasks it has, that it is in order, and that all tasks of the block, in whatever order, become it.
use Rattle.std.proofs.Common.{◌≡◌, ℕ, zero, suc, ◌+◌, ◌-◌, ◌<◌, ◌⊎◌, inl, inr, List, [], ◌∷◌, ◌++◌, length, Bool, true, false, if◌then◌else◌, refl, sym, ap, subst, arith}
use Rattle.std.proofs.lemmas.Bool.{cases_lt}
use Rattle.structure_rules.specs.declared.Structure.TheVariants.{Lower}
use Rattle.operation_spec.specs.declared.operation.Operation.{Operation}
use Rattle.operation_spec.specs.declared.operation.Form.TheVariants.{Ldl}
use Rattle.operation_spec.specs.declared.task.Kind.{Kind}
use Rattle.operation_spec.specs.declared.task.Kind.TheVariants as kinds
use Rattle.operation_spec.specs.declared.task.Task.{Task}
use Rattle.task_graph.specs.Tasks.{has, is_work_block, parts_of}
use Rattle.task_graph.specs.Order.{tasks_of, task_of, rows_descend, cols_descend}
use Rattle.task_graph.specs.Listing.{joined, number_at, task_if_any, updates_of, products_of, inner_count, block_of, blocks_of, rows_of}
use Rattle.task_graph.proofs.TasksInOrder.{rows_of-tasks_of}
use Rattle.task_graph.proofs.TasksSorted.{tasks_of-sorted}
use Rattle.task_graph.proofs.TasksExist.{listed-has}
use Rattle.task_graph.proofs.WorkBlocks.{work-block}
use Rattle.block_values.specs.Orders.{in_order}
use Rattle.block_values.proofs.Orders.{Among, IsBefore, IsSorted, IsOnce, among-contains, IsSorted-pairs, in_order-is}

-- ---- lists part by part

among-append : (a : Task) (xs ys : List Task) → Among a (xs ++ ys) → Among a xs ⊎ Among a ys
among-append a [] ys h = inr h
among-append a (x ∷ xs) ys (inl same) = inl (inl same)
among-append a (x ∷ xs) ys (inr h) = elim (among-append a xs ys h) [
  | inl found ↦ inl (inr found)
  | inr found ↦ inr found
]

among-joined : (a : Task) (f : ℕ → List Task) (n : ℕ) → Among a (joined f n) → (k : ℕ) × (k < n) × Among a (f k)
unfolding joined
among-joined a f zero h = absurd h
among-joined a f (suc n) h = elim (among-append a (joined f n) (f n) h) [
  | inl found ↦ (let rest = among-joined a f n found in (rest.0, omega (arith, rest.1), rest.2))
  | inr found ↦ (n, omega arith, found)
]

before-append : (op : Operation) (a : Task) (xs ys : List Task) → IsBefore op a (xs ++ ys) → IsBefore op a xs
before-append op a [] ys h = tt
before-append op a (x ∷ xs) ys h = (h.0, before-append op a xs ys h.1)

sorted-front : (op : Operation) (xs ys : List Task) → IsSorted op (xs ++ ys) → IsSorted op xs
sorted-front op [] ys h = tt
sorted-front op (x ∷ xs) ys h = (before-append op x xs ys h.0, sorted-front op xs ys h.1)

sorted-behind : (op : Operation) (xs ys : List Task) → IsSorted op (xs ++ ys) → IsSorted op ys
sorted-behind op [] ys h = h
sorted-behind op (x ∷ xs) ys h = sorted-behind op xs ys h.1

sorted-joined : (op : Operation) (f : ℕ → List Task) (n k : ℕ) → k < n → IsSorted op (joined f n) → IsSorted op (f k)
unfolding joined
sorted-joined op f zero k below h = absurd (omega arith)
sorted-joined op f (suc n) k below h = elim (cases_lt k n) [
  | inl less ↦ sorted-joined op f n k less (sorted-front op (joined f n) (f n) h)
  | inr not_less ↦ (let last : k ≡ n = omega arith in rw last (sorted-behind op (joined f n) (f n) h))
]

-- the place of a number in a direction
place_in : Bool → ℕ → ℕ → ℕ
place_in descend n i = if descend then n - 1 - i else i

number_at-place : (descend : Bool) (n i : ℕ) → i < n → (place_in descend n i < n) × (number_at descend n (place_in descend n i) ≡ i)
unfolding place_in
number_at-place true n i below = (omega arith, omega arith)
number_at-place false n i below = (below, refl)

-- ---- the tasks of a block

-- a task of block (i, j) that the operation has
abbrev pub IsTaskAt : Operation → List ℕ → ℕ → ℕ → Task → Type 0
IsTaskAt op counts i j a = (has op counts a ≡ true) × (a.i ≡ i) × (a.j ≡ j)

module _ (op : Operation) (counts : List ℕ) (i j : ℕ) where
  at-if_any : (a : Task) (kind : Kind) (t k : ℕ) → Among a (task_if_any op counts (task_of kind t i j k)) → IsTaskAt op counts i j a
  unfolding task_if_any
  at-if_any a kind t k among = go (has op counts (task_of kind t i j k)) refl among
    where
      go : (b : Bool) → has op counts (task_of kind t i j k) ≡ b → Among a (if b then task_of kind t i j k ∷ [] else []) → IsTaskAt op counts i j a
      go true h (inl same) = (subst (λ z. has op counts z ≡ true) (sym same) h, ap (λ (z : Task). z.i) same, ap (λ (z : Task). z.j) same)
      go true h (inr none) = absurd none
      go false h none = absurd none

  at-updates : (a : Task) (kind : Kind) (t n : ℕ) → Among a (updates_of op counts kind t i j n) → IsTaskAt op counts i j a
  unfolding updates_of
  at-updates a kind t n among = let found = among-joined a (λ k. task_if_any op counts (task_of kind t i j k)) n among in at-if_any a kind t found.0 found.2

  at-products : (a : Task) (n : ℕ) → Among a (products_of op counts i j n) → IsTaskAt op counts i j a
  unfolding products_of
  at-products a n among =
      let found = among-joined a (λ t. updates_of op counts kinds.Term (t + 1) i j (inner_count op counts kinds.Term (t + 1))) n among in
      at-updates a kinds.Term (found.0 + 1) (inner_count op counts kinds.Term (found.0 + 1)) found.2

  -- what the list has
  pub at-block : (a : Task) → Among a (block_of op counts i j) → IsTaskAt op counts i j a
  unfolding block_of
  at-block a among =
      let products = products_of op counts i j (length op.terms) in
      let lefts = updates_of op counts kinds.Left 0 i j (inner_count op counts kinds.Left 0) in
      let rights = updates_of op counts kinds.Right 0 i j (inner_count op counts kinds.Right 0) in
      elim (among-append a (products ++ lefts ++ rights) (task_if_any op counts (task_of kinds.Solve 0 i j 0)) among) [
        | inl updates ↦ (elim (among-append a (products ++ lefts) rights updates) [
          | inl before ↦ (elim (among-append a products lefts before) [
            | inl product ↦ at-products a (length op.terms) product
            | inr left ↦ at-updates a kinds.Left 0 (inner_count op counts kinds.Left 0) left
          ])
          | inr right ↦ at-updates a kinds.Right 0 (inner_count op counts kinds.Right 0) right
        ])
        | inr solve ↦ at-if_any a kinds.Solve 0 0 solve
      ]

  module _ (work : is_work_block op counts i j ≡ true) where
    row_of : ℕ
    row_of = place_in (rows_descend op) (parts_of counts op.work.rows) i

    col_of : ℕ
    col_of = place_in (cols_descend op) (parts_of counts op.work.cols) j

    -- it is in order
    pub sorted-block : IsSorted op (block_of op counts i j)
    unfolding rows_of blocks_of row_of col_of
    sorted-block =
        let rows = parts_of counts op.work.rows in
        let cols = parts_of counts op.work.cols in
        let within = work-block op counts i j work in
        let row = number_at-place (rows_descend op) rows i within.0 in
        let col = number_at-place (cols_descend op) cols j within.1 in
        let all : IsSorted op (rows_of op counts rows) = subst (IsSorted op) (sym (rows_of-tasks_of op counts)) (IsSorted-pairs op (tasks_of op counts) (tasks_of-sorted op counts)) in
        let in_row = sorted-joined op (λ s. blocks_of op counts (number_at (rows_descend op) rows s) cols) rows row_of row.0 all in
        let in_block = sorted-joined op (λ s. block_of op counts (number_at (rows_descend op) rows row_of) (number_at (cols_descend op) cols s)) cols col_of col.0 in_row in
        subst (λ p. IsSorted op (block_of op counts p j)) row.1 (subst (λ q. IsSorted op (block_of op counts (number_at (rows_descend op) rows row_of) q)) col.1 in_block)

-- a task that the operation has is in the list of its block
module _ (op : Operation) (counts : List ℕ) (lower : op.form ≡ Ldl → op.work.structure ≡ Lower) where
  pub block-has : (a : Task) → has op counts a ≡ true → Among a (block_of op counts a.i a.j)
  unfolding rows_of blocks_of
  block-has a h =
      let rows = parts_of counts op.work.rows in
      let cols = parts_of counts op.work.cols in
      let listed : Among a (rows_of op counts rows) = subst (Among a) (sym (rows_of-tasks_of op counts)) (among-contains a (tasks_of op counts) (listed-has op counts a lower h)) in
      let in_row = among-joined a (λ s. blocks_of op counts (number_at (rows_descend op) rows s) cols) rows listed in
      let in_block = among-joined a (λ s. block_of op counts (number_at (rows_descend op) rows in_row.0) (number_at (cols_descend op) cols s)) cols in_row.2 in
      let at = at-block op counts (number_at (rows_descend op) rows in_row.0) (number_at (cols_descend op) cols in_block.0) a in_block.2 in
      subst (λ p. Among a (block_of op counts p a.j)) (sym at.1) (subst (λ q. Among a (block_of op counts (number_at (rows_descend op) rows in_row.0) q)) (sym at.2) in_block.2)

  -- all tasks of a block, in whatever order, become its list
  pub in_order-block : (i j : ℕ) → is_work_block op counts i j ≡ true → (done : List Task) → IsOnce done
      → ((a : Task) → Among a done → IsTaskAt op counts i j a) → ((a : Task) → IsTaskAt op counts i j a → Among a done)
      → in_order op done ≡ block_of op counts i j
  in_order-block i j work done once there back = in_order-is op done (block_of op counts i j) once (sorted-block op counts i j work)
      (λ a among. let at = there a among in
      subst (λ p. Among a (block_of op counts p j)) at.1 (subst (λ q. Among a (block_of op counts a.i q)) at.2 (block-has a at.0)))
      (λ a among. back a (at-block op counts i j a among))
