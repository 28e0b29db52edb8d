-- The tasks that are listed are those that exist. Cited by the law that says so.
use Rattle.std.proofs.Common.{◌≡◌, ℕ, zero, suc, ◌+◌, ◌<◌, inl, inr, subst, List, [], ◌∷◌, ◌++◌, length, Bool, true, false, ◌&&◌, not, nat_lt, min, refl, sym, arith}
use Rattle.std.specs.Prelude.{◌==◌, if◌then◌else◌, Contains, All}
use Rattle.std.specs.List.{flat_map}
use Rattle.std.proofs.lemmas.Bool.{and_from, and_parts, eqb-true, ltb-true}
use Rattle.std.proofs.lemmas.List.Elements.{All-append, All-nil, All-contains, Contains-append_left, Contains-append_right, filter_passes}
use Rattle.structure_rules.specs.declared.Structure.TheVariants.{Lower}
use Rattle.operation_spec.specs.declared.operation.Operation.{Operation}
use Rattle.operation_spec.specs.declared.operation.Form.{Form}
use Rattle.operation_spec.specs.declared.operation.Form.TheVariants.{Assign, Left, Right, Sylvester, Lu, Ldl}
use Rattle.operation_spec.specs.declared.operation.Term.{Term}
use Rattle.operation_spec.specs.declared.task.Kind.{Kind}
use Rattle.operation_spec.specs.declared.task.Kind.TheVariants as kinds
use Rattle.operation_spec.specs.declared.task.Task.{Task}
use Rattle.task_graph.specs.Factors.{factor_cols}
use Rattle.task_graph.specs.Tasks.{parts_of, is_work_block, is_inside, has_term, has_left, has_right, has_solve, has_task, has}
use Rattle.task_graph.specs.Order.{numbers_in, candidates, tasks_of, rows_descend, cols_descend, task_of}
use Rattle.task_graph.specs.Classes.{inner_dim_of}
use Rattle.task_graph.specs.Listing.{joined, number_at, task_if_any, updates_of, may_have, inner_count, products_of, block_of, blocks_of, rows_of}
use Rattle.task_graph.proofs.WorkBlocks.{work-block, lower-block}
use Rattle.task_graph.proofs.Joined.{below_or_last}
use Rattle.task_graph.proofs.TasksInOrder.{rows_of-tasks_of}

-- ---- what is listed exists

All-flat_map : {X Y : Type 0} (P : Y → Type 0) (f : X → List Y) → ((x : X) → All P (f x)) → (xs : List X) → All P (flat_map f xs)
All-flat_map P f each [] = All-nil P
All-flat_map P f each (x ∷ xs) = All-append P (f x) (flat_map f xs) (each x) (All-flat_map P f each xs)

-- each task of the list is one that the operation has
pub has-listed : (op : Operation) (counts : List ℕ) (a : Task) → Contains (tasks_of op counts) a → has op counts a ≡ true
has-listed op counts a h = All-contains (λ b. has op counts b ≡ true) (tasks_of op counts) a
    (All-flat_map (λ b. has op counts b ≡ true) _ (λ i. All-flat_map (λ b. has op counts b ≡ true) _ (λ j. filter_passes (has op counts) (candidates op counts i j)) (numbers_in (cols_descend op) (parts_of counts op.work.cols)))
    (numbers_in (rows_descend op) (parts_of counts op.work.rows))) h

-- ---- what exists is listed

-- what a part has, all have
Contains-joined : (f : ℕ → List Task) (k n : ℕ) (a : Task) → k < n → Contains (f k) a → Contains (joined f n) a
unfolding joined
Contains-joined f k zero a h c = absurd (omega arith)
Contains-joined f k (suc n) a h c = elim (below_or_last k n h) [
  | inl below ↦ Contains-append_left (joined f n) (f n) a (Contains-joined f k n a below c)
  | inr last ↦ Contains-append_right (joined f n) (f n) a (subst (λ m. Contains (f m) a) last c)
]

-- a task that exists is the one that is added
Contains-task_if_any : (op : Operation) (counts : List ℕ) (a : Task) → has op counts a ≡ true → Contains (task_if_any op counts a) a
unfolding task_if_any
Contains-task_if_any op counts a h = rw h (0, omega arith, refl)

-- an update stands at its inner part
Contains-updates_of : (op : Operation) (counts : List ℕ) (kind : Kind) (t i j k n : ℕ) → k < n
    → has op counts (task_of kind t i j k) ≡ true → Contains (updates_of op counts kind t i j n) (task_of kind t i j k)
unfolding updates_of
Contains-updates_of op counts kind t i j k n h e =
    Contains-joined (λ k. task_if_any op counts (task_of kind t i j k)) k n (task_of kind t i j k) h (Contains-task_if_any op counts (task_of kind t i j k) e)

-- a product's term is in the list of terms, and its inner part is below the parts of their inner dimension
has_term-within : (op : Operation) (counts : List ℕ) (terms : List Term) (t i j k : ℕ) → has_term op counts terms t i j k ≡ true
    → (t < length terms) × (k < parts_of counts (inner_dim_of op terms t))
has_term-within op counts [] t i j k h = cc
has_term-within op counts (term ∷ terms) zero i j k h =
    let p = and_parts (nat_lt k (parts_of counts (factor_cols op term.first)) && is_inside op term.first i k) (is_inside op term.second k j) h in
    (omega arith, ltb-true k (parts_of counts (factor_cols op term.first)) (and_parts (nat_lt k (parts_of counts (factor_cols op term.first))) (is_inside op term.first i k) p.0).0)
has_term-within op counts (term ∷ terms) (suc t) i j k h = let p = has_term-within op counts terms t i j k h in (omega arith, p.1)

-- the inner part of an update on the left is below the parts of W's rows
has_left-within : (op : Operation) (counts : List ℕ) (form : Form) (i j k : ℕ) → (form ≡ Ldl → op.work.structure ≡ Lower)
    → is_work_block op counts i j ≡ true → has_left op counts form i j k ≡ true → k < parts_of counts op.work.rows
has_left-within op counts Assign i j k lower block h = cc
has_left-within op counts (Left f) i j k lower block h = (work-block op counts k j (and_parts (is_inside op f i k && not (i == k)) (is_work_block op counts k j) h).1).0
has_left-within op counts (Right f) i j k lower block h = cc
has_left-within op counts (Sylvester f g minus) i j k lower block h = (work-block op counts k j (and_parts (is_inside op f i k && not (i == k)) (is_work_block op counts k j) h).1).0
has_left-within op counts Lu i j k lower block h = omega (arith, ltb-true k (min i j) h, (work-block op counts i j block).0)
has_left-within op counts Ldl i j k lower block h = omega (arith, ltb-true k j h, lower-block op counts i j (lower refl) block, (work-block op counts i j block).0)

-- the inner part of an update on the right is below the parts of W's columns
has_right-within : (op : Operation) (counts : List ℕ) (form : Form) (i j k : ℕ) → has_right op counts form i j k ≡ true → k < parts_of counts op.work.cols
has_right-within op counts Assign i j k h = cc
has_right-within op counts (Left f) i j k h = cc
has_right-within op counts (Right f) i j k h = (work-block op counts i k (and_parts (is_inside op f k j && not (k == j)) (is_work_block op counts i k) h).1).1
has_right-within op counts (Sylvester f g minus) i j k h = (work-block op counts i k (and_parts (is_inside op g k j && not (k == j)) (is_work_block op counts i k) h).1).1
has_right-within op counts Lu i j k h = cc
has_right-within op counts Ldl i j k h = cc

-- a form with an update on the left may have one, so that all inner parts count
has_left-counted : (op : Operation) (counts : List ℕ) (form : Form) (i j k n : ℕ) → has_left op counts form i j k ≡ true → k < n → k < (if may_have kinds.Left form then n else 0)
has_left-counted op counts Assign i j k n h below = cc
has_left-counted op counts (Left f) i j k n h below = below
has_left-counted op counts (Right f) i j k n h below = cc
has_left-counted op counts (Sylvester f g minus) i j k n h below = below
has_left-counted op counts Lu i j k n h below = below
has_left-counted op counts Ldl i j k n h below = below

-- the same on the right
has_right-counted : (op : Operation) (counts : List ℕ) (form : Form) (i j k n : ℕ) → has_right op counts form i j k ≡ true → k < n → k < (if may_have kinds.Right form then n else 0)
has_right-counted op counts Assign i j k n h below = cc
has_right-counted op counts (Left f) i j k n h below = cc
has_right-counted op counts (Right f) i j k n h below = below
has_right-counted op counts (Sylvester f g minus) i j k n h below = below
has_right-counted op counts Lu i j k n h below = cc
has_right-counted op counts Ldl i j k n h below = cc

-- ---- a task of a block is in the block's list

-- the four parts of a block
in_products : (a b c d : List Task) (x : Task) → Contains a x → Contains (a ++ b ++ c ++ d) x
in_products a b c d x h = Contains-append_left (a ++ b ++ c) d x (Contains-append_left (a ++ b) c x (Contains-append_left a b x h))

in_lefts : (a b c d : List Task) (x : Task) → Contains b x → Contains (a ++ b ++ c ++ d) x
in_lefts a b c d x h = Contains-append_left (a ++ b ++ c) d x (Contains-append_left (a ++ b) c x (Contains-append_right a b x h))

in_rights : (a b c d : List Task) (x : Task) → Contains c x → Contains (a ++ b ++ c ++ d) x
in_rights a b c d x h = Contains-append_left (a ++ b ++ c) d x (Contains-append_right (a ++ b) c x h)

in_solve : (a b c d : List Task) (x : Task) → Contains d x → Contains (a ++ b ++ c ++ d) x
in_solve a b c d x h = Contains-append_right (a ++ b ++ c) d x h

Contains-products_of : (op : Operation) (counts : List ℕ) (t i j k : ℕ) → is_work_block op counts i j ≡ true
    → has_term op counts op.terms t i j k ≡ true → Contains (products_of op counts i j (length op.terms)) (task_of kinds.Term (suc t) i j k)
unfolding products_of
Contains-products_of op counts t i j k block h =
    let w = has_term-within op counts op.terms t i j k h in
    let number : suc t ≡ t + 1 = omega arith in
    let here = Contains-updates_of op counts kinds.Term (suc t) i j k (inner_count op counts kinds.Term (suc t)) w.1 (and_from (is_work_block op counts i j) (has_term op counts op.terms t i j k) block h) in
    Contains-joined (λ u. updates_of op counts kinds.Term (u + 1) i j (inner_count op counts kinds.Term (u + 1))) t (length op.terms) (task_of kinds.Term (suc t) i j k) w.0
    (subst (λ u. Contains (updates_of op counts kinds.Term u i j (inner_count op counts kinds.Term u)) (task_of kinds.Term (suc t) i j k)) number here)

-- an update on one side stands in its list
Contains-side : (op : Operation) (counts : List ℕ) (kind : Kind) (t i j k n : ℕ) → t ≡ 0 → k < n
    → has op counts (task_of kind t i j k) ≡ true → Contains (updates_of op counts kind 0 i j n) (task_of kind t i j k)
Contains-side op counts kind t i j k n zero_term below h =
    subst (λ u. Contains (updates_of op counts kind u i j n) (task_of kind t i j k)) zero_term (Contains-updates_of op counts kind t i j k n below h)

-- the solve of a block
Contains-solve : (op : Operation) (counts : List ℕ) (t i j k : ℕ) → t ≡ 0 → k ≡ 0
    → has op counts (task_of kinds.Solve t i j k) ≡ true → Contains (task_if_any op counts (task_of kinds.Solve 0 i j 0)) (task_of kinds.Solve t i j k)
Contains-solve op counts t i j k zero_term zero_part h =
    subst (λ u. Contains (task_if_any op counts (task_of kinds.Solve u i j 0)) (task_of kinds.Solve t i j k)) zero_term
    (subst (λ l. Contains (task_if_any op counts (task_of kinds.Solve t i j l)) (task_of kinds.Solve t i j k)) zero_part (Contains-task_if_any op counts (task_of kinds.Solve t i j k) h))

-- any task of the block
Contains-block_of : (op : Operation) (counts : List ℕ) (kind : Kind) (t i j k : ℕ) → (op.form ≡ Ldl → op.work.structure ≡ Lower)
    → is_work_block op counts i j ≡ true → has_task op counts kind t i j k ≡ true → Contains (block_of op counts i j) (task_of kind t i j k)
unfolding block_of
Contains-block_of op counts kind t i j k lower block h = go kind t h
  where
    products : List Task
    products = products_of op counts i j (length op.terms)

    lefts : List Task
    lefts = updates_of op counts kinds.Left 0 i j (inner_count op counts kinds.Left 0)

    rights : List Task
    rights = updates_of op counts kinds.Right 0 i j (inner_count op counts kinds.Right 0)

    solve : List Task
    solve = task_if_any op counts (task_of kinds.Solve 0 i j 0)

    go : (kind : Kind) (t : ℕ) → has_task op counts kind t i j k ≡ true → Contains (products ++ lefts ++ rights ++ solve) (task_of kind t i j k)
    go kinds.Pivots t h = cc
    go kinds.Term zero h = cc
    go kinds.Term (suc t) h = in_products products lefts rights solve _ (Contains-products_of op counts t i j k block h)
    go kinds.Left t h = let p = and_parts (t == 0) (has_left op counts op.form i j k) h in
        in_lefts products lefts rights solve _ (Contains-side op counts kinds.Left t i j k (inner_count op counts kinds.Left 0) (eqb-true t 0 p.0)
        (has_left-counted op counts op.form i j k (parts_of counts op.work.rows) p.1 (has_left-within op counts op.form i j k lower block p.1)) (and_from (is_work_block op counts i j) (t == 0 && has_left op counts op.form i j k) block h))
    go kinds.Right t h = let p = and_parts (t == 0) (has_right op counts op.form i j k) h in
        in_rights products lefts rights solve _ (Contains-side op counts kinds.Right t i j k (inner_count op counts kinds.Right 0) (eqb-true t 0 p.0)
        (has_right-counted op counts op.form i j k (parts_of counts op.work.cols) p.1 (has_right-within op counts op.form i j k p.1)) (and_from (is_work_block op counts i j) (t == 0 && has_right op counts op.form i j k) block h))
    go kinds.Solve t h = let p = and_parts (t == 0 && k == 0) (has_solve op.form) h in
        let q = and_parts (t == 0) (k == 0) p.0 in
        in_solve products lefts rights solve _ (Contains-solve op counts t i j k (eqb-true t 0 q.0) (eqb-true k 0 q.1) (and_from (is_work_block op counts i j) (t == 0 && k == 0 && has_solve op.form) block h))

-- ---- and a block is in the list of all

-- each number below n stands at a place
number_at-twice : (descend : Bool) (n s : ℕ) → s < n → (number_at descend n s < n) × (number_at descend n (number_at descend n s) ≡ s)
number_at-twice true n s h = (omega arith, omega arith)
number_at-twice false n s h = (h, refl)

-- each task that the operation has is in the list
pub listed-has : (op : Operation) (counts : List ℕ) (a : Task) → (op.form ≡ Ldl → op.work.structure ≡ Lower)
    → has op counts a ≡ true → Contains (tasks_of op counts) a
unfolding blocks_of rows_of
listed-has op counts a lower h =
    let rows = parts_of counts op.work.rows in
    let cols = parts_of counts op.work.cols in
    let p = and_parts (is_work_block op counts a.i a.j) (has_task op counts a.kind a.term a.i a.j a.k) h in
    let within = work-block op counts a.i a.j p.0 in
    let row = number_at-twice (rows_descend op) rows a.i within.0 in
    let col = number_at-twice (cols_descend op) cols a.j within.1 in
    let in_block = Contains-block_of op counts a.kind a.term a.i a.j a.k lower p.0 p.1 in
    let in_row = Contains-joined (λ s. block_of op counts a.i (number_at (cols_descend op) cols s)) (number_at (cols_descend op) cols a.j) cols a col.0
    (subst (λ j. Contains (block_of op counts a.i j) a) (sym col.1) in_block) in
    let in_all = Contains-joined (λ s. blocks_of op counts (number_at (rows_descend op) rows s) cols) (number_at (rows_descend op) rows a.i) rows a row.0
    (subst (λ i. Contains (blocks_of op counts i cols) a) (sym row.1) in_row) in
    subst (λ xs. Contains xs a) (rows_of-tasks_of op counts) in_all
