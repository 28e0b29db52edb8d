-- The tasks of an operation are listed in canonical order. Cited by the law that says so.
use Rattle.std.proofs.Common.{◌≡◌, ◌≢◌, ℕ, zero, suc, ◌+◌, ◌-◌, ◌<◌, ◌≤◌, inl, inr, subst, List, [], ◌∷◌, ◌++◌, length, get_or, Bool, true, false, cond, refl, sym, ap, ◌∙◌, arith, length-append}
use Rattle.std.specs.Prelude.{All, AllPairs}
use Rattle.std.proofs.lemmas.Bool.{cases_lt, both_ways, lt-ltb}
use Rattle.std.proofs.lemmas.List.{get_or_append_left, get_or-append_right}
use Rattle.std.proofs.lemmas.List.Elements.{All-append, All-nil, All-cons, All-filter, All-weaker}
use Rattle.operation_spec.specs.declared.operation.Operation.{Operation}
use Rattle.operation_spec.specs.declared.task.Kind.{Kind}
use Rattle.operation_spec.specs.declared.task.Kind.TheVariants as kinds
use Rattle.operation_spec.specs.declared.task.Task.{Task}
use Rattle.task_graph.specs.Tasks.{parts_of, has}
use Rattle.task_graph.specs.Order.{is_earlier, comes_before, tasks_of, rows_descend, cols_descend, task_of, rank}
use Rattle.task_graph.specs.Listing.{joined, number_at, task_if_any, updates_of, inner_count, products_of, block_of, blocks_of, rows_of}
use Rattle.task_graph.proofs.EarlierTasks.{earlier-by_row, earlier-by_col, earlier-by_kind, earlier-by_term, earlier-by_inner, is_earlier-same}
use Rattle.task_graph.proofs.TasksInOrder.{rows_of-tasks_of}

-- ---- facts and pairs of joined lists

-- two lists in order, of which each item of the first goes before each of the second
pub AllPairs-append : {X : Type 0} (R : X → X → Type 0) (P Q : X → Type 0) (xs ys : List X) → AllPairs R xs → AllPairs R ys → All P xs → All Q ys
    → ((x y : X) → P x → Q y → R x y) → AllPairs R (xs ++ ys)
AllPairs-append R P Q xs ys first second ps qs apart i j d h k = elim (cases_lt j (length xs)) [
  | inl in_first ↦ (let before : i < length xs = omega arith in
      rw (get_or_append_left xs ys d i before, get_or_append_left xs ys d j in_first) (first i j d h in_first))
  | inr past ↦ (let within : j - length xs < length ys = omega (arith, length-append xs ys) in elim (cases_lt i (length xs)) [
    | inl before ↦ rw (get_or_append_left xs ys d i before, get_or-append_right xs ys (length xs) j d refl past) (apart _ _ (ps i d before) (qs (j - length xs) d within))
    | inr behind ↦ rw (get_or-append_right xs ys (length xs) i d refl behind, get_or-append_right xs ys (length xs) j d refl past)
        (second (i - length xs) (j - length xs) d (omega arith) within)
  ])
]

-- a fact of each part
All-joined : (Q : Task → Type 0) (f : ℕ → List Task) (n : ℕ) → ((k : ℕ) → All Q (f k)) → All Q (joined f n)
unfolding joined
All-joined Q f zero each = All-nil Q
All-joined Q f (suc n) each = All-append Q (joined f n) (f n) (All-joined Q f n each) (each n)

-- the same with the place of the part
All-joined_at : (P : ℕ → Task → Type 0) (f : ℕ → List Task) (n : ℕ) → ((k : ℕ) → All (P k) (f k)) → All (λ a. (k : ℕ) × (k < n) × P k a) (joined f n)
unfolding joined
All-joined_at P f zero each = All-nil (λ a. (k : ℕ) × (k < 0) × P k a)
All-joined_at P f (suc n) each =
    let Within : Task → Type 0 = λ a. (k : ℕ) × (k < suc n) × P k a in
    All-append Within (joined f n) (f n)
    (All-weaker (λ a. (k : ℕ) × (k < n) × P k a) Within (λ a p. (p.0, omega arith, p.2)) (joined f n) (All-joined_at P f n each))
    (All-weaker (P n) Within (λ a p. (n, omega arith, p)) (f n) (each n))

-- parts in order, of which each item of one goes before each of a later one
AllPairs-joined : (R : Task → Task → Type 0) (P : ℕ → Task → Type 0) (f : ℕ → List Task) (n : ℕ) → ((k : ℕ) → All (P k) (f k)) → ((k : ℕ) → AllPairs R (f k))
    → ((k l : ℕ) (a b : Task) → k < l → l < n → P k a → P l b → R a b) → AllPairs R (joined f n)
unfolding joined
AllPairs-joined R P f zero each within apart = λ i j d h k. absurd (omega arith)
AllPairs-joined R P f (suc n) each within apart =
    AllPairs-append R (λ a. (k : ℕ) × (k < n) × P k a) (P n) (joined f n) (f n)
    (AllPairs-joined R P f n each within (λ k l a b h i p q. apart k l a b h (omega arith) p q)) (within n)
    (All-joined_at P f n each) (each n)
    (λ a b before p. apart before.0 n a b before.1 (omega arith) before.2 p)

-- ---- the parts of a block

-- a list in canonical order
abbrev IsInOrder : Operation → List Task → Type 0
IsInOrder op xs = AllPairs (λ a b. is_earlier op a b ≡ true) xs

-- a task of block (i, j)
abbrev IsAt : ℕ → ℕ → Task → Type 0
IsAt i j a = (a.i ≡ i) × (a.j ≡ j)

-- a task of the block of this kind
abbrev IsOf : Kind → ℕ → ℕ → Task → Type 0
IsOf kind i j a = IsAt i j a × (a.kind ≡ kind)

-- a task of the block whose kind comes no later than at place n
abbrev IsUpTo : ℕ → ℕ → ℕ → Task → Type 0
IsUpTo n i j a = IsAt i j a × (rank a.kind ≤ n)

-- a task that is added is that task
All-task_if_any : (op : Operation) (counts : List ℕ) (a : Task) → All (λ b. b ≡ a) (task_if_any op counts a)
unfolding task_if_any
All-task_if_any op counts a = All-filter (has op counts) (λ b. b ≡ a) (a ∷ []) (All-cons (λ b. b ≡ a) a [] refl (All-nil (λ b. b ≡ a)))

-- a list of at most one task has no pair
AllPairs-cond : (R : Task → Task → Type 0) (b : Bool) (a : Task) → AllPairs R (cond b (a ∷ []) [])
AllPairs-cond R true a i j d h k = absurd (omega arith)
AllPairs-cond R false a i j d h k = absurd (omega arith)

AllPairs-task_if_any : (R : Task → Task → Type 0) (op : Operation) (counts : List ℕ) (a : Task) → AllPairs R (task_if_any op counts a)
unfolding task_if_any
AllPairs-task_if_any R op counts a = AllPairs-cond R (has op counts a) a

-- the updates of a kind and term
All-updates_of : (op : Operation) (counts : List ℕ) (kind : Kind) (t i j n : ℕ) → All (λ a. IsOf kind i j a × (a.term ≡ t)) (updates_of op counts kind t i j n)
unfolding updates_of
All-updates_of op counts kind t i j n = All-joined (λ a. IsOf kind i j a × (a.term ≡ t)) (λ k. task_if_any op counts (task_of kind t i j k)) n
    (λ k. All-weaker (λ b. b ≡ task_of kind t i j k) (λ a. IsOf kind i j a × (a.term ≡ t))
    (λ a e. (((ap (λ (b : Task). b.i) e, ap (λ (b : Task). b.j) e), ap (λ (b : Task). b.kind) e), ap (λ (b : Task). b.term) e))
    (task_if_any op counts (task_of kind t i j k)) (All-task_if_any op counts (task_of kind t i j k)))

updates_of-sorted : (op : Operation) (counts : List ℕ) (kind : Kind) (t i j n : ℕ) → IsInOrder op (updates_of op counts kind t i j n)
unfolding updates_of
updates_of-sorted op counts kind t i j n = AllPairs-joined (λ a b. is_earlier op a b ≡ true) (λ k a. a ≡ task_of kind t i j k) (λ k. task_if_any op counts (task_of kind t i j k)) n
    (λ k. All-task_if_any op counts (task_of kind t i j k)) (λ k. AllPairs-task_if_any (λ a b. is_earlier op a b ≡ true) op counts (task_of kind t i j k))
    (λ k l a b h within p q. subst (λ x. is_earlier op x b ≡ true) (sym p) (subst (λ y. is_earlier op (task_of kind t i j k) y ≡ true) (sym q) (earlier-by_inner op kind t i j k l h)))

-- the products of the terms
All-products_of : (op : Operation) (counts : List ℕ) (i j n : ℕ) → All (IsOf kinds.Term i j) (products_of op counts i j n)
unfolding products_of
All-products_of op counts i j n = All-joined (IsOf kinds.Term i j) (λ t. updates_of op counts kinds.Term (t + 1) i j (inner_count op counts kinds.Term (t + 1))) n
    (λ t. All-weaker (λ a. IsOf kinds.Term i j a × (a.term ≡ t + 1)) (IsOf kinds.Term i j) (λ a p. p.0) _ (All-updates_of op counts kinds.Term (t + 1) i j _))

products_of-sorted : (op : Operation) (counts : List ℕ) (i j n : ℕ) → IsInOrder op (products_of op counts i j n)
unfolding products_of
products_of-sorted op counts i j n = AllPairs-joined (λ a b. is_earlier op a b ≡ true) (λ t a. IsOf kinds.Term i j a × (a.term ≡ t + 1))
    (λ t. updates_of op counts kinds.Term (t + 1) i j (inner_count op counts kinds.Term (t + 1))) n
    (λ t. All-updates_of op counts kinds.Term (t + 1) i j _) (λ t. updates_of-sorted op counts kinds.Term (t + 1) i j _)
    (λ k l a b h within p q. earlier-by_term op a b (p.0.0.0 ∙ sym q.0.0.0) (p.0.0.1 ∙ sym q.0.0.1) (p.0.1 ∙ sym q.0.1) (omega (arith, p.1, q.1)))

-- tasks of a next kind come behind those of kinds before it
next_kind : (op : Operation) (kind : Kind) (i j n : ℕ) → n < rank kind → (a b : Task) → IsUpTo n i j a → IsOf kind i j b → is_earlier op a b ≡ true
next_kind op kind i j n h a b p q = earlier-by_kind op a b (p.0.0 ∙ sym q.0.0) (p.0.1 ∙ sym q.0.1) (omega (arith, p.1, ap rank q.1))

-- ---- the list of a block, of a row, of all

-- the updates on one side
All-side : (op : Operation) (counts : List ℕ) (kind : Kind) (i j n : ℕ) → All (IsOf kind i j) (updates_of op counts kind 0 i j n)
All-side op counts kind i j n = All-weaker (λ a. IsOf kind i j a × (a.term ≡ 0)) (IsOf kind i j) (λ a p. p.0) _ (All-updates_of op counts kind 0 i j n)

-- the solve
All-solve : (op : Operation) (counts : List ℕ) (i j : ℕ) → All (IsOf kinds.Solve i j) (task_if_any op counts (task_of kinds.Solve 0 i j 0))
All-solve op counts i j = All-weaker (λ b. b ≡ task_of kinds.Solve 0 i j 0) (IsOf kinds.Solve i j)
    (λ a e. ((ap (λ (b : Task). b.i) e, ap (λ (b : Task). b.j) e), ap (λ (b : Task). b.kind) e)) _ (All-task_if_any op counts (task_of kinds.Solve 0 i j 0))

-- tasks of one kind are up to its place
up_to : (kind : Kind) (i j n : ℕ) (xs : List Task) → rank kind ≤ n → All (IsOf kind i j) xs → All (IsUpTo n i j) xs
up_to kind i j n xs h all = All-weaker (IsOf kind i j) (IsUpTo n i j) (λ a p. (p.0, omega (arith, ap rank p.1))) xs all

-- and up to any later place
up_to_more : (i j m n : ℕ) (xs : List Task) → m ≤ n → All (IsUpTo m i j) xs → All (IsUpTo n i j) xs
up_to_more i j m n xs h all = All-weaker (IsUpTo m i j) (IsUpTo n i j) (λ a p. (p.0, omega (arith, p.1))) xs all

-- a list of kinds up to a place in order, and then the tasks of the next kind
with_next : (op : Operation) (kind : Kind) (i j n : ℕ) (xs ys : List Task) → n < rank kind → IsInOrder op xs × All (IsUpTo n i j) xs
    → IsInOrder op ys → All (IsOf kind i j) ys → IsInOrder op (xs ++ ys) × All (IsUpTo (rank kind) i j) (xs ++ ys)
with_next op kind i j n xs ys h before sorted of_kind = (
  AllPairs-append (λ a b. is_earlier op a b ≡ true) (IsUpTo n i j) (IsOf kind i j) xs ys before.0 sorted before.1 of_kind (next_kind op kind i j n h),
  All-append (IsUpTo (rank kind) i j) xs ys (up_to_more i j n (rank kind) xs (omega arith) before.1) (up_to kind i j (rank kind) ys (omega arith) of_kind),
)

block_of-sorted : (op : Operation) (counts : List ℕ) (i j : ℕ) → IsInOrder op (block_of op counts i j) × All (IsUpTo 4 i j) (block_of op counts i j)
unfolding block_of
block_of-sorted op counts i j =
    let terms = length op.terms in
    let products = products_of op counts i j terms in
    let rows = inner_count op counts kinds.Left 0 in
    let cols = inner_count op counts kinds.Right 0 in
    let lefts = updates_of op counts kinds.Left 0 i j rows in
    let rights = updates_of op counts kinds.Right 0 i j cols in
    let solve = task_if_any op counts (task_of kinds.Solve 0 i j 0) in
    with_next op kinds.Solve i j 3 (products ++ lefts ++ rights) solve (omega arith)
    (with_next op kinds.Right i j 2 (products ++ lefts) rights (omega arith)
    (with_next op kinds.Left i j 1 products lefts (omega arith)
    (products_of-sorted op counts i j terms, up_to kinds.Term i j 1 products (omega arith) (All-products_of op counts i j terms))
    (updates_of-sorted op counts kinds.Left 0 i j rows) (All-side op counts kinds.Left i j rows))
    (updates_of-sorted op counts kinds.Right 0 i j cols) (All-side op counts kinds.Right i j cols))
    (AllPairs-task_if_any (λ a b. is_earlier op a b ≡ true) op counts (task_of kinds.Solve 0 i j 0)) (All-solve op counts i j)

-- an earlier place has an earlier number
number_at-before : (descend : Bool) (n k l : ℕ) → k < l → l < n → comes_before descend (number_at descend n k) (number_at descend n l) ≡ true
number_at-before true n k l h within = lt-ltb (n - 1 - l) (n - 1 - k) (omega arith)
number_at-before false n k l h within = lt-ltb k l h

-- the same of numbers that are equal to those
before_at : (descend : Bool) (n k l x y : ℕ) → k < l → l < n → x ≡ number_at descend n k → y ≡ number_at descend n l → comes_before descend x y ≡ true
before_at descend n k l x y h within p q = subst (λ u. comes_before descend u y ≡ true) (sym p)
    (subst (λ v. comes_before descend (number_at descend n k) v ≡ true) (sym q) (number_at-before descend n k l h within))

-- the blocks of a row
blocks_of-sorted : (op : Operation) (counts : List ℕ) (i : ℕ) → let cols = parts_of counts op.work.cols in
    IsInOrder op (blocks_of op counts i cols) × All (λ a. a.i ≡ i) (blocks_of op counts i cols)
unfolding blocks_of
blocks_of-sorted op counts i =
    let cols = parts_of counts op.work.cols in
    let at = number_at (cols_descend op) cols in
    let block = λ (s : ℕ). block_of op counts i (at s) in
    let in_block = λ (s : ℕ). All-weaker (IsUpTo 4 i (at s)) (IsAt i (at s)) (λ a p. p.0) (block s) (block_of-sorted op counts i (at s)).1 in (
      AllPairs-joined (λ a b. is_earlier op a b ≡ true) (λ s. IsAt i (at s)) block cols in_block (λ s. (block_of-sorted op counts i (at s)).0)
          (λ k l a b h within p q. earlier-by_col op a b (p.0 ∙ sym q.0) (before_at (cols_descend op) cols k l a.j b.j h within p.1 q.1)),
      All-joined (λ a. a.i ≡ i) block cols (λ s. All-weaker (IsAt i (at s)) (λ a. a.i ≡ i) (λ a p. p.0) (block s) (in_block s)),
    )

-- the tasks of an operation are listed in order
pub tasks_of-sorted : (op : Operation) (counts : List ℕ) → IsInOrder op (tasks_of op counts)
unfolding rows_of
tasks_of-sorted op counts =
    let rows = parts_of counts op.work.rows in
    let cols = parts_of counts op.work.cols in
    let at = number_at (rows_descend op) rows in
    subst (IsInOrder op) (rows_of-tasks_of op counts)
    (AllPairs-joined (λ a b. is_earlier op a b ≡ true) (λ s a. a.i ≡ at s) (λ s. blocks_of op counts (at s) cols) rows
    (λ s. (blocks_of-sorted op counts (at s)).1) (λ s. (blocks_of-sorted op counts (at s)).0)
    (λ k l a b h within p q. earlier-by_row op a b (before_at (rows_descend op) rows k l a.i b.i h within p q)))

-- so no task stands twice
pub tasks_of-once : (op : Operation) (counts : List ℕ) → AllPairs (λ a b. a ≢ b) (tasks_of op counts)
tasks_of-once op counts i j d h k e =
    let a = get_or (tasks_of op counts) i d in
    both_ways (is_earlier op a a) (is_earlier-same op a) (subst (λ b. is_earlier op a b ≡ true) (sym e) (tasks_of-sorted op counts i j d h k))
