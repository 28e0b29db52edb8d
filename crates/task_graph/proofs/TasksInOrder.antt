-- The tasks of an operation are those of its rows of blocks, part by part. Cited by the function that lists them.
use Rattle.std.proofs.Common.{◌≡◌, ℕ, zero, suc, ◌+◌, ◌-◌, Bool, true, false, List, [], ◌∷◌, ◌++◌, length, filter, map, reverse, ◌&&◌, refl, sym, ap, ◌∙◌, arith, append_assoc, append-nil}
use Rattle.std.specs.Prelude.{◌==◌, if◌then◌else◌}
use Rattle.std.specs.List.{flat_map}
use Rattle.std.proofs.lemmas.Bool.{and_right}
use Rattle.std.proofs.lemmas.List.{map-append, reverse-append}
use Rattle.std.proofs.lemmas.List.Elements.{filter-append}
use Rattle.std.proofs.lemmas.List.Concat.{flat_map-append}
use Rattle.operation_spec.specs.declared.operation.Operation.{Operation}
use Rattle.operation_spec.specs.declared.operation.Form.{Form}
use Rattle.operation_spec.specs.declared.operation.Form.TheVariants.{Assign, Left, Right, Sylvester, Lu, Ldl}
use Rattle.operation_spec.specs.declared.operation.Term.{Term}
use Rattle.operation_spec.specs.declared.task.Kind.{Kind}
use Rattle.operation_spec.specs.declared.task.Kind.TheVariants as kinds
use Rattle.operation_spec.specs.declared.task.Task.{Task}
use Rattle.task_graph.specs.Factors.{factor_cols}
use Rattle.task_graph.specs.Tasks.{parts_of, is_work_block, has_left, has_right, has}
use Rattle.task_graph.specs.Order.{numbers_below, numbers_in, task_of, term_candidates, candidates, tasks_of, rows_descend, cols_descend}
use Rattle.task_graph.specs.Classes.{inner_dim_of}
use Rattle.task_graph.specs.Listing.{joined, number_at, task_if_any, updates_of, may_have, inner_count, products_of, block_of, blocks_of, rows_of}

-- ---- parts by their place

-- equal parts give equal lists
joined-ext : (f g : ℕ → List Task) → ((k : ℕ) → f k ≡ g k) → (n : ℕ) → joined f n ≡ joined g n
unfolding joined
joined-ext f g same zero = refl
joined-ext f g same (suc n) = ap (λ xs. xs ++ f n) (joined-ext f g same n) ∙ ap (λ xs. joined g n ++ xs) (same n)

-- the first part and those behind it
joined-front : (f : ℕ → List Task) (n : ℕ) → joined f (suc n) ≡ f 0 ++ joined (λ k. f (suc k)) n
unfolding joined
joined-front f zero = sym (append-nil (f 0))
joined-front f (suc n) = ap (λ xs. xs ++ f (suc n)) (joined-front f n) ∙ append_assoc (f 0) (joined (λ k. f (suc k)) n) (f (suc n))

-- over ascending numbers
flat_map-numbers_below : (f : ℕ → List Task) (n : ℕ) → flat_map f (numbers_below n) ≡ joined f n
unfolding joined
flat_map-numbers_below f zero = refl
flat_map-numbers_below f (suc n) = flat_map-append f (numbers_below n) (n ∷ [])
    ∙ ap (λ xs. xs ++ (f n ++ [])) (flat_map-numbers_below f n) ∙ ap (λ xs. joined f n ++ xs) (append-nil (f n))

-- over descending numbers
flat_map-reverse : (f : ℕ → List Task) (n : ℕ) → flat_map f (reverse (numbers_below n)) ≡ joined (λ k. f (n - 1 - k)) n
unfolding joined
flat_map-reverse f zero = refl
flat_map-reverse f (suc n) =
    ap (flat_map f) (reverse-append (numbers_below n) (n ∷ []))
    ∙ ap (λ xs. f n ++ xs) (flat_map-reverse f n)
    ∙ ap (λ xs. f n ++ xs) (joined-ext (λ k. f (n - 1 - k)) (λ k. f (suc n - 1 - suc k)) (λ k. let e : n - 1 - k ≡ suc n - 1 - suc k = omega arith in ap f e) n)
    ∙ (let e : n ≡ suc n - 1 - 0 = omega arith in ap (λ m. f m ++ joined (λ k. f (suc n - 1 - suc k)) n) e)
    ∙ sym (joined-front (λ k. f (suc n - 1 - k)) n)

-- over numbers in a direction
flat_map-numbers_in : (f : ℕ → List Task) (descend : Bool) (n : ℕ)
    → flat_map f (numbers_in descend n) ≡ joined (λ k. f (number_at descend n k)) n
flat_map-numbers_in f true n = flat_map-reverse f n
flat_map-numbers_in f false n = flat_map-numbers_below f n

-- ---- the tasks of a block

-- the updates that exist of all inner parts below n
updates_of-filter : (op : Operation) (counts : List ℕ) (kind : Kind) (t i j n : ℕ)
    → filter (has op counts) (map (λ k. task_of kind t i j k) (numbers_below n)) ≡ updates_of op counts kind t i j n
unfolding updates_of joined task_if_any
updates_of-filter op counts kind t i j zero = refl
updates_of-filter op counts kind t i j (suc n) =
    ap (filter (has op counts)) (map-append (λ k. task_of kind t i j k) (numbers_below n) (n ∷ []))
    ∙ filter-append (has op counts) (map (λ k. task_of kind t i j k) (numbers_below n)) (task_of kind t i j n ∷ [])
    ∙ ap (λ xs. xs ++ filter (has op counts) (task_of kind t i j n ∷ [])) (updates_of-filter op counts kind t i j n)

-- the products that exist of the terms from number t on
products_from : (op : Operation) (counts : List ℕ) (terms : List Term) (t i j : ℕ)
    → filter (has op counts) (term_candidates op counts terms t i j)
    ≡ joined (λ k. updates_of op counts kinds.Term (t + k) i j (parts_of counts (inner_dim_of op terms k))) (length terms)
unfolding joined
products_from op counts [] t i j = refl
products_from op counts (term ∷ terms) t i j =
    let n = parts_of counts (factor_cols op term.first) in
    let part = λ (u v : ℕ). updates_of op counts kinds.Term u i j v in
    filter-append (has op counts) (map (λ k. task_of kinds.Term t i j k) (numbers_below n)) (term_candidates op counts terms (t + 1) i j)
    ∙ ap (λ xs. xs ++ filter (has op counts) (term_candidates op counts terms (t + 1) i j)) (updates_of-filter op counts kinds.Term t i j n)
    ∙ ap (λ xs. part t n ++ xs) (products_from op counts terms (t + 1) i j)
    ∙ ap (λ xs. part t n ++ xs) (joined-ext _ (λ k. part (t + suc k) (parts_of counts (inner_dim_of op terms k)))
    (λ k. let e : t + 1 + k ≡ t + suc k = omega arith in ap (λ u. part u (parts_of counts (inner_dim_of op terms k))) e) (length terms))
    ∙ (let e : t ≡ t + 0 = omega arith in ap (λ u. part u n ++ joined (λ k. part (t + suc k) (parts_of counts (inner_dim_of op terms k))) (length terms)) e)
    ∙ sym (joined-front (λ k. part (t + k) (parts_of counts (inner_dim_of op (term ∷ terms) k))) (length terms))

-- the products that exist of all terms
products_of-filter : (op : Operation) (counts : List ℕ) (i j : ℕ)
    → filter (has op counts) (term_candidates op counts op.terms 1 i j) ≡ products_of op counts i j (length op.terms)
unfolding products_of
products_of-filter op counts i j = products_from op counts op.terms 1 i j
    ∙ joined-ext _ _ (λ k. let e : 1 + k ≡ k + 1 = omega arith in let f : suc k ≡ k + 1 = omega arith in
    ap (λ u. updates_of op counts kinds.Term u i j (parts_of counts (inner_dim_of op op.terms k))) e
    ∙ ap (λ u. updates_of op counts kinds.Term (k + 1) i j (inner_count op counts kinds.Term u)) f) (length op.terms)

-- where no update exists there is none
updates_of-none : (op : Operation) (counts : List ℕ) (kind : Kind) (i j n : ℕ) → ((k : ℕ) → has op counts (task_of kind 0 i j k) ≡ false)
    → updates_of op counts kind 0 i j n ≡ []
unfolding updates_of joined task_if_any
updates_of-none op counts kind i j zero none = refl
updates_of-none op counts kind i j (suc n) none = rw (none n, updates_of-none op counts kind i j n none) refl

-- so the candidates may be left out
updates_of-skip : (op : Operation) (counts : List ℕ) (kind : Kind) (i j n : ℕ) (may : Bool)
    → (may ≡ false → (k : ℕ) → has op counts (task_of kind 0 i j k) ≡ false)
    → updates_of op counts kind 0 i j n ≡ updates_of op counts kind 0 i j (if may then n else 0)
unfolding updates_of joined
updates_of-skip op counts kind i j n true none = refl
updates_of-skip op counts kind i j n false none = updates_of-none op counts kind i j n (none refl)

-- a form without updates on the left
has_left-none : (op : Operation) (counts : List ℕ) (form : Form) (i j k : ℕ) → may_have kinds.Left form ≡ false → has_left op counts form i j k ≡ false
has_left-none op counts Assign i j k h = refl
has_left-none op counts (Left t) i j k h = cc
has_left-none op counts (Right t) i j k h = refl
has_left-none op counts (Sylvester t u minus) i j k h = cc
has_left-none op counts Lu i j k h = cc
has_left-none op counts Ldl i j k h = cc

-- a form without updates on the right
has_right-none : (op : Operation) (counts : List ℕ) (form : Form) (i j k : ℕ) → may_have kinds.Right form ≡ false → has_right op counts form i j k ≡ false
has_right-none op counts Assign i j k h = refl
has_right-none op counts (Left t) i j k h = refl
has_right-none op counts (Right t) i j k h = cc
has_right-none op counts (Sylvester t u minus) i j k h = cc
has_right-none op counts Lu i j k h = refl
has_right-none op counts Ldl i j k h = refl

-- the updates on the left that exist
lefts_of-filter : (op : Operation) (counts : List ℕ) (i j : ℕ)
    → filter (has op counts) (map (λ k. task_of kinds.Left 0 i j k) (numbers_below (parts_of counts op.work.rows))) ≡ updates_of op counts kinds.Left 0 i j (inner_count op counts kinds.Left 0)
lefts_of-filter op counts i j = updates_of-filter op counts kinds.Left 0 i j (parts_of counts op.work.rows)
    ∙ updates_of-skip op counts kinds.Left i j (parts_of counts op.work.rows) (may_have kinds.Left op.form)
    (λ none k. and_right (is_work_block op counts i j) (0 == 0 && has_left op counts op.form i j k) (has_left-none op counts op.form i j k none))

-- the updates on the right that exist
rights_of-filter : (op : Operation) (counts : List ℕ) (i j : ℕ)
    → filter (has op counts) (map (λ k. task_of kinds.Right 0 i j k) (numbers_below (parts_of counts op.work.cols))) ≡ updates_of op counts kinds.Right 0 i j (inner_count op counts kinds.Right 0)
rights_of-filter op counts i j = updates_of-filter op counts kinds.Right 0 i j (parts_of counts op.work.cols)
    ∙ updates_of-skip op counts kinds.Right i j (parts_of counts op.work.cols) (may_have kinds.Right op.form)
    (λ none k. and_right (is_work_block op counts i j) (0 == 0 && has_right op counts op.form i j k) (has_right-none op counts op.form i j k none))

-- the tasks that exist of the candidates of a block
block_of-filter : (op : Operation) (counts : List ℕ) (i j : ℕ) → filter (has op counts) (candidates op counts i j) ≡ block_of op counts i j
unfolding block_of task_if_any
block_of-filter op counts i j =
    let p = has op counts in
    let products = term_candidates op counts op.terms 1 i j in
    let lefts = map (λ k. task_of kinds.Left 0 i j k) (numbers_below (parts_of counts op.work.rows)) in
    let rights = map (λ k. task_of kinds.Right 0 i j k) (numbers_below (parts_of counts op.work.cols)) in
    let solve = filter p (task_of kinds.Solve 0 i j 0 ∷ []) in
    filter-append p (products ++ lefts ++ rights) (task_of kinds.Solve 0 i j 0 ∷ [])
    ∙ ap (λ xs. xs ++ solve) (filter-append p (products ++ lefts) rights)
    ∙ ap (λ xs. xs ++ filter p rights ++ solve) (filter-append p products lefts)
    ∙ ap (λ xs. xs ++ filter p lefts ++ filter p rights ++ solve) (products_of-filter op counts i j)
    ∙ ap (λ xs. products_of op counts i j (length op.terms) ++ xs ++ filter p rights ++ solve) (lefts_of-filter op counts i j)
    ∙ ap (λ xs. products_of op counts i j (length op.terms) ++ updates_of op counts kinds.Left 0 i j (inner_count op counts kinds.Left 0) ++ xs ++ solve) (rights_of-filter op counts i j)

-- ---- all tasks

-- the tasks of row i
blocks_of-flat_map : (op : Operation) (counts : List ℕ) (i : ℕ)
    → flat_map (λ j. filter (has op counts) (candidates op counts i j)) (numbers_in (cols_descend op) (parts_of counts op.work.cols))
    ≡ blocks_of op counts i (parts_of counts op.work.cols)
unfolding blocks_of
blocks_of-flat_map op counts i = flat_map-numbers_in (λ j. filter (has op counts) (candidates op counts i j)) (cols_descend op) (parts_of counts op.work.cols)
    ∙ joined-ext _ _ (λ k. block_of-filter op counts i (number_at (cols_descend op) (parts_of counts op.work.cols) k)) (parts_of counts op.work.cols)

-- the tasks of all rows are those of the operation
pub rows_of-tasks_of : (op : Operation) (counts : List ℕ) → rows_of op counts (parts_of counts op.work.rows) ≡ tasks_of op counts
unfolding rows_of
rows_of-tasks_of op counts = sym (flat_map-numbers_in (λ i. flat_map (λ j. filter (has op counts) (candidates op counts i j)) (numbers_in (cols_descend op) (parts_of counts op.work.cols))) (rows_descend op) (parts_of counts op.work.rows)
    ∙ joined-ext _ _ (λ k. blocks_of-flat_map op counts (number_at (rows_descend op) (parts_of counts op.work.rows) k)) (parts_of counts op.work.rows))
