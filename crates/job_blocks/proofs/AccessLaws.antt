-- What a step names: blocks that there are, and of those that it reads none that it writes. Cited by the laws.
use Rattle.std.proofs.Common.{◌≡◌, ◌≢◌, ℕ, zero, suc, ◌+◌, ◌-◌, ◌<◌, ◌≤◌, inl, inr, min, Bool, true, false, if◌then◌else◌, List, [], ◌∷◌, length, take, get_or, All, refl, sym, ◌∙◌, ap, subst, arith}
use Rattle.std.specs.Prelude.{◌==◌}
use Rattle.std.proofs.lemmas.Bool.{cases_eq, cases_order, false≢true}
use Rattle.std.proofs.lemmas.Bool.Decides.{nat_tests}
use Rattle.std.proofs.lemmas.List.{take-take}
use Rattle.std.proofs.lemmas.List.Elements.{All-nil, All-cons, All-append, All-head, All-map, All-tail}
use Rattle.residue_sums.specs.Sums.{part_count}
use Rattle.residue_sums.specs.Grids.{Grid}
use Rattle.operation_spec.specs.declared.operation.Operation.{Operation}
use Rattle.operation_spec.specs.declared.operation.Binding.{Binding}
use Rattle.operation_spec.specs.declared.operation.Factor.{Factor}
use Rattle.operation_spec.specs.declared.operation.Term.{Term}
use Rattle.operation_spec.specs.declared.operation.Form.{Form}
use Rattle.operation_spec.specs.declared.operation.Form.TheVariants.{Assign, Left, Right, Sylvester, Lu, Ldl}
use Rattle.operation_spec.specs.declared.task.Kind.{Kind}
use Rattle.operation_spec.specs.declared.task.Kind.TheVariants as kinds
use Rattle.operation_spec.specs.declared.task.Task.{Task}
use Rattle.task_graph.specs.Order.{numbers_below}
use Rattle.task_graph.specs.Tasks.{has_left, has_product, has_right, has_term, has_numbered_term, has_task, has, is_work_block}
use Rattle.dependence_queue.specs.Conflicts.{has_number}
use Rattle.equation.specs.Jobs.{nth_grid}
use Rattle.step_replays.specs.Accesses.{access_of, blocks_in, diagonal_reads, factor_number, has_pivots, left_reads, list_reads, lists_of, numbered_term_reads, pivot_number, pivot_reads, reads_of, right_reads, solve_reads, term_reads, work_number, write_of}
use Rattle.step_replays.specs.Fits.{IsTaskOf}
use Rattle.step_replays.proofs.Numbers.{same-number}
use Rattle.job_blocks.specs.BlockedJobs.{BlockedJob, HasBlock, HasStatement, HasTask, IsBlockedJob, binding_at, block_total, counts_at, number_at, operation_at}
use Rattle.job_blocks.specs.FactorBlocks.{HasFactorBlock}
use Rattle.job_blocks.proofs.BlockCounts.{lists_of-more, lists_of-take, number-below}
use Rattle.job_blocks.proofs.StatementFacts.{IsSound, sound, work-there}
use Rattle.job_blocks.proofs.TaskBlocks.{both-there, ldl-update, left-test, left-there, left-update, lesser-there, lu-update, right-test, right-there, right-update, task-parts, term-test, term-there}

-- two blocks with one number are one
pub same-block : (x : BlockedJob) (k i j l p q : ℕ) → HasBlock x k i j → HasBlock x l p q → number_at x k i j ≡ number_at x l p q → (k ≡ l) × (i ≡ p) × (j ≡ q)
same-block x k i j l p q is other e = same-number x.b x.job.matrices k i j l p q (is.matrix, is.row, is.col) (other.matrix, other.row, other.col) e

-- ---- pivot lists

pub list-behind : (x : BlockedJob) (s : ℕ) → blocks_in x.b x.job.matrices ≤ pivot_number x.job x.b s
list-behind x s = omega arith

-- a statement that has a list counts one more
list-counts : (x : BlockedJob) (s : ℕ) → HasStatement x s → has_pivots (operation_at x s) ≡ true
    → lists_of x.job (take s x.job.statements) ≡ lists_of x.job (take (s - 1) x.job.statements) + 1
list-counts x s is pivots =
    let number : s - 1 + 1 ≡ s = omega (arith, is.from) in
    let more = lists_of-more x.job x.job.statements (s - 1) (omega (arith, is.from, is.within)) in
    subst (λ n. lists_of x.job (take n x.job.statements) ≡ lists_of x.job (take (s - 1) x.job.statements) + 1) number
    (more ∙ ap (λ (own : Bool). lists_of x.job (take (s - 1) x.job.statements) + (if own then 1 else 0)) pivots)

pub list-within : (x : BlockedJob) (s : ℕ) → HasStatement x s → has_pivots (operation_at x s) ≡ true → pivot_number x.job x.b s < block_total x
list-within x s is pivots = omega (arith, list-counts x s is pivots, lists_of-take x.job x.job.statements s)

lists_of-grows : (x : BlockedJob) (m n : ℕ) → m ≤ n → lists_of x.job (take m x.job.statements) ≤ lists_of x.job (take n x.job.statements)
lists_of-grows x m n le =
    let first = lists_of-take x.job (take n x.job.statements) m in
    rw (take-take m n x.job.statements le) at first

list-earlier : (x : BlockedJob) (s t : ℕ) → HasStatement x s → has_pivots (operation_at x s) ≡ true → s < t → pivot_number x.job x.b s < pivot_number x.job x.b t
list-earlier x s t is pivots before = omega (arith, list-counts x s is pivots, lists_of-grows x s (t - 1) (omega arith))

-- two statements whose lists have one number are one
pub same-list : (x : BlockedJob) (s t : ℕ) → HasStatement x s → HasStatement x t → has_pivots (operation_at x s) ≡ true → has_pivots (operation_at x t) ≡ true
    → pivot_number x.job x.b s ≡ pivot_number x.job x.b t → s ≡ t
same-list x s t s_is t_is s_has t_has e = elim (cases_order s t) [
  | inl same ↦ same
  | inr other ↦ elim other [ inl before ↦ absurd (omega (arith, e, list-earlier x s t s_is s_has before)) | inr behind ↦ absurd (omega (arith, e, list-earlier x t s t_is t_has behind)) ]
]

-- ---- what a task names

-- the numbers below n
pub below-all : (n m : ℕ) → n ≤ m → All (λ i. i < m) (numbers_below n)
below-all zero m le = All-nil (λ i. i < m)
below-all (suc n) m le =
    All-append (λ i. i < m) (numbers_below n) (n ∷ []) (below-all n m (omega arith)) (All-cons (λ i. i < m) n [] (omega arith) (All-nil (λ i. i < m)))

-- a number that is none of a list's
pub none-has : (numbers : List ℕ) (w : ℕ) → All (λ n. n ≢ w) numbers → has_number numbers w ≡ false
none-has [] w h = refl
none-has (n ∷ numbers) w h =
    let apart : n ≢ w = All-head (λ n. n ≢ w) n numbers h in
    let e : (w == n) ≡ false = grind (arith, nat_tests) in
    rw (e, none-has numbers w (All-tail (λ n. n ≢ w) n numbers h)) refl

module _ (x : BlockedJob) (s : ℕ) (is : IsBlockedJob x) (has_s : HasStatement x s) (so : IsSound x s) where
  abbrev op : Operation
  op = operation_at x s

  abbrev bind : Binding
  bind = binding_at x s

  abbrev grids : List Grid
  grids = x.job.matrices

  abbrev list : ℕ
  list = pivot_number x.job x.b s

  -- a block that there is, and another than w
  abbrev pub IsOther : ℕ → ℕ → Type 0
  IsOther w n = (n < block_total x) × (n ≢ w)

  one : (w n : ℕ) → IsOther w n → All (IsOther w) (n ∷ [])
  one w n h = All-cons (IsOther w) n [] h (All-nil (IsOther w))

  pair : (w n m : ℕ) → IsOther w n → IsOther w m → All (IsOther w) (n ∷ m ∷ [])
  pair w n m h i = All-cons (IsOther w) n (m ∷ []) h (one w m i)

  -- ---- Pivots

  factor-below : (f : Factor) (i k : ℕ) → HasFactorBlock x s f i k → factor_number x.b grids op bind f i k < blocks_in x.b grids
  factor-below f i k there = number-below x _ _ _ there.stored

  diagonal-other : (f : Factor) (n : ℕ) → ((i : ℕ) → i < part_count n x.b → HasFactorBlock x s f i i) → All (IsOther list) (diagonal_reads x.b grids op bind f n)
  diagonal-other f n there =
      let within = below-all (part_count n x.b) (part_count n x.b) (omega arith) in
      All-map (IsOther list) (λ i. factor_number x.b grids op bind f i i) (numbers_below (part_count n x.b))
      (λ k d below.
      let less : factor_number x.b grids op bind f (get_or (numbers_below (part_count n x.b)) k d) (get_or (numbers_below (part_count n x.b)) k d) < blocks_in x.b grids =
      factor-below f (get_or (numbers_below (part_count n x.b)) k d) (get_or (numbers_below (part_count n x.b)) k d) (there _ (within k d below)) in
      (omega (arith, less), λ e. absurd (omega (arith, less, e, list-behind x s))))

  pivots-other : All (IsOther list) (pivot_reads x.b grids op bind op.form)
  pivots-other = go op.form refl
    where
      go : (form : Form) → op.form ≡ form → All (IsOther list) (pivot_reads x.b grids op bind form)
      go Assign e = All-nil (IsOther list)
      go Lu e = All-nil (IsOther list)
      go Ldl e = All-nil (IsOther list)
      go (Left t) e = diagonal-other t (nth_grid grids bind.work).rows (λ i below. left-there x s is so t e i i below below)
      go (Right u) e = diagonal-other u (nth_grid grids bind.work).cols (λ i below. right-there x s is so u e i i below below)
      go (Sylvester t u negative) e =
          let both = both-there x s is so t u negative e in
          All-append (IsOther list) (diagonal_reads x.b grids op bind t (nth_grid grids bind.work).rows) (diagonal_reads x.b grids op bind u (nth_grid grids bind.work).cols)
          (diagonal-other t (nth_grid grids bind.work).rows (λ i below. both.0 i i below below))
          (diagonal-other u (nth_grid grids bind.work).cols (λ i below. both.1 i i below below))

  -- ---- tasks of a block

  module _ (i j : ℕ) (own : HasBlock x bind.work i j) where
    abbrev w : ℕ
    w = number_at x bind.work i j

    factor-other : (f : Factor) (p q : ℕ) → HasFactorBlock x s f p q → IsOther w (factor_number x.b grids op bind f p q)
    factor-other f p q there =
        (omega (arith, factor-below f p q there), λ e. so.fits.apart f.known 0 there.bound (same-block x _ _ _ bind.work i j there.stored own e).0)

    work-other : (p q : ℕ) → HasBlock x bind.work p q → (p ≡ i → q ≡ j → ⊥) → IsOther w (work_number x.b grids bind p q)
    work-other p q there apart =
        (omega (arith, number-below x bind.work p q there), λ e. let same = same-block x bind.work p q bind.work i j there own e in apart same.1 same.2)

    list-other : has_pivots op ≡ true → IsOther w list
    list-other pivots = (list-within x s has_s pivots, λ e. absurd (omega (arith, e, number-below x bind.work i j own, list-behind x s)))

    lists-other : All (IsOther w) (list_reads op list)
    lists-other = go (has_pivots op) refl
      where
        go : (pivots : Bool) → has_pivots op ≡ pivots → All (IsOther w) (if pivots then list ∷ [] else [])
        go true e = one w list (list-other e)
        go false e = All-nil (IsOther w)

    terms-other : (t k : ℕ) → has_numbered_term op (counts_at x s) t i j k ≡ true → All (IsOther w) (numbered_term_reads x.b grids op bind t i j k)
    terms-other zero k h = All-nil (IsOther w)
    terms-other (suc t) k h = go op.terms t (λ n d below product. term-there x s is so i j k n d own below product) h
      where
        go : (terms : List Term) (t : ℕ) → ((n : ℕ) (d : Term) → n < length terms → has_product op (counts_at x s) (get_or terms n d) i j k ≡ true
            → HasFactorBlock x s (get_or terms n d).first i k × HasFactorBlock x s (get_or terms n d).second k j)
            → has_term op (counts_at x s) terms t i j k ≡ true → All (IsOther w) (term_reads x.b grids op bind terms t i j k)
        go [] t there h = All-nil (IsOther w)
        go (term ∷ terms) zero there h = let both = there 0 term (omega arith) h in pair w _ _ (factor-other term.first i k both.0) (factor-other term.second k j both.1)
        go (term ∷ terms) (suc t) there h = go terms t (λ n d below product. there (suc n) d (omega arith) product) h

    left-other : (k : ℕ) → is_work_block op (counts_at x s) i j ≡ true → has_left op (counts_at x s) op.form i j k ≡ true → All (IsOther w) (left_reads x.b grids op bind op.form i j k)
    left-other k inside = go op.form refl
      where
        go : (form : Form) → op.form ≡ form → has_left op (counts_at x s) form i j k ≡ true → All (IsOther w) (left_reads x.b grids op bind form i j k)
        go Assign e h = All-nil (IsOther w)
        go (Right u) e h = All-nil (IsOther w)
        go (Left t) e h =
            let u = left-update x s is so t i j k (left-there x s is so t e) own h in
            pair w _ _ (factor-other t i k u.0) (work-other k j u.1 (λ row col. u.2 row))
        go (Sylvester t v negative) e h =
            let u = left-update x s is so t i j k (both-there x s is so t v negative e).0 own h in
            pair w _ _ (factor-other t i k u.0) (work-other k j u.1 (λ row col. u.2 row))
        go Lu e h =
            let u = lu-update x s is so e i j k own h in
            pair w _ _ (work-other i k u.0 (λ row col. absurd (omega (arith, u.3)))) (work-other k j u.1 (λ row col. absurd (omega (arith, u.2))))
        go Ldl e h =
            let u = ldl-update x s is so e i j k own inside h in
            All-cons (IsOther w) (work_number x.b grids bind i k) (work_number x.b grids bind k k ∷ work_number x.b grids bind j k ∷ [])
            (work-other i k u.0 (λ row col. absurd (omega (arith, u.3))))
            (pair w _ _ (work-other k k u.1 (λ row col. absurd (omega (arith, u.3)))) (work-other j k u.2 (λ row col. absurd (omega (arith, u.3)))))

    right-other : (k : ℕ) → has_right op (counts_at x s) op.form i j k ≡ true → All (IsOther w) (right_reads x.b grids op bind op.form i j k)
    right-other k = go op.form refl
      where
        go : (form : Form) → op.form ≡ form → has_right op (counts_at x s) form i j k ≡ true → All (IsOther w) (right_reads x.b grids op bind form i j k)
        go Assign e h = All-nil (IsOther w)
        go (Left t) e h = All-nil (IsOther w)
        go Lu e h = All-nil (IsOther w)
        go Ldl e h = All-nil (IsOther w)
        go (Right v) e h =
            let u = right-update x s is so v i j k (right-there x s is so v e) own h in
            pair w _ _ (work-other i k u.0 (λ row col. u.2 col)) (factor-other v k j u.1)
        go (Sylvester t v negative) e h =
            let u = right-update x s is so v i j k (both-there x s is so t v negative e).1 own h in
            pair w _ _ (work-other i k u.0 (λ row col. u.2 col)) (factor-other v k j u.1)

    lesser-other : All (IsOther w) (if i == j then [] else work_number x.b grids bind (min i j) (min i j) ∷ [])
    lesser-other = elim (cases_eq i j) [
      | inl same ↦ (let e : (i == j) ≡ true = grind (arith, nat_tests) in rw e (All-nil (IsOther w)))
      | inr apart ↦ (let e : (i == j) ≡ false = grind (arith, nat_tests) in
          rw e (one w _ (work-other (min i j) (min i j) (lesser-there x s is so i j own) (λ row col. apart (omega (arith, row, col))))))
    ]

    solve-other : All (IsOther w) (solve_reads x.b grids op bind list op.form i j)
    solve-other = go op.form refl
      where
        go : (form : Form) → op.form ≡ form → All (IsOther w) (solve_reads x.b grids op bind list form i j)
        go Assign e = All-nil (IsOther w)
        go Lu e = lesser-other
        go Ldl e = lesser-other
        go (Left t) e = All-cons (IsOther w) (factor_number x.b grids op bind t i i) (list_reads op list) (factor-other t i i (left-there x s is so t e i i own.row own.row)) lists-other
        go (Right u) e = All-cons (IsOther w) (factor_number x.b grids op bind u j j) (list_reads op list) (factor-other u j j (right-there x s is so u e j j own.col own.col)) lists-other
        go (Sylvester t u negative) e =
            let both = both-there x s is so t u negative e in
            All-cons (IsOther w) (factor_number x.b grids op bind t i i) (factor_number x.b grids op bind u j j ∷ list_reads op list)
            (factor-other t i i (both.0 i i own.row own.row))
            (All-cons (IsOther w) (factor_number x.b grids op bind u j j) (list_reads op list) (factor-other u j j (both.1 j j own.col own.col)) lists-other)

  -- ---- any task

  -- what a task of a kind names
  abbrev IsNamedBy : Task → Kind → Type 0
  IsNamedBy u kind = (write_of x.b grids bind list kind u.i u.j < block_total x)
      × All (IsOther (write_of x.b grids bind list kind u.i u.j)) (reads_of x.b grids op bind list kind u.term u.i u.j u.k)

  named-block : (u : Task) → has op (counts_at x s) u ≡ true → IsNamedBy u u.kind
  named-block u h = go u.kind refl
    where
      parts : (is_work_block op (counts_at x s) u.i u.j ≡ true) × (has_task op (counts_at x s) u.kind u.term u.i u.j u.k ≡ true)
      parts = task-parts op (counts_at x s) u h

      own : HasBlock x bind.work u.i u.j
      own = work-there x s is so u.i u.j parts.0

      below : number_at x bind.work u.i u.j < block_total x
      below = omega (arith, number-below x bind.work u.i u.j own)

      go : (kind : Kind) → u.kind ≡ kind → IsNamedBy u kind
      go kinds.Pivots e = absurd (false≢true (rw e at parts.1))
      go kinds.Term e = (below, terms-other u.i u.j own u.term u.k (term-test op (counts_at x s) u e h))
      go kinds.Left e = (below, left-other u.i u.j own u.k parts.0 (left-test op (counts_at x s) u e h))
      go kinds.Right e = (below, right-other u.i u.j own u.k (right-test op (counts_at x s) u e h))
      go kinds.Solve e = (below, solve-other u.i u.j own)

  named-any : (u : Task) → IsTaskOf op (counts_at x s) u → IsNamedBy u u.kind
  named-any u (inl pivots) = subst (λ (v : Task). IsNamedBy v v.kind) (sym pivots.0) (list-within x s has_s pivots.1, pivots-other)
  named-any u (inr h) = named-block u h

-- ---- the laws

pub write-below : (x : BlockedJob) (s : ℕ) (u : Task) → IsBlockedJob x → HasStatement x s → HasTask x s u → (access_of x.job x.b s u).write < block_total x
write-below x s u is has_s task = (named-any x s is has_s (sound x s is has_s) u task).0

pub reads-below : (x : BlockedJob) (s : ℕ) (u : Task) → IsBlockedJob x → HasStatement x s → HasTask x s u → All (λ n. n < block_total x) (access_of x.job x.b s u).reads
reads-below x s u is has_s task k d below = ((named-any x s is has_s (sound x s is has_s) u task).1 k d below).0

pub reads-apart : (x : BlockedJob) (s : ℕ) (u : Task) → IsBlockedJob x → HasStatement x s → HasTask x s u
    → has_number (access_of x.job x.b s u).reads (access_of x.job x.b s u).write ≡ false
reads-apart x s u is has_s task =
    none-has (access_of x.job x.b s u).reads (access_of x.job x.b s u).write (λ k d below. ((named-any x s is has_s (sound x s is has_s) u task).1 k d below).1)
