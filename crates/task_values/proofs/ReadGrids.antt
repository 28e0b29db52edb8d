-- The blocks with the numbers that a task reads are those that its effect names, over the same blocks by their places. Cited where a task is
-- handed to its kernel.
use Rattle.std.proofs.Common.{◌≡◌, ◌≢◌, ℕ, zero, suc, ◌-◌, ◌<◌, ◌≤◌, inl, inr, min, Bool, true, false, not, if◌then◌else◌, List, [], ◌∷◌, ◌++◌, length, map, get_or, All, refl, sym, ◌∙◌, ap, ap₂, arith}
use Rattle.std.specs.Prelude.{◌==◌, nat_lt, slice_index}
use Rattle.std.proofs.lemmas.Bool.{cases_Bool, lt-ltb}
use Rattle.residue_sums.specs.Sums.{part_count}
use Rattle.residue_sums.specs.Grids.{Grid}
use Rattle.structure_rules.specs.Structures.{stored_of}
use Rattle.operation_spec.specs.declared.operation.Operation.{Operation}
use Rattle.operation_spec.specs.declared.operation.Binding.{Binding}
use Rattle.operation_spec.specs.declared.operation.Factor.{Factor}
use Rattle.operation_spec.specs.declared.operation.Term.{Term}
use Rattle.operation_spec.specs.declared.operation.Form.{Form}
use Rattle.operation_spec.specs.declared.operation.Form.TheVariants.{Assign, Left, Right, Sylvester, Lu, Ldl}
use Rattle.operation_spec.specs.declared.task.Kind.{Kind}
use Rattle.operation_spec.specs.declared.task.Kind.TheVariants as kinds
use Rattle.operation_spec.specs.declared.task.Task.{Task}
use Rattle.task_graph.specs.Factors.{known}
use Rattle.task_graph.specs.Tasks.{has}
use Rattle.equation.specs.Jobs.{nth_grid}
use Rattle.flash_blocks.specs.Blocks.{Blocks}
use Rattle.block_tasks.specs.Inverses.{is_unit_triangle}
use Rattle.step_replays.specs.Accesses.{factor_number, work_number, reads_of, left_reads, right_reads, solve_reads, numbered_term_reads, list_reads, has_pivots, diagonal_reads, pivot_reads}
use Rattle.step_replays.specs.Replays.{known_blocks}
use Rattle.step_replays.proofs.StepReads.{blocks_from}
use Rattle.job_blocks.specs.BlockedJobs.{BlockedJob, HasBlock, HasStatement, IsBlockedJob, binding_at, counts_at, number_at, operation_at}
use Rattle.job_blocks.specs.FactorBlocks.{HasFactorBlock, factor_at, no_term, stored_at, term_at, work_at}
use Rattle.task_graph.specs.Order.{numbers_below}
use Rattle.std.proofs.lemmas.List.{map-append}
use Rattle.std.proofs.lemmas.List.Elements.{All-head, All-tail}
use Rattle.job_blocks.proofs.AccessLaws.{below-all}
use Rattle.job_blocks.proofs.ReadSteps.{left-both, left-ldl, left-left, left-lu, pivots-cols, pivots-left, pivots-right, pivots-rows, right-both, right-right, solve-both, solve-left, solve-lesser, solve-right, term-blocks, term-in, term-reads}
use Rattle.block_kernels.specs.ReadGrids.{blocks_read, grids_by, factor_grid, stored_grid, left_grids, right_grids, solve_grids, term_grids, numbered_term_grids, list_grids, diagonal_grids, pivot_grids}

module _ (x : BlockedJob) (s : ℕ) (is : IsBlockedJob x) (has_s : HasStatement x s) (found : ℕ → Grid) where
  abbrev op : Operation
  op = operation_at x s

  abbrev bind : Binding
  bind = binding_at x s

  abbrev grids : List Grid
  grids = x.job.matrices

  -- the blocks by their places
  abbrev pub at_place : ℕ → Blocks
  at_place k = blocks_from x.b x.job.matrices found k

  abbrev pub knowns_there : ℕ → Blocks
  knowns_there = known_blocks (blocks_from x.b x.job.matrices found) (binding_at x s)

  abbrev pub work_there : Blocks
  work_there = blocks_from x.b x.job.matrices found (binding_at x s).work

  -- a block that there is
  pub block-there : (k i j : ℕ) → HasBlock x k i j → found (number_at x k i j) ≡ blocks_from x.b x.job.matrices found k i j
  block-there k i j there =
      let row : nat_lt i (part_count (nth_grid x.job.matrices k).rows x.b) ≡ true = lt-ltb i (part_count (nth_grid x.job.matrices k).rows x.b) there.row in
      let col : nat_lt j (part_count (nth_grid x.job.matrices k).cols x.b) ≡ true = lt-ltb j (part_count (nth_grid x.job.matrices k).cols x.b) there.col in
      rw (row, col) refl

  work-there : (i j : ℕ) → HasBlock x (binding_at x s).work i j → found (work_at x s i j) ≡ work_there i j
  work-there i j there = block-there (binding_at x s).work i j there

  factor-there : (f : Factor) (i k : ℕ) → HasFactorBlock x s f i k → found (factor_at x s f i k) ≡ factor_grid op knowns_there f i k
  factor-there f i k there = block-there (slice_index bind.knowns f.known) (stored_at x s f i k).row (stored_at x s f i k).col there.stored ∙ go f.primed
    where
      go : (primed : Bool) → at_place (slice_index bind.knowns f.known)
          (if primed then stored_of (known op f.known).structure k i else stored_of (known op f.known).structure i k).row
          (if primed then stored_of (known op f.known).structure k i else stored_of (known op f.known).structure i k).col
          ≡ (if primed then stored_grid (known op f.known).structure (knowns_there f.known) k i else stored_grid (known op f.known).structure (knowns_there f.known) i k)
      go true = refl
      go false = refl

  -- ---- what a task reads

  module _ (u : Task) (h : has (operation_at x s) (counts_at x s) u ≡ true) (list : ℕ) where
    abbrev pair : Grid → Grid → List Grid
    pair g k = g ∷ k ∷ []

    terms-read : u.kind ≡ kinds.Term → map found (numbered_term_reads x.b grids op bind u.term u.i u.j u.k) ≡ numbered_term_grids op knowns_there u.term u.i u.j u.k
    terms-read kind =
        let number = term-in op (counts_at x s) u h kind in
        let blocks = term-blocks x s is has_s u h kind in
        ap (map found) (term-reads x s u.term u.i u.j u.k number.0 number.1)
        ∙ ap₂ pair (factor-there (term_at x s u.term).first u.i u.k blocks.0) (factor-there (term_at x s u.term).second u.k u.j blocks.1)
        ∙ sym (numbered u.term number.0 number.1)
      where
        listed : (terms : List Term) (t : ℕ) → t < length terms
            → term_grids op knowns_there terms t u.i u.j u.k ≡ pair (factor_grid op knowns_there (get_or terms t no_term).first u.i u.k) (factor_grid op knowns_there (get_or terms t no_term).second u.k u.j)
        listed [] t below = absurd (omega arith)
        listed (term ∷ terms) zero below = refl
        listed (term ∷ terms) (suc t) below = listed terms t (omega arith)

        numbered : (t : ℕ) → 1 ≤ t → t ≤ length op.terms
            → numbered_term_grids op knowns_there t u.i u.j u.k ≡ pair (factor_grid op knowns_there (term_at x s t).first u.i u.k) (factor_grid op knowns_there (term_at x s t).second u.k u.j)
        numbered zero from within = absurd (omega arith)
        numbered (suc t) from within = let number : suc t - 1 ≡ t = omega arith in rw number (listed op.terms t (omega arith))

    left-read : u.kind ≡ kinds.Left → (form : Form) → op.form ≡ form → map found (left_reads x.b grids op bind form u.i u.j u.k) ≡ left_grids op knowns_there work_there form u.i u.j u.k
    left-read kind Assign e = refl
    left-read kind (Right v) e = refl
    left-read kind (Left t) e =
        let b = left-left x s is has_s u h kind t e in ap₂ pair (factor-there t u.i u.k b.0) (work-there u.k u.j b.1)
    left-read kind (Sylvester t v minus) e =
        let b = left-both x s is has_s u h kind t v minus e in ap₂ pair (factor-there t u.i u.k b.0) (work-there u.k u.j b.1)
    left-read kind Lu e =
        let b = left-lu x s is has_s u h kind e in ap₂ pair (work-there u.i u.k b.0) (work-there u.k u.j b.1)
    left-read kind Ldl e =
        let b = left-ldl x s is has_s u h kind e in
        ap₂ (λ (g : Grid) (gs : List Grid). g ∷ gs) (work-there u.i u.k b.0) (ap₂ pair (work-there u.k u.k b.1) (work-there u.j u.k b.2))

    right-read : u.kind ≡ kinds.Right → (form : Form) → op.form ≡ form → map found (right_reads x.b grids op bind form u.i u.j u.k) ≡ right_grids op knowns_there work_there form u.i u.j u.k
    right-read kind Assign e = refl
    right-read kind (Left t) e = refl
    right-read kind Lu e = refl
    right-read kind Ldl e = refl
    right-read kind (Right v) e =
        let b = right-right x s is has_s u h kind v e in ap₂ pair (work-there u.i u.k b.0) (factor-there v u.k u.j b.1)
    right-read kind (Sylvester t v minus) e =
        let b = right-both x s is has_s u h kind t v minus e in ap₂ pair (work-there u.i u.k b.0) (factor-there v u.k u.j b.1)

    -- the pivot list, where the triangle needs one
    list-read : (f : Factor) → has_pivots op ≡ not (is_unit_triangle (known op f.known).structure) → map found (list_reads op list) ≡ list_grids (known op f.known).structure (found list)
    list-read f e = rw e (go (is_unit_triangle (known op f.known).structure))
      where
        go : (unit : Bool) → map found (if not unit then list ∷ [] else []) ≡ (if unit then [] else found list ∷ [])
        go true = refl
        go false = refl

    lesser-read : map found (if u.i == u.j then [] else work_number x.b grids bind (min u.i u.j) (min u.i u.j) ∷ []) ≡ (if u.i == u.j then [] else work_there (min u.i u.j) (min u.i u.j) ∷ [])
    lesser-read = elim (cases_Bool (u.i == u.j)) [
      | inl same ↦ rw same refl
      | inr apart ↦ rw apart (ap (λ (g : Grid). g ∷ []) (work-there (min u.i u.j) (min u.i u.j) (solve-lesser x s is has_s u h)))
    ]

    solve-read : (form : Form) → op.form ≡ form → map found (solve_reads x.b grids op bind list form u.i u.j) ≡ solve_grids op knowns_there work_there (found list) form u.i u.j
    solve-read Assign e = refl
    solve-read (Left t) e =
        ap₂ (λ (g : Grid) (gs : List Grid). g ∷ gs) (factor-there t u.i u.i (solve-left x s is has_s u h t e)) (list-read t (rw e refl))
    solve-read (Right v) e =
        ap₂ (λ (g : Grid) (gs : List Grid). g ∷ gs) (factor-there v u.j u.j (solve-right x s is has_s u h v e)) (list-read v (rw e refl))
    solve-read (Sylvester t v minus) e =
        let b = solve-both x s is has_s u h t v minus e in
        let some : has_pivots op ≡ true = rw e refl in
        rw some (ap₂ (λ (g : Grid) (gs : List Grid). g ∷ gs) (factor-there t u.i u.i b.0) (ap (λ (g : Grid). g ∷ found list ∷ []) (factor-there v u.j u.j b.1)))
    solve-read Lu e = lesser-read
    solve-read Ldl e = lesser-read

    pub reads-there : u.kind ≢ kinds.Pivots → map found (reads_of x.b grids op bind list u.kind u.term u.i u.j u.k) ≡ blocks_read op knowns_there work_there (found list) u
    reads-there apart = go u.kind refl apart
      where
        go : (kind : Kind) → u.kind ≡ kind → kind ≢ kinds.Pivots
            → map found (reads_of x.b grids op bind list kind u.term u.i u.j u.k) ≡ grids_by op knowns_there work_there (found list) kind u.term u.i u.j u.k
        go kinds.Pivots e apart = absurd (apart refl)
        go kinds.Term e apart = terms-read e
        go kinds.Left e apart = left-read e op.form refl
        go kinds.Right e apart = right-read e op.form refl
        go kinds.Solve e apart = solve-read op.form refl

  -- ---- what Pivots reads

  diagonal-read : (f : Factor) (n : ℕ) → ((i : ℕ) → i < part_count n x.b → HasFactorBlock x s f i i) → map found (diagonal_reads x.b grids op bind f n) ≡ diagonal_grids x.b op knowns_there f n
  diagonal-read f n there = go (numbers_below (part_count n x.b)) (below-all (part_count n x.b) (part_count n x.b) (omega arith))
    where
      go : (ps : List ℕ) → All (λ p. p < part_count n x.b) ps
          → map found (map (λ i. factor_number x.b grids op bind f i i) ps) ≡ map (λ p. factor_grid op knowns_there f p p) ps
      go [] below = refl
      go (p ∷ ps) below =
          ap₂ (λ (g : Grid) (gs : List Grid). g ∷ gs) (factor-there f p p (there p (All-head (λ p. p < part_count n x.b) p ps below)))
          (go ps (All-tail (λ p. p < part_count n x.b) p ps below))

  abbrev work : Grid
  work = nth_grid x.job.matrices (binding_at x s).work

  pub pivots-there : map found (pivot_reads x.b grids op bind op.form) ≡ pivot_grids x.b op knowns_there (nth_grid x.job.matrices (binding_at x s).work).rows (nth_grid x.job.matrices (binding_at x s).work).cols op.form
  pivots-there = go op.form refl
    where
      go : (form : Form) → op.form ≡ form → map found (pivot_reads x.b grids op bind form) ≡ pivot_grids x.b op knowns_there work.rows work.cols form
      go Assign e = refl
      go Lu e = refl
      go Ldl e = refl
      go (Left t) e = diagonal-read t work.rows (pivots-left x s is has_s t e)
      go (Right v) e = diagonal-read v work.cols (pivots-right x s is has_s v e)
      go (Sylvester t v minus) e =
          map-append found (diagonal_reads x.b grids op bind t work.rows) (diagonal_reads x.b grids op bind v work.cols)
          ∙ ap₂ (λ (gs hs : List Grid). gs ++ hs) (diagonal-read t work.rows (pivots-rows x s is has_s t v minus e)) (diagonal-read v work.cols (pivots-cols x s is has_s t v minus e))
