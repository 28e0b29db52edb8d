-- The blocks that a task of a statement reads, by its kind and the form of the operation. Cited by the functions that number them.
use Rattle.std.proofs.Common.{◌≡◌, ◌≢◌, ℕ, ◌-◌, ◌<◌, ◌≤◌, inl, inr, min, Bool, true, if◌then◌else◌, List, length, get_or, refl, ◌∙◌, ap, arith, zero, suc, [], ◌∷◌}
use Rattle.std.proofs.lemmas.List.{get_or_read}
use Rattle.std.proofs.lemmas.Option.{slice_get_within}
use Rattle.residue_sums.specs.Sums.{part_count}
use Rattle.residue_sums.specs.Grids.{Grid}
use Rattle.structure_rules.specs.declared.Structure.{Structure}
use Rattle.structure_rules.specs.declared.Stored.{Stored}
use Rattle.structure_rules.specs.Structures.{stored_of}
use Rattle.operation_spec.specs.declared.operation.Operation.{Operation}
use Rattle.operation_spec.specs.declared.operation.Factor.{Factor}
use Rattle.operation_spec.specs.declared.operation.Term.{Term}
use Rattle.operation_spec.specs.declared.operation.Form.{Form}
use Rattle.operation_spec.specs.declared.operation.Form.TheVariants.{Left, Right, Sylvester, Lu, Ldl}
use Rattle.operation_spec.specs.declared.operation.Binding.{Binding}
use Rattle.operation_spec.specs.declared.task.Kind.{Kind}
use Rattle.operation_spec.specs.declared.task.Kind.TheVariants as kinds
use Rattle.operation_spec.specs.declared.task.Task.{Task}
use Rattle.task_graph.specs.Tasks.{has, has_left, has_right}
use Rattle.task_graph.specs.Factors.{known}
use Rattle.equation.specs.declared.job.Job.{Job}
use Rattle.equation.specs.declared.job.Statement.{Statement}
use Rattle.equation.specs.Jobs.{IsStatement, nth_grid, no_grid}
use Rattle.step_replays.specs.Accesses.{factor_number, numbered_term_reads, term_reads, no_operation, no_statement, operation_of, statement_of, work_number, write_of}
use Rattle.job_blocks.specs.BlockedJobs.{BlockedJob, HasBlock, HasStatement, HasTask, IsBlockedJob, binding_at, counts_at, operation_at}
use Rattle.job_blocks.specs.FactorBlocks.{HasFactorBlock, factor_at, no_term, stored_at, term_at}
use Rattle.job_blocks.proofs.StatementFacts.{IsSound, sound, work-there}
use Rattle.job_blocks.proofs.TaskBlocks.{both-there, ldl-update, left-test, left-there, left-update, lesser-there, lu-update, right-test, right-there, right-update, task-parts, term-found, term-test, term-there}

-- the term of a Term
pub term-in : (op : Operation) (counts : List ℕ) (u : Task) → has op counts u ≡ true → u.kind ≡ kinds.Term → (1 ≤ u.term) × (u.term ≤ length op.terms)
term-in op counts u h kind = let found = term-found op counts u.term u.i u.j u.k no_term (term-test op counts u kind h) in (found.0, found.1)

module _ (x : BlockedJob) (s : ℕ) (is : IsBlockedJob x) (has_s : HasStatement x s) where
  abbrev so : IsSound x s
  so = sound x s is has_s

  abbrev InWork : ℕ → ℕ → Type 0
  InWork i j = HasBlock x (binding_at x s).work i j

  abbrev InFactor : Factor → ℕ → ℕ → Type 0
  InFactor f i k = HasFactorBlock x s f i k

  abbrev HasForm : Form → Type 0
  HasForm form = (operation_at x s).form ≡ form

  -- ---- the diagonal blocks that Pivots reads

  pub pivots-left : (t : Factor) → HasForm (Left t) → (i : ℕ) → i < part_count (nth_grid x.job.matrices (binding_at x s).work).rows x.b → InFactor t i i
  pivots-left t form i below = left-there x s is so t form i i below below

  pub pivots-right : (u : Factor) → HasForm (Right u) → (i : ℕ) → i < part_count (nth_grid x.job.matrices (binding_at x s).work).cols x.b → InFactor u i i
  pivots-right u form i below = right-there x s is so u form i i below below

  pub pivots-rows : (t u : Factor) (minus : Bool) → HasForm (Sylvester t u minus) → (i : ℕ) → i < part_count (nth_grid x.job.matrices (binding_at x s).work).rows x.b → InFactor t i i
  pivots-rows t u minus form i below = (both-there x s is so t u minus form).0 i i below below

  pub pivots-cols : (t u : Factor) (minus : Bool) → HasForm (Sylvester t u minus) → (i : ℕ) → i < part_count (nth_grid x.job.matrices (binding_at x s).work).cols x.b → InFactor u i i
  pivots-cols t u minus form i below = (both-there x s is so t u minus form).1 i i below below

  -- ---- the blocks of one task

  module _ (u : Task) (h : has (operation_at x s) (counts_at x s) u ≡ true) where
    pub own-block : InWork u.i u.j
    own-block = work-there x s is so u.i u.j (task-parts (operation_at x s) (counts_at x s) u h).0

    -- the blocks of its term's factors
    pub term-blocks : u.kind ≡ kinds.Term → InFactor (term_at x s u.term).first u.i u.k × InFactor (term_at x s u.term).second u.k u.j
    term-blocks kind =
        let found = term-found (operation_at x s) (counts_at x s) u.term u.i u.j u.k no_term (term-test (operation_at x s) (counts_at x s) u kind h) in
        term-there x s is so u.i u.j u.k (u.term - 1) no_term own-block (omega (arith, found.0, found.1)) found.2

    -- of an update, by the form
    left_of : u.kind ≡ kinds.Left → (form : Form) → HasForm form → has_left (operation_at x s) (counts_at x s) form u.i u.j u.k ≡ true
    left_of kind form e = let test = left-test (operation_at x s) (counts_at x s) u kind h in rw e at test

    right_of : u.kind ≡ kinds.Right → (form : Form) → HasForm form → has_right (operation_at x s) (counts_at x s) form u.i u.j u.k ≡ true
    right_of kind form e = let test = right-test (operation_at x s) (counts_at x s) u kind h in rw e at test

    pub left-left : u.kind ≡ kinds.Left → (t : Factor) → HasForm (Left t) → InFactor t u.i u.k × InWork u.k u.j × (u.k ≢ u.i)
    left-left kind t form = left-update x s is so t u.i u.j u.k (left-there x s is so t form) own-block (left_of kind (Left t) form)

    pub left-both : u.kind ≡ kinds.Left → (t v : Factor) (minus : Bool) → HasForm (Sylvester t v minus) → InFactor t u.i u.k × InWork u.k u.j × (u.k ≢ u.i)
    left-both kind t v minus form = left-update x s is so t u.i u.j u.k (both-there x s is so t v minus form).0 own-block (left_of kind (Sylvester t v minus) form)

    pub left-lu : u.kind ≡ kinds.Left → HasForm Lu → InWork u.i u.k × InWork u.k u.j × (u.k < u.i) × (u.k < u.j)
    left-lu kind form = lu-update x s is so form u.i u.j u.k own-block (left_of kind Lu form)

    pub left-ldl : u.kind ≡ kinds.Left → HasForm Ldl → InWork u.i u.k × InWork u.k u.k × InWork u.j u.k × (u.k < u.j)
    left-ldl kind form = ldl-update x s is so form u.i u.j u.k own-block (task-parts (operation_at x s) (counts_at x s) u h).0 (left_of kind Ldl form)

    pub right-right : u.kind ≡ kinds.Right → (v : Factor) → HasForm (Right v) → InWork u.i u.k × InFactor v u.k u.j × (u.k ≢ u.j)
    right-right kind v form = right-update x s is so v u.i u.j u.k (right-there x s is so v form) own-block (right_of kind (Right v) form)

    pub right-both : u.kind ≡ kinds.Right → (t v : Factor) (minus : Bool) → HasForm (Sylvester t v minus) → InWork u.i u.k × InFactor v u.k u.j × (u.k ≢ u.j)
    right-both kind t v minus form = right-update x s is so v u.i u.j u.k (both-there x s is so t v minus form).1 own-block (right_of kind (Sylvester t v minus) form)

    -- of a solve
    pub solve-left : (t : Factor) → HasForm (Left t) → InFactor t u.i u.i
    solve-left t form = left-there x s is so t form u.i u.i own-block.row own-block.row

    pub solve-right : (v : Factor) → HasForm (Right v) → InFactor v u.j u.j
    solve-right v form = right-there x s is so v form u.j u.j own-block.col own-block.col

    pub solve-both : (t v : Factor) (minus : Bool) → HasForm (Sylvester t v minus) → InFactor t u.i u.i × InFactor v u.j u.j
    solve-both t v minus form =
        let both = both-there x s is so t v minus form in
        (both.0 u.i u.i own-block.row own-block.row, both.1 u.j u.j own-block.col own-block.col)

    pub solve-lesser : InWork (min u.i u.j) (min u.i u.j)
    solve-lesser = lesser-there x s is so u.i u.j own-block

-- what it writes
pub writes-work : (b : ℕ) (grids : List Grid) (bind : Binding) (list : ℕ) (kind : Kind) (i j : ℕ) → (kind ≡ kinds.Pivots → ⊥)
    → write_of b grids bind list kind i j ≡ work_number b grids bind i j
writes-work b grids bind list kinds.Pivots i j apart = absurd (apart refl)
writes-work b grids bind list kinds.Term i j apart = refl
writes-work b grids bind list kinds.Left i j apart = refl
writes-work b grids bind list kinds.Right i j apart = refl
writes-work b grids bind list kinds.Solve i j apart = refl

-- ---- from what code has read

-- a task that isn't Pivots is one of a block
pub has-task : (x : BlockedJob) (s : ℕ) (u : Task) → HasTask x s u → (u.kind ≡ kinds.Pivots → ⊥) → has (operation_at x s) (counts_at x s) u ≡ true
has-task x s u (inl pivots) apart = absurd (apart (ap (λ (v : Task). v.kind) pivots.0))
has-task x s u (inr h) apart = h

pub statement-read : (x : BlockedJob) (s : ℕ) (all : List Statement) (own : Statement) → HasStatement x s → all ≡ x.job.statements
    → own ≡ get_or all (s - 1) own → own ≡ statement_of x.job s
statement-read x s all own has_s e read =
    let there : own ≡ get_or x.job.statements (s - 1) own = rw e at read in
    get_or_read x.job.statements (s - 1) own (omega (arith, has_s.from, has_s.within)) there no_statement

pub matrix-read : (x : BlockedJob) (k : ℕ) (all : List Grid) (own : Grid) → k < length x.job.matrices → all ≡ x.job.matrices
    → own ≡ get_or all k own → own ≡ nth_grid x.job.matrices k
matrix-read x k all own below e read =
    let there : own ≡ get_or x.job.matrices k own = rw e at read in
    get_or_read x.job.matrices k own below there no_grid

-- the operation of a statement
pub operation-read : (job : Job) (s : Statement) (all : List Operation) (own : Operation) → IsStatement job s → all ≡ job.operations
    → own ≡ get_or all s.operation own → own ≡ operation_of job s
operation-read job s all own is e read =
    let there : own ≡ get_or job.operations s.operation own = rw e at read in
    get_or_read job.operations s.operation own (slice_get_within job.operations s.operation is.operation is.found) there no_operation

-- the stored block of a factor
pub place-read : (x : BlockedJob) (s : ℕ) (f : Factor) (i k : ℕ) (o : Operation) (structure : Structure) (place : Stored) → o ≡ operation_at x s
    → structure ≡ (known o f.known).structure → place ≡ (if f.primed then stored_of structure k i else stored_of structure i k) → place ≡ stored_at x s f i k
place-read x s f i k o structure place o_is structure_is place_is =
    place_is ∙ ap (λ (t : Structure). if f.primed then stored_of t k i else stored_of t i k)
    (structure_is ∙ ap (λ (p : Operation). (known p f.known).structure) o_is)

-- what a term of a list reads
term_reads-listed : (b : ℕ) (grids : List Grid) (op : Operation) (bind : Binding) (terms : List Term) (t i j k : ℕ) (d : Term) → t < length terms
    → term_reads b grids op bind terms t i j k
    ≡ factor_number b grids op bind (get_or terms t d).first i k ∷ factor_number b grids op bind (get_or terms t d).second k j ∷ []
term_reads-listed b grids op bind [] t i j k d below = absurd (omega arith)
term_reads-listed b grids op bind (term ∷ terms) zero i j k d below = refl
term_reads-listed b grids op bind (term ∷ terms) (suc t) i j k d below = term_reads-listed b grids op bind terms t i j k d (omega arith)

pub term-reads : (x : BlockedJob) (s t i j k : ℕ) → 1 ≤ t → t ≤ length (operation_at x s).terms
    → numbered_term_reads x.b x.job.matrices (operation_at x s) (binding_at x s) t i j k
    ≡ factor_at x s (term_at x s t).first i k ∷ factor_at x s (term_at x s t).second k j ∷ []
term-reads x s zero i j k from within = absurd (omega arith)
term-reads x s (suc t) i j k from within =
    let number : suc t - 1 ≡ t = omega arith in
    rw number (term_reads-listed x.b x.job.matrices (operation_at x s) (binding_at x s) (operation_at x s).terms t i j k no_term (omega arith))
