-- The blocks that each kind of task names, by the form: that there are such blocks, and that a block of W among them is another than the
-- one that the task writes. Cited by the functions that number them and by the laws of steps.
use Rattle.std.proofs.Common.{◌≡◌, ◌≢◌, ℕ, zero, suc, ◌-◌, ◌<◌, ◌≤◌, min, Bool, true, not, List, [], ◌∷◌, length, get_or, sym, subst, arith}
use Rattle.std.specs.Prelude.{◌==◌, ◌&&◌, nat_lt}
use Rattle.std.proofs.lemmas.Bool.{and_parts, eqb-false, false≢true, ltb-true, not-true}
use Rattle.std.proofs.lemmas.List.{get_or_default}
use Rattle.residue_sums.specs.Sums.{part_count}
use Rattle.residue_sums.specs.Grids.{Grid}
use Rattle.operation_spec.specs.declared.operation.Operation.{Operation}
use Rattle.operation_spec.specs.declared.operation.Binding.{Binding}
use Rattle.operation_spec.specs.declared.operation.Factor.{Factor}
use Rattle.operation_spec.specs.declared.operation.Term.{Term}
use Rattle.operation_spec.specs.declared.operation.Form.TheVariants.{Left, Right, Sylvester, Lu, Ldl}
use Rattle.operation_spec.specs.declared.task.Kind.{Kind}
use Rattle.operation_spec.specs.declared.task.Kind.TheVariants as kinds
use Rattle.operation_spec.specs.declared.task.Task.{Task}
use Rattle.task_graph.specs.Factors as dims
use Rattle.task_graph.specs.Tasks.{parts_of, is_work_block, is_inside, has_product, has_term, has_numbered_term, reads_left, reads_right, has_left, has_right, has_task, has}
use Rattle.task_graph.proofs.WorkBlocks.{lower-block}
use Rattle.equation.specs.Equations.{factor_cols}
use Rattle.equation.specs.Jobs.{known_grids, nth_grid}
use Rattle.equation.proofs.FactorSizes.{left_known, right_known, sylvester_knowns, term_knowns}
use Rattle.equation.proofs.ValidForms.{ldl-square, lu-square, ldl-lower}
use Rattle.block_tasks.proofs.StatementSizes.{left-factor, right-factor, sylvester-factors, terms-have, rows_are, cols_are}
use Rattle.block_tasks.proofs.TermSums.{HasTerm, HasTerms}
use Rattle.job_blocks.specs.BlockedJobs.{BlockedJob, HasBlock, IsBlockedJob, binding_at, counts_at, operation_at}
use Rattle.job_blocks.specs.FactorBlocks.{HasFactorBlock}
use Rattle.job_blocks.proofs.StatementFacts.{IsSound, factor-there, work-there}

-- ---- what the tests of tasks say

-- a task of W's blocks that has this kind
pub task-parts : (op : Operation) (counts : List ℕ) (u : Task) → has op counts u ≡ true
    → (is_work_block op counts u.i u.j ≡ true) × (has_task op counts u.kind u.term u.i u.j u.k ≡ true)
task-parts op counts u h = and_parts (is_work_block op counts u.i u.j) (has_task op counts u.kind u.term u.i u.j u.k) h

pub term-test : (op : Operation) (counts : List ℕ) (u : Task) → u.kind ≡ kinds.Term → has op counts u ≡ true → has_numbered_term op counts u.term u.i u.j u.k ≡ true
term-test op counts u kind h = subst (λ (k : Kind). has_task op counts k u.term u.i u.j u.k ≡ true) kind (task-parts op counts u h).1

pub left-test : (op : Operation) (counts : List ℕ) (u : Task) → u.kind ≡ kinds.Left → has op counts u ≡ true → has_left op counts op.form u.i u.j u.k ≡ true
left-test op counts u kind h =
    (and_parts (u.term == 0) (has_left op counts op.form u.i u.j u.k) (subst (λ (k : Kind). has_task op counts k u.term u.i u.j u.k ≡ true) kind (task-parts op counts u h).1)).1

pub right-test : (op : Operation) (counts : List ℕ) (u : Task) → u.kind ≡ kinds.Right → has op counts u ≡ true → has_right op counts op.form u.i u.j u.k ≡ true
right-test op counts u kind h =
    (and_parts (u.term == 0) (has_right op counts op.form u.i u.j u.k) (subst (λ (k : Kind). has_task op counts k u.term u.i u.j u.k ≡ true) kind (task-parts op counts u h).1)).1

-- the term with a number, of those of a list
term-listed : (op : Operation) (counts : List ℕ) (terms : List Term) (t i j k : ℕ) (d : Term) → has_term op counts terms t i j k ≡ true
    → (t < length terms) × (has_product op counts (get_or terms t d) i j k ≡ true)
term-listed op counts [] t i j k d h = absurd (false≢true h)
term-listed op counts (term ∷ terms) zero i j k d h = (omega arith, h)
term-listed op counts (term ∷ terms) (suc t) i j k d h =
    let rest = term-listed op counts terms t i j k d h in (omega (arith, rest.0), rest.1)

pub term-found : (op : Operation) (counts : List ℕ) (t i j k : ℕ) (d : Term) → has_numbered_term op counts t i j k ≡ true
    → (1 ≤ t) × (t ≤ length op.terms) × (has_product op counts (get_or op.terms (t - 1) d) i j k ≡ true)
term-found op counts zero i j k d h = absurd (false≢true h)
term-found op counts (suc t) i j k d h =
    let number : suc t - 1 ≡ t = omega arith in
    let found = term-listed op counts op.terms t i j k d h in
    (omega arith, omega (arith, found.0), subst (λ n. has_product op counts (get_or op.terms n d) i j k ≡ true) (sym number) found.1)

inner-below : (op : Operation) (counts : List ℕ) (term : Term) (i j k : ℕ) → has_product op counts term i j k ≡ true → k < parts_of counts (dims.factor_cols op term.first)
inner-below op counts term i j k h =
    let below = nat_lt k (parts_of counts (dims.factor_cols op term.first)) in
    let outer = and_parts (below && is_inside op term.first i k) (is_inside op term.second k j) h in
    ltb-true k (parts_of counts (dims.factor_cols op term.first)) (and_parts below (is_inside op term.first i k) outer.0).0

-- an update off the diagonal of a factor
left-off : (op : Operation) (counts : List ℕ) (t : Factor) (i j k : ℕ) → reads_left op counts t i j k ≡ true → (k ≢ i) × (is_work_block op counts k j ≡ true)
left-off op counts t i j k h =
    let outer = and_parts (is_inside op t i k && not (i == k)) (is_work_block op counts k j) h in
    let off = not-true (i == k) (and_parts (is_inside op t i k) (not (i == k)) outer.0).1 in
    ((λ e. eqb-false i k off (sym e)), outer.1)

right-off : (op : Operation) (counts : List ℕ) (u : Factor) (i j k : ℕ) → reads_right op counts u i j k ≡ true → (k ≢ j) × (is_work_block op counts i k ≡ true)
right-off op counts u i j k h =
    let outer = and_parts (is_inside op u k j && not (k == j)) (is_work_block op counts i k) h in
    let off = not-true (k == j) (and_parts (is_inside op u k j) (not (k == j)) outer.0).1 in
    (eqb-false k j off, outer.1)

-- one of the terms
nth-term : (m b : ℕ) (two : 2 ≤ m) (pos : 0 < b) (op : Operation) (knowns : List Grid) (work : Grid) (counts : List ℕ)
    (rows : parts_of counts op.work.rows ≡ part_count work.rows b) (cols : parts_of counts op.work.cols ≡ part_count work.cols b)
    (terms : List Term) → HasTerms m b two pos op knowns work counts rows cols terms → (t : ℕ) (d : Term) → t < length terms
    → HasTerm m b two pos op knowns work counts rows cols (get_or terms t d)
nth-term m b two pos op knowns work counts rows cols [] have t d below = absurd (omega arith)
nth-term m b two pos op knowns work counts rows cols (term ∷ terms) have zero d below = have.0
nth-term m b two pos op knowns work counts rows cols (term ∷ terms) have (suc t) d below =
    nth-term m b two pos op knowns work counts rows cols terms have.1 t d (omega arith)

-- ---- the blocks

module _ (x : BlockedJob) (s : ℕ) (is : IsBlockedJob x) (so : IsSound x s) where
  abbrev op : Operation
  op = operation_at x s

  abbrev bind : Binding
  bind = binding_at x s

  abbrev counts : List ℕ
  counts = counts_at x s

  abbrev grids : List Grid
  grids = x.job.matrices

  abbrev work : Grid
  work = nth_grid x.job.matrices bind.work

  abbrev InWork : ℕ → ℕ → Type 0
  InWork i j = HasBlock x bind.work i j

  abbrev InFactor : Factor → ℕ → ℕ → Type 0
  InFactor f i k = HasFactorBlock x s f i k

  two : 2 ≤ 2
  two = omega arith

  -- ---- triangular factors

  pub left-there : (t : Factor) → op.form ≡ Left t → (i k : ℕ) → i < part_count work.rows x.b → k < part_count work.rows x.b → InFactor t i k
  left-there t form i k row col =
      factor-there x s is so t work.rows work.rows i k (left_known op so.valid t form)
      (left-factor 2 x.b two is.size op so.valid grids bind so.fits counts so.counts t form) row col

  pub right-there : (u : Factor) → op.form ≡ Right u → (i k : ℕ) → i < part_count work.cols x.b → k < part_count work.cols x.b → InFactor u i k
  right-there u form i k row col =
      factor-there x s is so u work.cols work.cols i k (right_known op so.valid u form)
      (right-factor 2 x.b two is.size op so.valid grids bind so.fits counts so.counts u form) row col

  pub both-there : (t u : Factor) (negative : Bool) → op.form ≡ Sylvester t u negative
      → ((i k : ℕ) → i < part_count work.rows x.b → k < part_count work.rows x.b → InFactor t i k)
      × ((i k : ℕ) → i < part_count work.cols x.b → k < part_count work.cols x.b → InFactor u i k)
  both-there t u negative form =
      let known = sylvester_knowns op so.valid t u negative form in
      let have = sylvester-factors 2 x.b two is.size op so.valid grids bind so.fits counts so.counts t u negative form in (
        (λ i k row col. factor-there x s is so t work.rows work.rows i k known.0 have.0 row col),
        (λ i k row col. factor-there x s is so u work.cols work.cols i k known.1 have.1 row col),
      )

  -- ---- terms

  pub term-there : (i j k t : ℕ) (d : Term) → InWork i j → t < length op.terms → has_product op counts (get_or op.terms t d) i j k ≡ true
      → InFactor (get_or op.terms t d).first i k × InFactor (get_or op.terms t d).second k j
  term-there i j k t d own below h =
      let term : Term = get_or op.terms t d in
      let rows = rows_are 2 x.b two is.size op so.valid grids bind so.fits counts so.counts in
      let cols = cols_are 2 x.b two is.size op so.valid grids bind so.fits counts so.counts in
      let have = nth-term 2 x.b two is.size op (known_grids grids bind) work counts rows cols op.terms
      (terms-have 2 x.b two is.size op so.valid grids bind so.fits counts so.counts) t d below in
      let known = term_knowns op so.valid term (t, below, get_or_default op.terms t term d below) in
      let inner : k < part_count (factor_cols (known_grids grids bind) term.first) x.b = subst (λ n. k < n) have.parts (inner-below op counts term i j k h) in (
        factor-there x s is so term.first work.rows (factor_cols (known_grids grids bind) term.first) i k known.0 have.first own.row inner,
        factor-there x s is so term.second (factor_cols (known_grids grids bind) term.first) work.cols k j known.1 have.second inner own.col,
      )

  -- ---- updates

  -- by a triangular factor on the left
  pub left-update : (t : Factor) (i j k : ℕ) → ((p q : ℕ) → p < part_count work.rows x.b → q < part_count work.rows x.b → InFactor t p q)
      → InWork i j → reads_left op counts t i j k ≡ true → InFactor t i k × InWork k j × (k ≢ i)
  left-update t i j k there own h =
      let off = left-off op counts t i j k h in
      let other = work-there x s is so k j off.1 in
      (there i k own.row other.row, other, off.0)

  pub right-update : (u : Factor) (i j k : ℕ) → ((p q : ℕ) → p < part_count work.cols x.b → q < part_count work.cols x.b → InFactor u p q)
      → InWork i j → reads_right op counts u i j k ≡ true → InWork i k × InFactor u k j × (k ≢ j)
  right-update u i j k there own h =
      let off = right-off op counts u i j k h in
      let other = work-there x s is so i k off.1 in
      (other, there k j other.col own.col, off.0)

  -- in a square matrix
  square-block : work.rows ≡ work.cols → (i j p q : ℕ) → InWork i j → p ≤ i → q ≤ i → InWork p q
  square-block square i j p q own row col = record {
    matrix = own.matrix;
    row = omega (arith, own.row);
    col = subst (λ n. q < part_count n x.b) square (omega (arith, own.row));
  }

  pub lu-update : op.form ≡ Lu → (i j k : ℕ) → InWork i j → nat_lt k (min i j) ≡ true → InWork i k × InWork k j × (k < i) × (k < j)
  lu-update form i j k own h =
      let below : k < min i j = ltb-true k (min i j) h in
      let square = lu-square op so.valid so.fits.lengths work so.fits.work form in (
        square-block square i j i k own (omega arith) (omega arith),
        record { matrix = own.matrix; row = omega (arith, own.row); col = own.col },
        omega arith,
        omega arith,
      )

  pub ldl-update : op.form ≡ Ldl → (i j k : ℕ) → InWork i j → is_work_block op counts i j ≡ true → nat_lt k j ≡ true
      → InWork i k × InWork k k × InWork j k × (k < j)
  ldl-update form i j k own inside h =
      let below : k < j = ltb-true k j h in
      let lower : j ≤ i = lower-block op counts i j (ldl-lower op so.valid form) inside in
      let square = ldl-square op so.valid so.fits.lengths work so.fits.work form in (
        square-block square i j i k own (omega arith) (omega arith),
        square-block square i j k k own (omega arith) (omega arith),
        square-block square i j j k own (omega arith) (omega arith),
        below,
      )

  -- the diagonal block of a row or a column
  pub lesser-there : (i j : ℕ) → InWork i j → InWork (min i j) (min i j)
  lesser-there i j own = record { matrix = own.matrix; row = omega (arith, own.row); col = omega (arith, own.col) }
