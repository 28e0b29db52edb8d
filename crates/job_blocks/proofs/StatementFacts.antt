-- A statement of a job under a block size: its operation is valid and fits its matrices, and the counts are those of their lengths. Cited by
-- all that looks up what a statement names.
use Rattle.std.proofs.Common.{◌≡◌, ◌≢◌, ℕ, suc, ◌-◌, ◌<◌, inl, inr, Bool, true, false, if◌then◌else◌, List, length, get_or, refl, sym, ap, subst, arith}
use Rattle.std.specs.Prelude.{nat_lt, slice_get, Some}
use Rattle.std.proofs.lemmas.Bool.{cases_Bool}
use Rattle.residue_sums.specs.Sums.{part_count}
use Rattle.residue_sums.specs.Grids.{Grid}
use Rattle.structure_rules.specs.declared.Structure.{Structure}
use Rattle.structure_rules.specs.declared.Structure.TheVariants.{General, Lower, UnitLower, Upper, UnitUpper, Diagonal, Symmetric}
use Rattle.structure_rules.specs.Structures.{stored_of}
use Rattle.operation_spec.specs.declared.operation.Operation.{Operation}
use Rattle.operation_spec.specs.declared.operation.Binding.{Binding}
use Rattle.operation_spec.specs.declared.operation.Factor.{Factor}
use Rattle.operation_spec.specs.ValidOperations.{IsValid}
use Rattle.task_graph.specs.Factors.{known}
use Rattle.task_graph.specs.Tasks.{parts_of, is_work_block}
use Rattle.task_graph.proofs.WorkBlocks.{work-block}
use Rattle.equation.specs.Equations.{factor_cols, known_grid}
use Rattle.equation.specs.Jobs.{Fits, IsStatement, known_grids, nth_grid}
use Rattle.equation.proofs.FactorSizes.{matrix-is}
use Rattle.block_tasks.specs.Effects.{factor_rows}
use Rattle.block_tasks.specs.Counts.{AreCounts}
use Rattle.block_tasks.proofs.StatementSizes.{rows_are, cols_are}
use Rattle.block_tasks.proofs.TermSums.{HasFactor}
use Rattle.step_replays.specs.Accesses.{no_statement, statement_of}
use Rattle.step_replays.proofs.StatementCuts.{counts-are, operation-found, operation-fits, operation-valid}
use Rattle.job_blocks.specs.BlockedJobs.{BlockedJob, HasBlock, HasStatement, IsBlockedJob, binding_at, counts_at, operation_at}
use Rattle.job_blocks.specs.FactorBlocks.{HasFactorBlock, stored_at}

pub record IsSound (x : BlockedJob) (s : ℕ) : Type 0 where
  pub found : slice_get x.job.operations (statement_of x.job s).operation ≡ Some (operation_at x s)
  pub valid : IsValid (operation_at x s)
  pub fits : Fits (operation_at x s) x.job.matrices (binding_at x s)
  pub counts : AreCounts x.b (length (operation_at x s).dims) fits.lengths (counts_at x s)

sound-suc : (x : BlockedJob) → IsBlockedJob x → (t : ℕ) → t < length x.job.statements → IsSound x (suc t)
sound-suc x is t t_in =
    let valid = operation-valid x.job is.job t t_in in
    let fits = operation-fits x.job is.job t t_in in
    record {
      found = operation-found x.job is.job t t_in;
      valid = valid;
      fits = fits;
      counts = counts-are x.b (operation_at x (suc t)) valid x.job.matrices (binding_at x (suc t)) fits;
    }

pub sound : (x : BlockedJob) (s : ℕ) → IsBlockedJob x → HasStatement x s → IsSound x s
sound x s is has =
    let number : suc (s - 1) ≡ s = omega (arith, has.from) in
    subst (IsSound x) number (sound-suc x is (s - 1) (omega (arith, has.from, has.within)))

pub own_statement : (x : BlockedJob) (s : ℕ) → IsBlockedJob x → HasStatement x s → IsStatement x.job (statement_of x.job s)
own_statement x s is has = is.job.statements (s - 1) no_statement (omega (arith, has.from, has.within))

-- ---- the stored block of a view

-- it is in the matrix, which is square where its structure asks for it
stored-in : (s : Structure) (rows cols i k : ℕ) → (s ≢ General → rows ≡ cols) → i < rows → k < cols → ((stored_of s i k).row < rows) × ((stored_of s i k).col < cols)
stored-in General rows cols i k square row col = (row, col)
stored-in Lower rows cols i k square row col = (row, col)
stored-in UnitLower rows cols i k square row col = (row, col)
stored-in Upper rows cols i k square row col = (row, col)
stored-in UnitUpper rows cols i k square row col = (row, col)
stored-in Diagonal rows cols i k square row col = (row, col)
stored-in Symmetric rows cols i k square row col =
    let same : rows ≡ cols = square (λ e. absurd (cc)) in
    elim (cases_Bool (nat_lt i k)) [
      | inl above ↦ rw above (omega arith, omega arith)
      | inr below ↦ rw below (row, col)
    ]

-- the same of op(F), whose rows and columns are exchanged where it is primed
turned-in : (primed : Bool) (s : Structure) (rows cols i k : ℕ) → (s ≢ General → rows ≡ cols)
    → i < (if primed then cols else rows) → k < (if primed then rows else cols)
    → ((if primed then stored_of s k i else stored_of s i k).row < rows) × ((if primed then stored_of s k i else stored_of s i k).col < cols)
turned-in true s rows cols i k square row col = stored-in s rows cols k i square col row
turned-in false s rows cols i k square row col = stored-in s rows cols i k square row col

count-turned : (primed : Bool) (b n m : ℕ) → part_count (if primed then m else n) b ≡ (if primed then part_count m b else part_count n b)
count-turned true b n m = refl
count-turned false b n m = refl

module _ (x : BlockedJob) (s : ℕ) (is : IsBlockedJob x) (so : IsSound x s) where
  abbrev op : Operation
  op = operation_at x s

  abbrev bind : Binding
  bind = binding_at x s

  abbrev knowns : List Grid
  knowns = known_grids x.job.matrices bind

  abbrev work : Grid
  work = nth_grid x.job.matrices bind.work

  pub work_rows : parts_of (counts_at x s) op.work.rows ≡ part_count work.rows x.b
  work_rows = rows_are 2 x.b (omega arith) is.size op so.valid x.job.matrices bind so.fits (counts_at x s) so.counts

  pub work_cols : parts_of (counts_at x s) op.work.cols ≡ part_count work.cols x.b
  work_cols = cols_are 2 x.b (omega arith) is.size op so.valid x.job.matrices bind so.fits (counts_at x s) so.counts

  -- a block of W is one of the work matrix
  pub work-there : (i j : ℕ) → is_work_block op (counts_at x s) i j ≡ true → HasBlock x bind.work i j
  work-there i j h =
      let there = work-block op (counts_at x s) i j h in
      record {
        matrix = so.fits.work_in;
        row = subst (λ n. i < n) work_rows there.0;
        col = subst (λ n. j < n) work_cols there.1;
      }

  -- a block of op(F), of so many rows and columns
  pub factor-there : (f : Factor) (rows cols i k : ℕ) → f.known < length op.knowns → HasFactor op x.b knowns is.size f rows cols
      → i < part_count rows x.b → k < part_count cols x.b → HasFactorBlock x s f i k
  factor-there f rows cols i k known_in has row col =
      let g = known_grid knowns f.known in
      let own : known_grid knowns f.known ≡ nth_grid x.job.matrices (get_or bind.knowns f.known 0) = matrix-is op x.job.matrices bind so.valid so.fits f.known known_in in
      let bound : f.known < length bind.knowns = omega (arith, so.fits.count) in
      let row_in : i < part_count (factor_rows knowns f) x.b = subst (λ n. i < part_count n x.b) (sym has.rows_are) row in
      let col_in : k < part_count (factor_cols knowns f) x.b = subst (λ n. k < part_count n x.b) (sym has.cols_are) col in
      let square : (known op f.known).structure ≢ General → part_count g.rows x.b ≡ part_count g.cols x.b = λ ne. ap (λ (n : ℕ). part_count n x.b) (has.square ne) in
      let place = turned-in f.primed (known op f.known).structure (part_count g.rows x.b) (part_count g.cols x.b) i k square
      (subst (λ n. i < n) (count-turned f.primed x.b g.rows g.cols) row_in) (subst (λ n. k < n) (count-turned f.primed x.b g.cols g.rows) col_in) in
      record {
        known = known_in;
        bound = bound;
        stored = record {
          matrix = so.fits.knowns_in f.known 0 bound;
          row = subst (λ (h : Grid). (stored_at x s f i k).row < part_count h.rows x.b) own place.0;
          col = subst (λ (h : Grid). (stored_at x s f i k).col < part_count h.cols x.b) own place.1;
        };
      }
