-- Statements that are held against the matrices behind a job, one after another.
use Rattle.std.proofs.Common.{◌≡◌, inl, inr, ◌⊎◌, ℕ, zero, suc, ◌+◌, ◌<◌, ◌≤◌, List, [], ◌∷◌, ◌++◌, length, get_or, set, take, All, slice_get, Some, refl, sym, ap, subst, ◌∙◌, add-one, arith, length-take}
use Rattle.std.proofs.lemmas.Bool.{cases_lt}
use Rattle.std.proofs.lemmas.List.{get_or_default, get_or_past, take_more}
use Rattle.std.proofs.lemmas.List.Elements.{All-set}
use Rattle.std.proofs.lemmas.Option.{get_or_from_slice_get, slice_get_read, slice_get_within}
use Rattle.residue_sums.specs.Grids.{Grid, AreResidues}
use Rattle.text_scan.specs.declared.Rest.{Rest}
use Rattle.operation_spec.specs.declared.operation.Operation.{Operation}
use Rattle.operation_spec.specs.ValidOperations.{IsValid}
use Rattle.equation.specs.declared.job.Job.{Job}
use Rattle.equation.specs.declared.job.Place.{Place}
use Rattle.equation.specs.declared.job.Statement.{Statement}
use Rattle.equation.specs.Equations.{Satisfies}
use Rattle.equation.specs.Jobs.{Fits, IsJob, IsStatement, known_grids, no_grid, nth_grid}
use Rattle.equation.specs.Residuals.{IsFirstResidual}
use Rattle.equation.proofs.MatrixSizes.{HaveSizes, HaveSizes-set}
use Rattle.equation.proofs.ResidualDecisions.{residual_or_right}
use Rattle.equation.proofs.StatementReads.{fits_sizes, operation_found, read_own, within_own}
use Rattle.job_text.specs.declared.stop.Stop.TheVariants.{After}
use Rattle.job_text.specs.AfterBlocks.{AreAfter, HasShortSizes, HaveShortSizes, IsAfter}
use Rattle.job_text.specs.SpelledJobs.{Spells}
use Rattle.flame_top.specs.Verify.{before_statement, Differs, IsStatementAt, Verifies, with_after}

-- the work matrices of a job that is spelled have short sizes
pub HaveShortSizes-spelled : (input : List ℕ) (rest : Rest) (job : Job) → Spells input After job rest → HaveShortSizes job job.statements
HaveShortSizes-spelled input rest job spells k d below = short (get_or job.statements k d).bind.work
  where
    short : (n : ℕ) → HasShortSizes (nth_grid job.matrices n)
    short n = elim (cases_lt n (length job.matrices)) [
      | inl inner ↦ (let sizes = spells.first.lines.writable.sizes n no_grid inner in record { rows = omega (arith, sizes.0); cols = omega (arith, sizes.1) })
      | inr past ↦ rw (get_or_past job.matrices n no_grid past) (record { rows = omega arith; cols = omega arith })
    ]

pub statement_within : (job : Job) (at : ℕ) (s : Statement) (op : Operation) → IsStatementAt job at s op → at < length job.statements
statement_within job at s op is = slice_get_within job.statements at s is.statement

-- ---- the matrices behind a job

after_count : (job : Job) (statements : List Statement) (after : List Grid) → AreAfter job statements after → length after ≡ length statements
after_count job [] [] are = refl
after_count job [] (g ∷ after) are = absurd are
after_count job (s ∷ statements) [] are = absurd are
after_count job (s ∷ statements) (g ∷ after) are = ap suc (after_count job statements after are.1)

pub after_at : (job : Job) (statements : List Statement) (after : List Grid) → AreAfter job statements after → (k : ℕ) (d : Statement) (e : Grid) → k < length statements
    → IsAfter job (get_or statements k d) (get_or after k e)
after_at job [] after are k d e below = absurd (omega arith)
after_at job (s ∷ statements) [] are k d e below = absurd are
after_at job (s ∷ statements) (g ∷ after) are zero d e below = are.0
after_at job (s ∷ statements) (g ∷ after) are (suc k) d e below = after_at job statements after are.1 k d e (omega arith)

with_one_more : (statements : List Statement) (after : List Grid) (s : Statement) (g : Grid) (grids : List Grid) → length statements ≡ length after
    → with_after (statements ++ s ∷ []) (after ++ g ∷ []) grids ≡ set (with_after statements after grids) s.bind.work g
with_one_more [] [] s g grids same = refl
with_one_more [] (h ∷ after) s g grids same = absurd (omega arith)
with_one_more (t ∷ statements) [] s g grids same = absurd (omega arith)
with_one_more (t ∷ statements) (h ∷ after) s g grids same = with_one_more statements after s g (set grids t.bind.work h) (omega arith)

-- ---- before each statement

-- the matrices before a statement: they have the sizes of the job's, and hold residues
pub record AreBefore (job : Job) (after : List Grid) (at : ℕ) (grids : List Grid) : Type 0 where
  pub are : grids ≡ before_statement job after at
  pub sizes : HaveSizes grids job.matrices
  pub residues : All (AreResidues job.modulus) grids

pub before_first : (job : Job) → IsJob job → (after : List Grid) (grids : List Grid) → grids ≡ job.matrices → AreBefore job after 0 grids
before_first job valid after grids are =
    rw are (record { are = refl; sizes = record { count = refl; rows = λ n. refl; cols = λ n. refl }; residues = valid.residues })

module _ (job : Job) (valid : IsJob job) (after : List Grid) (each : AreAfter job job.statements after) (k : ℕ) (within : k < length job.statements) (s : Statement)
    (read : s ≡ get_or job.statements k s) (g : Grid) (g_is : g ≡ get_or after k no_grid) where
  is_after : IsAfter job s g
  is_after = rw (read, g_is) (after_at job job.statements after each k s no_grid within)

  pub before_next : (grids : List Grid) → AreBefore job after k grids → AreBefore job after (k + 1) (set grids s.bind.work g)
  before_next grids so_far =
      let in_after : k < length after = omega (arith, after_count job job.statements after each) in
      let statements_more : take (k + 1) job.statements ≡ take k job.statements ++ s ∷ [] = take_more job.statements k s within ∙ ap (λ u. take k job.statements ++ u ∷ []) (sym read) in
      let after_more : take (k + 1) after ≡ take k after ++ g ∷ [] = take_more after k no_grid in_after ∙ ap (λ u. take k after ++ u ∷ []) (sym g_is) in
      let counts : length (take k job.statements) ≡ length (take k after) = simp length-take (omega arith) in
      let statement : IsStatement job s = rw (← read) at (valid.statements k s within) in
      let inner : s.bind.work < length grids = omega (arith, statement.fits.work_in, so_far.sizes.count) in
      record {
        are = ap (λ (all : List Grid). set all s.bind.work g) so_far.are
            ∙ sym (rw (statements_more, after_more) (with_one_more (take k job.statements) (take k after) s g job.matrices counts));
        sizes = HaveSizes-set grids job.matrices s.bind.work g inner so_far.sizes (is_after.rows ∙ sym (so_far.sizes.rows s.bind.work)) (is_after.cols ∙ sym (so_far.sizes.cols s.bind.work));
        residues = All-set (AreResidues job.modulus) grids s.bind.work g is_after.residues so_far.residues;
      }

  -- ---- a statement verifies, or its first difference is found

  module _ (op : Operation) (found : slice_get job.operations s.operation ≡ Some op) (statement_found : slice_get job.statements k ≡ Some s) (grids : List Grid) (so_far : AreBefore job after k grids) where
    pub verified_here : Satisfies job.modulus op (known_grids grids s.bind) (nth_grid grids s.bind.work) g → Verifies job after k
    verified_here satisfies = record {
      s = s;
      op = op;
      found = record { statement = statement_found; operation = found };
      satisfies = subst (λ (h : Grid). Satisfies job.modulus op (known_grids (before_statement job after k) s.bind) (nth_grid (before_statement job after k) s.bind.work) h) g_is
          (subst (λ (all : List Grid). Satisfies job.modulus op (known_grids all s.bind) (nth_grid all s.bind.work) g) so_far.are satisfies);
    }

    pub differs_here : (place : Place) → IsFirstResidual job.modulus op (known_grids grids s.bind) (nth_grid grids s.bind.work) g place → Differs job after k place
    differs_here place first = record {
      s = s;
      op = op;
      found = record { statement = statement_found; operation = found };
      first = subst (λ (h : Grid). IsFirstResidual job.modulus op (known_grids (before_statement job after k) s.bind) (nth_grid (before_statement job after k) s.bind.work) h place) g_is
          (subst (λ (all : List Grid). IsFirstResidual job.modulus op (known_grids all s.bind) (nth_grid all s.bind.work) g place) so_far.are first);
    }

    pub verifies_or_differs : Verifies job after k ⊎ ((place : Place) × Differs job after k place)
    verifies_or_differs = elim (residual_or_right job.modulus op (known_grids grids s.bind) (nth_grid grids s.bind.work) g) [
      | inl wrong ↦ inr (wrong.0, differs_here wrong.0 wrong.1)
      | inr right ↦ inl (verified_here (record {
        rows = is_after.rows ∙ sym (so_far.sizes.rows s.bind.work);
        cols = is_after.cols ∙ sym (so_far.sizes.cols s.bind.work);
        full = is_after.full;
        residues = is_after.residues;
        equation = λ i j row col. (right i j row col).equation;
        others = λ i j row col. (right i j row col).others;
      }))
    ]

-- ---- all statements

item_at : {X : Type 0} (xs : List X) (k : ℕ) → k < length xs → (x : X) × (slice_get xs k ≡ Some x)
item_at [] k within = absurd (omega arith)
item_at (x ∷ xs) zero within = (x, refl)
item_at (x ∷ xs) (suc k) within = item_at xs k (omega arith)

module _ (job : Job) (valid : IsJob job) (after : List Grid) (each : AreAfter job job.statements after) where
  -- the statement at a place that is one
  some_statement : (k : ℕ) → k < length job.statements → (s : Statement) × (s ≡ get_or job.statements k s) × (slice_get job.statements k ≡ Some s) × IsStatement job s
  some_statement k within =
      let item = item_at job.statements k within in
      let read : item.0 ≡ get_or job.statements k item.0 = sym (get_or_from_slice_get job.statements k item.0 item.0 item.1) in
      (item.0, read, item.1, subst (IsStatement job) (sym read) (valid.statements k item.0 within))

  before_each : (k : ℕ) → k ≤ length job.statements → AreBefore job after k (before_statement job after k)
  before_each zero le = before_first job valid after job.matrices refl
  before_each (suc k) le =
      let within : k < length job.statements = omega arith in
      let s = some_statement k within in
      let next : AreBefore job after (k + 1) (set (before_statement job after k) s.0.bind.work (get_or after k no_grid))
      = before_next job valid after each k within s.0 s.1 (get_or after k no_grid) refl (before_statement job after k) (before_each k (omega arith)) in
      let here : AreBefore job after (suc k) (set (before_statement job after k) s.0.bind.work (get_or after k no_grid))
      = subst (λ (n : ℕ). AreBefore job after n (set (before_statement job after k) s.0.bind.work (get_or after k no_grid))) (add-one k) next in
      subst (AreBefore job after (suc k)) here.are here

  verifies_or_differs_at : (k : ℕ) → k < length job.statements → Verifies job after k ⊎ ((place : Place) × Differs job after k place)
  verifies_or_differs_at k within =
      let s = some_statement k within in
      verifies_or_differs job valid after each k within s.0 s.1 (get_or after k no_grid) refl s.3.operation s.3.found s.2 (before_statement job after k) (before_each k (omega arith))

  upto : (n : ℕ) → n ≤ length job.statements
      → ((k : ℕ) → k < n → Verifies job after k) ⊎ ((at : ℕ) × (place : Place) × Differs job after at place × ((k : ℕ) → k < at → Verifies job after k))
  upto zero le = inl (λ k below. absurd (omega arith))
  upto (suc n) le = elim (upto n (omega arith)) [
    | inl all ↦ elim (verifies_or_differs_at n (omega arith)) [
      | inl last ↦ inl (λ k below. elim (cases_lt k n) [
        | inl less ↦ all k less
        | inr here ↦ (let same : n ≡ k = omega arith in subst (Verifies job after) same last)
      ])
      | inr differs ↦ inr (n, differs.0, differs.1, all)
    ]
    | inr found ↦ inr found
  ]

  pub all_verify_or_first : ((k : ℕ) → k < length job.statements → Verifies job after k)
      ⊎ ((at : ℕ) × (place : Place) × Differs job after at place × ((k : ℕ) → k < at → Verifies job after k))
  all_verify_or_first = upto (length job.statements) (omega arith)

-- ---- a statement, its operation and its matrix, as code reads them

module _ (job : Job) (valid : IsJob job) (after : List Grid) (each : AreAfter job job.statements after) (statements : List Statement) (operations : List Operation) (k : ℕ)
    (s : Statement) (op : Operation) (statements_are : statements ≡ job.statements) (operations_are : operations ≡ job.operations) (within : k < length statements)
    (read : s ≡ get_or statements k s) (operation_read : op ≡ get_or operations s.operation op) where
  own_within : k < length job.statements
  own_within = within_own job valid statements operations k s op statements_are operations_are within read operation_read

  own_read : s ≡ get_or job.statements k s
  own_read = read_own job valid statements operations k s op statements_are operations_are within read operation_read

  own_operation : slice_get job.operations s.operation ≡ Some op
  own_operation = operation_found job valid statements operations k s op statements_are operations_are within read operation_read

  pub in_after : k < length after
  in_after = omega (arith, after_count job job.statements after each, own_within)

  pub valid_operation : IsValid op
  valid_operation = subst IsValid (get_or_from_slice_get job.operations s.operation op op own_operation)
      (valid.operations s.operation op (slice_get_within job.operations s.operation op own_operation))

  statement_here : slice_get job.statements k ≡ Some s
  statement_here = slice_get_read job.statements (length job.statements) k s refl own_within own_read

  module _ (grids : List Grid) (so_far : AreBefore job after k grids) where
    pub fits_here : Fits op grids s.bind
    fits_here = fits_sizes job valid statements operations k s op statements_are operations_are within read operation_read grids so_far.sizes

    module _ (g : Grid) (g_read : g ≡ get_or after k g) where
      g_is : g ≡ get_or after k no_grid
      g_is = g_read ∙ get_or_default after k g no_grid in_after

      own_after : IsAfter job s g
      own_after = is_after job valid after each k own_within s own_read g g_is

      pub rows_here : g.rows ≡ (nth_grid grids s.bind.work).rows
      rows_here = own_after.rows ∙ sym (so_far.sizes.rows s.bind.work)

      pub cols_here : g.cols ≡ (nth_grid grids s.bind.work).cols
      cols_here = own_after.cols ∙ sym (so_far.sizes.cols s.bind.work)

      pub residues_here : AreResidues job.modulus g
      residues_here = own_after.residues

      pub next_here : AreBefore job after (k + 1) (set grids s.bind.work g)
      next_here = before_next job valid after each k own_within s own_read g g_is grids so_far

      pub satisfied : Satisfies job.modulus op (known_grids grids s.bind) (nth_grid grids s.bind.work) g → Verifies job after k
      satisfied = verified_here job valid after each k own_within s own_read g g_is op own_operation statement_here grids so_far

      pub differing : (place : Place) → IsFirstResidual job.modulus op (known_grids grids s.bind) (nth_grid grids s.bind.work) g place → Differs job after k place
      differing = differs_here job valid after each k own_within s own_read g g_is op own_operation statement_here grids so_far
