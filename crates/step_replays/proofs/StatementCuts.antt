-- A statement of a valid job: its operation and its matrices, and that the counts of its parts are those of the lengths that fit. Cited by
-- all that goes from a job's steps to its matrices.
use Rattle.std.proofs.Common.{◌≡◌, ◌≢◌, ℕ, zero, suc, ◌+◌, ◌-◌, ◌<◌, ◌≤◌, ◌⊎◌, inl, inr, Bool, true, false, if◌then◌else◌, List, [], ◌∷◌, length, get_or, map, All, Contains, slice_get, Some, refl, sym, ◌∙◌, ap, subst, arith}
use Rattle.std.specs.Prelude.{◌==◌}
use Rattle.std.specs.List.{flat_map, range_with_len}
use Rattle.std.proofs.lemmas.Bool.{cases_eq, cases_lt}
use Rattle.std.proofs.lemmas.Bool.Decides.{nat_tests}
use Rattle.std.proofs.lemmas.List.{length-map, get_or-map, get_or_past}
use Rattle.std.proofs.lemmas.List.FromFn.{get_or-map-range_with_len}
use Rattle.std.proofs.lemmas.Option.{get_or_from_slice_get, slice_get_within}
use Rattle.residue_sums.specs.Sums.{part_count}
use Rattle.residue_sums.specs.Grids.{Grid}
use Rattle.operation_spec.specs.declared.operation.Operation.{Operation}
use Rattle.operation_spec.specs.declared.operation.Operand.{Operand}
use Rattle.operation_spec.specs.declared.operation.Binding.{Binding}
use Rattle.operation_spec.specs.declared.operation.Form.{Form}
use Rattle.operation_spec.specs.declared.operation.Form.TheVariants.{Assign, Left, Right, Sylvester, Lu, Ldl}
use Rattle.operation_spec.specs.ValidOperations.{IsValid, operands_of}
use Rattle.task_graph.specs.Tasks.{parts_of}
use Rattle.equation.specs.declared.job.Job.{Job}
use Rattle.equation.specs.declared.job.Statement.{Statement}
use Rattle.equation.specs.Jobs.{Fits, HasLengths, IsJob, IsStatement, nth_grid, no_grid, known_grids}
use Rattle.equation.proofs.ValidForms.{sylvester-general, lu-general, ldl-lower}
use Rattle.equation.proofs.MatrixSizes.{HaveSizes}
use Rattle.block_tasks.specs.Effects.{SuitsForm}
use Rattle.block_tasks.specs.Counts.{AreCounts}
use Rattle.block_tasks.proofs.StatementSizes.{rows_are, cols_are}
use Rattle.step_replays.specs.Accesses.{operation_of, statement_of, no_operation, no_statement}
use Rattle.step_replays.specs.Fits.{counts_of, counts_by, length_of, length_among}

-- the work matrix of statement t + 1 is one of the job, cut as the counts say, and its structure suits the form
pub record HasWorkMatrix (job : Job) (b t : ℕ) : Type 0 where
  pub work_in : (statement_of job (suc t)).bind.work < length job.matrices
  pub rows : parts_of (counts_of job b (suc t)) (operation_of job (statement_of job (suc t))).work.rows ≡ part_count (nth_grid job.matrices (statement_of job (suc t)).bind.work).rows b
  pub cols : parts_of (counts_of job b (suc t)) (operation_of job (statement_of job (suc t))).work.cols ≡ part_count (nth_grid job.matrices (statement_of job (suc t)).bind.work).cols b
  pub suits : SuitsForm (operation_of job (statement_of job (suc t))) (operation_of job (statement_of job (suc t))).form

-- ---- the length of a dimension

module _ (lengths : ℕ → ℕ) where
  -- matrices that have these lengths for their operands
  abbrev HaveLengths : List Operand → List Grid → Type 0
  HaveLengths [] grids = Unit {0}
  HaveLengths (o ∷ operands) [] = ⊥
  HaveLengths (o ∷ operands) (g ∷ grids) = HasLengths lengths o g × HaveLengths operands grids

  have-lengths : (operands : List Operand) (grids : List Grid) (o : Operand) → length grids ≡ length operands
      → ((k : ℕ) → k < length operands → HasLengths lengths (get_or operands k o) (nth_grid grids k)) → HaveLengths operands grids
  have-lengths [] grids o same each = tt
  have-lengths (o ∷ operands) [] d same each = absurd (omega arith)
  have-lengths (o ∷ operands) (g ∷ grids) d same each =
      (each zero (omega arith), have-lengths operands grids d (omega arith) (λ k below. each (suc k) (omega arith)))

  -- a dimension that an operand is on
  length_among-is : (operands : List Operand) (grids : List Grid) (d : ℕ) → HaveLengths operands grids
      → Contains (flat_map (λ o. o.rows ∷ o.cols ∷ []) operands) d → length_among operands grids d ≡ lengths d
  length_among-is [] grids d have among = absurd (omega (arith, among.1))
  length_among-is (o ∷ operands) [] d have among = absurd have
  length_among-is (o ∷ operands) (g ∷ grids) d have among = elim (cases_eq o.rows d) [
    | inl here ↦ (let e : (o.rows == d) ≡ true = grind (arith, nat_tests) in rw e (have.0.rows ∙ ap lengths here))
    | inr other ↦ (let e : (o.rows == d) ≡ false = grind (arith, nat_tests) in elim (cases_eq o.cols d) [
      | inl here ↦ (let f : (o.cols == d) ≡ true = grind (arith, nat_tests) in rw (e, f) (have.0.cols ∙ ap lengths here))
      | inr apart ↦ (let f : (o.cols == d) ≡ false = grind (arith, nat_tests) in rw (e, f) (length_among-is operands grids d have.1 (rest among other apart)))
    ])
  ]
    where
      rest : Contains (o.rows ∷ o.cols ∷ flat_map (λ o. o.rows ∷ o.cols ∷ []) operands) d → o.rows ≢ d → o.cols ≢ d → Contains (flat_map (λ o. o.rows ∷ o.cols ∷ []) operands) d
      rest (zero, below, at) x y = absurd (x at)
      rest (suc zero, below, at) x y = absurd (y at)
      rest (suc (suc k), below, at) x y = (k, omega arith, at)

-- the counts of a valid operation that fits
pub counts-are : (b : ℕ) (op : Operation) (valid : IsValid op) (grids : List Grid) (bind : Binding) (fits : Fits op grids bind)
    → AreCounts b (length op.dims) fits.lengths (counts_by b op grids bind)
counts-are b op valid grids bind fits d below =
    get_or-map-range_with_len (λ d. part_count (length_of op grids bind d) b) 0 (length op.dims) d d 0 below (omega arith)
    ∙ ap (λ (n : ℕ). part_count n b) (length_among-is fits.lengths (operands_of op) (nth_grid grids bind.work ∷ known_grids grids bind) d
    (fits.work, have-lengths fits.lengths op.knowns (known_grids grids bind) op.work (length-map bind.knowns (nth_grid grids) ∙ fits.count) fits.knowns)
    (valid.dims_used d below))

-- they depend on the sizes of the matrices alone
length_among-same : (operands : List Operand) (grids others : List Grid) (d : ℕ) → length grids ≡ length others
    → ((k : ℕ) → ((nth_grid grids k).rows ≡ (nth_grid others k).rows) × ((nth_grid grids k).cols ≡ (nth_grid others k).cols)) → length_among operands grids d ≡ length_among operands others d
length_among-same [] grids others d count sizes = refl
length_among-same (o ∷ operands) [] [] d count sizes = refl
length_among-same (o ∷ operands) [] (h ∷ others) d count sizes = absurd (omega arith)
length_among-same (o ∷ operands) (g ∷ grids) [] d count sizes = absurd (omega arith)
length_among-same (o ∷ operands) (g ∷ grids) (h ∷ others) d count sizes =
    let first = sizes zero in
    let rest = length_among-same operands grids others d (omega arith) (λ k. sizes (suc k)) in
    λ x. if o.rows == d then first.0 x else if o.cols == d then first.1 x else rest x

-- ---- a statement of a valid job

-- W is general, or lower, where the form asks for it
suits-form : (op : Operation) → IsValid op → SuitsForm op op.form
suits-form op valid = go op.form refl
  where
    go : (form : Form) → op.form ≡ form → SuitsForm op form
    go Assign e = tt
    go (Left t) e = tt
    go (Right t) e = tt
    go (Sylvester t u negative) e = sylvester-general op valid t u negative e
    go Lu e = (lu-general op valid e).0
    go Ldl e = ldl-lower op valid e

module _ (job : Job) (valid : IsJob job) (t : ℕ) (t_in : t < length job.statements) where
  abbrev pub own : Statement
  own = statement_of job (suc t)

  pub own-is : own ≡ get_or job.statements t no_statement
  own-is = let e : suc t - 1 ≡ t = omega arith in rw e refl

  pub is_statement : IsStatement job own
  is_statement = rw own-is (valid.statements t no_statement t_in)

  operation-is : operation_of job own ≡ is_statement.operation
  operation-is = get_or_from_slice_get job.operations own.operation is_statement.operation no_operation is_statement.found

  pub operation-found : slice_get job.operations own.operation ≡ Some (operation_of job own)
  operation-found = is_statement.found ∙ ap (λ (o : Operation). Some o) (sym operation-is)

  pub operation-valid : IsValid (operation_of job own)
  operation-valid = valid.operations own.operation no_operation (slice_get_within job.operations own.operation is_statement.operation is_statement.found)

  pub operation-fits : Fits (operation_of job own) job.matrices own.bind
  operation-fits = subst (λ (o : Operation). Fits o job.matrices own.bind) (sym operation-is) is_statement.fits

  pub has-work_matrix : (m b : ℕ) → 2 ≤ m → 0 < b → HasWorkMatrix job b t
  has-work_matrix m b two pos =
      let counts = counts-are b (operation_of job own) operation-valid job.matrices own.bind operation-fits in
      record {
        work_in = operation-fits.work_in;
        rows = rows_are m b two pos (operation_of job own) operation-valid job.matrices own.bind operation-fits (counts_of job b (suc t)) counts;
        cols = cols_are m b two pos (operation_of job own) operation-valid job.matrices own.bind operation-fits (counts_of job b (suc t)) counts;
        suits = suits-form (operation_of job own) operation-valid;
      }

  -- at matrices of the sizes of the job's
  module _ (before : List Grid) (sizes : HaveSizes before job.matrices) (fits : Fits (operation_of job own) before own.bind) where
    listed : (k : ℕ) → ((nth_grid (nth_grid job.matrices own.bind.work ∷ known_grids job.matrices own.bind) k).rows ≡ (nth_grid (nth_grid before own.bind.work ∷ known_grids before own.bind) k).rows)
        × ((nth_grid (nth_grid job.matrices own.bind.work ∷ known_grids job.matrices own.bind) k).cols ≡ (nth_grid (nth_grid before own.bind.work ∷ known_grids before own.bind) k).cols)
    listed zero = (sym (sizes.rows own.bind.work), sym (sizes.cols own.bind.work))
    listed (suc k) = elim (cases_lt k (length own.bind.knowns)) [
      | inl known ↦ (let n : ℕ = get_or own.bind.knowns k 0 in
          let here : nth_grid (known_grids job.matrices own.bind) k ≡ nth_grid job.matrices n = get_or-map (nth_grid job.matrices) own.bind.knowns k 0 no_grid known in
          let there : nth_grid (known_grids before own.bind) k ≡ nth_grid before n = get_or-map (nth_grid before) own.bind.knowns k 0 no_grid known in (
            ap (λ (g : Grid). g.rows) here ∙ sym (sizes.rows n) ∙ ap (λ (g : Grid). g.rows) (sym there),
            ap (λ (g : Grid). g.cols) here ∙ sym (sizes.cols n) ∙ ap (λ (g : Grid). g.cols) (sym there),
          ))
      | inr past ↦ (let here : nth_grid (known_grids job.matrices own.bind) k ≡ no_grid
          = get_or_past (known_grids job.matrices own.bind) k no_grid (omega (arith, length-map own.bind.knowns (nth_grid job.matrices))) in
          let there : nth_grid (known_grids before own.bind) k ≡ no_grid
          = get_or_past (known_grids before own.bind) k no_grid (omega (arith, length-map own.bind.knowns (nth_grid before))) in
          (ap (λ (g : Grid). g.rows) (here ∙ sym there), ap (λ (g : Grid). g.cols) (here ∙ sym there)))
    ]

    pub counts-before : (b : ℕ) → AreCounts b (length (operation_of job own).dims) fits.lengths (counts_of job b (suc t))
    counts-before b d below =
        let op : Operation = operation_of job own in
        let same : length_of op job.matrices own.bind d ≡ length_of op before own.bind d
        = length_among-same (operands_of op) (nth_grid job.matrices own.bind.work ∷ known_grids job.matrices own.bind) (nth_grid before own.bind.work ∷ known_grids before own.bind) d
        (ap suc (length-map own.bind.knowns (nth_grid job.matrices) ∙ sym (length-map own.bind.knowns (nth_grid before)))) listed in
        get_or-map-range_with_len (λ d. part_count (length_of op job.matrices own.bind d) b) 0 (length op.dims) d d 0 below (omega arith)
        ∙ ap (λ (n : ℕ). part_count n b) same
        ∙ sym (get_or-map-range_with_len (λ d. part_count (length_of op before own.bind d) b) 0 (length op.dims) d d 0 below (omega arith))
        ∙ counts-are b op operation-valid before own.bind fits d below
