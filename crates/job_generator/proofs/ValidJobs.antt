-- A generated job is valid. Cited by the law, and by the function that makes one.
use Rattle.std.proofs.Common.{◌≡◌, ◌≢◌, ℕ, ◌*◌, ◌-◌, ◌<◌, ◌≤◌, List, [], ◌∷◌, length, Bool, true, false, if◌then◌else◌, ◌==◌, refl, sym, subst, arith}
use Rattle.std.specs.Prelude.{All, slice_get, Some}
use Rattle.std.proofs.Math.Nat.{mod-lt}
use Rattle.std.proofs.lemmas.Nat.{mul-le}
use Rattle.std.proofs.lemmas.List.{length-map, length-replicate}
use Rattle.std.proofs.lemmas.List.Elements.{All-from_recursion, All-nil, All-get_or, All-map, All-replicate, All-weaker}
use Rattle.residue_sums.specs.Residues.{IsModulus}
use Rattle.residue_sums.specs.Grids.{AreResidues, Grid, IsFull}
use Rattle.matrix_core.specs.Matrices.{zero_grid}
use Rattle.operation_spec.specs.declared.operation.Binding.{Binding}
use Rattle.operation_spec.specs.declared.operation.Operation.{Operation}
use Rattle.operation_spec.specs.ValidOperations.{IsValid}
use Rattle.equation.specs.declared.job.Job.{Job}
use Rattle.equation.specs.Jobs.{Fits, IsJob, IsStatement, known_grids, no_grid, nth_grid}
use Rattle.equation.specs.Pivots.{HasResidues}
use Rattle.equation.proofs.AssignedGrids.{IsFull-grid_of, AreResidues-grid_of}
use Rattle.job_generator.specs.Draws.{first_number, number_after, draw, off_diagonal_before, drawn_table, unit_diagonal_table}
use Rattle.job_generator.specs.GeneratedOperations.{prod, lu, solve, ulow, upp}
use Rattle.job_generator.specs.GeneratedJobs.{factors, right_side, statement, generated_job}
use Rattle.job_generator.proofs.OperationsRead.{prod-read, lu-read, ulow-read, upp-read}

-- ---- statements on square matrices of one size

-- n rows and n columns
pub record IsSquare (n : ℕ) (g : Grid) : Type 0 where
  pub rows : g.rows ≡ n
  pub cols : g.cols ≡ n

-- they fit whatever dimensions the operands have
pub Fits-square : (n : ℕ) (grids : List Grid) (op : Operation) (bind : Binding) → All (IsSquare n) grids → bind.work < length grids
    → All (λ k. k < length grids) bind.knowns → length bind.knowns ≡ length op.knowns → All (λ k. k ≢ bind.work) bind.knowns → Fits op grids bind
Fits-square n grids op bind square work_in knowns_in count apart = record {
  work_in = work_in;
  knowns_in = knowns_in;
  count = count;
  lengths = λ d. n;
  work = let is : IsSquare n (nth_grid grids bind.work) = nth bind.work work_in in record { rows = is.rows; cols = is.cols };
  knowns = λ k below.
      let is : IsSquare n (nth_grid (known_grids grids bind) k) = All-get_or (IsSquare n) (known_grids grids bind) k no_grid (omega (arith, length-map bind.knowns (nth_grid grids))) knowns_square in
      record { rows = is.rows; cols = is.cols };
  apart = apart;
}
  where
    nth : (k : ℕ) → k < length grids → IsSquare n (nth_grid grids k)
    nth k below = All-get_or (IsSquare n) grids k no_grid below square

    knowns_square : All (IsSquare n) (known_grids grids bind)
    knowns_square = All-map (IsSquare n) (nth_grid grids) bind.knowns (All-weaker (λ k. k < length grids) (λ k. IsSquare n (nth_grid grids k)) nth bind.knowns knowns_in)

module _ (n m seed : ℕ) where
  -- the number that the right side is drawn from
  abbrev pub behind_factors : ℕ
  behind_factors = number_after (n * n - n) (first_number seed)

  abbrev pub matrices : List Grid
  matrices = factors n m seed ∷ zero_grid n n ∷ right_side n m seed ∷ []

  -- ---- its matrices

  pub generated-square : All (IsSquare n) matrices
  generated-square = All-from_recursion (IsSquare n) matrices (record { rows = refl; cols = refl }, (record { rows = refl; cols = refl }, (record { rows = refl; cols = refl }, tt)))

  pub generated-full : All IsFull matrices
  generated-full = All-from_recursion IsFull matrices (
    IsFull-grid_of (unit_diagonal_table m (first_number seed) n) n n,
    (length-replicate (n * n) 0, (IsFull-grid_of (drawn_table m behind_factors n) n n, tt)),
  )

  pub generated-residues : IsModulus m → All (AreResidues m) matrices
  generated-residues modulus = All-from_recursion (AreResidues m) matrices (
    AreResidues-grid_of (unit_diagonal_table m (first_number seed) n) n n m of_factors,
    (All-replicate (λ x. x < m) (n * n) 0 pos, (AreResidues-grid_of (drawn_table m behind_factors n) n n m (λ i j. mod-lt _ pos), tt)),
  )
    where
      pos : 0 < m
      pos = omega (arith, modulus.at_least_two)

      of_factors : HasResidues m (unit_diagonal_table m (first_number seed) n)
      of_factors i j = go (i == j)
        where
          go : (b : Bool) → (if b then 1 else draw m (first_number seed) (off_diagonal_before n i j)) < m
          go true = omega (arith, modulus.at_least_two)
          go false = mod-lt _ pos

  -- ---- its statements

  -- a statement of the job
  is_statement : (op : Operation) (number work : ℕ) (knowns : List ℕ) → slice_get (generated_job n m seed).operations number ≡ Some op → work < 3
      → All (λ k. k < 3) knowns → length knowns ≡ length op.knowns → All (λ k. k ≢ work) knowns → IsStatement (generated_job n m seed) (statement number work knowns)
  unfolding generated_job
  is_statement op number work knowns found work_in knowns_in count apart =
      record { operation = op; found = found; fits = Fits-square n matrices op (statement number work knowns).bind generated-square work_in knowns_in count apart }

  generated-statements : All (IsStatement (generated_job n m seed)) (generated_job n m seed).statements
  unfolding generated_job prod lu solve
  generated-statements = All-from_recursion (IsStatement (generated_job n m seed)) (generated_job n m seed).statements (
    is_statement prod 0 1 (0 ∷ 0 ∷ []) refl (omega arith) (All-from_recursion (λ k. k < 3) (0 ∷ 0 ∷ []) (omega arith, (omega arith, tt))) refl (All-from_recursion (λ k. k ≢ 1) (0 ∷ 0 ∷ []) (omega arith, (omega arith, tt))),
    (
      is_statement lu 1 1 [] refl (omega arith) (All-nil (λ k. k < 3)) refl (All-nil (λ k. k ≢ 1)),
      (
        is_statement ulow 2 2 (1 ∷ []) refl (omega arith) (All-from_recursion (λ k. k < 3) (1 ∷ []) (omega arith, tt)) refl (All-from_recursion (λ k. k ≢ 2) (1 ∷ []) (omega arith, tt)),
        (
          is_statement upp 3 2 (1 ∷ []) refl (omega arith) (All-from_recursion (λ k. k < 3) (1 ∷ []) (omega arith, tt)) refl (All-from_recursion (λ k. k ≢ 2) (1 ∷ []) (omega arith, tt)),
          tt,
        ),
      ),
    ),
  )

pub generated-valid : (n m seed : ℕ) → n ≤ 1024 → IsModulus m → IsJob (generated_job n m seed)
unfolding generated_job
generated-valid n m seed small modulus = record {
  modulus = modulus;
  few_operations = omega arith;
  few_matrices = omega arith;
  few_statements = omega arith;
  operations = All-from_recursion IsValid (prod ∷ lu ∷ ulow ∷ upp ∷ []) (prod-read.valid, (lu-read.valid, (ulow-read.valid, (upp-read.valid, tt))));
  named = refl;
  full = generated-full n m seed;
  residues = generated-residues n m seed modulus;
  statements = generated-statements n m seed;
  prints = All-from_recursion (λ k. k < 3) (1 ∷ 2 ∷ []) (omega arith, (omega arith, tt));
  entries = omega (arith, mul-le n n 1024 1024 small small);
}

-- so is a job that is made as one
pub made-valid : (n m seed : ℕ) (job : Job) → n ≤ 1024 → IsModulus m → job ≡ generated_job n m seed → IsJob job
made-valid n m seed job small modulus is = subst IsJob (sym is) (generated-valid n m seed small modulus)
