-- A generated job has no bad pivot: its first statement makes S the product of factors whose diagonals are ones, so that its second finds
-- these factors again. Cited by the law.
use Rattle.std.proofs.Common.{◌≡◌, ◌≢◌, ℕ, ◌+◌, ◌*◌, ◌%◌, ◌<◌, ◌≤◌, List, [], ◌∷◌, codes, inl, refl, sym, ◌∙◌, ap, arith, if◌then◌else◌, eq-eqb, zero-add}
use Rattle.std.specs.Prelude.{All}
use Rattle.std.proofs.Math.Nat.{mod-mod}
use Rattle.std.proofs.lemmas.Nat.{mul-add-lt}
use Rattle.std.proofs.lemmas.List.{get_or-replicate}
use Rattle.std.proofs.lemmas.List.Elements.{All-from_recursion, All-get_or}
use Rattle.residue_sums.specs.Residues.{IsModulus, IsUnit}
use Rattle.residue_sums.specs.Tables.{product}
use Rattle.residue_sums.specs.Grids.{AreResidues, Grid, IsFull, entry}
use Rattle.residue_sums.proofs.Congruence.{Cong-from_mod, Cong-refl, Cong-sym, IsUnit-from_inverse}
use Rattle.structure_rules.specs.declared.Structure.{Structure}
use Rattle.structure_rules.specs.declared.Structure.TheVariants.{UnitLower, Upper}
use Rattle.structure_rules.specs.Structures.{view}
use Rattle.matrix_algebra.specs.Factors.{IsLu}
use Rattle.matrix_algebra.proofs.LuFactors.{no_lu_bad_pivot}
use Rattle.matrix_algebra.proofs.Packed.{IsUnitLower-view, IsUpper-view, view-upper_above}
use Rattle.matrix_core.specs.Matrices.{zero_grid}
use Rattle.operation_spec.specs.declared.operation.Binding.{Binding}
use Rattle.equation.specs.declared.job.Place.{Place}
use Rattle.equation.specs.Equations.{Satisfies}
use Rattle.equation.specs.Jobs.{Fits, nth_grid}
use Rattle.equation.specs.Meanings.{Means, MeansBadPivot}
use Rattle.equation.specs.Pivots.{IsFirstBadPivot}
use Rattle.equation.proofs.AssignedGrids.{a_solution, HasEntries-grid_of}
use Rattle.equation.proofs.FactorPivots.{lu_bad_pivot}
use Rattle.equation.proofs.FirstPivots.{no_unit_is_bad}
use Rattle.equation.proofs.JobMeanings.{never_both, one_meaning}
use Rattle.equation.proofs.OneSolution.{at_least_one}
use Rattle.job_generator.specs.Draws.{first_number, draw, off_diagonal_before, unit_diagonal_table}
use Rattle.job_generator.specs.GeneratedOperations.{factor, prod, lu, solve, ulow, upp}
use Rattle.job_generator.specs.GeneratedJobs.{factors, right_side, generated_job}
use Rattle.job_generator.proofs.OperationsRead.{ulow-read, upp-read}
use Rattle.job_generator.proofs.ValidJobs.{IsSquare, Fits-square, generated-full, generated-residues, generated-valid, matrices}

module _ (n m seed : ℕ) (modulus : IsModulus m) where
  -- F, zeros and B
  abbrev f : Grid
  f = factors n m seed

  abbrev zeros : Grid
  zeros = zero_grid n n

  abbrev b : Grid
  b = right_side n m seed

  -- the residues, one after another
  of_f : AreResidues m f
  of_f = All-get_or (AreResidues m) (matrices n m seed) 0 f (omega arith) (generated-residues n m seed modulus)

  of_zeros : AreResidues m zeros
  of_zeros = All-get_or (AreResidues m) (matrices n m seed) 1 f (omega arith) (generated-residues n m seed modulus)

  of_b : AreResidues m b
  of_b = All-get_or (AreResidues m) (matrices n m seed) 2 f (omega arith) (generated-residues n m seed modulus)

  -- the diagonal of F has ones, which are units
  one_of_f : (i : ℕ) → i < n → entry f i i ≡ 1
  one_of_f i row = HasEntries-grid_of (unit_diagonal_table m (first_number seed) n) n n i i row row
      ∙ ap (λ t. if t then 1 else draw m (first_number seed) (off_diagonal_before n i i)) (eq-eqb i i refl)

  unit_of_f : (i : ℕ) → i < n → IsUnit m (view Upper (entry f) i i)
  unit_of_f i row = rw (view-upper_above (entry f) i i (omega arith), one_of_f i row) (IsUnit-from_inverse m 1 1 modulus.at_least_two (Cong-refl m 1))

  -- ---- S = S + L * U

  abbrev product_of_f : ℕ → ℕ → ℕ
  product_of_f i j = product n (view UnitLower (entry f)) (view Upper (entry f)) i j % m

  some_product : (s : Grid) × Satisfies m prod (f ∷ f ∷ []) zeros s
  unfolding prod
  some_product = a_solution m prod (f ∷ f ∷ []) zeros (omega (arith, modulus.at_least_two)) refl of_zeros

  -- a matrix that satisfies the first statement
  module _ (s : Grid) (is : Satisfies m prod (f ∷ f ∷ []) zeros s) where
    is_product : (i j : ℕ) → i < n → j < n → entry s i j ≡ product_of_f i j
    unfolding prod
    is_product i j row col = is.equation i j row col (λ none. none)
        ∙ ap (λ (x : ℕ). (x + product_of_f i j) % m) (get_or-replicate (n * n) (i * n + j) 0 0 (omega (arith, mul-add-lt i n j n row col)))
        ∙ rw zero-add (mod-mod (product n (view UnitLower (entry f)) (view Upper (entry f)) i j) m)

    -- ---- L * U = S

    factors_of_product : IsLu m n (entry s) (view UnitLower (entry f)) (view Upper (entry f))
    factors_of_product = record {
      lower = IsUnitLower-view n (entry f);
      upper = IsUpper-view n (entry f);
      equation = λ i j row col. Cong-sym (Cong-from_mod (is_product i j row col));
    }

    none_in_product : (place : Place) → ¬ (IsFirstBadPivot m lu [] s place)
    unfolding lu
    none_in_product place bad =
        no_lu_bad_pivot m n modulus.at_least_two (entry s) (view UnitLower (entry f)) (view Upper (entry f)) factors_of_product unit_of_f place.row
        (lu_bad_pivot m n (entry s) place.row (omega (arith, is.rows, bad.1)) bad.2)

    f_again : Satisfies m lu [] s f
    unfolding lu
    f_again = record {
      rows = sym is.rows;
      cols = sym is.cols;
      full = All-get_or IsFull (matrices n m seed) 0 f (omega arith) (generated-full n m seed);
      residues = of_f;
      equation = λ i j row col within. sym (is_product i j (omega (arith, is.rows, row)) (omega (arith, is.cols, col)));
      others = λ i j row col none. absurd none;
    }

  -- ---- L * B = B

  -- the matrices once F was found again, and a matrix stands for B
  abbrev with_f : Grid → List Grid
  with_f x = f ∷ f ∷ x ∷ []

  with_f-square : (x : Grid) → IsSquare n x → All (IsSquare n) (with_f x)
  with_f-square x is = let f_is : IsSquare n f = record { rows = refl; cols = refl } in All-from_recursion (IsSquare n) (with_f x) (f_is, (f_is, (is, tt)))

  with_f-residues : (x : Grid) → AreResidues m x → All (AreResidues m) (with_f x)
  with_f-residues x of_x = All-from_recursion (AreResidues m) (with_f x) (of_f, (of_f, (of_x, tt)))

  abbrev solving : Binding
  solving = record { work = 2; knowns = 1 ∷ [] }

  -- solves by F fit them
  solve-fits : (name : List ℕ) (structure : Structure) (x : Grid) → IsSquare n x → Fits (solve name structure) (with_f x) solving
  unfolding solve
  solve-fits name structure x is = Fits-square n (with_f x) (solve name structure) solving (with_f-square x is) (omega arith)
      (All-from_recursion (λ k. k < 3) (1 ∷ []) (omega arith, tt)) refl (All-from_recursion (λ k. k ≢ 2) (1 ∷ []) (omega arith, tt))

  none_in_lower : (x : Grid) (place : Place) → ¬ (IsFirstBadPivot m ulow (f ∷ []) x place)
  unfolding solve
  none_in_lower x place = no_unit_is_bad m ulow (f ∷ []) x place (factor 0) modulus (inl refl) (inl refl)

  some_lower : (x : Grid) × Satisfies m ulow (f ∷ []) b x
  some_lower = at_least_one m ulow (with_f b) solving modulus ulow-read.valid (solve-fits (codes "ulow") UnitLower b (record { rows = refl; cols = refl }))
      (with_f-residues b of_b) (none_in_lower b)

  -- ---- U * B = B

  none_in_upper : (x : Grid) → x.rows ≡ n → (place : Place) → ¬ (IsFirstBadPivot m upp (f ∷ []) x place)
  unfolding solve
  none_in_upper x rows place bad = bad.bad (unit_of_f place.row (omega (arith, bad.within)))

  some_upper : (x : Grid) → Satisfies m ulow (f ∷ []) b x → (y : Grid) × Satisfies m upp (f ∷ []) x y
  some_upper x is = at_least_one m upp (with_f x) solving modulus upp-read.valid (solve-fits (codes "upp") Upper x (record { rows = is.rows; cols = is.cols }))
      (with_f-residues x is.residues) (none_in_upper x is.rows)

  -- ---- the job

  abbrev s : Grid
  s = some_product.0

  abbrev lower : Grid
  lower = some_lower.0

  abbrev upper : Grid
  upper = (some_upper lower some_lower.1).0

  generated-means : Means (generated_job n m seed) (with_f upper)
  unfolding generated_job prod lu solve
  generated-means = (
    f ∷ s ∷ b ∷ [],
    record { operation = prod; found = refl; pivots = λ place bad. bad; solution = s; satisfies = some_product.1; others = refl },
    (
      with_f b,
      record { operation = lu; found = refl; pivots = none_in_product s some_product.1; solution = f; satisfies = f_again s some_product.1; others = refl },
      (
        with_f lower,
        record { operation = ulow; found = refl; pivots = none_in_lower b; solution = lower; satisfies = some_lower.1; others = refl },
        (
          with_f upper,
          record { operation = upp; found = refl; pivots = none_in_upper lower some_lower.1.rows; solution = upper; satisfies = (some_upper lower some_lower.1).1; others = refl },
          refl,
        ),
      ),
    ),
  )

pub some-generated : (n m seed : ℕ) → IsModulus m → (after : List Grid) × Means (generated_job n m seed) after
some-generated n m seed modulus = (with_f n m seed modulus (upper n m seed modulus), generated-means n m seed modulus)

pub none-generated : (n m seed number : ℕ) (place : Place) → n ≤ 1024 → IsModulus m → ¬ (MeansBadPivot (generated_job n m seed) number place)
none-generated n m seed number place small modulus =
    never_both (generated_job n m seed) (generated-valid n m seed small modulus) (with_f n m seed modulus (upper n m seed modulus)) number place (generated-means n m seed modulus)

pub factors-generated : (n m seed : ℕ) (after : List Grid) → n ≤ 1024 → IsModulus m → Means (generated_job n m seed) after → nth_grid after 1 ≡ factors n m seed
factors-generated n m seed after small modulus means =
    ap (λ (grids : List Grid). nth_grid grids 1)
    (one_meaning (generated_job n m seed) (generated-valid n m seed small modulus) after (with_f n m seed modulus (upper n m seed modulus)) means (generated-means n m seed modulus))
