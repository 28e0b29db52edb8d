-- A valid job, of statements of any form, has one meaning at most, and it has one.
use Rattle.std.proofs.Common.{◌≡◌, ◌∙◌, ◌+◌, ◌⊎◌, ℕ, List, [], ◌∷◌, All, inl, inr, slice_get, slice_set, Some, sym, subst, refl}
use Rattle.std.proofs.lemmas.List.Elements.{All-set}
use Rattle.std.proofs.lemmas.Option.{same_Some, slice_get_within, get_or_from_slice_get}
use Rattle.residue_sums.specs.Grids.{Grid, AreResidues}
use Rattle.operation_spec.specs.declared.operation.Operation.{Operation}
use Rattle.operation_spec.specs.ValidOperations.{IsValid}
use Rattle.equation.specs.declared.job.Job.{Job}
use Rattle.equation.specs.declared.job.Place.{Place}
use Rattle.equation.specs.declared.job.Statement.{Statement}
use Rattle.equation.specs.Equations.{Satisfies}
use Rattle.equation.specs.Jobs.{Fits, IsJob, IsStatement, known_grids, nth_grid}
use Rattle.equation.specs.Meanings.{ChangeAll, Changes, FailAt, Means, MeansBadPivot}
use Rattle.equation.specs.Pivots.{IsFirstBadPivot}
use Rattle.equation.proofs.MatrixSizes.{HaveSizes, HaveSizes-set, Fits-same_sizes}
use Rattle.equation.proofs.OneSolution.{AreResidues-nth, at_least_one, at_most_one}
use Rattle.equation.proofs.PivotDecisions.{bad_pivot_or_none}
use Rattle.equation.proofs.StatementOutcomes.{HasOneSolution, all_come_to_one, all_fail_once, first_is, none_change_and_fail, others_are}

-- what the statements of a job keep: the sizes of its matrices, and residues
pub record AreKept (job : Job) (grids : List Grid) : Type 0 where
  pub sizes : HaveSizes grids job.matrices
  pub residues : All (AreResidues job.modulus) grids

module _ (job : Job) (valid : IsJob job) where
  pub kept_first : AreKept job job.matrices
  kept_first = record {
    sizes = record { count = refl; rows = λ n. refl; cols = λ n. refl };
    residues = valid.residues;
  }

  -- the statement's operation, which is valid, and fits the matrices that the statement meets
  pub valid_operation : (n : ℕ) (op : Operation) → slice_get job.operations n ≡ Some op → IsValid op
  valid_operation n op found = subst IsValid (get_or_from_slice_get job.operations n op op found) (valid.operations n op (slice_get_within job.operations n op found))

  pub fits_kept : (s : Statement) (op : Operation) (grids : List Grid) → IsStatement job s → slice_get job.operations s.operation ≡ Some op → AreKept job grids
      → Fits op grids s.bind
  fits_kept s op grids is found kept =
      let same : is.operation ≡ op = same_Some is.operation op (sym is.found ∙ found) in
      Fits-same_sizes op grids job.matrices s.bind kept.sizes (subst (λ (o : Operation). Fits o job.matrices s.bind) same is.fits)

  pub kept_next : (s : Statement) (before after : List Grid) → IsStatement job s → AreKept job before → Changes job s before after → AreKept job after
  kept_next s before after is kept change =
      let fits : Fits change.operation before s.bind = fits_kept s change.operation before is change.found kept in
      subst (AreKept job) (sym change.others) (record {
        sizes = HaveSizes-set before job.matrices s.bind.work change.solution fits.work_in kept.sizes change.satisfies.rows change.satisfies.cols;
        residues = All-set (AreResidues job.modulus) before s.bind.work change.solution change.satisfies.residues kept.residues;
      })

  one_kept : (s : Statement) (before : List Grid) → IsStatement job s → AreKept job before → HasOneSolution job s before
  one_kept s before is kept op found none =
      at_most_one job.modulus op before s.bind valid.modulus (valid_operation s.operation op found) (fits_kept s op before is found kept) kept.residues none

  pub one_meaning : (a b : List Grid) → Means job a → Means job b → a ≡ b
  one_meaning a b = all_come_to_one job (IsStatement job) (AreKept job) kept_next one_kept job.statements job.matrices a b valid.statements kept_first

  pub one_bad_pivot : (number other : ℕ) (place there : Place) → MeansBadPivot job number place → MeansBadPivot job other there
      → (number ≡ other) × (place ≡ there)
  one_bad_pivot number other place there =
      all_fail_once job (IsStatement job) (AreKept job) kept_next one_kept job.statements job.matrices number other place there valid.modulus valid.statements kept_first

  pub never_both : (a : List Grid) (number : ℕ) (place : Place) → Means job a → ¬ (MeansBadPivot job number place)
  never_both a number place =
      none_change_and_fail job (IsStatement job) (AreKept job) kept_next one_kept job.statements job.matrices a number place valid.statements kept_first

  -- ---- there is a meaning

  some_outcome : (statements : List Statement) (before : List Grid) → All (IsStatement job) statements → AreKept job before
      → ((after : List Grid) × ChangeAll job statements before after) ⊎ ((number : ℕ) × (place : Place) × FailAt job statements before number place)
  some_outcome [] before all kept = inl (before, refl)
  some_outcome (s ∷ statements) before all kept = elim (bad_pivot_or_none job.modulus is.operation knowns work valid.modulus (AreResidues-nth job.modulus before s.bind.work kept.residues)) [
    | inl bad ↦ inr (1, bad.0, inl (refl, record { operation = is.operation; found = is.found; pivot = bad.1 }))
    | inr none ↦ elim (some_outcome statements (changed none) (others_are (IsStatement job) s statements all) (kept_next s before (changed none) is kept (change none))) [
      | inl rest ↦ inl (rest.0, (changed none, change none, rest.1))
      | inr fails ↦ inr (fails.0 + 1, fails.1, inr (changed none, fails.0, refl, change none, fails.2))
    ]
  ]
    where
      is : IsStatement job s
      is = first_is (IsStatement job) s statements all

      knowns : List Grid
      knowns = known_grids before s.bind

      work : Grid
      work = nth_grid before s.bind.work

      solved : ((place : Place) → ¬ (IsFirstBadPivot job.modulus is.operation knowns work place)) → (x : Grid) × Satisfies job.modulus is.operation knowns work x
      solved none = at_least_one job.modulus is.operation before s.bind valid.modulus (valid_operation s.operation is.operation is.found)
          (fits_kept s is.operation before is is.found kept) kept.residues none

      changed : ((place : Place) → ¬ (IsFirstBadPivot job.modulus is.operation knowns work place)) → List Grid
      changed none = slice_set before s.bind.work (solved none).0

      change : (none : (place : Place) → ¬ (IsFirstBadPivot job.modulus is.operation knowns work place)) → Changes job s before (changed none)
      change none = record {
        operation = is.operation;
        found = is.found;
        pivots = none;
        solution = (solved none).0;
        satisfies = (solved none).1;
        others = refl;
      }

  pub some_meaning : ((after : List Grid) × Means job after) ⊎ ((number : ℕ) × (place : Place) × MeansBadPivot job number place)
  some_meaning = some_outcome job.statements job.matrices valid.statements kept_first
