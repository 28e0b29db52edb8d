-- A statement of a valid job and its operation, as code reads them; it fits matrices of the sizes of the job's.
use Rattle.std.proofs.Common.{◌≡◌, ℕ, ◌<◌, List, length, get_or, Some, slice_get, sym, ap, subst, ◌∙◌}
use Rattle.std.proofs.lemmas.Option.{get_or_from_slice_get}
use Rattle.residue_sums.specs.Grids.{Grid}
use Rattle.operation_spec.specs.declared.operation.Operation.{Operation}
use Rattle.equation.specs.declared.job.Job.{Job}
use Rattle.equation.specs.declared.job.Statement.{Statement}
use Rattle.equation.specs.Jobs.{Fits, IsJob, IsStatement}
use Rattle.equation.proofs.MatrixSizes.{Fits-same_sizes, HaveSizes}

module _ (job : Job) (valid : IsJob job) (statements : List Statement) (operations : List Operation) (k : ℕ) (s : Statement) (op : Operation)
    (statements_are : statements ≡ job.statements) (operations_are : operations ≡ job.operations) (within : k < length statements)
    (read : s ≡ get_or statements k s) (operation_read : op ≡ get_or operations s.operation op) where
  pub read_own : s ≡ get_or job.statements k s
  read_own = rw statements_are at read

  pub within_own : k < length job.statements
  within_own = rw statements_are at within

  statement : IsStatement job s
  statement = rw (← read_own) at (valid.statements k s within_own)

  -- the operation with the statement's number
  op-is : op ≡ statement.operation
  op-is = (rw operations_are at operation_read) ∙ get_or_from_slice_get job.operations s.operation statement.operation op statement.found

  pub operation_found : slice_get job.operations s.operation ≡ Some op
  operation_found = statement.found ∙ ap (λ (o : Operation). Some o) (sym op-is)

  pub fits_sizes : (grids : List Grid) → HaveSizes grids job.matrices → Fits op grids s.bind
  fits_sizes grids sizes =
      let fits : Fits op job.matrices s.bind = subst (λ (o : Operation). Fits o job.matrices s.bind) (sym op-is) statement.fits in
      Fits-same_sizes op grids job.matrices s.bind sizes fits
