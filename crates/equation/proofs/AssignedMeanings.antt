-- Jobs whose statements all have the form `X = R`: one meaning, and no bad pivot; and there is a meaning.
use Rattle.std.proofs.Common.{◌≡◌, ℕ, List, [], ◌∷◌, All, slice_get, Some, inl, inr, sym, ◌∙◌, ap}
use Rattle.std.proofs.lemmas.Option.{same_Some}
use Rattle.residue_sums.specs.Grids.{Grid}
use Rattle.operation_spec.specs.declared.operation.Operation.{Operation}
use Rattle.operation_spec.specs.declared.operation.Form.TheVariants.{Assign}
use Rattle.equation.specs.declared.job.Job.{Job}
use Rattle.equation.specs.declared.job.Place.{Place}
use Rattle.equation.specs.declared.job.Statement.{Statement}
use Rattle.equation.specs.Jobs.{IsJob, known_grids, nth_grid}
use Rattle.equation.specs.Meanings.{ChangeAll, FailAt, Fails, IsAssignment, Means}
use Rattle.equation.proofs.Assignments.{one_solution, no_bad_pivot}
use Rattle.equation.proofs.JobMeanings as jobs
use Rattle.equation.proofs.StatementOutcomes.{HasOneSolution, all_come_to_one, first_is, others_are}

-- the statement's operation is one, and has the form
form_of : (job : Job) (s : Statement) (op : Operation) → IsAssignment job s → slice_get job.operations s.operation ≡ Some op → op.form ≡ Assign
form_of job s op is found = ap (λ (o : Operation). o.form) (same_Some op is.operation (sym found ∙ is.found)) ∙ is.form

-- its equation has one solution, whatever the matrices hold
one_assigned : (job : Job) (s : Statement) (before : List Grid) → IsAssignment job s → HasOneSolution job s before
one_assigned job s before is op found none x y =
    one_solution job.modulus op (known_grids before s.bind) (nth_grid before s.bind.work) x y (form_of job s op is found)

pub one_outcome : (job : Job) (statements : List Statement) (before a b : List Grid) → All (IsAssignment job) statements
    → ChangeAll job statements before a → ChangeAll job statements before b → a ≡ b
one_outcome job statements before a b all =
    all_come_to_one job (IsAssignment job) (λ grids. Unit {0}) (λ s grids after is kept change. tt) (λ s grids is kept. one_assigned job s grids is)
    statements before a b all tt

pub none_fails : (job : Job) (statements : List Statement) (before : List Grid) (number : ℕ) (place : Place) → All (IsAssignment job) statements
    → ¬ (FailAt job statements before number place)
none_fails job [] before number place all fails = fails
none_fails job (s ∷ statements) before number place all (inl here) =
    let fails : Fails job s before place = here.1 in
    no_bad_pivot job.modulus fails.operation (known_grids before s.bind) (nth_grid before s.bind.work) place
    (form_of job s fails.operation (first_is (IsAssignment job) s statements all) fails.found) fails.pivot
none_fails job (s ∷ statements) before number place all (inr later) =
    none_fails job statements later.0 later.1 place (others_are (IsAssignment job) s statements all) later.4

-- so a valid job of such statements, which has a meaning, leaves matrices
pub some_meaning : (job : Job) → IsJob job → All (IsAssignment job) job.statements → (after : List Grid) × Means job after
some_meaning job valid all = elim (jobs.some_meaning job valid) [
  | inl means ↦ means
  | inr fails ↦ absurd (none_fails job job.statements job.matrices fails.0 fails.1 all fails.2)
]
