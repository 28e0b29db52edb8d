-- The list of steps by variants fits its job. Cited by the law that says so.
use Rattle.std.proofs.Common.{ℕ, ◌≤◌, Option, Some, None, List, length, sym, subst}
use Rattle.operation_spec.specs.declared.operation.Operation.{Operation}
use Rattle.operation_spec.specs.declared.task.Task.{Task}
use Rattle.invariant_family.specs.declared.variant.Variant.{Variant}
use Rattle.equation.specs.declared.job.Job.{Job}
use Rattle.equation.specs.Jobs.{IsJob}
use Rattle.step_replays.specs.Fits.{FitsJob, counts_of}
use Rattle.issue_list.specs.IssuedSteps.{HaveVariants, issued_statement_steps, issued_steps, number_for, tasks_by, variant_of}
use Rattle.issue_list.proofs.IssuedTasks.{IsDoneBefore, issued-listing, variant-found}
use Rattle.issue_list.proofs.StepsInOrder.{op_of, steps-fit, valid-of}
use Rattle.issue_list.proofs.TasksOfStatements.{IsListing}

-- the order of a statement's tasks by its variant
abbrev IsBeforeBy : Operation → List ℕ → Option Variant → Task → Task → Type 0
IsBeforeBy op counts None u w = ⊥
IsBeforeBy op counts (Some v) u w = IsDoneBefore op counts v u w

pub issued-fits : (job : Job) (b : ℕ) (numbers : List ℕ) → IsJob job → HaveVariants job numbers → FitsJob job b (issued_steps job b numbers)
unfolding issued_steps issued_statement_steps
issued-fits job b numbers is have = steps-fit job b (λ s. tasks_by (op_of job s) (counts_of job b s) (found s)) (λ s. IsBeforeBy (op_of job s) (counts_of job b s) (found s)) is fit
  where
    found : ℕ → Option Variant
    found s = variant_of job s (number_for numbers s)

    fit : (s : ℕ) → 1 ≤ s → s ≤ length job.statements → IsListing (op_of job s) (counts_of job b s) (tasks_by (op_of job s) (counts_of job b s) (found s)) (IsBeforeBy (op_of job s) (counts_of job b s) (found s))
    fit s from within =
        let own = have s from within in
        subst (λ (v : Option Variant). IsListing (op_of job s) (counts_of job b s) (tasks_by (op_of job s) (counts_of job b s) v) (IsBeforeBy (op_of job s) (counts_of job b s) v)) (sym own.1)
        (issued-listing (op_of job s) (counts_of job b s) own.0 (valid-of job is s from within) (variant-found (op_of job s) (number_for numbers s) own.0 own.1))
