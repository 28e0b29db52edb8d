-- Variants that were found for the statements of a job, and the steps by them.
use Rattle.std.specs.Prelude.{◌≡◌, ℕ, suc, ◌≤◌, ◌<◌, List, length, map, slice_get, Some, None}
use Rattle.std.specs.List.{flat_map, range_with_len}
use Rattle.invariant_family.specs.declared.variant.Variant.{Variant}
use Rattle.invariant_family.specs.Families.{variant_numbered}
use Rattle.equation.specs.declared.job.Job.{Job}
use Rattle.step_replays.specs.declared.step.Step.{Step}
use Rattle.step_replays.specs.Accesses.{operation_of, statement_of}
use Rattle.step_replays.specs.Fits.{counts_of}
use Rattle.issue_list.specs.CanonicalSteps.{step_of}
use Rattle.issue_list.specs.IssuedSteps.{issued_tasks, number_for, tasks_by, variant_of}
use Rattle.issue_list.specs.LoopOrder.{IsInFamily}

-- they are those of the first statements, by these numbers
abbrev pub HaveFound : Job → List ℕ → List Variant → Type 0
HaveFound job numbers variants = (k : ℕ) → k < length variants → variant_of job (suc k) (number_for numbers (suc k)) ≡ slice_get variants k

-- and the next statement has none
pub record AreFirstVariants (job : Job) (numbers : List ℕ) (variants : List Variant) : Type 0 where
  pub few : length variants ≤ length job.statements
  pub found : HaveFound job numbers variants
  pub none : length variants < length job.statements
      → variant_of job (suc (length variants)) (number_for numbers (suc (length variants))) ≡ None

-- variant v is one of the operation of statement s
abbrev pub IsVariantOf : Job → ℕ → Variant → Type 0
IsVariantOf job s v = IsInFamily (operation_of job (statement_of job s)) v

-- the statements have these variants
pub record AreVariants (job : Job) (variants : List Variant) : Type 0 where
  pub count : length variants ≡ length job.statements
  pub each : (k : ℕ) (v : Variant) → slice_get variants k ≡ Some v → IsVariantOf job (suc k) v

-- the steps of a statement by a variant
abbrev pub steps_by : Job → ℕ → ℕ → Variant → List Step
steps_by job b s v = map (step_of job b s) (issued_tasks (operation_of job (statement_of job s)) (counts_of job b s) v)

-- by that of its own, where there is one
abbrev pub statement_steps_by : Job → ℕ → List Variant → ℕ → List Step
statement_steps_by job b variants s =
    map (step_of job b s) (tasks_by (operation_of job (statement_of job s)) (counts_of job b s) (variant_numbered variants s))

-- and of all statements
abbrev pub chosen_steps : Job → ℕ → List Variant → List Step
chosen_steps job b variants = flat_map (statement_steps_by job b variants) (range_with_len 1 (length job.statements))
