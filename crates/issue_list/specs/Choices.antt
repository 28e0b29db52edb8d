-- The numbers of the variants that a job is run by, and what may be wrong with them.
use Rattle.std.specs.Prelude.{◌≡◌, ℕ, ◌≤◌, ◌<◌, List, length, replicate, Some, None}
use Rattle.invariant_family.specs.declared.variant.Variant.{Variant}
use Rattle.equation.specs.declared.job.Job.{Job}
use Rattle.issue_list.specs.declared.choice.Choice.{Choice}
use Rattle.issue_list.specs.declared.choice.Choice.TheVariants.{First, Each}
use Rattle.issue_list.specs.IssuedSteps.{number_for, variant_of}

-- the numbers for so many statements: 1 for each of them, or those that are given
abbrev pub numbers_for : ℕ → Choice → List ℕ
numbers_for count First = replicate count 1
numbers_for count (Each numbers) = numbers

-- for those of a job
abbrev pub numbers_of : Job → Choice → List ℕ
numbers_of job choice = numbers_for (length job.statements) choice

-- they are as many as the statements
abbrev pub HasDueCount : Job → Choice → Type 0
HasDueCount job choice = length (numbers_of job choice) ≡ length job.statements

-- statement s is the first that has no variant with its number
pub record IsFirstWithout (job : Job) (numbers : List ℕ) (s : ℕ) : Type 0 where
  pub from : 1 ≤ s
  pub within : s ≤ length job.statements
  pub none : variant_of job s (number_for numbers s) ≡ None
  pub before : (t : ℕ) → 1 ≤ t → t < s → (v : Variant) × (variant_of job t (number_for numbers t) ≡ Some v)
