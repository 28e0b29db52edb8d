-- What is due where the steps of a job are listed by chosen variants under a block size: the first refusal that applies, or else what is due
-- for the list.
use Rattle.std.specs.Prelude.{ℕ, ◌<◌, ◌≤◌, ◌⊎◌, List, [], length, slice_index_or}
use Rattle.equation.specs.declared.job.Job.{Job}
use Rattle.step_replays.specs.declared.step.Step.{Step}
use Rattle.step_replays.specs.Accesses.{operation_of, statement_of}
use Rattle.issue_list.specs.declared.choice.Choice.{Choice}
use Rattle.issue_list.specs.CanonicalSteps.{HasFewParts, IsFirstLong, most_steps}
use Rattle.issue_list.specs.Choices.{HasDueCount, IsFirstWithout, numbers_of}
use Rattle.issue_list.specs.IssuedSteps.{HaveVariants, issued_steps}
use Rattle.flame_top.specs.DueTexts.{Says}
use Rattle.flame_top.specs.Refusals.{no_variant_text, too_many_parts_text, too_many_steps_text, variant_count_text}

-- the steps by the chosen variants
abbrev pub steps_by : Job → ℕ → Choice → List Step
steps_by job b choice = issued_steps job b (numbers_of job choice)

-- ---- refusals

-- the given numbers are not as many as the statements
abbrev pub DueVariantCount : Choice → Job → ℕ → List ℕ → Type 0
DueVariantCount choice job status text =
    (HasDueCount job choice → ⊥) × Says 3 (variant_count_text (length (numbers_of job choice)) (length job.statements)) status text

-- they are, and the first statement that has no variant with its number is named
abbrev pub DueNoVariant : Choice → Job → ℕ → List ℕ → Type 0
DueNoVariant choice job status text =
    HasDueCount job choice × ((s : ℕ) × IsFirstWithout job (numbers_of job choice) s × Says 3 (no_variant_text s) status text)

-- each statement has a variant with its number
abbrev pub HasVariants : Job → Choice → Type 0
HasVariants job choice = HasDueCount job choice × HaveVariants job (numbers_of job choice)

-- the name of a dimension of a statement's operation; statements are numbered from 1, dimensions from 0
abbrev pub dimension_name : Job → ℕ → ℕ → List ℕ
dimension_name job s d = slice_index_or (operation_of job (statement_of job s)).dims d []

-- each has, and the first dimension that is cut into too many parts is named
abbrev pub DueTooManyParts : ℕ → Choice → Job → ℕ → List ℕ → Type 0
DueTooManyParts b choice job status text = HasVariants job choice
    × ((s : ℕ) × (d : ℕ) × IsFirstLong job b s d × Says 3 (too_many_parts_text s (dimension_name job s d)) status text)

-- no dimension is, but there are too many steps
abbrev pub DueTooManySteps : ℕ → Choice → Job → ℕ → List ℕ → Type 0
DueTooManySteps b choice job status text =
    HasVariants job choice × HasFewParts job b × (most_steps < length (steps_by job b choice)) × Says 3 too_many_steps_text status text

abbrev pub DueRefused : ℕ → Choice → Job → ℕ → List ℕ → Type 0
DueRefused b choice job status text = DueVariantCount choice job status text
    ⊎ (DueNoVariant choice job status text ⊎ (DueTooManyParts b choice job status text ⊎ DueTooManySteps b choice job status text))

-- ---- no refusal

pub record CanList (b : ℕ) (choice : Choice) (job : Job) : Type 0 where
  pub variants : HasVariants job choice
  pub parts : HasFewParts job b
  pub few : length (steps_by job b choice) ≤ most_steps

-- ---- by the first case that applies

abbrev pub DueBySteps : ℕ → Choice → Job → (ℕ → List ℕ → Type 0) → ℕ → List ℕ → Type 0
DueBySteps b choice job due status text = DueRefused b choice job status text ⊎ (CanList b choice job × due status text)
