-- What is due for an operation of a job by its name.
use Rattle.std.specs.Prelude.{ℕ, List, Option, Some, None}
use Rattle.operation_spec.specs.declared.operation.Operation.{Operation}
use Rattle.flame_top.specs.DueTexts.{Says}
use Rattle.flame_top.specs.Refusals.{no_operation_text}

-- what is due for the operation, or the refusal where there is none
abbrev pub DueNamed : (Operation → ℕ → List ℕ → Type 0) → Option Operation → ℕ → List ℕ → Type 0
DueNamed due None status text = Says 3 no_operation_text status text
DueNamed due (Some op) status text = due op status text
