-- What is due for `worksheet`: one status and one text, and always some.
use Rattle.std.proofs.Common.{◌≡◌, inl, inr, ℕ, List, Option, Some, None, refl}
use Rattle.operation_spec.specs.declared.operation.Operation.{Operation}
use Rattle.equation.specs.declared.job.Job.{Job}
use Rattle.invariant_family.specs.declared.variant.Variant.{Variant}
use Rattle.invariant_family.specs.Families.{family_of, variant_numbered}
use Rattle.worksheet_text.specs.SheetReading.{operation_named}
use Rattle.flame_top.specs.Refusals.{no_such_variant_text}
use Rattle.flame_top.specs.Worksheets.{DueSheet, DueWorksheet, sheet_text}
use Rattle.flame_top.proofs.NamedLaws.{IsZeroOrThree, same_named, some_named, status_named}
use Rattle.flame_top.proofs.SameDue.{IsDetermined, IsSomeDue, same_says}

same_sheet : (op : Operation) (found : Option Variant) → IsDetermined (DueSheet op found)
same_sheet op None = same_says 3 no_such_variant_text
same_sheet op (Some v) = same_says 0 (sheet_text op v)

some_sheet : (op : Operation) (found : Option Variant) → IsSomeDue (DueSheet op found)
some_sheet op None = (3, no_such_variant_text, (refl, refl))
some_sheet op (Some v) = (0, sheet_text op v, (refl, refl))

status_sheet : (op : Operation) (found : Option Variant) → IsZeroOrThree (DueSheet op found)
status_sheet op None status text due = inr due.0
status_sheet op (Some v) status text due = inl due.0

module _ (name : List ℕ) (number : ℕ) (job : Job) where
  -- what is due for the operation
  DueHere : Operation → ℕ → List ℕ → Type 0
  DueHere op = DueSheet op (variant_numbered (family_of op) number)

  pub same_worksheet : IsDetermined (DueWorksheet name number job)
  unfolding DueHere
  same_worksheet = same_named DueHere (λ op. same_sheet op (variant_numbered (family_of op) number)) (operation_named job.operations name)

  pub some_worksheet : IsSomeDue (DueWorksheet name number job)
  unfolding DueHere
  some_worksheet = some_named DueHere (λ op. some_sheet op (variant_numbered (family_of op) number)) (operation_named job.operations name)

  pub worksheet_status : IsZeroOrThree (DueWorksheet name number job)
  unfolding DueHere
  worksheet_status = status_named DueHere (λ op. status_sheet op (variant_numbered (family_of op) number)) (operation_named job.operations name)
