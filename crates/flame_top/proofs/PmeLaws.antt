-- What is due for `pme`: one status and one text, and always some.
use Rattle.std.proofs.Common.{◌≡◌, inl, inr, ℕ, List, Option, Some, None, refl}
use Rattle.operation_spec.specs.declared.operation.Operation.{Operation}
use Rattle.operation_spec.specs.declared.split.Split.{Split}
use Rattle.equation.specs.declared.job.Job.{Job}
use Rattle.variant_report.specs.PmeTexts.{pme_text}
use Rattle.worksheet_text.specs.SheetReading.{operation_named}
use Rattle.flame_top.specs.Pme.{DueAlong, DuePme, split_named}
use Rattle.flame_top.specs.Refusals.{no_split_text}
use Rattle.flame_top.proofs.NamedLaws.{IsZeroOrThree, same_named, some_named, status_named}
use Rattle.flame_top.proofs.SameDue.{IsDetermined, IsSomeDue, same_says}

same_along : (op : Operation) (split : Option Split) → IsDetermined (DueAlong op split)
same_along op None = same_says 3 no_split_text
same_along op (Some split) = same_says 0 (pme_text op split)

some_along : (op : Operation) (split : Option Split) → IsSomeDue (DueAlong op split)
some_along op None = (3, no_split_text, (refl, refl))
some_along op (Some split) = (0, pme_text op split, (refl, refl))

status_along : (op : Operation) (split : Option Split) → IsZeroOrThree (DueAlong op split)
status_along op None status text due = inr due.0
status_along op (Some split) status text due = inl due.0

module _ (name : List ℕ) (dims : List (List ℕ)) (job : Job) where
  -- what is due for the operation
  DueHere : Operation → ℕ → List ℕ → Type 0
  DueHere op = DueAlong op (split_named op.dims dims)

  pub same_pme : IsDetermined (DuePme name dims job)
  unfolding DueHere
  same_pme = same_named DueHere (λ op. same_along op (split_named op.dims dims)) (operation_named job.operations name)

  pub some_pme : IsSomeDue (DuePme name dims job)
  unfolding DueHere
  some_pme = some_named DueHere (λ op. some_along op (split_named op.dims dims)) (operation_named job.operations name)

  pub pme_status : IsZeroOrThree (DuePme name dims job)
  unfolding DueHere
  pme_status = status_named DueHere (λ op. status_along op (split_named op.dims dims)) (operation_named job.operations name)
