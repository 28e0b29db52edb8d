-- What is due for `worksheet`: the worksheet of a variant of an operation of the job, by the operation's name and the variant's number.
use Rattle.std.specs.Prelude.{ℕ, List, Option, Some, None}
use Rattle.operation_spec.specs.declared.operation.Operation.{Operation}
use Rattle.equation.specs.declared.job.Job.{Job}
use Rattle.invariant_family.specs.declared.variant.Variant.{Variant}
use Rattle.invariant_family.specs.Families.{family_of, variant_numbered}
use Rattle.worksheet.specs.Worksheets.{worksheet_of}
use Rattle.worksheet_text.specs.SheetReading.{operation_named}
use Rattle.worksheet_text.specs.SheetTexts.{worksheet_text}
use Rattle.flame_top.specs.DueTexts.{Says}
use Rattle.flame_top.specs.NamedOperations.{DueNamed}
use Rattle.flame_top.specs.Refusals.{no_such_variant_text}

-- the worksheet of a variant
abbrev pub sheet_text : Operation → Variant → List ℕ
sheet_text op v = worksheet_text op (worksheet_of op v.split v.dirs v.kept)

-- for an operation: the worksheet of the variant, or the refusal where it has no such variant
abbrev pub DueSheet : Operation → Option Variant → ℕ → List ℕ → Type 0
DueSheet op None status text = Says 3 no_such_variant_text status text
DueSheet op (Some v) status text = Says 0 (sheet_text op v) status text

-- for a job; variants are numbered from 1
abbrev pub DueWorksheet : List ℕ → ℕ → Job → ℕ → List ℕ → Type 0
DueWorksheet name number job = DueNamed (λ op. DueSheet op (variant_numbered (family_of op) number)) (operation_named job.operations name)
