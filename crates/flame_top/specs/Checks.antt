-- What is due for `check`: whether the worksheet behind a job is right.
use Rattle.std.specs.Prelude.{◌≡◌, ℕ, ◌⊎◌, List, Option, Some, None, Ok, Err, codes}
use Rattle.text_scan.specs.declared.Rest.{Rest}
use Rattle.text_scan.specs.Faults.{Fault}
use Rattle.operation_spec.specs.declared.operation.Operation.{Operation}
use Rattle.equation.specs.declared.job.Job.{Job}
use Rattle.job_text.specs.declared.stop.Stop.TheVariants as stops
use Rattle.job_text.specs.SpelledJobs.{Spells, job_in}
use Rattle.worksheet.specs.declared.sheet.Worksheet.{Worksheet}
use Rattle.worksheet.specs.Worksheets.{Valid}
use Rattle.worksheet_check.specs.Verdicts.{verdict_of}
use Rattle.worksheet_text.specs.SheetFaults.{SheetFault}
use Rattle.worksheet_text.specs.SheetReading.{operation_named, worksheet_in}
use Rattle.variant_report.specs.VerdictTexts.{verdict_text}
use Rattle.flame_top.specs.DueTexts.{Says}
use Rattle.flame_top.specs.Refusals.{refusal_text, sheet_refusal_text}

-- for a worksheet of an operation: it is valid, or its first wrong place is told, with what was found there and what is due
abbrev pub DueVerdict : Operation → Worksheet → ℕ → List ℕ → Type 0
DueVerdict op w status text = (Valid op w × Says 0 (codes "right\n") status text)
    ⊎ (¬ (Valid op w) × Says 7 (verdict_text op (verdict_of op w)) status text)

-- for a worksheet of the operation that it names, which there has to be
abbrev pub DueVerdictOf : Option Operation → Worksheet → ℕ → List ℕ → Type 0
DueVerdictOf None w status text = ⊥
DueVerdictOf (Some op) w status text = DueVerdict op w status text

-- behind a job: what is due for the worksheet that is spelled there, which names an operation of the job, or its first fault
abbrev pub DueSheetBehind : List ℕ → Rest → Job → ℕ → List ℕ → Type 0
DueSheetBehind input rest job status text =
    ((w : Worksheet) × (worksheet_in input rest job.operations ≡ Ok w) × DueVerdictOf (operation_named job.operations w.operation) w status text)
    ⊎ ((fault : SheetFault) × (worksheet_in input rest job.operations ≡ Err fault) × Says 3 (sheet_refusal_text fault) status text)

-- for an input: what is due behind the job that it begins with, or the first fault of that job
abbrev pub DueCheck : List ℕ → ℕ → List ℕ → Type 0
DueCheck input status text = ((job : Job) × (rest : Rest) × Spells input stops.Worksheet job rest × DueSheetBehind input rest job status text)
    ⊎ ((fault : Fault) × (job_in stops.Worksheet input ≡ Err fault) × Says 3 (refusal_text fault) status text)
