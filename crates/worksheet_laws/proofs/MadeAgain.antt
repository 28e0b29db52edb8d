-- A made worksheet, printed and read, is the made one, and right. Cited by the law that says so.
use Rattle.std.proofs.Common.{◌≡◌, ℕ, ◌+◌, List, ◌++◌, length, Some, Ok}
use Rattle.text_scan.specs.declared.Rest.{Rest}
use Rattle.std.specs.Prelude.{Contains}
use Rattle.operation_spec.specs.declared.operation.Operation.{Operation}
use Rattle.operation_spec.specs.ValidOperations.{HasNames, IsValid}
use Rattle.equation.specs.declared.job.Job.{Job}
use Rattle.equation.specs.Jobs.{IsJob}
use Rattle.job_text.specs.declared.stop.Stop.TheVariants as stops
use Rattle.job_text.specs.JobLines.{job_lines}
use Rattle.job_text.specs.JobTexts.{job_text}
use Rattle.job_text.specs.SpelledJobs.{IsWritable, job_in}
use Rattle.job_text.proofs.JobAgain.{spelled_job_is_read}
use Rattle.invariant_family.specs.declared.variant.Variant.{Variant}
use Rattle.invariant_family.specs.Families.{family_of}
use Rattle.worksheet.specs.declared.sheet.Worksheet.{Worksheet}
use Rattle.worksheet.specs.declared.verdict.Verdict.TheVariants.{Right}
use Rattle.worksheet.specs.Worksheets.{worksheet_of}
use Rattle.worksheet.proofs.MadeWorksheets.{variant_is_valid}
use Rattle.worksheet_check.specs.Verdicts.{verdict_of}
use Rattle.worksheet_check.proofs.RightVerdicts.{valid_right}
use Rattle.worksheet_text.specs.SheetReading.{operation_named, worksheet_in}
use Rattle.worksheet_text.specs.SheetTexts.{worksheet_text}
use Rattle.worksheet_laws.proofs.BehindJobs.{sheets_stand_behind_jobs}
use Rattle.worksheet_laws.proofs.MadeSheets.{variant_is_printable}
use Rattle.worksheet_laws.proofs.NamedOperations.{named_has}
use Rattle.worksheet_laws.proofs.PrintedSheets.{printed_is_spelled}
use Rattle.worksheet_laws.proofs.SheetAgain.{spelled_sheet_is_read}

pub made_is_read : (front : List ℕ) (line : ℕ) (operations : List Operation) (op : Operation) (v : Variant) → IsValid op → HasNames op → operation_named operations op.name ≡ Some op → Contains (family_of op) v
    → worksheet_in (front ++ worksheet_text op (worksheet_of op v.split v.dirs v.kept)) (record { at = length front; line = line }) operations ≡ Ok (worksheet_of op v.split v.dirs v.kept)
made_is_read front line operations op v valid names found of_op =
    let w = worksheet_of op v.split v.dirs v.kept in
    spelled_sheet_is_read (front ++ worksheet_text op w) (record { at = length front; line = line }) operations op w found (printed_is_spelled front line op w valid names (variant_is_printable op v valid of_op))

pub made_is_right : (op : Operation) (v : Variant) → IsValid op → Contains (family_of op) v → verdict_of op (worksheet_of op v.split v.dirs v.kept) ≡ Right
made_is_right op v valid of_op = valid_right op (worksheet_of op v.split v.dirs v.kept) (variant_is_valid op v valid of_op)

-- ---- behind a job

-- the worksheet of a variant of one of its operations
module _ (job : Job) (op : Operation) (v : Variant) (valid : IsJob job) (writable : IsWritable job) (found : operation_named job.operations op.name ≡ Some op) (of_op : Contains (family_of op) v) where
  abbrev sheet : Worksheet
  sheet = worksheet_of op v.split v.dirs v.kept

  abbrev behind : Rest
  behind = record { at = length (job_text job); line = length (job_lines job) + 1 }

  op_valid : IsValid op
  op_valid = (named_has IsValid job.operations op.name op valid.operations found).1

  op_named : HasNames op
  op_named = (named_has HasNames job.operations op.name op writable.operations_named found).1

  pub job_is_read : job_in stops.Worksheet (job_text job ++ worksheet_text op sheet) ≡ Ok (job, behind)
  job_is_read =
      spelled_job_is_read (job_text job ++ worksheet_text op sheet) stops.Worksheet job behind (sheets_stand_behind_jobs job valid writable op sheet op_valid op_named (variant_is_printable op v op_valid of_op))

  pub sheet_is_read : worksheet_in (job_text job ++ worksheet_text op sheet) behind job.operations ≡ Ok sheet
  sheet_is_read = made_is_read (job_text job) (length (job_lines job) + 1) job.operations op v op_valid op_named found of_op

pub sheet_is_right : (job : Job) (op : Operation) (v : Variant) → IsJob job → operation_named job.operations op.name ≡ Some op → Contains (family_of op) v → verdict_of op (worksheet_of op v.split v.dirs v.kept) ≡ Right
sheet_is_right job op v valid found of_op = made_is_right op v (named_has IsValid job.operations op.name op valid.operations found).1 of_op
