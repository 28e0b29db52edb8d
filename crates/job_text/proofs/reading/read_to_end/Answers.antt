use Rattle.std.proofs.Common.{◌∙◌, refl}
use Rattle.std.proofs.lemmas.Result.{err_from_is_err_and}
use Rattle.byte_texts.proofs.Binding.{EndsWith-along, EndsWith-bind}
use Rattle.job_text.specs.JobFaults.{job_fault}
use Rattle.text_scan.specs.Tokens.{tokens_of}
use Rattle.job_text.specs.SpelledJobs.{job_of}
use Rattle.job_text.proofs.JobSteps.{job_in-nothing}
use Rattle.job_text.proofs.reading.read_to_end.Goals as goal

pub returns-in_err-job : goal.returns-in_err-job
returns-in_err-job c =
    let p = err_from_is_err_and c.from_residual.result c.from_residual.ensures.1 in
    let bytes = c.args.bytes.now in
    rw (p.1, p.2) (EndsWith-along (job_fault c.in_err-job.field-0.0) _ _ (job_in-nothing bytes (tokens_of 1 bytes) refl) (EndsWith-bind (job_fault c.in_err-job.field-0.0) (job_of bytes (tokens_of 1 bytes)) _ c.in_err-job.ensures))

pub returns : goal.returns
returns c = job_in-nothing c.args.bytes.now (tokens_of 1 c.args.bytes.now) refl ∙ (rw (c.in_ok-job.ensures, c.end_line.ensures) refl)
