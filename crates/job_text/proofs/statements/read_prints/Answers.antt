use Rattle.std.proofs.lemmas.Result.{err_from_is_err_and}
use Rattle.job_text.specs.JobFaults.{job_fault}
use Rattle.job_text.proofs.LineSteps.{prints-end, prints-fault, prints-next}
use Rattle.job_text.proofs.statements.read_prints.Goals as goal

pub returns-in_err-n : goal.returns-in_err-n
returns-in_err-n c =
    let p = err_from_is_err_and c.from_residual.result c.from_residual.ensures.1 in
    rw (p.1, p.2) (prints-fault c.args.names.now c.loop-line.found _ _ _ (job_fault c.in_err-n.field-0.0) _ c.loop-line.invariant c.in-Some.ensures.1 c.in-Some.ensures.0 (rw c.as_slice.ensures at c.in_err-n.ensures))

pub loop-line-preserved : goal.loop-line-preserved
loop-line-preserved c =
    rw c.in_ok-push.ensures.ok (prints-next c.args.names.now c.loop-line.found _ _ _ c.in_ok-n.n _ c.loop-line.invariant c.in-Some.ensures.1 c.in-Some.ensures.0 (rw c.as_slice.ensures at c.in_ok-n.ensures))

pub returns : goal.returns
returns c = rw c.in_default.ensures.1 (prints-end c.args.names.now c.loop-line.found _ _ c.loop-line.invariant c.in_default.ensures.0)
