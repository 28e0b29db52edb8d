use Rattle.std.proofs.Common.{◌∙◌}
use Rattle.std.proofs.lemmas.Result.{err_from_is_err_and}
use Rattle.job_text.specs.JobFaults.{job_fault}
use Rattle.job_text.specs.MatricesSeen.{matrices_seen}
use Rattle.job_text.proofs.LineSteps.{statements-end, statements-fault, statements-next}
use Rattle.job_text.proofs.statements.read_statements.Goals as goal

pub returns-in_err-statement-clause-statements : goal.returns-in_err-statement-clause-statements
returns-in_err-statement-clause-statements c =
    let p = err_from_is_err_and c.from_residual.result c.from_residual.ensures.1 in
    rw (p.1, p.2) (statements-fault c.args.operations.now (matrices_seen c.args.matrices.now) c.loop-line.found _ _ _ (job_fault c.in_err-statement.field-0.0) _ c.loop-line.invariant.on c.in-Some.ensures.1 c.in-Some.ensures.0
    (rw c.as_slice.ensures at c.in_err-statement.ensures))

pub loop-line-preserved : goal.loop-line-preserved
loop-line-preserved c = record {
  end = c.in-Some.ensures.2 ∙ c.loop-line.invariant.end;
  on = rw c.in_ok-push.ensures.ok (statements-next c.args.operations.now (matrices_seen c.args.matrices.now) c.loop-line.found _ _ _ c.in_ok-statement.statement _ c.loop-line.invariant.on c.in-Some.ensures.1 c.in-Some.ensures.0
      (rw c.as_slice.ensures at c.in_ok-statement.ensures));
}

pub returns-clause-statements : goal.returns-clause-statements
returns-clause-statements c =
    rw c.in_default.ensures.1 (statements-end c.args.operations.now (matrices_seen c.args.matrices.now) c.loop-line.found _ _ c.loop-line.invariant.on c.in_default.ensures.0)
