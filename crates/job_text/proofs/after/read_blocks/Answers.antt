use Rattle.std.proofs.Common.{◌≡◌, ◌<◌, ◌∙◌, length, get_or}
use Rattle.std.proofs.lemmas.Result.{err_from_is_err_and}
use Rattle.job_text.specs.JobFaults.{job_fault}
use Rattle.job_text.proofs.AfterSteps.{block_found, block_refused, blocks_end, one_size_more}
use Rattle.job_text.proofs.after.read_blocks.Goals as goal

pub returns-in_err-matrix-clause-blocks : goal.returns-in_err-matrix-clause-blocks
returns-in_err-matrix-clause-blocks c =
    let p = err_from_is_err_and c.from_residual.result c.from_residual.ensures.1 in
    let inside : c.loop-statement.statement-index < length c.args.job.now.statements = rw c.loop-statement.invariant.items at c.loop-statement-test.true in
    let is : c.statement-item.result ≡ get_or c.args.job.now.statements c.loop-statement.statement-index c.statement-item.result = rw c.loop-statement.invariant.items at c.statement-item.is in
    rw (p.1, p.2) (block_refused _ c.args.job.now c.loop-statement.found c.args.job.now.statements c.loop-statement.statement-index _ _ c.loop-statement.invariant.on c.statement-item.result (job_fault c.in_err-matrix.field-0.0)
    inside is (rw c.loop-statement.invariant.end at c.in_err-matrix.ensures.block))

pub loop-statement-preserved : goal.loop-statement-preserved
loop-statement-preserved c =
    let inside : c.loop-statement.statement-index < length c.args.job.now.statements = rw c.loop-statement.invariant.items at c.loop-statement-test.true in
    let is : c.statement-item.result ≡ get_or c.args.job.now.statements c.loop-statement.statement-index c.statement-item.result = rw c.loop-statement.invariant.items at c.statement-item.is in
    record {
      items = c.loop-statement.invariant.items;
      on = rw c.in_ok-push.ensures.ok (block_found _ c.args.job.now c.loop-statement.found c.args.job.now.statements c.loop-statement.statement-index _ _ c.loop-statement.invariant.on c.statement-item.result _ _ inside is (rw c.loop-statement.invariant.end at c.in_ok-matrix.ensures.block));
      end = c.in_ok-matrix.ensures.end ∙ c.loop-statement.invariant.end;
      sizes = one_size_more c.args.job.now c.args.job.now.statements c.loop-statement.statement-index c.statement-item.result inside is c.in_ok-matrix.ensures.size c.loop-statement.invariant.sizes;
    }

pub returns-clause-blocks : goal.returns-clause-blocks
returns-clause-blocks c = blocks_end _ c.args.job.now c.loop-statement.found c.args.job.now.statements c.loop-statement.statement-index _ _ c.loop-statement.invariant.on (rw c.loop-statement.invariant.items at c.loop-statement-test.false)
