use Rattle.std.proofs.Common.{refl, ◌∙◌}
use Rattle.std.proofs.lemmas.Result.{err_from_is_err_and}
use Rattle.matrix_text.specs.MatrixFaults.{matrix_fault}
use Rattle.matrix_text.proofs.Rows.{begins, goes_on, ends, all_read}
use Rattle.matrix_text.proofs.reading.rows.Goals as goal

pub loop-init : goal.loop-init
loop-init c = record { rows = begins _ c.args.m c.args.cols c.args.count _ _ c.in_ok-entries.ensures.items; end = refl }

pub returns-in_err-next_row-clause-rows : goal.returns-in_err-next_row-clause-rows
returns-in_err-next_row-clause-rows c =
    let p = err_from_is_err_and c.from_residual-in_err-next_row.result c.from_residual-in_err-next_row.ensures.1 in
    rw (p.1, p.2) (ends _ c.args.m c.args.cols c.args.count c.loop.counter c.loop.entries.items _ _ c.loop.invariant.rows (matrix_fault c.in_err-next_row.field-0.0) c.loop-test.true
    (rw c.loop.invariant.end at c.in_err-next_row.ensures.row))

pub loop-preserved : goal.loop-preserved
loop-preserved c = record {
  rows = goes_on _ c.args.m c.args.cols c.args.count c.loop.counter c.loop.entries.items _ _ c.loop.invariant.rows _ _ c.loop-test.true (rw c.loop.invariant.end at c.in_ok-next_row.ensures.row);
  end = c.in_ok-next_row.ensures.end ∙ c.loop.invariant.end;
}

pub returns-clause-rows : goal.returns-clause-rows
returns-clause-rows c = all_read _ c.args.m c.args.cols c.args.count c.loop.counter c.loop.entries.items _ _ c.loop.invariant.rows c.loop-test.false
