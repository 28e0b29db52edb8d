use Rattle.std.proofs.Common.{◌∙◌, codes}
use Rattle.std.proofs.lemmas.Result.{err_from_is_err_and}
use Rattle.worksheet_text.specs.SheetFaults.{ws_fault}
use Rattle.worksheet_text.specs.SheetReading.{update_at}
use Rattle.worksheet_text.proofs.EachLine.{each-end, each-fault, each-next}
use Rattle.worksheet_text.proofs.round_lines.read_updates.Goals as goal

pub returns-in_err-task-clause-updates : goal.returns-in_err-task-clause-updates
returns-in_err-task-clause-updates c =
    let p = err_from_is_err_and c.from_residual.result c.from_residual.ensures.1 in
    rw (p.1, p.2) (each-fault (codes "update") (update_at c.args.lines.now.end) c.loop-line.found _ _ _ (ws_fault c.in_err-task.field-0.0) _ c.loop-line.invariant.on c.in-Some.ensures.1 c.in-Some.ensures.0
    (rw c.end-end.ensures at c.in_err-task.ensures))

pub loop-line-preserved : goal.loop-line-preserved
loop-line-preserved c = record {
  end = c.in-Some.ensures.2 ∙ c.loop-line.invariant.end;
  on = rw c.in_ok-push.ensures.ok (each-next (codes "update") (update_at c.args.lines.now.end) c.loop-line.found _ _ _ c.in_ok-task.task _ c.loop-line.invariant.on c.in-Some.ensures.1 c.in-Some.ensures.0
      (rw c.end-end.ensures at c.in_ok-task.ensures));
}

pub returns-clause-updates : goal.returns-clause-updates
returns-clause-updates c =
    rw c.in_default.ensures.1 (each-end (codes "update") (update_at c.args.lines.now.end) c.loop-line.found _ _ c.loop-line.invariant.on c.in_default.ensures.0)
