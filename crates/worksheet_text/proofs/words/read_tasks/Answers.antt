use Rattle.std.proofs.Common.{◌≡◌, ◌-◌, ◌<◌, suc, length, arith}
use Rattle.std.proofs.lemmas.Result.{err_from_is_err_and}
use Rattle.worksheet_text.specs.SheetFaults.{ws_fault}
use Rattle.worksheet_text.proofs.TaskSteps.{tasks-end, tasks-fault, tasks-next, tasks-none}
use Rattle.worksheet_text.proofs.words.read_tasks.Goals as goal
use Rattle.worksheet_text.proofs.words.read_tasks.Goals.{then-loop-left-test+else-len-gt0, else-loop-left-test}

pub returns-in_err-task : goal.returns-in_err-task
returns-in_err-task c =
    let p = err_from_is_err_and c.from_residual.result c.from_residual.ensures.1 in
    let more : c.loop-left.left ≡ suc (c.loop-left.left - 1) = omega (arith, c.loop-left-test.true) in
    let some : 0 < length c.loop-left.words = omega (arith, c.len.ensures, c.if-len-gt0.true) in
    rw (p.1, p.2) (tasks-fault c.args.line c.loop-left.found c.loop-left.left (c.loop-left.left - 1) c.loop-left.words (ws_fault c.in_err-task.field-0.0) _ more c.loop-left.invariant some c.in_err-task.ensures)

pub loop-left-preserved : goal.loop-left-preserved
loop-left-preserved c =
    let more : c.loop-left.left ≡ suc (c.loop-left.left - 1) = omega (arith, c.loop-left-test.true) in
    let some : 0 < length c.loop-left.words = omega (arith, c.len.ensures, c.if-len-gt0.true) in
    rw c.in_ok-push.ensures.ok (tasks-next c.args.line c.loop-left.found c.loop-left.left (c.loop-left.left - 1) c.loop-left.words _ c.in_ok-task.task _ more c.loop-left.invariant some c.in_ok-task.ensures)

pub returns : goal.returns
returns c = elim c.loop-left-test.branch [
  | then-loop-left-test+else-len-gt0 w ↦ tasks-end c.args.line c.loop-left.found c.loop-left.left c.loop-left.words _ (omega (arith, w.len.ensures, w.if-len-gt0.false)) c.loop-left.invariant
  | else-loop-left-test w ↦ tasks-none c.args.line c.loop-left.found c.loop-left.left c.loop-left.words _ (omega (arith, w.loop-left-test.false)) c.loop-left.invariant
]
