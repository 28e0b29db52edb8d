use Rattle.std.proofs.Common.{refl, ap, ◌∙◌}
use Rattle.task_graph.specs.Order.{tasks_of}
use Rattle.worksheet_check.specs.Findings.{first_finding}
use Rattle.std.proofs.lemmas.Result.{err_from_is_err_and}
use Rattle.worksheet_check.proofs.ToldVerdicts.{refused, five_told, in_front, invariant_told}
use Rattle.worksheet_check.proofs.checking.invariant_finding.Goals as goal

pub returns-in_err-halves : goal.returns-in_err-halves
returns-in_err-halves c = let p = err_from_is_err_and c.from_residual.result c.from_residual.ensures.1 in refused c.from_residual.result _ p.0 p.1

pub returns-in_err-of_halves : goal.returns-in_err-of_halves
returns-in_err-of_halves c = let p = err_from_is_err_and c.from_residual-in_err-of_halves.result c.from_residual-in_err-of_halves.ensures.1 in refused c.from_residual-in_err-of_halves.result _ p.0 p.1

pub returns-in_err-thirds : goal.returns-in_err-thirds
returns-in_err-thirds c = let p = err_from_is_err_and c.from_residual-in_err-thirds.result c.from_residual-in_err-thirds.ensures.1 in refused c.from_residual-in_err-thirds.result _ p.0 p.1

pub returns-in_err-of_thirds : goal.returns-in_err-of_thirds
returns-in_err-of_thirds c = let p = err_from_is_err_and c.from_residual-in_err-of_thirds.result c.from_residual-in_err-of_thirds.ensures.1 in refused c.from_residual-in_err-of_thirds.result _ p.0 p.1

pub returns-in_err-before : goal.returns-in_err-before
returns-in_err-before c = let p = err_from_is_err_and c.from_residual-in_err-before.result c.from_residual-in_err-before.ensures.1 in refused c.from_residual-in_err-before.result _ p.0 p.1

pub returns-in_err-after : goal.returns-in_err-after
returns-in_err-after c = let p = err_from_is_err_and c.from_residual-in_err-after.result c.from_residual-in_err-after.ensures.1 in refused c.from_residual-in_err-after.result _ p.0 p.1

pub returns : goal.returns
returns c =
    let op = c.args.op.now in
    invariant_told op c.args.w.now c.as_slice-two.result.now c.as_slice-three.result.now c.as_slice-set.result.now c.in_ok-before.before c.in_ok-after.after _
    (c.as_slice-two.ensures.value ∙ c.in_ok-of_halves.ensures ∙ ap (tasks_of op) c.in_ok-halves.ensures)
    (c.as_slice-three.ensures.value ∙ c.in_ok-of_thirds.ensures ∙ ap (tasks_of op) c.in_ok-thirds.ensures)
    c.in_ok-before.ensures c.in_ok-after.ensures c.as_slice-set.ensures
    (five_told c.order_finding.result c.need_finding.result c.remaining_finding.result c.done_finding.result c.undone_finding.result c.or.ensures c.or-2.ensures c.or-3.ensures c.or-4.ensures
    ∙ ap first_finding (in_front c.order_finding.ensures (in_front c.need_finding.ensures (in_front c.remaining_finding.ensures
    (in_front c.done_finding.ensures (in_front c.undone_finding.ensures refl))))))
