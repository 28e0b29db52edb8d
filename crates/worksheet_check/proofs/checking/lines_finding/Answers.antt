use Rattle.std.proofs.Common.{[], refl, ap, ◌∙◌}
use Rattle.worksheet.specs.declared.verdict.WsPlace.TheVariants.{Start, Take, Before, Give, After}
use Rattle.worksheet_check.specs.Findings.{first_finding}
use Rattle.worksheet_check.specs.RoundFindings.{guard_finding, ends_finding, line_finding, update_finding}
use Rattle.std.proofs.lemmas.Result.{err_from_is_err_and}
use Rattle.worksheet_check.proofs.ToldVerdicts.{refused, seven_told, in_front, by_both}
use Rattle.worksheet_check.proofs.checking.lines_finding.Goals as goal

pub returns-in_err-guard : goal.returns-in_err-guard
returns-in_err-guard c = let p = err_from_is_err_and c.from_residual.result c.from_residual.ensures.1 in refused c.from_residual.result _ p.0 p.1

pub returns-in_err-start : goal.returns-in_err-start
returns-in_err-start c = let p = err_from_is_err_and c.from_residual-in_err-start.result c.from_residual-in_err-start.ensures.1 in refused c.from_residual-in_err-start.result _ p.0 p.1

pub returns-in_err-take : goal.returns-in_err-take
returns-in_err-take c = let p = err_from_is_err_and c.from_residual-in_err-take.result c.from_residual-in_err-take.ensures.1 in refused c.from_residual-in_err-take.result _ p.0 p.1

pub returns-in_err-before : goal.returns-in_err-before
returns-in_err-before c = let p = err_from_is_err_and c.from_residual-in_err-before.result c.from_residual-in_err-before.ensures.1 in refused c.from_residual-in_err-before.result _ p.0 p.1

pub returns-in_err-updates : goal.returns-in_err-updates
returns-in_err-updates c = let p = err_from_is_err_and c.from_residual-in_err-updates.result c.from_residual-in_err-updates.ensures.1 in refused c.from_residual-in_err-updates.result _ p.0 p.1

pub returns-in_err-give : goal.returns-in_err-give
returns-in_err-give c = let p = err_from_is_err_and c.from_residual-in_err-give.result c.from_residual-in_err-give.ensures.1 in refused c.from_residual-in_err-give.result _ p.0 p.1

pub returns-in_err-after : goal.returns-in_err-after
returns-in_err-after c = let p = err_from_is_err_and c.from_residual-in_err-after.result c.from_residual-in_err-after.ensures.1 in refused c.from_residual-in_err-after.result _ p.0 p.1

pub returns : goal.returns
returns c =
    seven_told c.in_ok-guard.guard c.in_ok-start.start c.in_ok-take.take c.in_ok-before.before c.in_ok-updates.updates c.in_ok-give.give c.in_ok-after.after
    c.or.ensures c.or-2.ensures c.or-3.ensures c.or-4.ensures c.or-5.ensures c.or-6.ensures
    ∙ ap first_finding
    (in_front (c.in_ok-guard.ensures ∙ by_both guard_finding c.as_slice.ensures c.as_slice-2.ensures)
    (in_front (c.in_ok-start.ensures ∙ by_both (ends_finding Start) c.as_slice-3.ensures c.as_slice-4.ensures)
    (in_front (c.in_ok-take.ensures ∙ by_both (ends_finding Take) c.as_slice-5.ensures c.as_slice-6.ensures)
    (in_front (c.in_ok-before.ensures ∙ by_both (line_finding Before 1) c.as_slice-7.ensures c.as_slice-8.ensures)
    (in_front (c.in_ok-updates.ensures ∙ by_both (λ due updates. update_finding c.args.op.now due [] 1 updates) c.as_slice-9.ensures c.as_slice-10.ensures)
    (in_front (c.in_ok-give.ensures ∙ by_both (ends_finding Give) c.as_slice-11.ensures c.as_slice-12.ensures)
    (in_front (c.in_ok-after.ensures ∙ by_both (line_finding After 1) c.as_slice-13.ensures c.as_slice-14.ensures) refl)))))))
