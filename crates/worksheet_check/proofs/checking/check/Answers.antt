use Rattle.std.proofs.lemmas.Result.{err_from_is_err_and}
use Rattle.worksheet_check.proofs.ToldVerdicts.{refused, verdict_told, right_told}
use Rattle.worksheet_check.proofs.checking.check.Goals as goal

pub returns-in_err-due-clause-verdict : goal.returns-in_err-due-clause-verdict
returns-in_err-due-clause-verdict c = let p = err_from_is_err_and c.from_residual.result c.from_residual.ensures.1 in refused c.from_residual.result _ p.0 p.1

pub returns-in_err-due-clause-right : goal.returns-in_err-due-clause-right
returns-in_err-due-clause-right c = let p = err_from_is_err_and c.from_residual.result c.from_residual.ensures.1 in refused c.from_residual.result _ p.0 p.1

pub returns-in_err-of_invariant-clause-verdict : goal.returns-in_err-of_invariant-clause-verdict
returns-in_err-of_invariant-clause-verdict c = let p = err_from_is_err_and c.from_residual-in_err-of_invariant.result c.from_residual-in_err-of_invariant.ensures.1 in refused c.from_residual-in_err-of_invariant.result _ p.0 p.1

pub returns-in_err-of_invariant-clause-right : goal.returns-in_err-of_invariant-clause-right
returns-in_err-of_invariant-clause-right c = let p = err_from_is_err_and c.from_residual-in_err-of_invariant.result c.from_residual-in_err-of_invariant.ensures.1 in refused c.from_residual-in_err-of_invariant.result _ p.0 p.1

pub returns-in_err-of_lines-clause-verdict : goal.returns-in_err-of_lines-clause-verdict
returns-in_err-of_lines-clause-verdict c = let p = err_from_is_err_and c.from_residual-in_err-of_lines.result c.from_residual-in_err-of_lines.ensures.1 in refused c.from_residual-in_err-of_lines.result _ p.0 p.1

pub returns-in_err-of_lines-clause-right : goal.returns-in_err-of_lines-clause-right
returns-in_err-of_lines-clause-right c = let p = err_from_is_err_and c.from_residual-in_err-of_lines.result c.from_residual-in_err-of_lines.ensures.1 in refused c.from_residual-in_err-of_lines.result _ p.0 p.1

pub returns-clause-verdict : goal.returns-clause-verdict
returns-clause-verdict c =
    verdict_told c.args.op.now c.args.w.now _ _ _ _ _ c.in_ok-due.ensures c.in_ok-of_invariant.ensures c.in_ok-of_lines.ensures c.or.ensures c.verdict_by.ensures

pub returns-clause-right : goal.returns-clause-right
returns-clause-right c =
    right_told c.args.op.now c.args.w.now _
    (verdict_told c.args.op.now c.args.w.now _ _ _ _ _ c.in_ok-due.ensures c.in_ok-of_invariant.ensures c.in_ok-of_lines.ensures c.or.ensures c.verdict_by.ensures)
