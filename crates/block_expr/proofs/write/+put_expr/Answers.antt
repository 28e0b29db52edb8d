use Rattle.std.proofs.Common.{arith}
use Rattle.std.proofs.lemmas.Grind.{common_steps}
use Rattle.block_expr.proofs.SeenTrees.{added, subtracted, multiplied, solved_left, solved_right, solved_both, lu_factored, ldl_factored}
use Rattle.block_expr.proofs.write.+put_expr.Goals as goal

pub returns-in_ok-put_expr-in-Add-2 : goal.returns-in_ok-put_expr-in-Add-2
returns-in_ok-put_expr-in-Add-2 t c = rw (added c.args.e.now _ _ c.in-Add.is) (grind (arith, common_steps))

pub returns-in_ok-put_expr-in-Sub-2 : goal.returns-in_ok-put_expr-in-Sub-2
returns-in_ok-put_expr-in-Sub-2 t c = rw (subtracted c.args.e.now _ _ c.in-Sub.is) (grind (arith, common_steps))

pub returns-in_ok-put_expr-in-Mul-2 : goal.returns-in_ok-put_expr-in-Mul-2
returns-in_ok-put_expr-in-Mul-2 t c = rw (multiplied c.args.e.now _ _ c.in-Mul.is) (grind (arith, common_steps))

pub returns-in_ok-push-in-SolveLeft : goal.returns-in_ok-push-in-SolveLeft
returns-in_ok-push-in-SolveLeft t c = rw (solved_left c.args.e.now _ _ c.in-SolveLeft.is) (grind (arith, common_steps))

pub returns-in_ok-push-in-SolveRight-2 : goal.returns-in_ok-push-in-SolveRight-2
returns-in_ok-push-in-SolveRight-2 t c = rw (solved_right c.args.e.now _ _ c.in-SolveRight.is) (grind (arith, common_steps))

pub returns-in_ok-push-in-Sylvester-2 : goal.returns-in_ok-push-in-Sylvester-2
returns-in_ok-push-in-Sylvester-2 t c = rw (solved_both c.args.e.now _ _ _ _ c.in-Sylvester.is) (grind (arith, common_steps))

pub returns-in_ok-push-in-Lu : goal.returns-in_ok-push-in-Lu
returns-in_ok-push-in-Lu t c = rw (lu_factored c.args.e.now _ c.in-Lu.is) (grind (arith, common_steps))

pub returns-in_ok-push-in-Ldl : goal.returns-in_ok-push-in-Ldl
returns-in_ok-push-in-Ldl t c = rw (ldl_factored c.args.e.now _ c.in-Ldl.is) (grind (arith, common_steps))
