use Rattle.std.proofs.Common.{rules}
use Rattle.block_expr.proofs.SeenTrees.{added, subtracted, multiplied, solved_left, solved_right, solved_both, lu_factored, ldl_factored}
use Rattle.block_expr.proofs.simplifying.+simplify.Goals as goal

pub simplify-returns-in_ok-first-in-Add : goal.simplify-returns-in_ok-first-in-Add
simplify-returns-in_ok-first-in-Add t c = rw (added c.args.e.now _ _ c.in-Add.is) (search rules)

pub simplify-returns-in_ok-first-in-Sub : goal.simplify-returns-in_ok-first-in-Sub
simplify-returns-in_ok-first-in-Sub t c = rw (subtracted c.args.e.now _ _ c.in-Sub.is) (search rules)

pub simplify-returns-in_ok-first-in-Mul : goal.simplify-returns-in_ok-first-in-Mul
simplify-returns-in_ok-first-in-Mul t c = rw (multiplied c.args.e.now _ _ c.in-Mul.is) (search rules)

pub simplify-returns-in_ok-factor-in-SolveLeft : goal.simplify-returns-in_ok-factor-in-SolveLeft
simplify-returns-in_ok-factor-in-SolveLeft t c = rw (solved_left c.args.e.now _ _ c.in-SolveLeft.is) (search rules)

pub simplify-returns-in_ok-factor-in-SolveRight : goal.simplify-returns-in_ok-factor-in-SolveRight
simplify-returns-in_ok-factor-in-SolveRight t c = rw (solved_right c.args.e.now _ _ c.in-SolveRight.is) (search rules)

pub simplify-returns-in_ok-second-in-Sylvester : goal.simplify-returns-in_ok-second-in-Sylvester
simplify-returns-in_ok-second-in-Sylvester t c = rw (solved_both c.args.e.now _ _ _ _ c.in-Sylvester.is) (search rules)

pub simplify-returns-in_ok-factored-in-Lu : goal.simplify-returns-in_ok-factored-in-Lu
simplify-returns-in_ok-factored-in-Lu t c = rw (lu_factored c.args.e.now _ c.in-Lu.is) (search rules)

pub simplify-returns-in_ok-factored-in-Ldl : goal.simplify-returns-in_ok-factored-in-Ldl
simplify-returns-in_ok-factored-in-Ldl t c = rw (ldl_factored c.args.e.now _ c.in-Ldl.is) (search rules)
