use Rattle.std.proofs.Common.{refl}
use Rattle.block_expr.proofs.SeenTrees.{added, subtracted, multiplied, solved_left, solved_right, solved_both, lu_factored, ldl_factored}
use Rattle.block_expr.proofs.simplifying.is_none.Goals as goal

pub returns-in-Add : goal.returns-in-Add
returns-in-Add c = rw (added c.args.e.now _ _ c.in-Add.is) refl

pub returns-in-Sub : goal.returns-in-Sub
returns-in-Sub c = rw (subtracted c.args.e.now _ _ c.in-Sub.is) refl

pub returns-in-Mul : goal.returns-in-Mul
returns-in-Mul c = rw (multiplied c.args.e.now _ _ c.in-Mul.is) refl

pub returns-in-SolveLeft : goal.returns-in-SolveLeft
returns-in-SolveLeft c = rw (solved_left c.args.e.now _ _ c.in-SolveLeft.is) refl

pub returns-in-SolveRight : goal.returns-in-SolveRight
returns-in-SolveRight c = rw (solved_right c.args.e.now _ _ c.in-SolveRight.is) refl

pub returns-in-Sylvester : goal.returns-in-Sylvester
returns-in-Sylvester c = rw (solved_both c.args.e.now _ _ _ _ c.in-Sylvester.is) refl

pub returns-in-Lu : goal.returns-in-Lu
returns-in-Lu c = rw (lu_factored c.args.e.now _ c.in-Lu.is) refl

pub returns-in-Ldl : goal.returns-in-Ldl
returns-in-Ldl c = rw (ldl_factored c.args.e.now _ c.in-Ldl.is) refl
