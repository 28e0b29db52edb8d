use Rattle.kernel_bench.specs.Squares.{IsSquarePart}
use Rattle.kernel_bench.proofs.runs.run_solve_right_ldl.Given as goal

abbrev pub invariant-runs : goal.invariant-runs
invariant-runs l = IsSquarePart l.fn.amount.m l.fn.amount.n l.w
