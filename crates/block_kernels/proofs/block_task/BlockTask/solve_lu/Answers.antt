use Rattle.std.proofs.Common.{arith}
use Rattle.block_kernels.proofs.NoBadPivots.{apart_has_none}
use Rattle.block_kernels.proofs.block_task.BlockTask.solve_lu.Goals as goal

pub returns-then-i-j-clause-outcome : goal.returns-then-i-j-clause-outcome
returns-then-i-j-clause-outcome c = λ knowns work ready. (c.solve_with_l.ensures.effect knowns work ready, apart_has_none c.args.self.now work c.requires.kind (λ e. omega (arith, c.if-i-j.true)))

pub returns-then-j-i-clause-outcome : goal.returns-then-j-i-clause-outcome
returns-then-j-i-clause-outcome c = λ knowns work ready. (c.solve_with_u.ensures.effect knowns work ready, apart_has_none c.args.self.now work c.requires.kind (λ e. omega (arith, c.if-j-i.true)))
