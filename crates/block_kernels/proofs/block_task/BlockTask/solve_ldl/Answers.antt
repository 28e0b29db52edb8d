use Rattle.std.proofs.Common.{arith}
use Rattle.matrix_parts.specs.Lent.{grid_of}
use Rattle.block_kernels.proofs.FactorEffects.{ldl_diagonal}
use Rattle.block_kernels.proofs.NoBadPivots.{apart_has_none}
use Rattle.block_kernels.proofs.block_task.BlockTask.solve_ldl.Goals as goal

pub factor_ldl-requires-clause-diagonal : goal.factor_ldl-requires-clause-diagonal
factor_ldl-requires-clause-diagonal c = ldl_diagonal c.args.self.now c.requires.can.knowns c.requires.can.work (grid_of c.args.w.now) c.requires.can.ready c.requires.kind c.requires.form c.if-j-i.false

pub returns-then-j-i-clause-outcome : goal.returns-then-j-i-clause-outcome
returns-then-j-i-clause-outcome c = λ knowns work ready. (c.solve_with_d.ensures.effect knowns work ready, apart_has_none c.args.self.now work c.requires.kind (λ e. omega (arith, c.if-j-i.true)))
