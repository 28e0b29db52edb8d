use Rattle.std.proofs.Common.{refl}
use Rattle.matrix_parts.specs.Lent.{grid_of}
use Rattle.matrix_parts.proofs.Kept.{IsKept-same}
use Rattle.block_kernels.proofs.LeftEffects.{left_none}
use Rattle.block_kernels.proofs.block_task.BlockTask.do_left.Goals as goal

pub returns-in-Assign-clause-kept : goal.returns-in-Assign-clause-kept
returns-in-Assign-clause-kept c = IsKept-same c.args.w.now

pub returns-in-Assign-clause-effect : goal.returns-in-Assign-clause-effect
returns-in-Assign-clause-effect c = λ knowns work ready. absurd (left_none c.args.self.now knowns work (grid_of c.args.w.now) ready c.requires.kind (rw c.in-Assign.is refl))

pub returns-in-Right-clause-kept : goal.returns-in-Right-clause-kept
returns-in-Right-clause-kept c = IsKept-same c.args.w.now

pub returns-in-Right-clause-effect : goal.returns-in-Right-clause-effect
returns-in-Right-clause-effect c = λ knowns work ready. absurd (left_none c.args.self.now knowns work (grid_of c.args.w.now) ready c.requires.kind (rw c.in-Right.is refl))
