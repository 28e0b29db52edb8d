use Rattle.std.proofs.Common.{refl}
use Rattle.matrix_parts.specs.Lent.{grid_of}
use Rattle.matrix_parts.proofs.Kept.{IsKept-same}
use Rattle.block_kernels.proofs.RightEffects.{right_none}
use Rattle.block_kernels.proofs.block_task.BlockTask.do_right.Goals as goal

pub returns-in-Assign-clause-kept : goal.returns-in-Assign-clause-kept
returns-in-Assign-clause-kept c = IsKept-same c.args.w.now

pub returns-in-Assign-clause-effect : goal.returns-in-Assign-clause-effect
returns-in-Assign-clause-effect c = λ knowns work ready. absurd (right_none c.args.self.now knowns work (grid_of c.args.w.now) ready c.requires.kind (rw c.in-Assign.is refl))

pub returns-in-Left-clause-kept : goal.returns-in-Left-clause-kept
returns-in-Left-clause-kept c = IsKept-same c.args.w.now

pub returns-in-Left-clause-effect : goal.returns-in-Left-clause-effect
returns-in-Left-clause-effect c = λ knowns work ready. absurd (right_none c.args.self.now knowns work (grid_of c.args.w.now) ready c.requires.kind (rw c.in-Left.is refl))

pub returns-in-Lu-clause-kept : goal.returns-in-Lu-clause-kept
returns-in-Lu-clause-kept c = IsKept-same c.args.w.now

pub returns-in-Lu-clause-effect : goal.returns-in-Lu-clause-effect
returns-in-Lu-clause-effect c = λ knowns work ready. absurd (right_none c.args.self.now knowns work (grid_of c.args.w.now) ready c.requires.kind (rw c.in-Lu.is refl))

pub returns-in-Ldl-clause-kept : goal.returns-in-Ldl-clause-kept
returns-in-Ldl-clause-kept c = IsKept-same c.args.w.now

pub returns-in-Ldl-clause-effect : goal.returns-in-Ldl-clause-effect
returns-in-Ldl-clause-effect c = λ knowns work ready. absurd (right_none c.args.self.now knowns work (grid_of c.args.w.now) ready c.requires.kind (rw c.in-Ldl.is refl))
