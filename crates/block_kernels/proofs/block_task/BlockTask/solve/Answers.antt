use Rattle.matrix_parts.specs.Lent.{grid_of}
use Rattle.matrix_parts.proofs.Kept.{IsKept-same}
use Rattle.block_kernels.proofs.NoBadPivots.{solve_has_none}
use Rattle.block_kernels.proofs.TaskBlocks.{solves_something}
use Rattle.block_kernels.proofs.block_task.BlockTask.solve.Goals as goal

pub returns-in-Assign-clause-kept : goal.returns-in-Assign-clause-kept
returns-in-Assign-clause-kept c = IsKept-same c.args.w.now

pub returns-in-Assign-clause-outcome : goal.returns-in-Assign-clause-outcome
returns-in-Assign-clause-outcome c = λ knowns work ready. absurd (solves_something c.args.self.now knowns work (grid_of c.args.w.now) ready c.requires.kind c.in-Assign.is)

pub returns-in-Left-clause-outcome : goal.returns-in-Left-clause-outcome
returns-in-Left-clause-outcome c = λ knowns work ready. (c.solve_left.ensures.effect knowns work ready, solve_has_none c.args.self.now work c.requires.kind (rw c.in-Left.is (λ finds. finds)))

pub returns-in-Right-clause-outcome : goal.returns-in-Right-clause-outcome
returns-in-Right-clause-outcome c = λ knowns work ready. (c.solve_right.ensures.effect knowns work ready, solve_has_none c.args.self.now work c.requires.kind (rw c.in-Right.is (λ finds. finds)))

pub returns-in-Sylvester-clause-outcome : goal.returns-in-Sylvester-clause-outcome
returns-in-Sylvester-clause-outcome c = λ knowns work ready. (c.solve_sylvester.ensures.effect knowns work ready, solve_has_none c.args.self.now work c.requires.kind (rw c.in-Sylvester.is (λ finds. finds)))
