use Rattle.matrix_parts.specs.Lent.{grid_of}
use Rattle.matrix_parts.proofs.Kept.{IsKept-same}
use Rattle.block_kernels.proofs.NoBadPivots.{update_has_none}
use Rattle.block_kernels.proofs.TaskBlocks.{never_pivots}
use Rattle.block_kernels.proofs.block_task.BlockTask.apply.Goals as goal

pub returns-in-Pivots-clause-kept : goal.returns-in-Pivots-clause-kept
returns-in-Pivots-clause-kept c = IsKept-same c.args.w.now

pub returns-in-Pivots-clause-outcome : goal.returns-in-Pivots-clause-outcome
returns-in-Pivots-clause-outcome c = λ knowns work ready. absurd (never_pivots c.args.self.now knowns work (grid_of c.args.w.now) ready c.in-Pivots.is)

pub returns-in-Term-clause-outcome : goal.returns-in-Term-clause-outcome
returns-in-Term-clause-outcome c = λ knowns work ready. (c.do_term.ensures.effect knowns work ready, update_has_none c.args.self.now work (rw c.in-Term.is (λ e. absurd (cc))))

pub returns-in-Left-clause-outcome : goal.returns-in-Left-clause-outcome
returns-in-Left-clause-outcome c = λ knowns work ready. (c.do_left.ensures.effect knowns work ready, update_has_none c.args.self.now work (rw c.in-Left.is (λ e. absurd (cc))))

pub returns-in-Right-clause-outcome : goal.returns-in-Right-clause-outcome
returns-in-Right-clause-outcome c = λ knowns work ready. (c.do_right.ensures.effect knowns work ready, update_has_none c.args.self.now work (rw c.in-Right.is (λ e. absurd (cc))))
