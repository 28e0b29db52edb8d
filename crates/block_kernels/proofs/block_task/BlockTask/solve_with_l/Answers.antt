use Rattle.std.proofs.Common.{inl}
use Rattle.matrix_parts.specs.Lent.{grid_of}
use Rattle.block_kernels.proofs.FactorEffects.{l_read, l_solved, l_there}
use Rattle.block_kernels.proofs.block_task.BlockTask.solve_with_l.Goals as goal

pub block-l-requires-clause-at : goal.block-l-requires-clause-at
block-l-requires-clause-at c = l_there c.args.self.now c.requires.can.knowns c.requires.can.work (grid_of c.args.w.now) c.requires.can.ready c.requires.kind c.requires.form c.requires.above

pub solve_left-requires-clause-oper : goal.solve_left-requires-clause-oper
solve_left-requires-clause-oper c = (l_read c.args.self.now c.requires.can.knowns c.requires.can.work (grid_of c.args.w.now) c.requires.can.ready c.requires.kind c.requires.form c.requires.above c.block-l.result c.block-l.ensures.part c.block-l.ensures.structure c.block-l.ensures.primed c.block-l.ensures.residues).oper

pub solve_left-requires-clause-triangular : goal.solve_left-requires-clause-triangular
solve_left-requires-clause-triangular c = rw c.block-l.ensures.structure tt

pub solve_left-requires-clause-rows : goal.solve_left-requires-clause-rows
solve_left-requires-clause-rows c = (l_read c.args.self.now c.requires.can.knowns c.requires.can.work (grid_of c.args.w.now) c.requires.can.ready c.requires.kind c.requires.form c.requires.above c.block-l.result c.block-l.ensures.part c.block-l.ensures.structure c.block-l.ensures.primed c.block-l.ensures.residues).rows_is

pub solve_left-requires-clause-cols : goal.solve_left-requires-clause-cols
solve_left-requires-clause-cols c = (l_read c.args.self.now c.requires.can.knowns c.requires.can.work (grid_of c.args.w.now) c.requires.can.ready c.requires.kind c.requires.form c.requires.above c.block-l.result c.block-l.ensures.part c.block-l.ensures.structure c.block-l.ensures.primed c.block-l.ensures.residues).cols_is

pub solve_left-requires-clause-inverses : goal.solve_left-requires-clause-inverses
solve_left-requires-clause-inverses c = inl (inl c.block-l.ensures.structure)

pub solve_left-requires-clause-residues : goal.solve_left-requires-clause-residues
solve_left-requires-clause-residues c = c.requires.can.ready.residues

pub returns-clause-effect : goal.returns-clause-effect
returns-clause-effect c = λ knowns work ready. l_solved c.args.self.now knowns work (grid_of c.args.w.now) ready c.requires.kind c.requires.form c.requires.above c.block-l.result c.block-l.ensures.part c.block-l.ensures.structure c.block-l.ensures.primed c.block-l.ensures.residues (grid_of c.solve_left.new.w) c.solve_left.ensures.solved
