use Rattle.std.proofs.Common.{arith}
use Rattle.matrix_parts.specs.Lent.{grid_of}
use Rattle.block_kernels.proofs.SolveEffects.{inside_square, inside_work, right_done, right_first, right_inverses, right_known_is, right_list, right_read, right_structure}
use Rattle.block_kernels.proofs.block_task.BlockTask.solve_right.Goals as goal

pub factor-triangle-requires-clause-at : goal.factor-triangle-requires-clause-at
factor-triangle-requires-clause-at c = right_first c.args.self.now c.requires.can.knowns c.requires.can.work (grid_of c.args.w.now) c.requires.can.ready c.requires.kind c.args.u c.requires.form

pub factor-triangle-requires-clause-known : goal.factor-triangle-requires-clause-known
factor-triangle-requires-clause-known c = right_known_is c.args.self.now c.requires.can.knowns c.requires.can.work (grid_of c.args.w.now) c.requires.can.ready c.requires.kind c.args.u c.requires.form

pub row_inverses-inverses-requires-clause-list : goal.row_inverses-inverses-requires-clause-list
row_inverses-inverses-requires-clause-list c = rw c.cols.ensures (right_list c.args.self.now c.requires.can.knowns c.requires.can.work (grid_of c.args.w.now) c.requires.can.ready c.requires.kind c.args.u c.requires.form c.factor-triangle.result c.factor-triangle.ensures.oper c.factor-triangle.ensures.residues)

pub solve_right-requires-clause-oper : goal.solve_right-requires-clause-oper
solve_right-requires-clause-oper c = (right_read c.args.self.now c.requires.can.knowns c.requires.can.work (grid_of c.args.w.now) c.requires.can.ready c.requires.kind c.args.u c.requires.form c.factor-triangle.result c.factor-triangle.ensures.oper c.factor-triangle.ensures.residues).oper

pub solve_right-requires-clause-triangular : goal.solve_right-requires-clause-triangular
solve_right-requires-clause-triangular c = right_structure c.args.self.now c.requires.can.knowns c.requires.can.work (grid_of c.args.w.now) c.requires.can.ready c.requires.kind c.args.u c.requires.form c.factor-triangle.result c.factor-triangle.ensures.oper c.factor-triangle.ensures.residues

pub solve_right-requires-clause-work : goal.solve_right-requires-clause-work
solve_right-requires-clause-work c = rw c.block_structure-inside.ensures (inside_work c.args.self.now c.requires.can.knowns c.requires.can.work (grid_of c.args.w.now) c.requires.can.ready c.requires.kind)

pub solve_right-requires-clause-square : goal.solve_right-requires-clause-square
solve_right-requires-clause-square c = λ ne. inside_square c.args.self.now c.requires.can.knowns c.requires.can.work (grid_of c.args.w.now) c.requires.can.ready c.requires.kind (rw c.block_structure-inside.ensures at ne)

pub solve_right-requires-clause-rows : goal.solve_right-requires-clause-rows
solve_right-requires-clause-rows c = (right_read c.args.self.now c.requires.can.knowns c.requires.can.work (grid_of c.args.w.now) c.requires.can.ready c.requires.kind c.args.u c.requires.form c.factor-triangle.result c.factor-triangle.ensures.oper c.factor-triangle.ensures.residues).rows_is

pub solve_right-requires-clause-cols : goal.solve_right-requires-clause-cols
solve_right-requires-clause-cols c = (right_read c.args.self.now c.requires.can.knowns c.requires.can.work (grid_of c.args.w.now) c.requires.can.ready c.requires.kind c.args.u c.requires.form c.factor-triangle.result c.factor-triangle.ensures.oper c.factor-triangle.ensures.residues).cols_is

pub solve_right-requires-clause-inverses : goal.solve_right-requires-clause-inverses
solve_right-requires-clause-inverses c = right_inverses c.args.self.now c.requires.can.knowns c.requires.can.work (grid_of c.args.w.now) c.requires.can.ready c.requires.kind c.args.u c.requires.form c.factor-triangle.result c.factor-triangle.ensures.oper c.factor-triangle.ensures.residues (omega (arith, c.value-modulus.ensures.range.at_least_two)) c.row_inverses-inverses.result (rw c.cols.ensures at c.row_inverses-inverses.ensures)

pub solve_right-requires-clause-residues : goal.solve_right-requires-clause-residues
solve_right-requires-clause-residues c = c.requires.can.ready.residues

pub returns-clause-effect : goal.returns-clause-effect
returns-clause-effect c = λ knowns work ready. right_done c.args.self.now knowns work (grid_of c.args.w.now) ready c.requires.kind c.args.u c.requires.form c.factor-triangle.result c.factor-triangle.ensures.oper c.factor-triangle.ensures.residues c.block_structure-inside.result (grid_of c.solve_right.new.w) c.block_structure-inside.ensures c.solve_right.ensures.solved
