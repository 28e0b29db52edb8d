use Rattle.std.proofs.Common.{arith}
use Rattle.matrix_parts.specs.Lent.{grid_of}
use Rattle.block_kernels.proofs.SolveEffects.{inside_square, inside_work, left_done, left_first, left_inverses, left_known_is, left_list, left_read, left_structure}
use Rattle.block_kernels.proofs.block_task.BlockTask.solve_left.Goals as goal

pub factor-triangle-requires-clause-at : goal.factor-triangle-requires-clause-at
factor-triangle-requires-clause-at c = left_first c.args.self.now c.requires.can.knowns c.requires.can.work (grid_of c.args.w.now) c.requires.can.ready c.requires.kind c.args.t c.requires.form

pub factor-triangle-requires-clause-known : goal.factor-triangle-requires-clause-known
factor-triangle-requires-clause-known c = left_known_is c.args.self.now c.requires.can.knowns c.requires.can.work (grid_of c.args.w.now) c.requires.can.ready c.requires.kind c.args.t c.requires.form

pub row_inverses-inverses-requires-clause-list : goal.row_inverses-inverses-requires-clause-list
row_inverses-inverses-requires-clause-list c = rw c.rows.ensures (left_list c.args.self.now c.requires.can.knowns c.requires.can.work (grid_of c.args.w.now) c.requires.can.ready c.requires.kind c.args.t c.requires.form c.factor-triangle.result c.factor-triangle.ensures.oper c.factor-triangle.ensures.residues)

pub solve_left-requires-clause-oper : goal.solve_left-requires-clause-oper
solve_left-requires-clause-oper c = (left_read c.args.self.now c.requires.can.knowns c.requires.can.work (grid_of c.args.w.now) c.requires.can.ready c.requires.kind c.args.t c.requires.form c.factor-triangle.result c.factor-triangle.ensures.oper c.factor-triangle.ensures.residues).oper

pub solve_left-requires-clause-triangular : goal.solve_left-requires-clause-triangular
solve_left-requires-clause-triangular c = left_structure c.args.self.now c.requires.can.knowns c.requires.can.work (grid_of c.args.w.now) c.requires.can.ready c.requires.kind c.args.t c.requires.form c.factor-triangle.result c.factor-triangle.ensures.oper c.factor-triangle.ensures.residues

pub solve_left-requires-clause-work : goal.solve_left-requires-clause-work
solve_left-requires-clause-work c = rw c.block_structure-inside.ensures (inside_work c.args.self.now c.requires.can.knowns c.requires.can.work (grid_of c.args.w.now) c.requires.can.ready c.requires.kind)

pub solve_left-requires-clause-square : goal.solve_left-requires-clause-square
solve_left-requires-clause-square c = λ ne. inside_square c.args.self.now c.requires.can.knowns c.requires.can.work (grid_of c.args.w.now) c.requires.can.ready c.requires.kind (rw c.block_structure-inside.ensures at ne)

pub solve_left-requires-clause-rows : goal.solve_left-requires-clause-rows
solve_left-requires-clause-rows c = (left_read c.args.self.now c.requires.can.knowns c.requires.can.work (grid_of c.args.w.now) c.requires.can.ready c.requires.kind c.args.t c.requires.form c.factor-triangle.result c.factor-triangle.ensures.oper c.factor-triangle.ensures.residues).rows_is

pub solve_left-requires-clause-cols : goal.solve_left-requires-clause-cols
solve_left-requires-clause-cols c = (left_read c.args.self.now c.requires.can.knowns c.requires.can.work (grid_of c.args.w.now) c.requires.can.ready c.requires.kind c.args.t c.requires.form c.factor-triangle.result c.factor-triangle.ensures.oper c.factor-triangle.ensures.residues).cols_is

pub solve_left-requires-clause-inverses : goal.solve_left-requires-clause-inverses
solve_left-requires-clause-inverses c = left_inverses c.args.self.now c.requires.can.knowns c.requires.can.work (grid_of c.args.w.now) c.requires.can.ready c.requires.kind c.args.t c.requires.form c.factor-triangle.result c.factor-triangle.ensures.oper c.factor-triangle.ensures.residues (omega (arith, c.value-modulus.ensures.range.at_least_two)) c.row_inverses-inverses.result (rw c.rows.ensures at c.row_inverses-inverses.ensures)

pub solve_left-requires-clause-residues : goal.solve_left-requires-clause-residues
solve_left-requires-clause-residues c = c.requires.can.ready.residues

pub returns-clause-effect : goal.returns-clause-effect
returns-clause-effect c = λ knowns work ready. left_done c.args.self.now knowns work (grid_of c.args.w.now) ready c.requires.kind c.args.t c.requires.form c.factor-triangle.result c.factor-triangle.ensures.oper c.factor-triangle.ensures.residues c.block_structure-inside.result (grid_of c.solve_left.new.w) c.block_structure-inside.ensures c.solve_left.ensures.solved
