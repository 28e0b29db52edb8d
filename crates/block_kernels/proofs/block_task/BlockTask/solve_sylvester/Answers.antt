use Rattle.std.proofs.Common.{arith}
use Rattle.matrix_parts.specs.Lent.{grid_of}
use Rattle.block_kernels.proofs.SolveEffects.{both_count, both_done, both_inverses, both_known, both_list, both_triangular, first_read, second_read}
use Rattle.block_kernels.proofs.block_task.BlockTask.solve_sylvester.Goals as goal

pub factor-first-requires-clause-at : goal.factor-first-requires-clause-at
factor-first-requires-clause-at c = omega (arith, both_count c.args.self.now c.requires.can.knowns c.requires.can.work (grid_of c.args.w.now) c.requires.can.ready c.requires.kind c.args.t c.args.u c.args.minus c.requires.form)

pub factor-first-requires-clause-known : goal.factor-first-requires-clause-known
factor-first-requires-clause-known c = (both_known c.args.self.now c.requires.can.knowns c.requires.can.work (grid_of c.args.w.now) c.requires.can.ready c.requires.kind c.args.t c.args.u c.args.minus c.requires.form).0

pub factor-second-requires-clause-at : goal.factor-second-requires-clause-at
factor-second-requires-clause-at c = omega (arith, both_count c.args.self.now c.requires.can.knowns c.requires.can.work (grid_of c.args.w.now) c.requires.can.ready c.requires.kind c.args.t c.args.u c.args.minus c.requires.form)

pub factor-second-requires-clause-known : goal.factor-second-requires-clause-known
factor-second-requires-clause-known c = (both_known c.args.self.now c.requires.can.knowns c.requires.can.work (grid_of c.args.w.now) c.requires.can.ready c.requires.kind c.args.t c.args.u c.args.minus c.requires.form).1

pub list_part-inverses-requires-clause-list : goal.list_part-inverses-requires-clause-list
list_part-inverses-requires-clause-list c = rw (c.rows.ensures, c.cols.ensures) (both_list c.args.self.now c.requires.can.knowns c.requires.can.work (grid_of c.args.w.now) c.requires.can.ready c.requires.kind c.args.t c.args.u c.args.minus c.requires.form)

pub solve_sylvester-requires-clause-opers : goal.solve_sylvester-requires-clause-opers
solve_sylvester-requires-clause-opers c = ((first_read c.args.self.now c.requires.can.knowns c.requires.can.work (grid_of c.args.w.now) c.requires.can.ready c.requires.kind c.args.t c.args.u c.args.minus c.requires.form c.factor-first.result c.factor-second.result c.factor-first.ensures.oper c.factor-first.ensures.residues c.factor-second.ensures.oper c.factor-second.ensures.residues).oper, (second_read c.args.self.now c.requires.can.knowns c.requires.can.work (grid_of c.args.w.now) c.requires.can.ready c.requires.kind c.args.t c.args.u c.args.minus c.requires.form c.factor-first.result c.factor-second.result c.factor-first.ensures.oper c.factor-first.ensures.residues c.factor-second.ensures.oper c.factor-second.ensures.residues).oper)

pub solve_sylvester-requires-clause-triangular : goal.solve_sylvester-requires-clause-triangular
solve_sylvester-requires-clause-triangular c = both_triangular c.args.self.now c.requires.can.knowns c.requires.can.work (grid_of c.args.w.now) c.requires.can.ready c.requires.kind c.args.t c.args.u c.args.minus c.requires.form c.factor-first.result c.factor-second.result c.factor-first.ensures.oper c.factor-first.ensures.residues c.factor-second.ensures.oper c.factor-second.ensures.residues

pub solve_sylvester-requires-clause-rows : goal.solve_sylvester-requires-clause-rows
solve_sylvester-requires-clause-rows c = (first_read c.args.self.now c.requires.can.knowns c.requires.can.work (grid_of c.args.w.now) c.requires.can.ready c.requires.kind c.args.t c.args.u c.args.minus c.requires.form c.factor-first.result c.factor-second.result c.factor-first.ensures.oper c.factor-first.ensures.residues c.factor-second.ensures.oper c.factor-second.ensures.residues).rows_is

pub solve_sylvester-requires-clause-left : goal.solve_sylvester-requires-clause-left
solve_sylvester-requires-clause-left c = (first_read c.args.self.now c.requires.can.knowns c.requires.can.work (grid_of c.args.w.now) c.requires.can.ready c.requires.kind c.args.t c.args.u c.args.minus c.requires.form c.factor-first.result c.factor-second.result c.factor-first.ensures.oper c.factor-first.ensures.residues c.factor-second.ensures.oper c.factor-second.ensures.residues).cols_is

pub solve_sylvester-requires-clause-cols : goal.solve_sylvester-requires-clause-cols
solve_sylvester-requires-clause-cols c = (second_read c.args.self.now c.requires.can.knowns c.requires.can.work (grid_of c.args.w.now) c.requires.can.ready c.requires.kind c.args.t c.args.u c.args.minus c.requires.form c.factor-first.result c.factor-second.result c.factor-first.ensures.oper c.factor-first.ensures.residues c.factor-second.ensures.oper c.factor-second.ensures.residues).cols_is

pub solve_sylvester-requires-clause-right : goal.solve_sylvester-requires-clause-right
solve_sylvester-requires-clause-right c = (second_read c.args.self.now c.requires.can.knowns c.requires.can.work (grid_of c.args.w.now) c.requires.can.ready c.requires.kind c.args.t c.args.u c.args.minus c.requires.form c.factor-first.result c.factor-second.result c.factor-first.ensures.oper c.factor-first.ensures.residues c.factor-second.ensures.oper c.factor-second.ensures.residues).rows_is

pub solve_sylvester-requires-clause-inverses : goal.solve_sylvester-requires-clause-inverses
solve_sylvester-requires-clause-inverses c = both_inverses c.args.self.now c.requires.can.knowns c.requires.can.work (grid_of c.args.w.now) c.requires.can.ready c.requires.kind c.args.t c.args.u c.args.minus c.requires.form c.factor-first.result c.factor-second.result c.factor-first.ensures.oper c.factor-first.ensures.residues c.factor-second.ensures.oper c.factor-second.ensures.residues (omega (arith, c.value-modulus.ensures.range.at_least_two)) c.list_part-inverses.result (rw (c.rows.ensures, c.cols.ensures) at c.list_part-inverses.ensures)

pub solve_sylvester-requires-clause-residues : goal.solve_sylvester-requires-clause-residues
solve_sylvester-requires-clause-residues c = c.requires.can.ready.residues

pub returns-clause-effect : goal.returns-clause-effect
returns-clause-effect c = λ knowns work ready. both_done c.args.self.now knowns work (grid_of c.args.w.now) ready c.requires.kind c.args.t c.args.u c.args.minus c.requires.form c.factor-first.result c.factor-second.result c.factor-first.ensures.oper c.factor-first.ensures.residues c.factor-second.ensures.oper c.factor-second.ensures.residues (grid_of c.solve_sylvester.new.w) c.solve_sylvester.ensures.solved
