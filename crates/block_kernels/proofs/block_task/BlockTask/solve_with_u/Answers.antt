use Rattle.std.proofs.Common.{◌≡◌, ◌≤◌, length, take, length-take, arith, ◌∙◌, inr, sym}
use Rattle.matrix_parts.specs.Lent.{grid_of}
use Rattle.matrix_parts.specs.Opers.{op_rows, op_table}
use Rattle.block_kernels.proofs.TaskBlocks.{own_few}
use Rattle.block_kernels.proofs.FactorEffects.{inverses_again, u_read, u_solved, u_there, u_units}
use Rattle.block_kernels.proofs.block_task.BlockTask.solve_with_u.Goals as goal

pub block-pivots-requires-clause-at : goal.block-pivots-requires-clause-at
block-pivots-requires-clause-at c = u_there c.args.self.now c.requires.can.knowns c.requires.can.work (grid_of c.args.w.now) c.requires.can.ready c.requires.kind c.requires.form c.requires.below

pub write_unit_inverses-requires-clause-oper : goal.write_unit_inverses-requires-clause-oper
write_unit_inverses-requires-clause-oper c = (u_read c.args.self.now c.requires.can.knowns c.requires.can.work (grid_of c.args.w.now) c.requires.can.ready c.requires.kind c.requires.form c.requires.below c.block-pivots.result c.block-pivots.ensures.part c.block-pivots.ensures.structure c.block-pivots.ensures.primed c.block-pivots.ensures.residues).oper

pub write_unit_inverses-requires-clause-square : goal.write_unit_inverses-requires-clause-square
write_unit_inverses-requires-clause-square c = (u_read c.args.self.now c.requires.can.knowns c.requires.can.work (grid_of c.args.w.now) c.requires.can.ready c.requires.kind c.requires.form c.requires.below c.block-pivots.result c.block-pivots.ensures.part c.block-pivots.ensures.structure c.block-pivots.ensures.primed c.block-pivots.ensures.residues).cols_is ∙ sym (u_read c.args.self.now c.requires.can.knowns c.requires.can.work (grid_of c.args.w.now) c.requires.can.ready c.requires.kind c.requires.form c.requires.below c.block-pivots.result c.block-pivots.ensures.part c.block-pivots.ensures.structure c.block-pivots.ensures.primed c.block-pivots.ensures.residues).rows_is

pub write_unit_inverses-requires-clause-units : goal.write_unit_inverses-requires-clause-units
write_unit_inverses-requires-clause-units c = u_units c.args.self.now c.requires.can.knowns c.requires.can.work (grid_of c.args.w.now) c.requires.can.ready c.requires.kind c.requires.form c.requires.below c.block-pivots.result c.block-pivots.ensures.part c.block-pivots.ensures.structure c.block-pivots.ensures.primed c.block-pivots.ensures.residues

pub block-u-requires-clause-at : goal.block-u-requires-clause-at
block-u-requires-clause-at c = u_there c.args.self.now c.requires.can.knowns c.requires.can.work (grid_of c.args.w.now) c.requires.can.ready c.requires.kind c.requires.form c.requires.below

pub solve_right-requires-clause-oper : goal.solve_right-requires-clause-oper
solve_right-requires-clause-oper c = (u_read c.args.self.now c.requires.can.knowns c.requires.can.work (grid_of c.args.w.now) c.requires.can.ready c.requires.kind c.requires.form c.requires.below c.block-u.result c.block-u.ensures.part c.block-u.ensures.structure c.block-u.ensures.primed c.block-u.ensures.residues).oper

pub solve_right-requires-clause-triangular : goal.solve_right-requires-clause-triangular
solve_right-requires-clause-triangular c = rw c.block-u.ensures.structure tt

pub solve_right-requires-clause-rows : goal.solve_right-requires-clause-rows
solve_right-requires-clause-rows c = (u_read c.args.self.now c.requires.can.knowns c.requires.can.work (grid_of c.args.w.now) c.requires.can.ready c.requires.kind c.requires.form c.requires.below c.block-u.result c.block-u.ensures.part c.block-u.ensures.structure c.block-u.ensures.primed c.block-u.ensures.residues).rows_is

pub solve_right-requires-clause-cols : goal.solve_right-requires-clause-cols
solve_right-requires-clause-cols c = (u_read c.args.self.now c.requires.can.knowns c.requires.can.work (grid_of c.args.w.now) c.requires.can.ready c.requires.kind c.requires.form c.requires.below c.block-u.result c.block-u.ensures.part c.block-u.ensures.structure c.block-u.ensures.primed c.block-u.ensures.residues).cols_is

pub solve_right-requires-clause-inverses : goal.solve_right-requires-clause-inverses
solve_right-requires-clause-inverses c = inr (inverses_again c.args.self.now.m (op_rows c.block-pivots.result) c.args.w.now.cols (op_table c.block-pivots.result) (op_table c.block-u.result) c.write_unit_inverses.new.row c.part_of_slice-inverses.result (u_read c.args.self.now c.requires.can.knowns c.requires.can.work (grid_of c.args.w.now) c.requires.can.ready c.requires.kind c.requires.form c.requires.below c.block-pivots.result c.block-pivots.ensures.part c.block-pivots.ensures.structure c.block-pivots.ensures.primed c.block-pivots.ensures.residues).rows_is ((u_read c.args.self.now c.requires.can.knowns c.requires.can.work (grid_of c.args.w.now) c.requires.can.ready c.requires.kind c.requires.form c.requires.below c.block-pivots.result c.block-pivots.ensures.part c.block-pivots.ensures.structure c.block-pivots.ensures.primed c.block-pivots.ensures.residues).table_is ∙ sym (u_read c.args.self.now c.requires.can.knowns c.requires.can.work (grid_of c.args.w.now) c.requires.can.ready c.requires.kind c.requires.form c.requires.below c.block-u.result c.block-u.ensures.part c.block-u.ensures.structure c.block-u.ensures.primed c.block-u.ensures.residues).table_is) (rw c.cols-n.ensures at c.part_of_slice-inverses.ensures) c.write_unit_inverses.ensures.inverses)

pub solve_right-requires-clause-residues : goal.solve_right-requires-clause-residues
solve_right-requires-clause-residues c = c.requires.can.ready.residues

pub returns-clause-effect : goal.returns-clause-effect
returns-clause-effect c = λ knowns work ready. u_solved c.args.self.now knowns work (grid_of c.args.w.now) ready c.requires.kind c.requires.form c.requires.below c.block-u.result c.block-u.ensures.part c.block-u.ensures.structure c.block-u.ensures.primed c.block-u.ensures.residues (grid_of c.solve_right.new.w) c.solve_right.ensures.solved

pub write_unit_inverses-requires-clause-count : goal.write_unit_inverses-requires-clause-count
write_unit_inverses-requires-clause-count c =
    let few : c.args.w.now.cols ≤ c.args.self.now.b = own_few c.args.self.now c.requires.can.knowns c.requires.can.work (grid_of c.args.w.now) c.requires.can.ready in
    let e : length (take c.cols-n.result c.args.room.now) ≡ c.cols-n.result = simp length-take (omega (arith, few, c.cols-n.ensures, c.requires.room)) in
    e ∙ c.cols-n.ensures ∙ sym (u_read c.args.self.now c.requires.can.knowns c.requires.can.work (grid_of c.args.w.now) c.requires.can.ready c.requires.kind c.requires.form c.requires.below c.block-pivots.result c.block-pivots.ensures.part c.block-pivots.ensures.structure c.block-pivots.ensures.primed c.block-pivots.ensures.residues).rows_is

pub part_of_slice-inverses-requires : goal.part_of_slice-inverses-requires
part_of_slice-inverses-requires c =
    let few : c.args.w.now.cols ≤ c.args.self.now.b = own_few c.args.self.now c.requires.can.knowns c.requires.can.work (grid_of c.args.w.now) c.requires.can.ready in
    let e : length (take c.cols-n.result c.args.room.now) ≡ c.cols-n.result = simp length-take (omega (arith, few, c.cols-n.ensures, c.requires.room)) in
    omega (arith, e, c.write_unit_inverses.ensures.count)
