use Rattle.std.proofs.Common.{◌≡◌, ◌≤◌, length, take, length-take, arith, ◌∙◌, sym}
use Rattle.matrix_parts.specs.Lent.{grid_of}
use Rattle.matrix_parts.specs.Opers.{op_rows, op_table}
use Rattle.block_kernels.proofs.TaskBlocks.{own_few}
use Rattle.block_kernels.proofs.FactorEffects.{d_is, d_read, d_sizes, d_solved, d_there, d_units, inverses_again}
use Rattle.block_kernels.proofs.block_task.BlockTask.solve_with_d.Goals as goal

pub block-pivots-requires-clause-at : goal.block-pivots-requires-clause-at
block-pivots-requires-clause-at c = d_there c.args.self.now c.requires.can.knowns c.requires.can.work (grid_of c.args.w.now) c.requires.can.ready c.requires.kind c.requires.form c.requires.below

pub write_unit_inverses-requires-clause-oper : goal.write_unit_inverses-requires-clause-oper
write_unit_inverses-requires-clause-oper c = (d_read c.args.self.now c.requires.can.knowns c.requires.can.work (grid_of c.args.w.now) c.requires.can.ready c.requires.kind c.requires.form c.requires.below c.block-pivots.result c.block-pivots.ensures.part c.block-pivots.ensures.structure c.block-pivots.ensures.primed c.block-pivots.ensures.residues).oper

pub write_unit_inverses-requires-clause-square : goal.write_unit_inverses-requires-clause-square
write_unit_inverses-requires-clause-square c = (d_read c.args.self.now c.requires.can.knowns c.requires.can.work (grid_of c.args.w.now) c.requires.can.ready c.requires.kind c.requires.form c.requires.below c.block-pivots.result c.block-pivots.ensures.part c.block-pivots.ensures.structure c.block-pivots.ensures.primed c.block-pivots.ensures.residues).cols_is ∙ sym (d_read c.args.self.now c.requires.can.knowns c.requires.can.work (grid_of c.args.w.now) c.requires.can.ready c.requires.kind c.requires.form c.requires.below c.block-pivots.result c.block-pivots.ensures.part c.block-pivots.ensures.structure c.block-pivots.ensures.primed c.block-pivots.ensures.residues).rows_is

pub write_unit_inverses-requires-clause-units : goal.write_unit_inverses-requires-clause-units
write_unit_inverses-requires-clause-units c = d_units c.args.self.now c.requires.can.knowns c.requires.can.work (grid_of c.args.w.now) c.requires.can.ready c.requires.kind c.requires.form c.requires.below c.block-pivots.result c.block-pivots.ensures.part c.block-pivots.ensures.structure c.block-pivots.ensures.primed c.block-pivots.ensures.residues

pub read-f-requires-clause-at : goal.read-f-requires-clause-at
read-f-requires-clause-at c = d_there c.args.self.now c.requires.can.knowns c.requires.can.work (grid_of c.args.w.now) c.requires.can.ready c.requires.kind c.requires.form c.requires.below

pub solve_right_ldl-requires-clause-rows : goal.solve_right_ldl-requires-clause-rows
solve_right_ldl-requires-clause-rows c = rw (c.read-f.ensures.grid) (d_sizes c.args.self.now c.requires.can.knowns c.requires.can.work (grid_of c.args.w.now) c.requires.can.ready c.requires.kind c.requires.form c.requires.below).0

pub solve_right_ldl-requires-clause-cols : goal.solve_right_ldl-requires-clause-cols
solve_right_ldl-requires-clause-cols c = rw (c.read-f.ensures.grid) (d_sizes c.args.self.now c.requires.can.knowns c.requires.can.work (grid_of c.args.w.now) c.requires.can.ready c.requires.kind c.requires.form c.requires.below).1

pub solve_right_ldl-requires-clause-inverses : goal.solve_right_ldl-requires-clause-inverses
solve_right_ldl-requires-clause-inverses c = rw (c.read-f.ensures.grid, d_is c.args.self.now c.requires.can.knowns c.requires.can.work (grid_of c.args.w.now) c.requires.can.ready c.requires.kind c.requires.form c.requires.below) (inverses_again c.args.self.now.m (op_rows c.block-pivots.result) c.args.w.now.cols (op_table c.block-pivots.result) _ c.write_unit_inverses.new.row c.part_of_slice-inverses.result (d_read c.args.self.now c.requires.can.knowns c.requires.can.work (grid_of c.args.w.now) c.requires.can.ready c.requires.kind c.requires.form c.requires.below c.block-pivots.result c.block-pivots.ensures.part c.block-pivots.ensures.structure c.block-pivots.ensures.primed c.block-pivots.ensures.residues).rows_is (d_read c.args.self.now c.requires.can.knowns c.requires.can.work (grid_of c.args.w.now) c.requires.can.ready c.requires.kind c.requires.form c.requires.below c.block-pivots.result c.block-pivots.ensures.part c.block-pivots.ensures.structure c.block-pivots.ensures.primed c.block-pivots.ensures.residues).table_is (rw c.cols-n.ensures at c.part_of_slice-inverses.ensures) c.write_unit_inverses.ensures.inverses)

pub solve_right_ldl-requires-clause-residues : goal.solve_right_ldl-requires-clause-residues
solve_right_ldl-requires-clause-residues c = c.requires.can.ready.residues

pub returns-clause-effect : goal.returns-clause-effect
returns-clause-effect c = λ knowns work ready. d_solved c.args.self.now knowns work (grid_of c.args.w.now) ready c.requires.kind c.requires.form c.requires.below c.read-f.result c.read-f.ensures.grid (grid_of c.solve_right_ldl.new.w) c.solve_right_ldl.ensures.solved

pub slice_bounds-row-end : goal.slice_bounds-row-end
slice_bounds-row-end c =
    let few : c.args.w.now.cols ≤ c.args.self.now.b = own_few c.args.self.now c.requires.can.knowns c.requires.can.work (grid_of c.args.w.now) c.requires.can.ready in
    omega (arith, few, c.cols-n.ensures, c.requires.room)

pub slice_bounds-row-end-2 : goal.slice_bounds-row-end-2
slice_bounds-row-end-2 c =
    let few : c.args.w.now.cols ≤ c.args.self.now.b = own_few c.args.self.now c.requires.can.knowns c.requires.can.work (grid_of c.args.w.now) c.requires.can.ready in
    let e : length (take c.cols-n.result c.args.room.now) ≡ c.cols-n.result = simp length-take (omega (arith, few, c.cols-n.ensures, c.requires.room)) in
    sym e

pub write_unit_inverses-requires-clause-count : goal.write_unit_inverses-requires-clause-count
write_unit_inverses-requires-clause-count c =
    let few : c.args.w.now.cols ≤ c.args.self.now.b = own_few c.args.self.now c.requires.can.knowns c.requires.can.work (grid_of c.args.w.now) c.requires.can.ready in
    let e : length (take c.cols-n.result c.args.room.now) ≡ c.cols-n.result = simp length-take (omega (arith, few, c.cols-n.ensures, c.requires.room)) in
    e ∙ c.cols-n.ensures ∙ sym (d_read c.args.self.now c.requires.can.knowns c.requires.can.work (grid_of c.args.w.now) c.requires.can.ready c.requires.kind c.requires.form c.requires.below c.block-pivots.result c.block-pivots.ensures.part c.block-pivots.ensures.structure c.block-pivots.ensures.primed c.block-pivots.ensures.residues).rows_is

pub part_of_slice-inverses-requires : goal.part_of_slice-inverses-requires
part_of_slice-inverses-requires c =
    let few : c.args.w.now.cols ≤ c.args.self.now.b = own_few c.args.self.now c.requires.can.knowns c.requires.can.work (grid_of c.args.w.now) c.requires.can.ready in
    let e : length (take c.cols-n.result c.args.room.now) ≡ c.cols-n.result = simp length-take (omega (arith, few, c.cols-n.ensures, c.requires.room)) in
    omega (arith, e, c.write_unit_inverses.ensures.count)
