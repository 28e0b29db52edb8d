use Rattle.std.proofs.Common.{arith}
use Rattle.matrix_parts.specs.Lent.{grid_of}
use Rattle.block_kernels.proofs.LeftEffects.{ldl_can, ldl_done, ldl_middle, reads_ldl}
use Rattle.block_kernels.proofs.TaskBlocks.{read_count}
use Rattle.block_kernels.proofs.block_task.BlockTask.do_ldl.Goals as goal

pub block-first-requires-clause-at : goal.block-first-requires-clause-at
block-first-requires-clause-at c = omega (arith, read_count c.args.self.now c.requires.can.knowns c.requires.can.work (grid_of c.args.w.now) c.requires.can.ready _ (reads_ldl c.args.self.now c.requires.can.knowns c.requires.can.work (grid_of c.args.w.now) c.requires.can.ready c.requires.kind c.requires.form))

pub block-middle-requires-clause-at : goal.block-middle-requires-clause-at
block-middle-requires-clause-at c = omega (arith, read_count c.args.self.now c.requires.can.knowns c.requires.can.work (grid_of c.args.w.now) c.requires.can.ready _ (reads_ldl c.args.self.now c.requires.can.knowns c.requires.can.work (grid_of c.args.w.now) c.requires.can.ready c.requires.kind c.requires.form))

pub block-second-requires-clause-at : goal.block-second-requires-clause-at
block-second-requires-clause-at c = omega (arith, read_count c.args.self.now c.requires.can.knowns c.requires.can.work (grid_of c.args.w.now) c.requires.can.ready _ (reads_ldl c.args.self.now c.requires.can.knowns c.requires.can.work (grid_of c.args.w.now) c.requires.can.ready c.requires.kind c.requires.form))

pub update_ldl-requires-clause-oper_a : goal.update_ldl-requires-clause-oper_a
update_ldl-requires-clause-oper_a c = (ldl_can c.args.self.now c.requires.can.knowns c.requires.can.work (grid_of c.args.w.now) c.requires.can.ready c.requires.kind c.requires.form c.block-first.result c.block-middle.result c.block-second.result c.block-first.ensures.part c.block-first.ensures.structure c.block-first.ensures.primed c.block-first.ensures.residues c.block-middle.ensures.part c.block-middle.ensures.structure c.block-middle.ensures.primed c.block-middle.ensures.residues c.block-second.ensures.part c.block-second.ensures.structure c.block-second.ensures.primed c.block-second.ensures.residues).oper_a

pub update_ldl-requires-clause-oper_b : goal.update_ldl-requires-clause-oper_b
update_ldl-requires-clause-oper_b c = (ldl_can c.args.self.now c.requires.can.knowns c.requires.can.work (grid_of c.args.w.now) c.requires.can.ready c.requires.kind c.requires.form c.block-first.result c.block-middle.result c.block-second.result c.block-first.ensures.part c.block-first.ensures.structure c.block-first.ensures.primed c.block-first.ensures.residues c.block-middle.ensures.part c.block-middle.ensures.structure c.block-middle.ensures.primed c.block-middle.ensures.residues c.block-second.ensures.part c.block-second.ensures.structure c.block-second.ensures.primed c.block-second.ensures.residues).oper_b

pub update_ldl-requires-clause-rows : goal.update_ldl-requires-clause-rows
update_ldl-requires-clause-rows c = (ldl_can c.args.self.now c.requires.can.knowns c.requires.can.work (grid_of c.args.w.now) c.requires.can.ready c.requires.kind c.requires.form c.block-first.result c.block-middle.result c.block-second.result c.block-first.ensures.part c.block-first.ensures.structure c.block-first.ensures.primed c.block-first.ensures.residues c.block-middle.ensures.part c.block-middle.ensures.structure c.block-middle.ensures.primed c.block-middle.ensures.residues c.block-second.ensures.part c.block-second.ensures.structure c.block-second.ensures.primed c.block-second.ensures.residues).rows

pub update_ldl-requires-clause-cols : goal.update_ldl-requires-clause-cols
update_ldl-requires-clause-cols c = (ldl_can c.args.self.now c.requires.can.knowns c.requires.can.work (grid_of c.args.w.now) c.requires.can.ready c.requires.kind c.requires.form c.block-first.result c.block-middle.result c.block-second.result c.block-first.ensures.part c.block-first.ensures.structure c.block-first.ensures.primed c.block-first.ensures.residues c.block-middle.ensures.part c.block-middle.ensures.structure c.block-middle.ensures.primed c.block-middle.ensures.residues c.block-second.ensures.part c.block-second.ensures.structure c.block-second.ensures.primed c.block-second.ensures.residues).cols

pub update_ldl-requires-clause-inner : goal.update_ldl-requires-clause-inner
update_ldl-requires-clause-inner c = (ldl_can c.args.self.now c.requires.can.knowns c.requires.can.work (grid_of c.args.w.now) c.requires.can.ready c.requires.kind c.requires.form c.block-first.result c.block-middle.result c.block-second.result c.block-first.ensures.part c.block-first.ensures.structure c.block-first.ensures.primed c.block-first.ensures.residues c.block-middle.ensures.part c.block-middle.ensures.structure c.block-middle.ensures.primed c.block-middle.ensures.residues c.block-second.ensures.part c.block-second.ensures.structure c.block-second.ensures.primed c.block-second.ensures.residues).inner

pub update_ldl-requires-clause-oper_d : goal.update_ldl-requires-clause-oper_d
update_ldl-requires-clause-oper_d c = (ldl_middle c.args.self.now c.requires.can.knowns c.requires.can.work (grid_of c.args.w.now) c.requires.can.ready c.requires.kind c.requires.form c.block-first.result c.block-middle.result c.block-second.result c.block-first.ensures.part c.block-first.ensures.structure c.block-first.ensures.primed c.block-first.ensures.residues c.block-middle.ensures.part c.block-middle.ensures.structure c.block-middle.ensures.primed c.block-middle.ensures.residues c.block-second.ensures.part c.block-second.ensures.structure c.block-second.ensures.primed c.block-second.ensures.residues).0

pub update_ldl-requires-clause-middle_rows : goal.update_ldl-requires-clause-middle_rows
update_ldl-requires-clause-middle_rows c = (ldl_middle c.args.self.now c.requires.can.knowns c.requires.can.work (grid_of c.args.w.now) c.requires.can.ready c.requires.kind c.requires.form c.block-first.result c.block-middle.result c.block-second.result c.block-first.ensures.part c.block-first.ensures.structure c.block-first.ensures.primed c.block-first.ensures.residues c.block-middle.ensures.part c.block-middle.ensures.structure c.block-middle.ensures.primed c.block-middle.ensures.residues c.block-second.ensures.part c.block-second.ensures.structure c.block-second.ensures.primed c.block-second.ensures.residues).1

pub update_ldl-requires-clause-middle_cols : goal.update_ldl-requires-clause-middle_cols
update_ldl-requires-clause-middle_cols c = (ldl_middle c.args.self.now c.requires.can.knowns c.requires.can.work (grid_of c.args.w.now) c.requires.can.ready c.requires.kind c.requires.form c.block-first.result c.block-middle.result c.block-second.result c.block-first.ensures.part c.block-first.ensures.structure c.block-first.ensures.primed c.block-first.ensures.residues c.block-middle.ensures.part c.block-middle.ensures.structure c.block-middle.ensures.primed c.block-middle.ensures.residues c.block-second.ensures.part c.block-second.ensures.structure c.block-second.ensures.primed c.block-second.ensures.residues).2

pub update_ldl-requires-clause-residues : goal.update_ldl-requires-clause-residues
update_ldl-requires-clause-residues c = c.requires.can.ready.residues

pub returns-clause-effect : goal.returns-clause-effect
returns-clause-effect c = λ knowns work ready. ldl_done c.args.self.now knowns work (grid_of c.args.w.now) ready c.requires.kind c.requires.form c.block-first.result c.block-middle.result c.block-second.result c.block-first.ensures.part c.block-first.ensures.structure c.block-first.ensures.primed c.block-first.ensures.residues c.block-middle.ensures.part c.block-middle.ensures.structure c.block-middle.ensures.primed c.block-middle.ensures.residues c.block-second.ensures.part c.block-second.ensures.structure c.block-second.ensures.primed c.block-second.ensures.residues c.block_structure-inside.result (grid_of c.update_ldl.new.w) c.block_structure-inside.ensures c.update_ldl.ensures.updated
