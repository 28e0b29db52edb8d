use Rattle.std.proofs.Common.{arith}
use Rattle.matrix_parts.specs.Lent.{grid_of}
use Rattle.block_kernels.proofs.LeftEffects.{lu_can, lu_done, reads_lu}
use Rattle.block_kernels.proofs.TaskBlocks.{read_count}
use Rattle.block_kernels.proofs.block_task.BlockTask.do_lu.Goals as goal

pub block-first-requires-clause-at : goal.block-first-requires-clause-at
block-first-requires-clause-at c = omega (arith, read_count c.args.self.now c.requires.can.knowns c.requires.can.work (grid_of c.args.w.now) c.requires.can.ready _ (reads_lu c.args.self.now c.requires.can.knowns c.requires.can.work (grid_of c.args.w.now) c.requires.can.ready c.requires.kind c.requires.form))

pub block-second-requires-clause-at : goal.block-second-requires-clause-at
block-second-requires-clause-at c = omega (arith, read_count c.args.self.now c.requires.can.knowns c.requires.can.work (grid_of c.args.w.now) c.requires.can.ready _ (reads_lu c.args.self.now c.requires.can.knowns c.requires.can.work (grid_of c.args.w.now) c.requires.can.ready c.requires.kind c.requires.form))

pub update-requires-clause-oper_a : goal.update-requires-clause-oper_a
update-requires-clause-oper_a c = (lu_can c.args.self.now c.requires.can.knowns c.requires.can.work (grid_of c.args.w.now) c.requires.can.ready c.requires.kind c.requires.form c.block-first.result c.block-second.result c.block-first.ensures.part c.block-first.ensures.structure c.block-first.ensures.primed c.block-first.ensures.residues c.block-second.ensures.part c.block-second.ensures.structure c.block-second.ensures.primed c.block-second.ensures.residues).oper_a

pub update-requires-clause-oper_b : goal.update-requires-clause-oper_b
update-requires-clause-oper_b c = (lu_can c.args.self.now c.requires.can.knowns c.requires.can.work (grid_of c.args.w.now) c.requires.can.ready c.requires.kind c.requires.form c.block-first.result c.block-second.result c.block-first.ensures.part c.block-first.ensures.structure c.block-first.ensures.primed c.block-first.ensures.residues c.block-second.ensures.part c.block-second.ensures.structure c.block-second.ensures.primed c.block-second.ensures.residues).oper_b

pub update-requires-clause-rows : goal.update-requires-clause-rows
update-requires-clause-rows c = (lu_can c.args.self.now c.requires.can.knowns c.requires.can.work (grid_of c.args.w.now) c.requires.can.ready c.requires.kind c.requires.form c.block-first.result c.block-second.result c.block-first.ensures.part c.block-first.ensures.structure c.block-first.ensures.primed c.block-first.ensures.residues c.block-second.ensures.part c.block-second.ensures.structure c.block-second.ensures.primed c.block-second.ensures.residues).rows

pub update-requires-clause-cols : goal.update-requires-clause-cols
update-requires-clause-cols c = (lu_can c.args.self.now c.requires.can.knowns c.requires.can.work (grid_of c.args.w.now) c.requires.can.ready c.requires.kind c.requires.form c.block-first.result c.block-second.result c.block-first.ensures.part c.block-first.ensures.structure c.block-first.ensures.primed c.block-first.ensures.residues c.block-second.ensures.part c.block-second.ensures.structure c.block-second.ensures.primed c.block-second.ensures.residues).cols

pub update-requires-clause-inner : goal.update-requires-clause-inner
update-requires-clause-inner c = (lu_can c.args.self.now c.requires.can.knowns c.requires.can.work (grid_of c.args.w.now) c.requires.can.ready c.requires.kind c.requires.form c.block-first.result c.block-second.result c.block-first.ensures.part c.block-first.ensures.structure c.block-first.ensures.primed c.block-first.ensures.residues c.block-second.ensures.part c.block-second.ensures.structure c.block-second.ensures.primed c.block-second.ensures.residues).inner

pub update-requires-clause-residues : goal.update-requires-clause-residues
update-requires-clause-residues c = c.requires.can.ready.residues

pub returns-clause-effect : goal.returns-clause-effect
returns-clause-effect c = λ knowns work ready. lu_done c.args.self.now knowns work (grid_of c.args.w.now) ready c.requires.kind c.requires.form c.block-first.result c.block-second.result c.block-first.ensures.part c.block-first.ensures.structure c.block-first.ensures.primed c.block-first.ensures.residues c.block-second.ensures.part c.block-second.ensures.structure c.block-second.ensures.primed c.block-second.ensures.residues c.block_structure-inside.result (grid_of c.update.new.w) c.block_structure-inside.ensures c.update.ensures.updated
