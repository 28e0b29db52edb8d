use Rattle.std.proofs.Common.{◌∙◌, arith}
use Rattle.matrix_parts.specs.Lent.{grid_of}
use Rattle.block_kernels.proofs.RightEffects.{factor_right_can, factor_right_done, reads_factor_right, right_known_is}
use Rattle.block_kernels.proofs.TaskBlocks.{read_count}
use Rattle.block_kernels.proofs.block_task.BlockTask.do_factor_right.Goals as goal

pub block-first-requires-clause-at : goal.block-first-requires-clause-at
block-first-requires-clause-at c = omega (arith, read_count c.args.self.now c.requires.can.knowns c.requires.can.work (grid_of c.args.w.now) c.requires.can.ready _ (reads_factor_right c.args.self.now c.requires.can.knowns c.requires.can.work (grid_of c.args.w.now) c.requires.can.ready c.requires.kind c.args.u c.args.minus c.requires.form))

pub factor-second-requires-clause-at : goal.factor-second-requires-clause-at
factor-second-requires-clause-at c = omega (arith, read_count c.args.self.now c.requires.can.knowns c.requires.can.work (grid_of c.args.w.now) c.requires.can.ready _ (reads_factor_right c.args.self.now c.requires.can.knowns c.requires.can.work (grid_of c.args.w.now) c.requires.can.ready c.requires.kind c.args.u c.args.minus c.requires.form))

pub factor-second-requires-clause-known : goal.factor-second-requires-clause-known
factor-second-requires-clause-known c = right_known_is c.args.self.now c.requires.can.knowns c.requires.can.work (grid_of c.args.w.now) c.requires.can.ready c.requires.kind c.args.u c.args.minus c.requires.form

pub update-requires-clause-oper_a : goal.update-requires-clause-oper_a
update-requires-clause-oper_a c = (factor_right_can c.args.self.now c.requires.can.knowns c.requires.can.work (grid_of c.args.w.now) c.requires.can.ready c.requires.kind c.args.u c.args.minus c.requires.form c.block-first.result c.factor-second.result c.block-first.ensures.part (c.block-first.ensures.structure ∙ c.block_structure-seen.ensures) c.block-first.ensures.primed c.block-first.ensures.residues c.factor-second.ensures.oper c.factor-second.ensures.residues).oper_a

pub update-requires-clause-oper_b : goal.update-requires-clause-oper_b
update-requires-clause-oper_b c = (factor_right_can c.args.self.now c.requires.can.knowns c.requires.can.work (grid_of c.args.w.now) c.requires.can.ready c.requires.kind c.args.u c.args.minus c.requires.form c.block-first.result c.factor-second.result c.block-first.ensures.part (c.block-first.ensures.structure ∙ c.block_structure-seen.ensures) c.block-first.ensures.primed c.block-first.ensures.residues c.factor-second.ensures.oper c.factor-second.ensures.residues).oper_b

pub update-requires-clause-rows : goal.update-requires-clause-rows
update-requires-clause-rows c = (factor_right_can c.args.self.now c.requires.can.knowns c.requires.can.work (grid_of c.args.w.now) c.requires.can.ready c.requires.kind c.args.u c.args.minus c.requires.form c.block-first.result c.factor-second.result c.block-first.ensures.part (c.block-first.ensures.structure ∙ c.block_structure-seen.ensures) c.block-first.ensures.primed c.block-first.ensures.residues c.factor-second.ensures.oper c.factor-second.ensures.residues).rows

pub update-requires-clause-cols : goal.update-requires-clause-cols
update-requires-clause-cols c = (factor_right_can c.args.self.now c.requires.can.knowns c.requires.can.work (grid_of c.args.w.now) c.requires.can.ready c.requires.kind c.args.u c.args.minus c.requires.form c.block-first.result c.factor-second.result c.block-first.ensures.part (c.block-first.ensures.structure ∙ c.block_structure-seen.ensures) c.block-first.ensures.primed c.block-first.ensures.residues c.factor-second.ensures.oper c.factor-second.ensures.residues).cols

pub update-requires-clause-inner : goal.update-requires-clause-inner
update-requires-clause-inner c = (factor_right_can c.args.self.now c.requires.can.knowns c.requires.can.work (grid_of c.args.w.now) c.requires.can.ready c.requires.kind c.args.u c.args.minus c.requires.form c.block-first.result c.factor-second.result c.block-first.ensures.part (c.block-first.ensures.structure ∙ c.block_structure-seen.ensures) c.block-first.ensures.primed c.block-first.ensures.residues c.factor-second.ensures.oper c.factor-second.ensures.residues).inner

pub update-requires-clause-residues : goal.update-requires-clause-residues
update-requires-clause-residues c = c.requires.can.ready.residues

pub returns-clause-effect : goal.returns-clause-effect
returns-clause-effect c = λ knowns work ready. factor_right_done c.args.self.now knowns work (grid_of c.args.w.now) ready c.requires.kind c.args.u c.args.minus c.requires.form c.block-first.result c.factor-second.result c.block-first.ensures.part (c.block-first.ensures.structure ∙ c.block_structure-seen.ensures) c.block-first.ensures.primed c.block-first.ensures.residues c.factor-second.ensures.oper c.factor-second.ensures.residues c.block_structure-inside.result (grid_of c.update.new.w) c.block_structure-inside.ensures c.update.ensures.updated
