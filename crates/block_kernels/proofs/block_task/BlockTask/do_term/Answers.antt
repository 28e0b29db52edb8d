use Rattle.std.proofs.Common.{◌-◌, get_or, arith}
use Rattle.matrix_parts.specs.Lent.{grid_of}
use Rattle.block_kernels.proofs.TermEffects.{read_term, no_term, two_reads, term_below, term_can, term_done, term_from_one, term_known}
use Rattle.block_kernels.proofs.block_task.BlockTask.do_term.Goals as goal

pub overflow_sub-at : goal.overflow_sub-at
overflow_sub-at c = term_from_one c.args.self.now c.requires.can.knowns c.requires.can.work (grid_of c.args.w.now) c.requires.can.ready c.requires.kind

pub bounds-as_slice-at : goal.bounds-as_slice-at
bounds-as_slice-at c = rw c.as_slice.ensures (term_below c.args.self.now c.requires.can.knowns c.requires.can.work (grid_of c.args.w.now) c.requires.can.ready c.requires.kind)

pub factor-first-requires-clause-at : goal.factor-first-requires-clause-at
factor-first-requires-clause-at c =
    let two = two_reads c.args.self.now c.requires.can.knowns c.requires.can.work (grid_of c.args.w.now) c.requires.can.ready c.requires.kind (get_or c.as_slice.result.now (c.args.self.now.task.term - 1) no_term) (read_term c.as_slice.result.now c.args.self.now.op.now.terms (c.args.self.now.task.term - 1) no_term c.as_slice.ensures (term_below c.args.self.now c.requires.can.knowns c.requires.can.work (grid_of c.args.w.now) c.requires.can.ready c.requires.kind)) in
    omega (arith, two)

pub factor-first-requires-clause-known : goal.factor-first-requires-clause-known
factor-first-requires-clause-known c = (term_known c.args.self.now c.requires.can.knowns c.requires.can.work (grid_of c.args.w.now) c.requires.can.ready c.requires.kind (get_or c.as_slice.result.now (c.args.self.now.task.term - 1) _) (read_term c.as_slice.result.now c.args.self.now.op.now.terms (c.args.self.now.task.term - 1) _ c.as_slice.ensures (term_below c.args.self.now c.requires.can.knowns c.requires.can.work (grid_of c.args.w.now) c.requires.can.ready c.requires.kind))).0

pub factor-second-requires-clause-at : goal.factor-second-requires-clause-at
factor-second-requires-clause-at c =
    let two = two_reads c.args.self.now c.requires.can.knowns c.requires.can.work (grid_of c.args.w.now) c.requires.can.ready c.requires.kind (get_or c.as_slice.result.now (c.args.self.now.task.term - 1) no_term) (read_term c.as_slice.result.now c.args.self.now.op.now.terms (c.args.self.now.task.term - 1) no_term c.as_slice.ensures (term_below c.args.self.now c.requires.can.knowns c.requires.can.work (grid_of c.args.w.now) c.requires.can.ready c.requires.kind)) in
    omega (arith, two)

pub factor-second-requires-clause-known : goal.factor-second-requires-clause-known
factor-second-requires-clause-known c = (term_known c.args.self.now c.requires.can.knowns c.requires.can.work (grid_of c.args.w.now) c.requires.can.ready c.requires.kind (get_or c.as_slice.result.now (c.args.self.now.task.term - 1) _) (read_term c.as_slice.result.now c.args.self.now.op.now.terms (c.args.self.now.task.term - 1) _ c.as_slice.ensures (term_below c.args.self.now c.requires.can.knowns c.requires.can.work (grid_of c.args.w.now) c.requires.can.ready c.requires.kind))).1

pub update-requires-clause-oper_a : goal.update-requires-clause-oper_a
update-requires-clause-oper_a c = (term_can c.args.self.now c.requires.can.knowns c.requires.can.work (grid_of c.args.w.now) c.requires.can.ready c.requires.kind (get_or c.as_slice.result.now (c.args.self.now.task.term - 1) _) (read_term c.as_slice.result.now c.args.self.now.op.now.terms (c.args.self.now.task.term - 1) _ c.as_slice.ensures (term_below c.args.self.now c.requires.can.knowns c.requires.can.work (grid_of c.args.w.now) c.requires.can.ready c.requires.kind)) c.factor-first.result c.factor-second.result c.factor-first.ensures.oper c.factor-second.ensures.oper c.factor-first.ensures.residues c.factor-second.ensures.residues).oper_a

pub update-requires-clause-oper_b : goal.update-requires-clause-oper_b
update-requires-clause-oper_b c = (term_can c.args.self.now c.requires.can.knowns c.requires.can.work (grid_of c.args.w.now) c.requires.can.ready c.requires.kind (get_or c.as_slice.result.now (c.args.self.now.task.term - 1) _) (read_term c.as_slice.result.now c.args.self.now.op.now.terms (c.args.self.now.task.term - 1) _ c.as_slice.ensures (term_below c.args.self.now c.requires.can.knowns c.requires.can.work (grid_of c.args.w.now) c.requires.can.ready c.requires.kind)) c.factor-first.result c.factor-second.result c.factor-first.ensures.oper c.factor-second.ensures.oper c.factor-first.ensures.residues c.factor-second.ensures.residues).oper_b

pub update-requires-clause-rows : goal.update-requires-clause-rows
update-requires-clause-rows c = (term_can c.args.self.now c.requires.can.knowns c.requires.can.work (grid_of c.args.w.now) c.requires.can.ready c.requires.kind (get_or c.as_slice.result.now (c.args.self.now.task.term - 1) _) (read_term c.as_slice.result.now c.args.self.now.op.now.terms (c.args.self.now.task.term - 1) _ c.as_slice.ensures (term_below c.args.self.now c.requires.can.knowns c.requires.can.work (grid_of c.args.w.now) c.requires.can.ready c.requires.kind)) c.factor-first.result c.factor-second.result c.factor-first.ensures.oper c.factor-second.ensures.oper c.factor-first.ensures.residues c.factor-second.ensures.residues).rows

pub update-requires-clause-cols : goal.update-requires-clause-cols
update-requires-clause-cols c = (term_can c.args.self.now c.requires.can.knowns c.requires.can.work (grid_of c.args.w.now) c.requires.can.ready c.requires.kind (get_or c.as_slice.result.now (c.args.self.now.task.term - 1) _) (read_term c.as_slice.result.now c.args.self.now.op.now.terms (c.args.self.now.task.term - 1) _ c.as_slice.ensures (term_below c.args.self.now c.requires.can.knowns c.requires.can.work (grid_of c.args.w.now) c.requires.can.ready c.requires.kind)) c.factor-first.result c.factor-second.result c.factor-first.ensures.oper c.factor-second.ensures.oper c.factor-first.ensures.residues c.factor-second.ensures.residues).cols

pub update-requires-clause-inner : goal.update-requires-clause-inner
update-requires-clause-inner c = (term_can c.args.self.now c.requires.can.knowns c.requires.can.work (grid_of c.args.w.now) c.requires.can.ready c.requires.kind (get_or c.as_slice.result.now (c.args.self.now.task.term - 1) _) (read_term c.as_slice.result.now c.args.self.now.op.now.terms (c.args.self.now.task.term - 1) _ c.as_slice.ensures (term_below c.args.self.now c.requires.can.knowns c.requires.can.work (grid_of c.args.w.now) c.requires.can.ready c.requires.kind)) c.factor-first.result c.factor-second.result c.factor-first.ensures.oper c.factor-second.ensures.oper c.factor-first.ensures.residues c.factor-second.ensures.residues).inner

pub update-requires-clause-residues : goal.update-requires-clause-residues
update-requires-clause-residues c = c.requires.can.ready.residues

pub returns-clause-effect : goal.returns-clause-effect
returns-clause-effect c = λ knowns work ready. term_done c.args.self.now knowns work (grid_of c.args.w.now) ready c.requires.kind (get_or c.as_slice.result.now (c.args.self.now.task.term - 1) _) (read_term c.as_slice.result.now c.args.self.now.op.now.terms (c.args.self.now.task.term - 1) _ c.as_slice.ensures (term_below c.args.self.now c.requires.can.knowns c.requires.can.work (grid_of c.args.w.now) c.requires.can.ready c.requires.kind)) c.factor-first.result c.factor-second.result c.factor-first.ensures.oper c.factor-second.ensures.oper c.factor-first.ensures.residues c.factor-second.ensures.residues c.block_structure-inside.result (grid_of c.update.new.w) c.block_structure-inside.ensures c.update.ensures.updated
