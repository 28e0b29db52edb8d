use Rattle.std.proofs.Common.{◌%◌, arith}
use Rattle.equation.proofs.FactorResidues.{HasResidues-view}
use Rattle.block_kernels.proofs.PivotReads.{block_there, pivot_in, pivot_is, pivot_oper}
use Rattle.block_kernels.proofs.block_task.BlockTask.factor_pivot.Goals as goal

pub overflow_add-from : goal.overflow_add-from
overflow_add-from c = omega (arith, block_there c.args.self.now c.requires.has.knowns c.args.f c.args.from c.requires.has.size c.requires.has.diagonal c.args.q c.requires.has.within)

pub factor-block-requires-clause-stored : goal.factor-block-requires-clause-stored
factor-block-requires-clause-stored c = c.requires.has.diagonal.stored

pub factor-block-requires-clause-at : goal.factor-block-requires-clause-at
factor-block-requires-clause-at c = block_there c.args.self.now c.requires.has.knowns c.args.f c.args.from c.requires.has.size c.requires.has.diagonal c.args.q c.requires.has.within

pub factor-block-requires-clause-known : goal.factor-block-requires-clause-known
factor-block-requires-clause-known c = c.requires.has.diagonal.known_in

pub get-requires-clause-oper : goal.get-requires-clause-oper
get-requires-clause-oper c = pivot_oper c.args.self.now c.requires.has.knowns c.args.f c.args.from c.requires.has.size c.requires.has.diagonal c.args.q c.requires.has.within c.factor-block.result c.factor-block.ensures.oper c.factor-block.ensures.residues

pub get-requires-clause-row_in : goal.get-requires-clause-row_in
get-requires-clause-row_in c = (pivot_in c.args.self.now c.requires.has.knowns c.args.f c.args.from c.requires.has.size c.requires.has.diagonal c.args.q c.requires.has.within c.factor-block.result c.factor-block.ensures.oper c.factor-block.ensures.residues).0

pub get-requires-clause-col_in : goal.get-requires-clause-col_in
get-requires-clause-col_in c = (pivot_in c.args.self.now c.requires.has.knowns c.args.f c.args.from c.requires.has.size c.requires.has.diagonal c.args.q c.requires.has.within c.factor-block.result c.factor-block.ensures.oper c.factor-block.ensures.residues).1

pub returns-clause-value : goal.returns-clause-value
returns-clause-value c = λ knowns n has below. rw c.get.ensures (pivot_is c.args.self.now knowns c.args.f c.args.from n has c.args.q below c.factor-block.result c.factor-block.ensures.oper c.factor-block.ensures.residues)

pub returns-clause-range : goal.returns-clause-range
returns-clause-range c =
    let block = c.factor-block.result in
    rw c.get.ensures (HasResidues-view c.args.self.now.m block.primed block.structure block.part c.value-modulus.ensures.range.at_least_two c.factor-block.ensures.residues (c.args.q % c.args.self.now.b) (c.args.q % c.args.self.now.b))
