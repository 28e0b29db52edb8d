use Rattle.std.proofs.Common.{◌∙◌, refl}
use Rattle.flash_blocks.proofs.Places.{parts_counted}
use Rattle.block_kernels.proofs.ListInverses.{combined-at}
use Rattle.block_kernels.proofs.block_task.BlockTask.pair_pivot.Goals as goal

pub factor_pivot-second-requires : goal.factor_pivot-second-requires
factor_pivot-second-requires c =
    record { has = rw (parts_counted _ _ _ _ _ c.requires.first.diagonal.has_knowns.positive refl refl c.div_ceil-behind.ensures) c.requires.second }

pub returns-clause-value : goal.returns-clause-value
returns-clause-value c = λ knowns cols first second row col.
    let counted = parts_counted _ _ _ _ _ c.requires.first.diagonal.has_knowns.positive refl refl c.div_ceil-behind.ensures in
    c.sum_or_difference.ensures.value
    ∙ combined-at c.args.self.now.m c.args.minus _ _ c.args.at.row c.args.at.col c.factor_pivot-first.result c.factor_pivot-second.result
    (c.factor_pivot-first.ensures.value knowns c.args.rows first row) (c.factor_pivot-second.ensures.value knowns cols (rw counted second) col)
