use Rattle.std.proofs.Common.{◌∙◌, arith}
use Rattle.residue_sums.specs.Grids.{Grid}
use Rattle.flash_blocks.specs.Flashes.{cut_of}
use Rattle.dispatcher.proofs.ShapeLists.{shapes-all, shapes-more}
use Rattle.dispatcher.proofs.sizes.push_matrices.Goals as goal

pub loop-matrix-preserved : goal.loop-matrix-preserved
loop-matrix-preserved c =
    shapes-more (λ (g : Grid). (cut_of c.args.b g).blocks) c.args.matrices.now c.loop-matrix.matrix-index c.matrix-item.result c.loop-matrix.sizes.items _ c.loop-matrix-test.true c.matrix-item.is
    c.in_ok-push_blocks.ensures
    ∙ c.loop-matrix.invariant

pub returns : goal.returns
returns c =
    shapes-all (λ (g : Grid). (cut_of c.args.b g).blocks) c.args.matrices.now c.loop-matrix.matrix-index c.args.sizes.now.items c.loop-matrix.sizes.items (omega arith) c.loop-matrix.invariant
