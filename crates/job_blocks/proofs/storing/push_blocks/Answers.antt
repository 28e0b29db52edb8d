use Rattle.std.proofs.Common.{◌≤◌, ◌++◌, List, length, append-nil, sym, ap, ◌∙◌, arith}
use Rattle.std.proofs.lemmas.List.{drop_all}
use Rattle.residue_sums.specs.Grids.{Grid}
use Rattle.flash_blocks.specs.Flashes.{BlockedGrid}
use Rattle.job_blocks.specs.Tables.{matrix_blocks}
use Rattle.job_blocks.proofs.NumberedBlocks.{blocks-more}
use Rattle.job_blocks.proofs.storing.push_blocks.Goals as goal

pub loop-matrix-preserved : goal.loop-matrix-preserved
loop-matrix-preserved c =
    blocks-more c.args.b c.args.matrices.now c.loop-matrix.matrix-index c.matrix-item.result c.loop-matrix.blocks.items c.into_blocks-own.result.items _
    c.loop-matrix-test.true c.matrix-item.is (c.into_blocks-own.ensures.blocks ∙ ap (λ (f : BlockedGrid). f.blocks) c.in_ok-cut.ensures) c.in_ok-append.ensures.items
    ∙ c.loop-matrix.invariant

pub returns : goal.returns
returns c =
    let all : length c.args.matrices.now ≤ c.loop-matrix.matrix-index = omega arith in
    sym (append-nil c.loop-matrix.blocks.items)
    ∙ ap (λ (grids : List Grid). c.loop-matrix.blocks.items ++ matrix_blocks c.args.b grids) (sym (drop_all c.loop-matrix.matrix-index c.args.matrices.now all))
    ∙ c.loop-matrix.invariant
