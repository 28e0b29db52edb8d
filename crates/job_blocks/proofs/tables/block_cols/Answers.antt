use Rattle.std.proofs.Common.{ℕ, ◌≤◌, length, ap, ◌∙◌, arith}
use Rattle.std.proofs.lemmas.List.{take_all}
use Rattle.residue_sums.specs.Sums.{part_count}
use Rattle.job_blocks.specs.Tables.{block_cols}
use Rattle.job_blocks.proofs.TableSteps.{cols-more}
use Rattle.job_blocks.proofs.tables.block_cols.Goals as goal

pub loop-matrix-preserved : goal.loop-matrix-preserved
loop-matrix-preserved c =
    c.in_ok-push.ensures.items
    ∙ cols-more c.args.b c.args.matrices.now c.loop-matrix.cols.items c.loop-matrix.matrix-index c.parts.result c.matrix-item.result c.loop-matrix-test.true c.matrix-item.is
    c.loop-matrix.invariant (c.parts.ensures ∙ ap (λ (n : ℕ). part_count n c.args.b) c.cols.ensures.cols)

pub returns : goal.returns
returns c =
    let all : length c.args.matrices.now ≤ c.loop-matrix.matrix-index = omega arith in
    c.loop-matrix.invariant ∙ ap (block_cols c.args.b) (take_all c.loop-matrix.matrix-index c.args.matrices.now all)
