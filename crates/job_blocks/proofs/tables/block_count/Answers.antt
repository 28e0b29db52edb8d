use Rattle.std.proofs.Common.{◌≡◌, ℕ, refl, ap, ◌∙◌, arith}
use Rattle.residue_sums.specs.Sums.{part_count}
use Rattle.job_blocks.proofs.tables.block_count.Goals as goal

pub overflow_mul-result : goal.overflow_mul-result
overflow_mul-result c =
    let rows : c.parts.result ≡ part_count c.args.matrix.now.rows c.args.b = c.parts.ensures ∙ ap (λ (n : ℕ). part_count n c.args.b) c.rows.ensures.rows in
    let cols : c.parts-2.result ≡ part_count c.args.matrix.now.cols c.args.b = c.parts-2.ensures ∙ ap (λ (n : ℕ). part_count n c.args.b) c.cols.ensures.cols in
    rw (rows, cols) (omega (arith, c.requires.few))

pub returns : goal.returns
returns c =
    let rows : c.parts.result ≡ part_count c.args.matrix.now.rows c.args.b = c.parts.ensures ∙ ap (λ (n : ℕ). part_count n c.args.b) c.rows.ensures.rows in
    let cols : c.parts-2.result ≡ part_count c.args.matrix.now.cols c.args.b = c.parts-2.ensures ∙ ap (λ (n : ℕ). part_count n c.args.b) c.cols.ensures.cols in
    rw (rows, cols) refl
