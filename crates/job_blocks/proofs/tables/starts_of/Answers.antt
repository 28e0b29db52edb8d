use Rattle.std.proofs.Common.{◌≡◌, ℕ, ◌+◌, ◌++◌, ◌∷◌, [], List, length, refl, ap, ◌∙◌, arith}
use Rattle.job_blocks.proofs.BlockCounts.{blocks_in-take}
use Rattle.job_blocks.proofs.TableSteps.{first_items, items-more, start, start-more}
use Rattle.job_blocks.proofs.tables.starts_of.Goals as goal

pub loop-matrix-init : goal.loop-matrix-init
loop-matrix-init c = record { items = c.in_ok-push.ensures.items ∙ ap (λ (xs : List ℕ). xs ++ 0 ∷ []) c.in_ok-starts.ensures.items; next = refl }

pub block_count-next-requires : goal.block_count-next-requires
block_count-next-requires c =
    let step = start-more c.args.b c.args.matrices.now c.loop-matrix.matrix-index c.matrix-item.result c.loop-matrix-test.true c.matrix-item.is in
    record { size = c.requires.size; few = omega (arith, step, blocks_in-take c.args.b c.args.matrices.now (c.loop-matrix.matrix-index + 1), c.requires.few) }

pub overflow_add-next : goal.overflow_add-next
overflow_add-next c =
    let step = start-more c.args.b c.args.matrices.now c.loop-matrix.matrix-index c.matrix-item.result c.loop-matrix-test.true c.matrix-item.is in
    omega (arith, step, blocks_in-take c.args.b c.args.matrices.now (c.loop-matrix.matrix-index + 1), c.requires.few, c.loop-matrix.invariant.next, c.block_count-next.ensures)

pub loop-matrix-preserved : goal.loop-matrix-preserved
loop-matrix-preserved c =
    let step = start-more c.args.b c.args.matrices.now c.loop-matrix.matrix-index c.matrix-item.result c.loop-matrix-test.true c.matrix-item.is in
    let last : c.loop-matrix.next + c.block_count-next.result ≡ start c.args.b c.args.matrices.now (c.loop-matrix.matrix-index + 1) =
    omega (arith, step, c.loop-matrix.invariant.next, c.block_count-next.ensures) in
    record {
      items = c.in_ok-push-2.ensures.items
          ∙ items-more (start c.args.b c.args.matrices.now) c.loop-matrix.starts.items (c.loop-matrix.matrix-index + 1) (c.loop-matrix.next + c.block_count-next.result)
          c.loop-matrix.invariant.items last;
      next = last;
    }

pub returns : goal.returns
returns c =
    let done : c.loop-matrix.matrix-index ≡ length c.args.matrices.now = omega arith in
    c.loop-matrix.invariant.items ∙ ap (λ (n : ℕ). first_items (start c.args.b c.args.matrices.now) (n + 1)) done
