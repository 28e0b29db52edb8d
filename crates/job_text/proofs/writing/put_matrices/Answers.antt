use Rattle.std.proofs.Common.{◌∙◌, ◌++◌, List, ℕ, [], sym, ap, append-nil, arith}
use Rattle.equation.specs.Jobs.{no_grid}
use Rattle.job_text.proofs.WrittenLines.{blocks_none, blocks_put}
use Rattle.job_text.proofs.writing.put_matrices.Goals as goal

pub loop-at-preserved : goal.loop-at-preserved
loop-at-preserved c = blocks_put c.args.names.now c.args.matrices.now c.loop-at.at [] no_grid c.loop-at.out.items c.put_block.new.out.items _ (omega (arith, c.loop-at-test.true)) (omega (arith, c.if-at-matrices.true)) c.in_ok-put_block.ensures c.loop-at.invariant

pub returns-else-at-matrices : goal.returns-else-at-matrices
returns-else-at-matrices c =
    sym (append-nil c.loop-at.out.items) ∙ ap (λ (text : List ℕ). c.loop-at.out.items ++ text) (sym (blocks_none c.args.names.now c.args.matrices.now c.loop-at.at (omega (arith, c.if-at-matrices.false)))) ∙ c.loop-at.invariant
