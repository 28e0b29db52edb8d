use Rattle.std.proofs.Common.{◌≤◌, List, length, map, drop, sym, ap, ◌∙◌, arith}
use Rattle.std.proofs.lemmas.List.{drop_all}
use Rattle.operation_spec.specs.declared.operation.Operand.{Operand}
use Rattle.equation.specs.Jobs.{nth_grid}
use Rattle.step_replays.specs.Fits.{length_among}
use Rattle.job_blocks.proofs.TableSteps.{length-behind, length-on_cols, length-on_rows}
use Rattle.job_blocks.proofs.job_blocks.JobBlocks.length_among.Goals as goal

pub bounds-numbers-at : goal.bounds-numbers-at
bounds-numbers-at c = omega (arith, c.requires.count)

pub matrix-matrix-requires : goal.matrix-matrix-requires
matrix-matrix-requires c = c.requires.exist c.loop-at.at 0 (omega (arith, c.requires.count))

pub returns-then-operand-d : goal.returns-then-operand-d
returns-then-operand-d c =
    c.rows.ensures.rows
    ∙ sym (length-on_rows c.args.self.now.job.matrices c.args.operands.now c.args.numbers.now c.loop-at.at c.args.d c.index-operands-at.result c.matrix-matrix.result.now
    (omega arith) c.requires.count c.index-operands-at.is c.matrix-matrix.ensures c.if-operand-d.true)
    ∙ sym c.loop-at.invariant

pub returns-then-operand-d-2 : goal.returns-then-operand-d-2
returns-then-operand-d-2 c =
    c.cols.ensures.cols
    ∙ sym (length-on_cols c.args.self.now.job.matrices c.args.operands.now c.args.numbers.now c.loop-at.at c.args.d c.index-operands-at.result c.matrix-matrix.result.now
    (omega arith) c.requires.count c.index-operands-at.is c.matrix-matrix.ensures c.if-operand-d.false c.if-operand-d-2.true)
    ∙ sym c.loop-at.invariant

pub loop-at-preserved : goal.loop-at-preserved
loop-at-preserved c =
    c.loop-at.invariant
    ∙ length-behind c.args.self.now.job.matrices c.args.operands.now c.args.numbers.now c.loop-at.at c.args.d c.index-operands-at.result
    (omega arith) c.requires.count c.index-operands-at.is c.if-operand-d.false c.if-operand-d-2.false

pub returns : goal.returns
returns c =
    let all : length c.args.operands.now ≤ c.loop-at.at = omega arith in
    sym (c.loop-at.invariant
    ∙ ap (λ (os : List Operand). length_among os (map (nth_grid c.args.self.now.job.matrices) (drop c.loop-at.at c.args.numbers.now)) c.args.d)
    (drop_all c.loop-at.at c.args.operands.now all))
