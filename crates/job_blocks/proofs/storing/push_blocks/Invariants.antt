use Rattle.std.proofs.Common.{◌≡◌, ◌++◌, drop}
use Rattle.job_blocks.specs.Tables.{matrix_blocks}
use Rattle.job_blocks.proofs.storing.push_blocks.Given as goal

abbrev pub invariant-loop-matrix : goal.invariant-loop-matrix
invariant-loop-matrix l =
    l.blocks.items ++ matrix_blocks l.b (drop l.matrix-index l.matrices) ≡ l.initial.blocks.items ++ matrix_blocks l.b l.matrices
