use Rattle.std.proofs.Common.{◌≡◌, ◌++◌, map, drop}
use Rattle.job_blocks.specs.Tables.{matrix_blocks}
use Rattle.dispatcher.specs.BufferSizes.{size_of}
use Rattle.dispatcher.proofs.sizes.push_matrices.Given as goal

abbrev pub invariant-loop-matrix : goal.invariant-loop-matrix
invariant-loop-matrix l =
    l.sizes.items ++ map size_of (matrix_blocks l.b (drop l.matrix-index l.matrices)) ≡ l.initial.sizes.items ++ map size_of (matrix_blocks l.b l.matrices)
