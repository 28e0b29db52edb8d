use Rattle.std.proofs.Common.{◌≡◌, take}
use Rattle.job_blocks.specs.Tables.{block_cols}
use Rattle.job_blocks.proofs.tables.block_cols.Given as goal

abbrev pub invariant-loop-matrix : goal.invariant-loop-matrix
invariant-loop-matrix l = l.cols.items ≡ block_cols l.b (take l.matrix-index l.matrices)
