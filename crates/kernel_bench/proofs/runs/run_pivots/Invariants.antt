use Rattle.std.proofs.Common.{◌≡◌}
use Rattle.matrix_parts.specs.Lent.{IsPart}
use Rattle.kernel_bench.proofs.runs.run_pivots.Given as goal

abbrev pub invariant-runs : goal.invariant-runs
invariant-runs l = record {
  part : IsPart l.row;
  rows : l.row.rows ≡ 1;
  cols : l.row.cols ≡ l.fn.amount.n;
}
