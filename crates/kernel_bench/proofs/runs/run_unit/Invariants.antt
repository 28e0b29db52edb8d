use Rattle.std.proofs.Common.{◌≡◌, ◌*◌, ◌<◌, All, length}
use Rattle.kernel_bench.proofs.runs.run_unit.Given as goal

abbrev pub invariant-runs : goal.invariant-runs
invariant-runs l = record {
  count : length l.entries ≡ l.fn.amount.n * l.fn.amount.n;
  width : length l.sums.items ≡ l.fn.amount.n;
  residues : All (λ x. x < l.fn.amount.m) l.entries;
}
