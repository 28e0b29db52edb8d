use Rattle.std.proofs.Common.{◌≡◌, ◌<◌, All, length}
use Rattle.kernel_bench.proofs.operands.residues.Given as goal

abbrev pub invariant-loop-i : goal.invariant-loop-i
invariant-loop-i l = record {
  count : length l.numbers.items ≡ l.count;
  residues : All (λ x. x < l.m) l.numbers.items;
}
