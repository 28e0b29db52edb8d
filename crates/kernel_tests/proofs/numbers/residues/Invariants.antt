use Rattle.std.proofs.Common.{◌≡◌, ◌<◌, All, length}
use Rattle.kernel_tests.proofs.numbers.residues.Given as goal

abbrev pub invariant-loop-p : goal.invariant-loop-p
invariant-loop-p g l = record {
  count : length l.found.items ≡ l.count;
  residues : All (λ x. x < l.m) l.found.items;
}
