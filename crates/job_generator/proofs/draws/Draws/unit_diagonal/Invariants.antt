use Rattle.std.proofs.Common.{◌≡◌, ◌/◌, ◌%◌}
use Rattle.job_generator.specs.Draws.{number_after, off_diagonal_before, unit_diagonal_table}
use Rattle.job_generator.proofs.PlacesInOrder.{entries_below}
use Rattle.job_generator.proofs.draws.Draws.unit_diagonal.Given as goal

-- the entries so far, and the number behind their draws
abbrev pub invariant-loop-place : goal.invariant-loop-place
invariant-loop-place l = record {
  entries : l.entries.items ≡ entries_below (unit_diagonal_table l.initial.self.modulus l.initial.self.number l.n) l.n l.place;
  number : l.self.number ≡ number_after (off_diagonal_before l.n (l.place / l.n) (l.place % l.n)) l.initial.self.number;
  modulus : l.self.modulus ≡ l.initial.self.modulus;
}
