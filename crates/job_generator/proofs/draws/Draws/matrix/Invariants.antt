use Rattle.std.proofs.Common.{◌≡◌}
use Rattle.job_generator.specs.Draws.{number_after, drawn_table}
use Rattle.job_generator.proofs.PlacesInOrder.{entries_below}
use Rattle.job_generator.proofs.draws.Draws.matrix.Given as goal

-- the entries so far, and the number behind their draws
abbrev pub invariant-loop-place : goal.invariant-loop-place
invariant-loop-place l = record {
  entries : l.entries.items ≡ entries_below (drawn_table l.initial.self.modulus l.initial.self.number l.n) l.n l._place;
  number : l.self.number ≡ number_after l._place l.initial.self.number;
  modulus : l.self.modulus ≡ l.initial.self.modulus;
}
