use Rattle.std.proofs.Common.{◌≡◌, ◌≢◌, ℕ, ◌+◌, ◌<◌, ◌≤◌, ◌⊎◌, slice_index}
use Rattle.residue_sums.specs.Grids.{entry}
use Rattle.matrix_parts.specs.Lent.{grid_of, loan_of, IsPart, IsKept}
use Rattle.matrix_parts.proofs.part_mut.PartMut.write_row.Given as goal

abbrev pub invariant-loop-j : goal.invariant-loop-j
invariant-loop-j l = record {
  loan : loan_of l.self ≡ loan_of l.fn.self;
  part : IsPart l.self;
  kept : IsKept l.fn.self l.self;
  here : (k : ℕ) → k < l.j → entry (grid_of l.self) l.i (l.from + k) ≡ slice_index l.values k;
  others : (a b : ℕ) → a < l.fn.self.rows → b < l.fn.self.cols → (a ≢ l.i) ⊎ ((b < l.from) ⊎ (l.from + l.j ≤ b)) → entry (grid_of l.self) a b ≡ entry (grid_of l.fn.self) a b;
}
