use Rattle.std.proofs.Common.{◌≡◌, ◌≢◌, ℕ, ◌+◌, ◌<◌, ◌≤◌, ◌⊎◌, slice_index}
use Rattle.residue_sums.specs.Grids.{entry}
use Rattle.structure_rules.specs.Structures.{IsInside, IsZero}
use Rattle.matrix_parts.specs.Lent.{grid_of, loan_of, IsPart, IsKept}
use Rattle.part_updates.specs.Changes.{added}
use Rattle.part_updates.proofs.changes.change_row.Given as goal

abbrev pub invariant-loop-j : goal.invariant-loop-j
invariant-loop-j l = record {
  loan : loan_of l.w ≡ loan_of l.fn.w;
  part : IsPart l.w;
  kept : IsKept l.fn.w l.w;
  here : (k : ℕ) → k < l.j → IsInside l.change.inside l.i (l.from + k) → entry (grid_of l.w) l.i (l.from + k)
      ≡ added l.change.m l.change.minus (entry (grid_of l.fn.w) l.i (l.from + k)) (slice_index l.residues k);
  range : (k : ℕ) → k < l.j → entry (grid_of l.w) l.i (l.from + k) < l.change.m;
  zero : (k : ℕ) → k < l.j → IsZero l.change.inside l.i (l.from + k) → entry (grid_of l.w) l.i (l.from + k) ≡ entry (grid_of l.fn.w) l.i (l.from + k);
  others : (a b : ℕ) → a < l.fn.w.rows → b < l.fn.w.cols → (a ≢ l.i) ⊎ ((b < l.from) ⊎ (l.from + l.j ≤ b)) → entry (grid_of l.w) a b ≡ entry (grid_of l.fn.w) a b;
}
