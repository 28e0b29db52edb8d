use Rattle.std.proofs.Common.{◌≡◌, ◌+◌, ◌-◌, ◌*◌, slice_index}
use Rattle.matrix_parts.specs.Lent.{grid_of, loan_of, IsPart, IsKept}
use Rattle.part_updates.specs.Changes.{IsChanged}
use Rattle.part_updates.proofs.updates.tiles.change_tile.Given as goal

abbrev pub invariant-loop-r : goal.invariant-loop-r
invariant-loop-r l = record {
  loan : loan_of l.w ≡ loan_of l.fn.w;
  part : IsPart l.w;
  kept : IsKept l.fn.w l.w;
  changed : IsChanged l.change.m l.change.minus l.change.inside (λ i j. slice_index l.residues ((i - l.tile.row) * l.tile.lines + (j - l.tile.left)))
      l.tile.row (l.tile.row + l.r) l.tile.left (l.tile.left + l.tile.lines) (grid_of l.fn.w) (grid_of l.w);
}
