use Rattle.std.proofs.Common.{◌≡◌, ◌+◌, ◌-◌, ◌*◌, ◌%◌, min}
use Rattle.matrix_parts.specs.Lent.{grid_of, loan_of, IsPart, IsKept}
use Rattle.matrix_parts.specs.Opers.{op_table}
use Rattle.part_updates.specs.Changes.{panel_sum, IsChanged}
use Rattle.part_updates.proofs.updates.tiles.update_panel.Given as goal

abbrev pub invariant-loop-t : goal.invariant-loop-t
invariant-loop-t l = record {
  loan : loan_of l.w ≡ loan_of l.fn.w;
  part : IsPart l.w;
  kept : IsKept l.fn.w l.w;
  changed : IsChanged l.change.m l.change.minus l.change.inside
      (λ i j. panel_sum (op_table l.a) i l.piece.inner l.panel.entries.now l.panel.height (j - l.piece.left) % l.change.m)
      0 (min (3 * l.t) l.fn.w.rows) l.piece.left (l.piece.left + l.piece.lines) (grid_of l.fn.w) (grid_of l.w);
}
