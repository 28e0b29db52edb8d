use Rattle.std.proofs.Common.{◌≡◌, ℕ, ◌+◌, ◌-◌, ◌*◌, ◌<◌, slice_index, length, refl, ◌∙◌, arith}
use Rattle.matrix_parts.specs.Lent.{grid_of}
use Rattle.matrix_parts.proofs.Kept.{IsKept-then}
use Rattle.part_updates.proofs.ChangedAreas.{changed_below, changed_row}
use Rattle.part_updates.proofs.updates.tiles.change_tile.Goals as goal

pub loop-r-preserved : goal.loop-r-preserved
loop-r-preserved c =
    let row = c.args.tile.row + c.loop-r.r in
    let next : c.args.tile.row + (c.loop-r.r + 1) ≡ c.args.tile.row + c.loop-r.r + 1 = omega arith in record {
      loan = c.change_row.ensures.loan ∙ c.loop-r.invariant.loan;
      part = c.change_row.ensures.part;
      kept = IsKept-then _ _ _ c.loop-r.invariant.kept c.change_row.ensures.kept;
      changed = changed_below c.args.change.now.m c.args.change.now.minus c.args.change.now.inside
          (λ i j. slice_index c.args.residues.now ((i - c.args.tile.row) * c.args.tile.lines + (j - c.args.tile.left)))
          c.args.tile.row row (c.args.tile.row + (c.loop-r.r + 1)) c.args.tile.left (c.args.tile.left + c.args.tile.lines)
          (grid_of c.args.w.now) (grid_of c.loop-r.w) (grid_of c.change_row.new.w) (omega arith) (omega arith) (omega arith) (omega arith)
          c.loop-r.invariant.changed
          (rw next (rw c.filled_row.ensures.len at (changed_row c.args.change.now.m c.args.change.now.minus c.args.change.now.inside
          (λ i j. slice_index c.args.residues.now ((i - c.args.tile.row) * c.args.tile.lines + (j - c.args.tile.left)))
          row c.args.tile.left (length c.filled_row.result.now) (grid_of c.loop-r.w) (grid_of c.change_row.new.w) c.filled_row.result.now
          c.change_row.ensures.kept.rows c.change_row.ensures.kept.cols
          (omega (arith, c.loop-r.invariant.kept.rows)) (omega (arith, c.loop-r.invariant.kept.cols, c.filled_row.ensures.len))
          c.change_row.ensures.here c.change_row.ensures.range c.change_row.ensures.zero c.change_row.ensures.others
          (λ j below. c.filled_row.ensures.entries j (omega (arith, c.filled_row.ensures.len))
          ∙ (let at_row : row - c.args.tile.row ≡ c.loop-r.r = omega arith in
          let at_col : c.args.tile.left + j - c.args.tile.left ≡ j = omega arith in
          rw (at_row, at_col) refl)))));
    }
