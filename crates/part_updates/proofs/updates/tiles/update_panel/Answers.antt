use Rattle.std.proofs.Common.{◌≡◌, ℕ, ◌+◌, ◌-◌, ◌*◌, ◌%◌, min, ◌∙◌, sym, arith}
use Rattle.matrix_parts.specs.Lent.{grid_of}
use Rattle.matrix_parts.specs.Opers.{op_table}
use Rattle.matrix_parts.proofs.Kept.{IsKept-then}
use Rattle.part_updates.specs.Changes.{panel_sum, IsChanged}
use Rattle.part_updates.proofs.ChangedAreas.{changed_below}
use Rattle.part_updates.proofs.updates.tiles.update_panel.Goals as goal

pub loop-t-preserved : goal.loop-t-preserved
loop-t-preserved c =
    let here : 3 * c.loop-t.t ≡ min (3 * c.loop-t.t) c.args.w.now.rows = omega arith in
    let next : 3 * c.loop-t.t + min 3 (c.loop-t.w.rows - 3 * c.loop-t.t) ≡ min (3 * (c.loop-t.t + 1)) c.args.w.now.rows = omega (arith, c.loop-t.invariant.kept.rows) in record {
      loan = c.update_tile.ensures.loan ∙ c.loop-t.invariant.loan;
      part = c.update_tile.ensures.part;
      kept = IsKept-then _ _ _ c.loop-t.invariant.kept c.update_tile.ensures.kept;
      changed = changed_below c.args.change.now.m c.args.change.now.minus c.args.change.now.inside
          (λ i j. panel_sum (op_table c.args.a.now) i c.args.piece.inner c.args.panel.entries.now c.args.panel.height (j - c.args.piece.left) % c.args.change.now.m)
          0 (min (3 * c.loop-t.t) c.args.w.now.rows) (min (3 * (c.loop-t.t + 1)) c.args.w.now.rows) c.args.piece.left (c.args.piece.left + c.args.piece.lines)
          (grid_of c.args.w.now) (grid_of c.loop-t.w) (grid_of c.update_tile.new.w) (omega arith) (omega arith) (omega arith) (omega arith)
          c.loop-t.invariant.changed
          (rw (← here, ← next) c.update_tile.ensures.changed);
    }
