use Rattle.std.proofs.Common.{◌≡◌, ℕ, ◌+◌, ◌-◌, ◌*◌, ◌%◌, ◌<◌, min, slice_index, ap, ◌∙◌, arith}
use Rattle.matrix_parts.specs.Lent.{grid_of}
use Rattle.matrix_parts.specs.Opers.{op_table}
use Rattle.part_updates.specs.Changes.{panel_sum}
use Rattle.part_updates.proofs.ChangedAreas.{changed_by_same}
use Rattle.part_updates.proofs.updates.tiles.update_tile.Goals as goal

pub returns-clause-changed : goal.returns-clause-changed
returns-clause-changed c =
    let count : c.rows_from.result ≡ min 3 (c.args.w.now.rows - c.args.tile.row) = (rw c.rows.ensures at c.rows_from.ensures) in
    changed_by_same c.args.change.now.m c.args.change.now.minus c.args.change.now.inside
    (λ i j. slice_index c.tile_sums.new.sums ((i - c.args.tile.row) * c.args.tile.lines + (j - c.args.tile.left)))
    (λ i j. panel_sum (op_table c.args.a.now) i c.args.tile.inner c.args.panel.entries.now c.args.panel.height (j - c.args.tile.left) % c.args.change.now.m)
    c.args.tile.row (c.args.tile.row + min 3 (c.args.w.now.rows - c.args.tile.row)) c.args.tile.left (c.args.tile.left + c.args.tile.lines)
    (grid_of c.args.w.now) (grid_of c.change_tile.new.w)
    (λ i j h. c.tile_sums.ensures.sums (i - c.args.tile.row) (j - c.args.tile.left) (omega (arith, h.from_top, h.above_bottom)) (omega (arith, h.from_left, h.before_right))
    ∙ (let place : c.args.tile.row + (i - c.args.tile.row) ≡ i = omega (arith, h.from_top) in
    ap (λ (r : ℕ). panel_sum (op_table c.args.a.now) r c.args.tile.inner c.args.panel.entries.now c.args.panel.height (j - c.args.tile.left) % c.args.change.now.m) place))
    (rw count at c.change_tile.ensures.changed)
