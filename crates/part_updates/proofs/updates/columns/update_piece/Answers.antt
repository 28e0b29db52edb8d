use Rattle.std.proofs.Common.{◌≡◌, ℕ, ◌+◌, ◌-◌, ◌*◌, ◌%◌, ◌<◌, ◌∙◌, ap, arith}
use Rattle.matrix_parts.specs.Lent.{grid_of}
use Rattle.matrix_parts.specs.Opers.{op_table}
use Rattle.part_updates.specs.Changes.{panel_sum, part_product}
use Rattle.part_updates.proofs.ChangedAreas.{changed_by_same}
use Rattle.part_updates.proofs.PartProducts.{panel_product}
use Rattle.part_updates.specs.ProductFactors.{second_table}
use Rattle.part_updates.proofs.updates.columns.update_piece.Goals as goal

pub returns-clause-changed : goal.returns-clause-changed
returns-clause-changed c = changed_by_same c.args.change.now.m c.args.change.now.minus c.args.change.now.inside
    (λ i j. panel_sum (op_table c.args.factors.now.first) i c.args.piece.inner c.fill_second.new.panel c.args.piece.height (j - c.args.piece.left) % c.args.change.now.m)
    (part_product c.args.change.now.m c.args.piece.inner c.args.piece.height (op_table c.args.factors.now.first) (second_table c.args.change.now.m c.args.factors.now))
    0 c.args.w.now.rows c.args.piece.left (c.args.piece.left + c.args.piece.lines) (grid_of c.args.w.now) (grid_of c.update_panel.new.w)
    (λ i j h. panel_product c.args.change.now.m (op_table c.args.factors.now.first) (second_table c.args.change.now.m c.args.factors.now) i j c.args.piece.left c.args.piece.inner c.args.piece.height
    c.fill_second.new.panel h.from_left
    (λ k below. c.fill_second.ensures.lines (j - c.args.piece.left) k (omega (arith, h.from_left, h.before_right)) below
    ∙ (let place : c.args.piece.left + (j - c.args.piece.left) ≡ j = omega (arith, h.from_left) in
    ap (λ (q : ℕ). second_table c.args.change.now.m c.args.factors.now (c.args.piece.inner + k) q) place)))
    c.update_panel.ensures.changed
