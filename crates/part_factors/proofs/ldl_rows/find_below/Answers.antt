use Rattle.std.proofs.Common.{◌≡◌, ◌<◌, length, slice_index, ap, ◌∙◌, arith}
use Rattle.std.proofs.Math.Nat.{mod-lt}
use Rattle.residue_sums.specs.Grids.{Grid, entry}
use Rattle.matrix_parts.specs.Lent.{grid_of}
use Rattle.part_factors.specs.PanelRows.{in_panel}
use Rattle.part_factors.proofs.PanelPlaceWrites.{in_panel-from, in_panel-place}
use Rattle.part_factors.proofs.PieceRows.{IsRowFound-ldl_piece, small_after_row}
use Rattle.part_factors.proofs.ldl_rows.find_below.Goals as goal

pub row_values-requires-clause-small_panel : goal.row_values-requires-clause-small_panel
row_values-requires-clause-small_panel c j k col up within =
    let pos : 0 < c.args.m = omega (arith, c.modulus-modulus.ensures.range.at_least_two) in
    rw (in_panel-place c.args.panel.now c.args.at.height j k, c.requires.scaled j k col within) (mod-lt _ pos)

pub returns-clause-residues : goal.returns-clause-residues
returns-clause-residues c =
    let len : length c.row_values.new.values ≡ length c.args.values.now = omega (arith, c.row_values.auto.values) in
    small_after_row c.args.w.now.rows c.args.w.now.cols c.args.at.row c.args.at.from (length c.args.values.now) c.args.m (λ j. slice_index c.row_values.new.values j)
    (entry (grid_of c.args.w.now)) (entry (grid_of c.write_row.new.self)) c.requires.residues c.row_values.ensures.range
    (λ t below. c.write_row.ensures.here t (omega arith)) (rw len at c.write_row.ensures.others)

pub returns-clause-found : goal.returns-clause-found
returns-clause-found c =
    let len : length c.row_values.new.values ≡ length c.args.values.now = omega (arith, c.row_values.auto.values) in
    let cols : c.as_part-part.result.cols ≡ c.args.w.now.cols = ap (λ (g : Grid). g.cols) c.as_part-part.ensures in
    let others = rw len at c.write_row.ensures.others in
    IsRowFound-ldl_piece c.args.m c.args.w.now.rows (entry (grid_of c.args.w.now)) (entry (grid_of c.write_row.new.self)) c.args.at.row c.args.at.from (length c.args.values.now)
    (λ k. slice_index c.row.result.now k) (λ j. slice_index c.row_values.new.values j) (λ j. slice_index c.args.inverses.now j)
    (in_panel c.args.panel.now c.args.at.height c.args.at.from) (in_panel c.args.panel.now c.args.at.height 0)
    c.requires.row_in c.requires.within
    (λ k below. c.row.ensures.entries k (omega (arith, c.requires.square)) ∙ ap (λ (g : Grid). entry g c.args.at.row k) c.as_part-part.ensures)
    (λ j k. in_panel-from c.args.panel.now c.args.at.height c.args.at.from j k)
    (λ t below. c.write_row.ensures.here t (omega arith)) (λ a b row col apart. others a b row (omega (arith, c.requires.square)) apart)
    c.requires.scaled c.requires.inverts c.row_values.ensures.solved
