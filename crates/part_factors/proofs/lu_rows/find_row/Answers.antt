use Rattle.std.proofs.Common.{◌≡◌, ◌+◌, ◌<◌, inl, inr, length, slice_index, ap, sym, ◌∙◌, arith}
use Rattle.std.proofs.lemmas.Bool.{cases_eq}
use Rattle.residue_sums.specs.Grids.{Grid, entry}
use Rattle.matrix_parts.specs.Lent.{grid_of}
use Rattle.part_factors.specs.PanelRows.{in_panel}
use Rattle.part_factors.proofs.PanelPlaceWrites.{in_panel-from, in_panel-place}
use Rattle.part_factors.proofs.PieceRows.{IsRowFound-lu_piece, small_after_row}
use Rattle.part_factors.proofs.lu_rows.find_row.Goals as goal

pub row_values-requires-clause-small_panel : goal.row_values-requires-clause-small_panel
row_values-requires-clause-small_panel c j k col up within =
    let copied : in_panel c.args.panel.now c.args.at.height 0 j k ≡ entry (grid_of c.args.w.now) k (c.args.at.from + j) = c.requires.copied j k col up (omega arith) in
    let small : entry (grid_of c.args.w.now) k (c.args.at.from + j) < c.args.m = c.requires.residues k (c.args.at.from + j) (omega (arith, c.requires.row_in)) (omega (arith, c.requires.within)) in
    rw (in_panel-place c.args.panel.now c.args.at.height j k, copied) small

pub returns-clause-residues : goal.returns-clause-residues
returns-clause-residues c =
    let len : length c.row_values.new.values ≡ length c.args.values.now = omega (arith, c.row_values.auto.values) in
    small_after_row c.args.w.now.rows c.args.w.now.cols c.args.at.row c.args.at.from (length c.args.values.now) c.args.m (λ j. slice_index c.row_values.new.values j)
    (entry (grid_of c.args.w.now)) (entry (grid_of c.write_row.new.self)) c.requires.residues c.row_values.ensures.range
    (λ t below. c.write_row.ensures.here t (omega arith)) (rw len at c.write_row.ensures.others)

pub returns-clause-found : goal.returns-clause-found
returns-clause-found c =
    let len : length c.row_values.new.values ≡ length c.args.values.now = omega (arith, c.row_values.auto.values) in
    let cols : c.as_part-part.result.cols ≡ c.args.w.now.cols = ap (λ (g : Grid). g.cols) c.as_part-part.ensures in
    let others = rw len at c.write_row.ensures.others in
    IsRowFound-lu_piece c.args.m c.args.w.now.rows (entry (grid_of c.args.w.now)) (entry (grid_of c.write_row.new.self)) c.args.at.row c.args.at.from (length c.args.values.now)
    (λ k. slice_index c.row.result.now k) (λ j. slice_index c.row_values.new.values j) (λ j. slice_index c.args.inverses.now j)
    (in_panel c.args.panel.now c.args.at.height c.args.at.from) (in_panel c.args.panel.now c.args.at.height 0)
    c.requires.row_in (omega (arith, c.requires.within, c.requires.square))
    (λ k below. c.row.ensures.entries k (omega (arith, c.requires.square)) ∙ ap (λ (g : Grid). entry g c.args.at.row k) c.as_part-part.ensures)
    (λ j k. in_panel-from c.args.panel.now c.args.at.height c.args.at.from j k)
    (λ t below. c.write_row.ensures.here t (omega arith)) (λ a b row col apart. others a b row (omega (arith, c.requires.square)) apart)
    c.requires.copied (λ j col under. c.requires.inverts j (omega (arith, c.requires.pivots)) under) c.row_values.ensures.solved

pub returns-clause-copied : goal.returns-clause-copied
returns-clause-copied c j k col up within =
    let len : length c.row_values.new.values ≡ length c.args.values.now = omega (arith, c.row_values.auto.values) in
    elim (cases_eq k c.args.at.row) [
      | inl same ↦ rw same (c.copy_row.ensures.here (omega arith) j (omega arith) ∙ sym (c.write_row.ensures.here j (omega arith)))
      | inr apart ↦ c.copy_row.ensures.others j k (omega (arith, c.requires.height)) apart ∙ c.requires.copied j k col (omega arith) within
          ∙ sym (c.write_row.ensures.others k (c.args.at.from + j) (omega (arith, c.requires.row_in)) (omega (arith, c.requires.within)) (inl apart))
    ]
