use Rattle.std.proofs.Common.{◌≡◌, min, ◌+◌, ◌-◌, ◌*◌, ◌<◌, length, take, slice_index, length-take, get_or-take, get_or-drop, refl, arith}
use Rattle.residue_sums.specs.Sums.{sum_below}
use Rattle.part_factors.specs.PanelRows.{in_panel}
use Rattle.part_factors.proofs.PanelRows.{AreSolved-renamed, sum_over_taken}
use Rattle.part_factors.proofs.panel_rows.row_values.Goals as goal

pub returns-clause-solved : goal.returns-clause-solved
returns-clause-solved c =
    let start : c.min-start.result ≡ min c.args.i c.args.panel.from = c.min-start.ensures in
    let size : length c.row_sums.new.sums ≡ length c.args.values.now = omega (arith, c.row_sums.auto.sums) in
    let taken : length (take c.min-start.result c.args.row.now) ≡ c.min-start.result = simp length-take (omega arith) in
    let known : length (take c.min-known.result c.args.inverses.now) ≡ min (c.args.i - c.args.panel.from) (length c.args.values.now) =
    simp length-take (omega (arith, c.min-known.ensures, c.requires.pivots)) in
    let width : c.args.panel.from + length c.row_sums.new.sums - c.args.panel.from ≡ length c.args.values.now = omega arith in
    AreSolved-renamed (λ j. slice_index c.args.row.now (c.args.panel.from + j))
    (λ j. sum_below (λ k. slice_index c.args.row.now k * in_panel c.args.panel.entries.now c.args.panel.height 0 j k) (min c.args.i c.args.panel.from))
    (λ j. slice_index c.args.inverses.now j) (in_panel c.args.panel.entries.now c.args.panel.height c.args.panel.from)
    (min (c.args.i - c.args.panel.from) (length c.args.values.now)) (length c.args.values.now)
    known size
    (λ j below. rw (width, get_or-take, get_or-drop) refl)
    (λ j below. rw start at (sum_over_taken c.args.row.now (in_panel c.args.panel.entries.now c.args.panel.height 0 j) c.min-start.result taken (c.row_sums.ensures.sums j below)))
    (λ j below. let within : j < c.min-known.result = omega (arith, c.min-known.ensures) in rw get_or-take refl)
    c.solve_row.ensures.solved
