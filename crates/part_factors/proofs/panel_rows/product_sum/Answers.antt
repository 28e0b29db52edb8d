use Rattle.std.proofs.Common.{◌*◌, slice_index, length, ap, ◌∙◌, arith, ◌≡◌}
use Rattle.residue_sums.specs.Sums.{sum_below}
use Rattle.part_factors.proofs.PanelRows.{halves_reduced}
use Rattle.part_factors.proofs.panel_rows.product_sum.Goals as goal

pub returns-clause-value : goal.returns-clause-value
returns-clause-value c =
    let all : c.loop-k.k ≡ length c.args.xs.now = omega arith in
    halves_reduced c.loop-k.low c.loop-k.high (sum_below (λ k. slice_index c.args.xs.now k * slice_index c.args.ys.now k) (length c.args.xs.now))
    (c.loop-k.invariant.sum ∙ ap (sum_below (λ k. slice_index c.args.xs.now k * slice_index c.args.ys.now k)) all) c.residue-top.ensures.value c.residue.ensures.value c.residue.ensures.range
