use Rattle.std.proofs.Common.{◌≡◌, ◌≢◌, ℕ, min, inl, inr, length, get_or, set, slice_index, get_or-set_other, get_or-set_same, ◌∙◌, arith}
use Rattle.std.proofs.lemmas.Bool.{cases_eq}
use Rattle.part_factors.specs.PanelRows.{in_panel}
use Rattle.part_factors.proofs.PanelRows.{AreSolved-more, over_lines}
use Rattle.part_factors.proofs.panel_rows.solve_row.Goals as goal

pub loop-j-preserved : goal.loop-j-preserved
loop-j-preserved c =
    let here : get_or (set c.loop-j.values c.loop-j.j c.divided.result) c.loop-j.j 0 ≡ c.divided.result = get_or-set_same c.loop-j.values c.loop-j.j c.divided.result 0 (omega arith) in
    let kept : (k : ℕ) → k ≢ c.loop-j.j → get_or (set c.loop-j.values c.loop-j.j c.divided.result) k 0 ≡ get_or c.loop-j.values k 0 =
    λ k apart. get_or-set_other c.loop-j.values c.loop-j.j k c.divided.result 0 (λ e. apart (omega arith)) in
    record {
      solved = AreSolved-more c.args.m (λ j. slice_index c.args.row.now j) (λ j. slice_index c.args.values.now j) (λ j. slice_index c.args.inverses.now j)
          (in_panel c.args.panel.entries.now c.args.panel.height c.args.panel.from) (length c.args.inverses.now) (λ k. slice_index c.loop-j.values k)
          (λ k. slice_index (set c.loop-j.values c.loop-j.j c.divided.result) k) c.loop-j.j c.rest_of-rest.result (λ k before. kept k (λ e. omega arith))
          (over_lines c.rest_of-rest.result (slice_index c.args.values.now c.loop-j.j) (min c.loop-j.j (length c.args.inverses.now)) (λ k. slice_index c.loop-j.values k) (λ k. slice_index c.line-line.result.now k)
          (in_panel c.args.panel.entries.now c.args.panel.height c.args.panel.from c.loop-j.j) (c.loop-j.invariant.later c.loop-j.j (omega arith)) (c.line-line.ensures.len ∙ c.min.ensures) (λ k below. c.line-line.ensures.entries k (omega (arith, c.min.ensures))) c.rest_of-rest.ensures.value)
          (λ within. here ∙ c.divided.ensures.below within) (λ past. here ∙ c.divided.ensures.above past) c.loop-j.invariant.solved;
      range = λ k below. elim (cases_eq k c.loop-j.j) [
        | inl same ↦ rw (same, here) c.divided.ensures.range
        | inr apart ↦ rw (kept k apart) (c.loop-j.invariant.range k below)
      ];
      later = λ k behind. kept k (λ e. omega arith) ∙ c.loop-j.invariant.later k (omega arith);
    }
