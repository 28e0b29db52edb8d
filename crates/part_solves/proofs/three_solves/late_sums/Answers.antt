use Rattle.std.proofs.Common.{◌≡◌, ℕ, ◌+◌, ◌*◌, ◌%◌, ◌<◌, length, slice_index, slice_set, get_or-set_same, get_or-set_other, ap, ◌∙◌, arith, below_more}
use Rattle.residue_sums.specs.Sums.{sum_below}
use Rattle.residue_sums.proofs.Sums.{sum_below-same}
use Rattle.part_solves.proofs.three_solves.late_sums.Goals as goal

pub loop-g-preserved : goal.loop-g-preserved
loop-g-preserved c =
    let e = c.args.e in
    let g : ℕ = c.loop-g.g in
    let m : ℕ = c.args.m in
    let value : ℕ = c.late_sum.result in
    let new = slice_set c.loop-g.sums g value in
    let of_panel : ℕ → ℕ → ℕ = λ h k. slice_index e.row.now k * slice_index c.args.panel.entries.now (h * c.args.panel.height + (c.args.panel.from + k)) in
    let here : slice_index new g ≡ value = get_or-set_same c.loop-g.sums g value 0 (omega (arith, c.loop-g-test.true, c.loop-g.auto.sums)) in
    let other : (h : ℕ) → h < g → slice_index new h ≡ slice_index c.loop-g.sums h = λ h below. get_or-set_other c.loop-g.sums g h value 0 (λ e. omega arith) in
    let same : sum_below (λ k. slice_index e.row.now k * slice_index c.line-line.result.now k) (length e.row.now) ≡ sum_below (of_panel g) (length e.row.now) =
    sum_below-same (λ k. slice_index e.row.now k * slice_index c.line-line.result.now k) (of_panel g) (length e.row.now)
    (λ k below. ap (λ (v : ℕ). slice_index e.row.now k * v) (c.line-line.ensures.entries k below)) in
    record {
      sums = below_more (λ h. slice_index new h ≡ (slice_index e.early.now h + sum_below (of_panel h) (length e.row.now)) % m) g
          (λ h below. other h below ∙ c.loop-g.invariant.sums h below)
          (here ∙ c.late_sum.ensures.value ∙ ap (λ (v : ℕ). (slice_index e.early.now g + v) % m) same);
      range = below_more (λ h. slice_index new h < m) g
          (λ h below. rw (other h below) (c.loop-g.invariant.range h below))
          (rw here c.late_sum.ensures.range);
    }
