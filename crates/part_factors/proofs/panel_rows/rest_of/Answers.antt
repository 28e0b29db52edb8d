use Rattle.std.proofs.Common.{ℕ, ◌+◌, ◌*◌, ◌-◌, ◌%◌, slice_index, length, take, length-take, ap, ◌∙◌, arith, ◌≡◌}
use Rattle.residue_sums.specs.Sums.{sum_below}
use Rattle.part_factors.proofs.PanelRows.{two_subtracted, sum_taken}
use Rattle.part_factors.proofs.panel_rows.rest_of.Goals as goal

pub returns-clause-value : goal.returns-clause-value
returns-clause-value c =
    let m_is : c.modulus-modulus.result ≡ c.args.m = c.modulus-modulus.ensures.value in
    let one : c.sub-first.result ≡ (c.args.r + c.args.m - c.args.sum) % c.args.m = rw m_is at c.sub-first.ensures.value in
    let two : c.sub.result ≡ (c.sub-first.result + c.args.m - c.product_sum-more.result) % c.args.m = rw m_is at c.sub.ensures.value in
    let taken : length (take (length c.args.line.now) c.args.values.now) ≡ length c.args.line.now = simp length-take (omega arith) in
    let more : c.product_sum-more.result ≡ sum_below (λ k. slice_index c.args.values.now k * slice_index c.args.line.now k) (length c.args.line.now) % c.args.m =
    c.product_sum-more.ensures.value
    ∙ ap (λ (n : ℕ). sum_below (λ k. slice_index (take (length c.args.line.now) c.args.values.now) k * slice_index c.args.line.now k) n % c.args.m) taken
    ∙ ap (λ (x : ℕ). x % c.args.m) (sum_taken c.args.values.now c.args.line.now (length c.args.line.now)) in
    two_subtracted (sum_below (λ k. slice_index c.args.values.now k * slice_index c.args.line.now k) (length c.args.line.now))
    c.requires.sum c.product_sum-more.ensures.range more one two
