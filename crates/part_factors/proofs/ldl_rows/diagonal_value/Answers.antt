use Rattle.std.proofs.Common.{◌≡◌, ◌+◌, ◌-◌, ◌%◌, ◌*◌, length, take, length-take, slice_index, arith}
use Rattle.residue_sums.specs.Sums.{sum_below}
use Rattle.part_factors.proofs.PanelRows.{sum_over_taken}
use Rattle.part_factors.proofs.PieceRows.{one_subtracted}
use Rattle.part_factors.proofs.ldl_rows.diagonal_value.Goals as goal

pub returns-clause-value : goal.returns-clause-value
returns-clause-value c =
    let m_is : c.modulus-modulus.result ≡ c.args.m = c.modulus-modulus.ensures.value in
    let rest : c.sub.result ≡ (slice_index c.args.row.now c.args.i + c.args.m - c.product_sum-sum.result) % c.args.m = rw m_is at c.sub.ensures.value in
    let taken : length (take c.args.i c.args.row.now) ≡ c.args.i = simp length-take (omega arith) in
    one_subtracted (sum_below (λ k. slice_index c.args.row.now k * slice_index c.args.line.now k) c.args.i) c.product_sum-sum.ensures.range
    (sum_over_taken c.args.row.now (λ k. slice_index c.args.line.now k) c.args.i taken c.product_sum-sum.ensures.value) rest
