use Rattle.std.proofs.Common.{ℕ, ◌<◌, ◌*◌, arith}
use Rattle.std.proofs.Math.Nat.{mod-lt}
use Rattle.row_products.proofs.FilledRows.{below_in_three}
use Rattle.row_products.proofs.three_rows.three_row_sums.Goals as goal

pub returns-clause-range : goal.returns-clause-range
returns-clause-range c =
    let n : ℕ = c.args.lines in
    let done : (j : ℕ) → j < n → j < 2 * c.loop-pair.pair = λ j below. omega (arith, below, c.loop-pair-test.false, c.div_ceil-pair-end.ensures) in
    let positive : (j : ℕ) → j < n → 0 < c.args.m = λ j below. c.loop-pair.invariant.positive (omega (arith, done j below)) in
    below_in_three c.loop-pair.sums c.args.m n
    (λ j below. rw (c.loop-pair.invariant.first j (done j below) below) (mod-lt _ (positive j below)))
    (λ j below. rw (c.loop-pair.invariant.second j (done j below) below) (mod-lt _ (positive j below)))
    (λ j below. rw (c.loop-pair.invariant.third j (done j below) below) (mod-lt _ (positive j below)))
