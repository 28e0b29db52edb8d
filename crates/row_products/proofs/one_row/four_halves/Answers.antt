use Rattle.std.proofs.Common.{◌*◌, slice_index, refl, arith}
use Rattle.row_products.proofs.HalfSums.{IsHalfSums-step, IsHalfSums-count}
use Rattle.row_products.proofs.one_row.four_halves.Goals as goal

pub loop-k-preserved : goal.loop-k-preserved
loop-k-preserved c = record {
  first = IsHalfSums-step (λ k. slice_index c.args.row.now k * slice_index c.args.lines.first.now k) c.loop-k.k c.loop-k.invariant.first refl c.plus-first.ensures.low c.plus-first.ensures.high;
  second = IsHalfSums-step (λ k. slice_index c.args.row.now k * slice_index c.args.lines.second.now k) c.loop-k.k c.loop-k.invariant.second refl c.plus-second.ensures.low c.plus-second.ensures.high;
  third = IsHalfSums-step (λ k. slice_index c.args.row.now k * slice_index c.args.lines.third.now k) c.loop-k.k c.loop-k.invariant.third refl c.plus-third.ensures.low c.plus-third.ensures.high;
  fourth = IsHalfSums-step (λ k. slice_index c.args.row.now k * slice_index c.args.lines.fourth.now k) c.loop-k.k c.loop-k.invariant.fourth refl c.plus-fourth.ensures.low c.plus-fourth.ensures.high;
}

pub returns-clause-fourth : goal.returns-clause-fourth
returns-clause-fourth c = IsHalfSums-count (omega arith) c.loop-k.invariant.fourth
