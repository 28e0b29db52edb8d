use Rattle.std.proofs.Common.{◌*◌, slice_index, refl, arith}
use Rattle.row_products.proofs.HalfSums.{IsHalfSums-step, IsHalfSums-count}
use Rattle.row_products.proofs.three_rows.tile_halves.Goals as goal

pub loop-k-preserved : goal.loop-k-preserved
loop-k-preserved c = record {
  first_here = IsHalfSums-step (λ k. slice_index c.args.rows.first.now k * slice_index c.args.here.now k) c.loop-k.k c.loop-k.invariant.first_here refl c.plus-first_here.ensures.low c.plus-first_here.ensures.high;
  second_here = IsHalfSums-step (λ k. slice_index c.args.rows.second.now k * slice_index c.args.here.now k) c.loop-k.k c.loop-k.invariant.second_here refl c.plus-second_here.ensures.low c.plus-second_here.ensures.high;
  third_here = IsHalfSums-step (λ k. slice_index c.args.rows.third.now k * slice_index c.args.here.now k) c.loop-k.k c.loop-k.invariant.third_here refl c.plus-third_here.ensures.low c.plus-third_here.ensures.high;
  first_next = IsHalfSums-step (λ k. slice_index c.args.rows.first.now k * slice_index c.args.next.now k) c.loop-k.k c.loop-k.invariant.first_next refl c.plus-first_next.ensures.low c.plus-first_next.ensures.high;
  second_next = IsHalfSums-step (λ k. slice_index c.args.rows.second.now k * slice_index c.args.next.now k) c.loop-k.k c.loop-k.invariant.second_next refl c.plus-second_next.ensures.low c.plus-second_next.ensures.high;
  third_next = IsHalfSums-step (λ k. slice_index c.args.rows.third.now k * slice_index c.args.next.now k) c.loop-k.k c.loop-k.invariant.third_next refl c.plus-third_next.ensures.low c.plus-third_next.ensures.high;
}

pub returns-clause-second_here : goal.returns-clause-second_here
returns-clause-second_here c = IsHalfSums-count (omega arith) c.loop-k.invariant.second_here

pub returns-clause-third_here : goal.returns-clause-third_here
returns-clause-third_here c = IsHalfSums-count (omega arith) c.loop-k.invariant.third_here

pub returns-clause-first_next : goal.returns-clause-first_next
returns-clause-first_next c = IsHalfSums-count (omega arith) c.loop-k.invariant.first_next

pub returns-clause-second_next : goal.returns-clause-second_next
returns-clause-second_next c = IsHalfSums-count (omega arith) c.loop-k.invariant.second_next

pub returns-clause-third_next : goal.returns-clause-third_next
returns-clause-third_next c = IsHalfSums-count (omega arith) c.loop-k.invariant.third_next
