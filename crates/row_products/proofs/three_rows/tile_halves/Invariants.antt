use Rattle.std.proofs.Common.{◌*◌, slice_index}
use Rattle.row_products.specs.HalfSums.{IsHalfSums}
use Rattle.row_products.proofs.three_rows.tile_halves.Given as goal

abbrev pub invariant-loop-k : goal.invariant-loop-k
invariant-loop-k l = record {
  first_here : IsHalfSums (λ k. slice_index l.fn.rows.first.now k * slice_index l.here k) l.k l.first_here.low l.first_here.high;
  second_here : IsHalfSums (λ k. slice_index l.fn.rows.second.now k * slice_index l.here k) l.k l.second_here.low l.second_here.high;
  third_here : IsHalfSums (λ k. slice_index l.fn.rows.third.now k * slice_index l.here k) l.k l.third_here.low l.third_here.high;
  first_next : IsHalfSums (λ k. slice_index l.fn.rows.first.now k * slice_index l.next k) l.k l.first_next.low l.first_next.high;
  second_next : IsHalfSums (λ k. slice_index l.fn.rows.second.now k * slice_index l.next k) l.k l.second_next.low l.second_next.high;
  third_next : IsHalfSums (λ k. slice_index l.fn.rows.third.now k * slice_index l.next k) l.k l.third_next.low l.third_next.high;
}
