use Rattle.std.proofs.Common.{◌*◌, slice_index}
use Rattle.row_products.specs.HalfSums.{IsHalfSums}
use Rattle.row_products.proofs.one_row.four_halves.Given as goal

abbrev pub invariant-loop-k : goal.invariant-loop-k
invariant-loop-k l = record {
  first : IsHalfSums (λ k. slice_index l.row k * slice_index l.fn.lines.first.now k) l.k l.first.low l.first.high;
  second : IsHalfSums (λ k. slice_index l.row k * slice_index l.fn.lines.second.now k) l.k l.second.low l.second.high;
  third : IsHalfSums (λ k. slice_index l.row k * slice_index l.fn.lines.third.now k) l.k l.third.low l.third.high;
  fourth : IsHalfSums (λ k. slice_index l.row k * slice_index l.fn.lines.fourth.now k) l.k l.fourth.low l.fourth.high;
}
