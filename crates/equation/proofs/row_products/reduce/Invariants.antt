use Rattle.std.proofs.Common.{◌≡◌, ℕ, ◌%◌, ◌<◌, slice_index}
use Rattle.equation.proofs.row_products.reduce.Given as goal

abbrev pub invariant-loop-j : goal.invariant-loop-j
invariant-loop-j l = (p : ℕ) → p < l.j → slice_index l.out p ≡ slice_index l.sums p % l.m
