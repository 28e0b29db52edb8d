use Rattle.std.proofs.Common.{◌≡◌, ◌*◌, ◌%◌, ◌<◌}
use Rattle.residue_sums.specs.Sums.{sum_below}
use Rattle.matrix_parts.specs.Opers.{op_table}
use Rattle.part_updates.proofs.updates.factors.product_entry.Given as goal

abbrev pub invariant-loop-k : goal.invariant-loop-k
invariant-loop-k l = l.sum ≡ sum_below (λ k. op_table l.d l.i k * op_table l.b k l.j) l.k % l.m
