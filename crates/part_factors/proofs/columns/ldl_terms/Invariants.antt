use Rattle.std.proofs.Common.{◌≡◌, ◌*◌, ◌%◌}
use Rattle.residue_sums.specs.Sums.{sum_below}
use Rattle.residue_sums.specs.Grids.{entry}
use Rattle.matrix_parts.specs.Lent.{grid_of}
use Rattle.part_factors.proofs.columns.ldl_terms.Given as goal

abbrev pub invariant-loop-k : goal.invariant-loop-k
invariant-loop-k l = l.sum ≡ sum_below (λ t. entry (grid_of l.w) l.i t * (entry (grid_of l.w) t t * entry (grid_of l.w) l.j t)) l.k % l.m
