use Rattle.std.proofs.Common.{◌≡◌, ◌+◌, ◌*◌, ◌%◌}
use Rattle.residue_sums.specs.Sums.{sum_below}
use Rattle.residue_sums.specs.Grids.{entry}
use Rattle.matrix_parts.specs.Opers.{op_table}
use Rattle.matrix_parts.specs.Lent.{grid_of}
use Rattle.part_solves.specs.LineSystems.{line_table}
use Rattle.part_solves.proofs.line_systems.LineSystem.plain_sum.Given as goal

abbrev pub invariant-loop-k : goal.invariant-loop-k
invariant-loop-k l = l.sum ≡ sum_below (λ k. op_table l.self.table l.e.unknown (l.e.from + k) * line_table l.self.turned l.self.inside (entry (grid_of l.w)) l.line (l.e.from + k)) l.k % l.self.reducer
