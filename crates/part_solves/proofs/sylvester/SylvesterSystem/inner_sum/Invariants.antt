use Rattle.std.proofs.Common.{◌≡◌, ◌+◌, ◌*◌, ◌%◌}
use Rattle.residue_sums.specs.Sums.{sum_below}
use Rattle.matrix_parts.specs.Opers.{op_rows, op_table}
use Rattle.part_solves.specs.SylvesterSystems.{block_of, columns_of}
use Rattle.part_solves.proofs.sylvester.SylvesterSystem.inner_sum.Given as goal

abbrev pub invariant-loop-k : goal.invariant-loop-k
invariant-loop-k l = l.sum ≡ sum_below (λ k. block_of l.p.first (op_table l.self.rows.table) l.e.unknown (l.e.from + k) * columns_of l.panel (op_rows l.self.columns.table) l.i (l.e.from + k)) l.k % l.self.columns.reducer
