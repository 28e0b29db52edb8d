use Rattle.std.proofs.Common.{◌≡◌, ℕ, ◌+◌, ◌*◌, ◌<◌}
use Rattle.residue_sums.specs.Tables.{Table}
use Rattle.residue_sums.specs.Grids.{entry}
use Rattle.matrix_parts.specs.Opers.{op_rows}
use Rattle.matrix_parts.specs.Lent.{grid_of, loan_of, IsPart, IsKept}
use Rattle.part_solves.specs.LineSystems.{order_in}
use Rattle.part_solves.specs.SylvesterSystems.{IsSylvesterTo}
use Rattle.part_solves.proofs.sylvester.SylvesterSystem.solve_row.Given as goal

abbrev pub invariant-loop-r : goal.invariant-loop-r
invariant-loop-r l = record {
  loan : loan_of l.w ≡ loan_of l.fn.w;
  part : IsPart l.w;
  kept : IsKept l.fn.w l.w;
  solved : (before : Table) → IsSylvesterTo l.self before (entry (grid_of l.fn.w)) (order_in l.self.columns.table l.row.unknown * op_rows l.self.rows.table)
      → IsSylvesterTo l.self before (entry (grid_of l.w)) (order_in l.self.columns.table l.row.unknown * op_rows l.self.rows.table + l.r);
  residues : (a b : ℕ) → a < l.fn.w.rows → b < l.fn.w.cols → entry (grid_of l.w) a b < l.self.columns.reducer;
}
