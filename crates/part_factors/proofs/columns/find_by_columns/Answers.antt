use Rattle.std.proofs.Common.{◌≡◌, ◌+◌, ◌≤◌, ◌∙◌, arith}
use Rattle.residue_sums.specs.Grids.{entry}
use Rattle.matrix_parts.specs.Lent.{grid_of}
use Rattle.matrix_parts.proofs.Kept.{IsKept-then}
use Rattle.part_factors.proofs.FoundColumns.{AreRowsFound-then, AreRowsFound-all_resized}
use Rattle.part_factors.proofs.FactorOutcomes.{IsSearched-passed_on}
use Rattle.part_factors.proofs.columns.find_by_columns.Goals as goal

pub returns-in_err-find_column-clause-kept : goal.returns-in_err-find_column-clause-kept
returns-in_err-find_column-clause-kept c = IsKept-then _ _ _ c.loop-j.invariant.kept c.find_column.ensures.kept

pub returns-in_err-find_column-clause-outcome : goal.returns-in_err-find_column-clause-outcome
returns-in_err-find_column-clause-outcome c =
    IsSearched-passed_on c.args.factoring.now.m c.args.w.now.rows c.loop-j.w.rows c.args.factoring.now.kind c.loop-j.j c.args.w.now.rows (entry (grid_of c.args.w.now)) (entry (grid_of c.loop-j.w)) (entry (grid_of c.find_column.new.w))
    c.in_err-find_column.field-0.0 c.from_residual.result c.loop-j.invariant.kept.rows c.loop-j.invariant.found c.in_err-find_column.ensures.outcome c.from_residual.ensures.1

pub loop-j-preserved : goal.loop-j-preserved
loop-j-preserved c =
    let so_far = c.loop-j.invariant in
    let rows : c.loop-j.w.rows ≡ c.args.w.now.rows = so_far.kept.rows in
    let end : c.loop-j.j + 1 ≤ c.args.w.now.rows = omega (arith, c.cols-j-end.ensures, c.requires.square) in
    record {
      loan = c.find_column.ensures.loan ∙ so_far.loan;
      part = c.find_column.ensures.part;
      kept = IsKept-then _ _ _ so_far.kept c.find_column.ensures.kept;
      residues = λ a b a_row b_col. c.find_column.ensures.residues a b (rw so_far.kept.rows a_row) (rw so_far.kept.cols b_col);
      found = AreRowsFound-then c.args.factoring.now.m c.args.w.now.rows c.args.factoring.now.kind c.loop-j.j (c.loop-j.j + 1) (entry (grid_of c.args.w.now)) (entry (grid_of c.loop-j.w)) (entry (grid_of c.find_column.new.w))
          (omega arith) end so_far.found (AreRowsFound-all_resized rows c.in_ok-find_column.ensures.outcome);
    }
