use Rattle.std.proofs.Common.{◌≡◌, ◌+◌, ◌≤◌, length, take, length-take, ◌∙◌, arith}
use Rattle.residue_sums.specs.Grids.{entry}
use Rattle.matrix_parts.specs.Lent.{grid_of}
use Rattle.matrix_parts.proofs.Kept.{IsKept-then}
use Rattle.part_factors.specs.ColumnFactors.{AreRowsFound}
use Rattle.part_factors.proofs.FoundColumns.{AreRowsFound-then, AreRowsFound-all_resized}
use Rattle.part_factors.proofs.FactorOutcomes.{IsSearched-passed_on}
use Rattle.part_factors.proofs.pieces.find_with.Goals as goal

pub returns-in_err-find_piece-clause-kept : goal.returns-in_err-find_piece-clause-kept
returns-in_err-find_piece-clause-kept c = IsKept-then _ _ _ c.loop-from.invariant.kept c.find_piece.ensures.kept

pub returns-in_err-find_piece-clause-outcome : goal.returns-in_err-find_piece-clause-outcome
returns-in_err-find_piece-clause-outcome c =
    IsSearched-passed_on c.args.factoring.now.m c.args.w.now.rows c.loop-from.w.rows c.args.factoring.now.kind c.loop-from.from c.args.w.now.rows (entry (grid_of c.args.w.now)) (entry (grid_of c.loop-from.w)) (entry (grid_of c.find_piece.new.w))
    c.in_err-find_piece.field-0.0 c.from_residual.result c.loop-from.invariant.kept.rows c.loop-from.invariant.found c.in_err-find_piece.ensures.outcome c.from_residual.ensures.1

pub returns-clause-outcome : goal.returns-clause-outcome
returns-clause-outcome c =
    let all : c.loop-from.from ≡ c.args.w.now.rows = omega (arith, c.cols-cols.ensures, c.requires.square, c.loop-from.invariant.end) in
    rw all at c.loop-from.invariant.found

pub loop-from-preserved : goal.loop-from-preserved
loop-from-preserved c =
    let so_far = c.loop-from.invariant in
    let rows : c.loop-from.w.rows ≡ c.args.w.now.rows = so_far.kept.rows in
    let end : c.loop-from.from + c.min-here.result ≤ c.cols-cols.result = omega (arith, c.min-here.ensures) in
    let width : length (take c.min-here.result c.loop-from.values) ≡ c.min-here.result = simp length-take (omega (arith, c.min-here.ensures, c.min-width.ensures)) in
    let step : AreRowsFound c.args.factoring.now.m c.args.w.now.rows c.args.factoring.now.kind c.args.w.now.rows c.loop-from.from (c.loop-from.from + c.min-here.result) (entry (grid_of c.loop-from.w)) (entry (grid_of c.find_piece.new.w)) =
    AreRowsFound-all_resized rows (rw width at c.in_ok-find_piece.ensures.outcome) in
    record {
      loan = c.find_piece.ensures.loan ∙ so_far.loan;
      part = c.find_piece.ensures.part;
      kept = IsKept-then _ _ _ so_far.kept c.find_piece.ensures.kept;
      end = end;
      residues = λ a b a_row b_col. c.find_piece.ensures.residues a b (rw so_far.kept.rows a_row) (rw so_far.kept.cols b_col);
      found = AreRowsFound-then c.args.factoring.now.m c.args.w.now.rows c.args.factoring.now.kind c.loop-from.from (c.loop-from.from + c.min-here.result) (entry (grid_of c.args.w.now)) (entry (grid_of c.loop-from.w)) (entry (grid_of c.find_piece.new.w))
          (omega arith) (omega (arith, c.cols-cols.ensures, c.requires.square)) so_far.found step;
    }
