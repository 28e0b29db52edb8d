use Rattle.std.proofs.Common.{◌≡◌, ◌+◌, ◌-◌, ◌<◌, ◌≤◌, inl, length, slice_index, ◌∙◌, arith}
use Rattle.residue_sums.specs.Grids.{entry}
use Rattle.matrix_parts.specs.Lent.{grid_of}
use Rattle.matrix_parts.proofs.Kept.{IsKept-then}
use Rattle.part_factors.specs.ColumnFactors.{IsRowFound}
use Rattle.part_factors.proofs.FoundColumns.{AreRowsFound-more, IsStoppedAt-row, IsRowFound-resized}
use Rattle.part_factors.proofs.FactorOutcomes.{IsSearched-stopped}
use Rattle.part_factors.proofs.PivotScales.{inverts_more}
use Rattle.part_factors.proofs.pieces.find_piece.Goals as goal

pub returns-in_err-keep_inverse-clause-kept : goal.returns-in_err-keep_inverse-clause-kept
returns-in_err-keep_inverse-clause-kept c = IsKept-then _ _ _ c.loop-i.invariant.kept c.find_row.ensures.kept

pub returns-in_err-keep_inverse-clause-outcome : goal.returns-in_err-keep_inverse-clause-outcome
returns-in_err-keep_inverse-clause-outcome c =
    let so_far = c.loop-i.invariant in
    let row : c.loop-i.i < c.args.w.now.rows = omega (arith, c.rows-i-end.ensures) in
    let width : length c.loop-i.values ≡ length c.args.values.now = omega (arith, c.loop-i.auto.values) in
    let step : IsRowFound c.args.factoring.now.m c.args.w.now.rows c.args.factoring.now.kind c.loop-i.i c.args.from (c.args.from + length c.args.values.now) (entry (grid_of c.loop-i.w)) (entry (grid_of c.find_row.new.w)) =
    IsRowFound-resized so_far.kept.rows (rw width at c.find_row.ensures.found) in
    let bad = c.in_err-keep_inverse.ensures.bad in
    IsSearched-stopped c.args.factoring.now.m c.args.w.now.rows c.args.factoring.now.kind c.args.from (c.args.from + length c.args.values.now) c.loop-i.i (entry (grid_of c.args.w.now)) (entry (grid_of c.find_row.new.w))
    c.in_err-keep_inverse.field-0.0 c.from_residual.result bad.0 bad.1
    (IsStoppedAt-row c.args.factoring.now.m c.args.w.now.rows c.args.factoring.now.kind c.loop-i.i c.args.from (c.args.from + length c.args.values.now) (entry (grid_of c.args.w.now)) (entry (grid_of c.loop-i.w)) (entry (grid_of c.find_row.new.w))
    row (omega (arith, c.requires.square, c.requires.within)) so_far.found step bad.2 (omega (arith, bad.3, c.loop-i.auto.inverses, c.requires.pivots)) bad.4)
    c.from_residual.ensures.1

pub loop-i-preserved : goal.loop-i-preserved
loop-i-preserved c =
    let so_far = c.loop-i.invariant in
    let row : c.loop-i.i < c.args.w.now.rows = omega (arith, c.rows-i-end.ensures) in
    let end : c.args.from + length c.args.values.now ≤ c.args.w.now.rows = omega (arith, c.requires.square, c.requires.within) in
    let width : length c.loop-i.values ≡ length c.args.values.now = omega (arith, c.loop-i.auto.values) in
    let pivots : length c.loop-i.inverses ≡ length c.args.values.now = omega (arith, c.loop-i.auto.inverses, c.requires.pivots) in
    let step : IsRowFound c.args.factoring.now.m c.args.w.now.rows c.args.factoring.now.kind c.loop-i.i c.args.from (c.args.from + length c.args.values.now) (entry (grid_of c.loop-i.w)) (entry (grid_of c.find_row.new.w)) =
    IsRowFound-resized so_far.kept.rows (rw width at c.find_row.ensures.found) in
    let here = c.in_ok-keep_inverse.ensures.here in
    record {
      loan = c.find_row.ensures.loan ∙ so_far.loan;
      part = c.find_row.ensures.part;
      kept = IsKept-then _ _ _ so_far.kept c.find_row.ensures.kept;
      residues = λ a b a_row b_col. c.find_row.ensures.residues a b (rw so_far.kept.rows a_row) (rw so_far.kept.cols b_col);
      found = AreRowsFound-more c.args.factoring.now.m c.args.w.now.rows c.args.factoring.now.kind c.loop-i.i c.args.from (c.args.from + length c.args.values.now) (entry (grid_of c.args.w.now)) (entry (grid_of c.loop-i.w)) (entry (grid_of c.find_row.new.w))
          row end so_far.found step (λ begun within. (here (c.loop-i.i - c.args.from) (omega arith) (omega arith)).1);
      small = λ j col. c.keep_inverse.ensures.small j (omega arith);
      inverts = inverts_more c.args.factoring.now.m c.loop-i.i c.args.from (length c.args.values.now) (entry (grid_of c.loop-i.w)) (entry (grid_of c.find_row.new.w)) (λ j. slice_index c.loop-i.inverses j) (λ j. slice_index c.keep_inverse.new.inverses j)
          (λ a before. step.others a a (omega arith) (omega arith) (inl (λ e. omega arith))) (λ j col same. (here j (omega arith) same).0) c.keep_inverse.ensures.others so_far.inverts;
      panel = rw width at c.find_row.ensures.panel;
    }
