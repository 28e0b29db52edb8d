use Rattle.std.proofs.Common.{◌≡◌, ◌≢◌, ℕ, ◌+◌, ◌*◌, ◌<◌, inl, inr, ◌∙◌, arith}
use Rattle.std.proofs.lemmas.Bool.{cases_eq}
use Rattle.residue_sums.specs.Residues.{Cong, IsUnit}
use Rattle.residue_sums.specs.Grids.{entry}
use Rattle.matrix_parts.specs.Lent.{grid_of}
use Rattle.matrix_parts.proofs.Kept.{IsKept-then}
use Rattle.part_factors.specs.ColumnFactors.{IsRowFound}
use Rattle.part_factors.proofs.FoundColumns.{AreRowsFound-more, IsStoppedAt-row, IsRowFound-resized}
use Rattle.part_factors.proofs.PivotScales.{scale_below, scale_above, unit_here}
use Rattle.part_factors.proofs.columns.find_column.Goals as goal

pub returns-in-None-clause-kept : goal.returns-in-None-clause-kept
returns-in-None-clause-kept c = IsKept-then _ _ _ c.loop-i.invariant.kept c.write_entry.ensures.kept

pub returns-in-None-clause-outcome : goal.returns-in-None-clause-outcome
returns-in-None-clause-outcome c =
    let so_far = c.loop-i.invariant in
    let row : c.loop-i.i < c.args.w.now.rows = omega (arith, c.rows-i-end.ensures) in
    let step : IsRowFound c.args.factoring.now.m c.args.w.now.rows c.args.factoring.now.kind c.loop-i.i c.args.j (c.args.j + 1) (entry (grid_of c.loop-i.w)) (entry (grid_of c.write_entry.new.w)) =
    IsRowFound-resized so_far.kept.rows c.write_entry.ensures.found in
    let bad : c.loop-i.i ≡ c.args.j → ¬ (IsUnit c.args.factoring.now.m (entry (grid_of c.write_entry.new.w) c.args.j c.args.j)) = λ same. rw (← c.modulus-m.ensures.value) (c.in-None.ensures.on_diagonal same) in
    elim (cases_eq c.loop-i.i c.args.j) [
      | inr apart ↦ absurd (c.in-None.ensures.elsewhere apart)
      | inl same ↦ (let same' : c.args.j ≡ c.loop-i.i = omega arith in (
        same',
        IsStoppedAt-row c.args.factoring.now.m c.args.w.now.rows c.args.factoring.now.kind c.loop-i.i c.args.j (c.args.j + 1) (entry (grid_of c.args.w.now)) (entry (grid_of c.loop-i.w)) (entry (grid_of c.write_entry.new.w))
            row (omega (arith, c.requires.square, c.requires.col_in)) so_far.found step (omega arith) (omega arith) (λ unit. bad same (rw same at unit)),
      ))
    ]

pub loop-i-preserved : goal.loop-i-preserved
loop-i-preserved c =
    let so_far = c.loop-i.invariant in
    let n : ℕ = c.args.w.now.rows in
    let row : c.loop-i.i < c.args.w.now.rows = omega (arith, c.rows-i-end.ensures) in
    let col : c.args.j < c.args.w.now.rows = omega (arith, c.requires.square, c.requires.col_in) in
    let step : IsRowFound c.args.factoring.now.m c.args.w.now.rows c.args.factoring.now.kind c.loop-i.i c.args.j (c.args.j + 1) (entry (grid_of c.loop-i.w)) (entry (grid_of c.write_entry.new.w)) =
    IsRowFound-resized so_far.kept.rows c.write_entry.ensures.found in
    let kept : c.args.j ≢ c.loop-i.i → entry (grid_of c.write_entry.new.w) c.args.j c.args.j ≡ entry (grid_of c.loop-i.w) c.args.j c.args.j = λ apart. step.others c.args.j c.args.j col col (inl apart) in
    let met : c.loop-i.i ≡ c.args.j → Cong c.args.factoring.now.m (entry (grid_of c.write_entry.new.w) c.args.j c.args.j * c.in-Some.next) 1
    × IsUnit c.args.factoring.now.m (entry (grid_of c.write_entry.new.w) c.args.j c.args.j) = λ same. rw (← c.modulus-m.ensures.value) (c.in-Some.ensures.on_diagonal same) in
    let small : c.in-Some.next < c.args.factoring.now.m = rw (← c.modulus-m.ensures.value) c.in-Some.ensures.range in
    record {
      loan = c.write_entry.ensures.loan ∙ so_far.loan;
      part = c.write_entry.ensures.part;
      kept = IsKept-then _ _ _ so_far.kept c.write_entry.ensures.kept;
      residues = λ a b a_row b_col. c.write_entry.ensures.residues a b (rw so_far.kept.rows a_row) (rw so_far.kept.cols b_col);
      found = AreRowsFound-more c.args.factoring.now.m c.args.w.now.rows c.args.factoring.now.kind c.loop-i.i c.args.j (c.args.j + 1) (entry (grid_of c.args.w.now)) (entry (grid_of c.loop-i.w)) (entry (grid_of c.write_entry.new.w))
          row (omega arith) so_far.found step
          (unit_here c.args.factoring.now.m c.loop-i.i c.args.j c.loop-i.scale c.in-Some.next (entry (grid_of c.loop-i.w)) (entry (grid_of c.write_entry.new.w)) kept met c.in-Some.ensures.elsewhere);
      small = small;
      lower = scale_below c.args.factoring.now.m c.loop-i.i c.args.j c.loop-i.scale c.in-Some.next (entry (grid_of c.loop-i.w)) (entry (grid_of c.write_entry.new.w)) kept met c.in-Some.ensures.elsewhere so_far.lower;
      upper = scale_above c.args.factoring.now.m c.loop-i.i c.args.j c.loop-i.scale c.in-Some.next (entry (grid_of c.loop-i.w)) (entry (grid_of c.write_entry.new.w)) kept met c.in-Some.ensures.elsewhere so_far.upper;
    }
