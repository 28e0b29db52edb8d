use Rattle.std.proofs.Common.{◌≡◌, ◌≢◌, ℕ, ◌*◌, ◌%◌, ◌<◌, inl, inr, Err, refl, subst, ap, ◌∙◌, arith}
use Rattle.std.proofs.lemmas.Bool.{cases_eq}
use Rattle.residue_sums.specs.Residues.{IsUnit}
use Rattle.residue_sums.specs.Tables.{Table}
use Rattle.residue_sums.specs.Grids.{entry}
use Rattle.structure_rules.specs.declared.Structure.TheVariants.{General}
use Rattle.matrix_parts.specs.Opers.{op_table}
use Rattle.matrix_parts.specs.Lent.{grid_of}
use Rattle.matrix_parts.proofs.Kept.{IsKept-then}
use Rattle.equation.specs.Pivots.{IsFirstByRows}
use Rattle.part_factors.specs.BadPlaces.{place_of, pair_pivots}
use Rattle.part_factors.proofs.FirstBads.{bad_of, IsUnit-from_product, first_by_rows, by_rows_from_row}
use Rattle.operand_lines.proofs.PartValues.{IsValue-part}
use Rattle.part_factors.proofs.pair_pivots.pivots_sylvester.Goals as goal

pub returns-in-Err-clause-kept : goal.returns-in-Err-clause-kept
returns-in-Err-clause-kept c = IsKept-then c.args.out.now c.loop-i.out c.put_row.new.out c.loop-i.invariant.kept c.put_row.ensures.kept

pub returns-in-Err-clause-bad_pivot : goal.returns-in-Err-clause-bad_pivot
returns-in-Err-clause-bad_pivot c place =
    let m : ℕ = c.args.m in
    let pivot : Table = pair_pivots m c.args.minus (op_table c.args.t) (op_table c.args.u) in
    let so_far = c.loop-i.invariant in
    let here : IsFirstByRows m c.args.out.now.rows c.args.out.now.cols pivot (place_of c.in-Err.place) =
    by_rows_from_row m c.args.out.now.rows c.args.out.now.cols c.loop-i.i pivot c.in-Err.place (omega (arith, c.rows-i-end.ensures))
    (rw so_far.kept.cols at (c.put_row.ensures.bad_pivot c.in-Err.place c.in-Err.is))
    (λ a j row col. IsUnit-from_product m (pivot a j) (entry (grid_of c.loop-i.out) a j) c.value-modulus.ensures.range.at_least_two (so_far.inverts a j row col)) in (
      (λ e. subst (λ p. IsFirstByRows m c.args.out.now.rows c.args.out.now.cols pivot (place_of p)) (ap bad_of e) here),
      (λ bad. ap (λ p. Err p) (first_by_rows m c.args.out.now.rows c.args.out.now.cols pivot c.in-Err.place place here bad)),
    )

pub loop-i-preserved : goal.loop-i-preserved
loop-i-preserved c =
    let m : ℕ = c.args.m in
    let pivot : Table = pair_pivots m c.args.minus (op_table c.args.t) (op_table c.args.u) in
    let so_far = c.loop-i.invariant in
    let step = c.put_row.ensures in
    let new = c.put_row.new.out in
    let same : (a j : ℕ) → a < c.loop-i.i → j < c.args.out.now.cols → entry (grid_of new) a j ≡ entry (grid_of c.loop-i.out) a j =
    λ a j row col. step.others a j (omega (arith, so_far.kept.rows, c.rows-i-end.ensures)) (omega (arith, so_far.kept.cols)) (λ e. omega arith) in
    record {
      loan = step.loan ∙ so_far.loan;
      part = step.part;
      kept = IsKept-then c.args.out.now c.loop-i.out new so_far.kept step.kept;
      inverts = λ a j row col. elim (cases_eq a c.loop-i.i) [
        | inl here ↦ rw here (c.in-Ok.ensures.inverts j (omega (arith, so_far.kept.cols)))
        | inr apart ↦ rw (same a j (omega arith) col) (so_far.inverts a j (omega arith) col)
      ];
      range = λ a j row col. elim (cases_eq a c.loop-i.i) [
        | inl here ↦ rw here (c.in-Ok.ensures.range j (omega (arith, so_far.kept.cols)))
        | inr apart ↦ rw (same a j (omega arith) col) (so_far.range a j (omega arith) col)
      ];
    }

pub returns-clause-inverses : goal.returns-clause-inverses
returns-clause-inverses c =
    let so_far = c.loop-i.invariant in
    IsValue-part c.args.m General (λ x i j. (pair_pivots c.args.m c.args.minus (op_table c.args.t) (op_table c.args.u) i j * x i j) % c.args.m) (λ i j. 1)
    (grid_of c.args.out.now) c.loop-i.out so_far.kept.rows so_far.kept.cols
    (λ i j row col. so_far.range i j (omega (arith, c.rows-i-end.ensures)) col)
    (λ i j row col inner. so_far.inverts i j (omega (arith, c.rows-i-end.ensures)) col)
    (λ i j row col outside. absurd outside)

pub returns-clause-bad_pivot : goal.returns-clause-bad_pivot
returns-clause-bad_pivot c place = (
  (λ e. absurd (cc)),
  (λ bad. absurd (bad.bad (IsUnit-from_product c.args.m (pair_pivots c.args.m c.args.minus (op_table c.args.t) (op_table c.args.u) place.row place.col) (entry (grid_of c.loop-i.out) place.row place.col)
      c.value-modulus.ensures.range.at_least_two (c.loop-i.invariant.inverts place.row place.col (omega (arith, bad.row, c.rows-i-end.ensures)) bad.col)))),
)
