use Rattle.std.proofs.Common.{◌≡◌, ℕ, ◌*◌, ◌%◌, ◌<◌, inr, Err, refl, subst, ap, ◌∙◌, arith, below_more}
use Rattle.residue_sums.specs.Grids.{entry}
use Rattle.structure_rules.specs.declared.Structure.TheVariants.{General}
use Rattle.matrix_parts.specs.Opers.{op_table}
use Rattle.matrix_parts.specs.Lent.{grid_of}
use Rattle.matrix_parts.proofs.Kept.{IsKept-then}
use Rattle.equation.specs.Pivots.{IsFirstOnDiagonal}
use Rattle.part_factors.specs.BadPlaces.{place_of}
use Rattle.part_factors.proofs.FirstBads.{bad_of, IsUnit-from_product, first_on_diagonal}
use Rattle.operand_lines.proofs.PartValues.{IsValue-part}
use Rattle.part_factors.proofs.pivot_lists.pivots.Goals as goal

pub loop-i-preserved : goal.loop-i-preserved
loop-i-preserved c =
    let so_far = c.loop-i.invariant in
    let same : (k : ℕ) → k < c.loop-i.i → entry (grid_of c.set.new.self) 0 k ≡ entry (grid_of c.loop-i.out) 0 k =
    λ k below. c.set.ensures.others 0 k (omega (arith, so_far.kept.rows, c.requires.one_row)) (omega (arith, so_far.kept.cols, c.cols-i-end.ensures)) (inr (λ e. omega arith)) in
    record {
      loan = c.set.ensures.loan ∙ so_far.loan;
      part = c.set.ensures.part;
      kept = IsKept-then c.args.out.now c.loop-i.out c.set.new.self so_far.kept c.set.ensures.kept;
      inverts = below_more (λ k. (op_table c.args.t k k * entry (grid_of c.set.new.self) 0 k) % c.args.m ≡ 1) c.loop-i.i
          (λ k below. rw (same k below) (so_far.inverts k below))
          (rw (c.set.ensures.here, ← c.diagonal_entry.ensures.value) c.in-Some.ensures.product);
      range = below_more (λ k. entry (grid_of c.set.new.self) 0 k < c.args.m) c.loop-i.i
          (λ k below. rw (same k below) (so_far.range k below))
          (rw c.set.ensures.here c.in-Some.ensures.range);
    }

pub returns-in-None-clause-bad_pivot : goal.returns-in-None-clause-bad_pivot
returns-in-None-clause-bad_pivot c place =
    let pivot : ℕ → ℕ = λ i. op_table c.args.t i i in
    let here : IsFirstOnDiagonal c.args.m c.args.out.now.cols pivot (place_of (record { row = c.loop-i.i; col = c.loop-i.i })) = record {
      diagonal = refl;
      within = omega (arith, c.cols-i-end.ensures);
      bad = λ unit. absurd (let is = c.in-None.ensures.units.1 (rw c.diagonal_entry.ensures.value unit) in cc);
      first = λ i below. IsUnit-from_product c.args.m (pivot i) (entry (grid_of c.loop-i.out) 0 i) c.value-modulus.ensures.range.at_least_two (c.loop-i.invariant.inverts i below);
    } in (
      (λ e. subst (λ p. IsFirstOnDiagonal c.args.m c.args.out.now.cols pivot (place_of p)) (ap bad_of e) here),
      (λ bad. ap (λ p. Err p) (first_on_diagonal c.args.m c.args.out.now.cols pivot (record { row = c.loop-i.i; col = c.loop-i.i }) place here bad)),
    )

pub returns-clause-inverses : goal.returns-clause-inverses
returns-clause-inverses c =
    let so_far = c.loop-i.invariant in
    let top : (i : ℕ) → i < c.args.out.now.rows → i ≡ 0 = λ i row. omega (arith, c.requires.one_row) in
    IsValue-part c.args.m General (λ x i j. (op_table c.args.t j j * x i j) % c.args.m) (λ i j. 1) (grid_of c.args.out.now) c.loop-i.out so_far.kept.rows so_far.kept.cols
    (λ i j row col. rw (top i row) (so_far.range j (omega (arith, c.cols-i-end.ensures))))
    (λ i j row col inner. rw (top i row) (so_far.inverts j (omega (arith, c.cols-i-end.ensures))))
    (λ i j row col outside. absurd outside)

pub returns-clause-bad_pivot : goal.returns-clause-bad_pivot
returns-clause-bad_pivot c place = (
  (λ e. absurd (cc)),
  (λ bad. absurd (bad.bad (IsUnit-from_product c.args.m (op_table c.args.t place.row place.row) (entry (grid_of c.loop-i.out) 0 place.row) c.value-modulus.ensures.range.at_least_two
      (c.loop-i.invariant.inverts place.row (omega (arith, bad.within, c.cols-i-end.ensures)))))),
)
