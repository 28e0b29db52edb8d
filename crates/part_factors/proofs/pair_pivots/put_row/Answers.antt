use Rattle.std.proofs.Common.{◌≡◌, ◌≢◌, ℕ, ◌*◌, ◌%◌, ◌<◌, inl, inr, refl, subst, ap, ◌∙◌, arith, below_more}
use Rattle.residue_sums.specs.Residues.{IsUnit}
use Rattle.residue_sums.specs.Tables.{Table}
use Rattle.residue_sums.specs.Grids.{entry}
use Rattle.matrix_parts.specs.Opers.{op_table}
use Rattle.matrix_parts.specs.Lent.{grid_of}
use Rattle.matrix_parts.proofs.Kept.{IsKept-then}
use Rattle.part_factors.specs.BadPlaces.{pair_pivots, IsFirstInRow}
use Rattle.part_factors.proofs.FirstBads.{bad_of, IsUnit-from_product}
use Rattle.part_factors.proofs.pair_pivots.put_row.Goals as goal

pub loop-j-preserved : goal.loop-j-preserved
loop-j-preserved c =
    let so_far = c.loop-j.invariant in
    let step = c.set.ensures in
    let i : ℕ = c.args.i in
    let pivot : Table = pair_pivots c.args.m c.args.minus (op_table c.args.t.now) (op_table c.args.u.now) in
    let same : (k : ℕ) → k < c.loop-j.j → entry (grid_of c.set.new.self) i k ≡ entry (grid_of c.loop-j.out) i k =
    λ k below. step.others i k (omega (arith, so_far.kept.rows, c.requires.row_in)) (omega (arith, so_far.kept.cols, c.cols-j-end.ensures)) (inr (λ e. omega arith)) in
    record {
      loan = step.loan ∙ so_far.loan;
      part = step.part;
      kept = IsKept-then c.args.out.now c.loop-j.out c.set.new.self so_far.kept step.kept;
      inverts = below_more (λ k. (pivot i k * entry (grid_of c.set.new.self) i k) % c.args.m ≡ 1) c.loop-j.j
          (λ k below. rw (same k below) (so_far.inverts k below))
          (rw (step.here, ← c.pair_pivot.ensures.value) c.in-Some.ensures.product);
      range = below_more (λ k. entry (grid_of c.set.new.self) i k < c.args.m) c.loop-j.j
          (λ k below. rw (same k below) (so_far.range k below))
          (rw step.here c.in-Some.ensures.range);
      others = λ a b row col apart. step.others a b (omega (arith, so_far.kept.rows)) (omega (arith, so_far.kept.cols)) (inl apart) ∙ so_far.others a b row col apart;
    }

pub returns-in-None-clause-bad_pivot : goal.returns-in-None-clause-bad_pivot
returns-in-None-clause-bad_pivot c place e =
    let pivot : Table = pair_pivots c.args.m c.args.minus (op_table c.args.t.now) (op_table c.args.u.now) in
    let here : IsFirstInRow c.args.m c.args.out.now.cols c.args.i pivot (record { row = c.args.i; col = c.loop-j.j }) = record {
      row = refl;
      col = omega (arith, c.cols-j-end.ensures);
      bad = λ unit. absurd (let is = c.in-None.ensures.units.1 (rw c.pair_pivot.ensures.value unit) in cc);
      first = λ k below. IsUnit-from_product c.args.m (pivot c.args.i k) (entry (grid_of c.loop-j.out) c.args.i k) c.value-modulus.ensures.range.at_least_two (c.loop-j.invariant.inverts k below);
    } in
    subst (λ p. IsFirstInRow c.args.m c.args.out.now.cols c.args.i pivot p) (ap bad_of e) here
