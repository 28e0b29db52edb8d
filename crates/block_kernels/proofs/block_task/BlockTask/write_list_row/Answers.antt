use Rattle.std.proofs.Common.{◌≡◌, ℕ, ◌<◌, inl, inr, refl, ◌∙◌, subst, ap, arith, below_more}
use Rattle.residue_sums.specs.Tables.{Table}
use Rattle.residue_sums.specs.Grids.{entry}
use Rattle.matrix_parts.specs.Lent.{grid_of}
use Rattle.matrix_parts.proofs.Kept.{IsKept-then}
use Rattle.part_factors.proofs.FirstBads.{bad_of, IsUnit-from_product}
use Rattle.kernel_lib.specs.BadPlaces.{IsFirstInRow}
use Rattle.block_kernels.specs.PivotLists.{pivots_of, HasInverse}
use Rattle.block_kernels.proofs.PivotReads.{ArePivots-same, CanInvert-same}
use Rattle.block_kernels.proofs.block_task.BlockTask.write_list_row.Goals as goal

pub list_pivot-requires-clause-can : goal.list_pivot-requires-clause-can
list_pivot-requires-clause-can c =
    let so_far = c.loop-j.invariant in
    CanInvert-same c.args.self.now (grid_of c.args.list.now) (grid_of c.loop-j.list) so_far.kept.rows so_far.kept.cols c.requires.can

pub loop-j-preserved : goal.loop-j-preserved
loop-j-preserved c =
    let t = c.args.self.now in
    let so_far = c.loop-j.invariant in
    let step = c.set.ensures in
    let i : ℕ = c.args.i in
    let same : (k : ℕ) → k < c.loop-j.j → entry (grid_of c.set.new.self) i k ≡ entry (grid_of c.loop-j.list) i k =
    λ k below. step.others i k (omega (arith, so_far.kept.rows, c.requires.row_in)) (omega (arith, so_far.kept.cols, c.cols-j-end.ensures)) (inr (λ e. omega arith)) in
    record {
      loan = step.loan ∙ so_far.loan;
      part = step.part;
      kept = IsKept-then c.args.list.now c.loop-j.list c.set.new.self so_far.kept step.kept;
      others = λ a b row col apart. step.others a b (omega (arith, so_far.kept.rows)) (omega (arith, so_far.kept.cols)) (inl apart) ∙ so_far.others a b row col apart;
      inverts = λ knowns rows cols k are below.
          let pivot : Table = pivots_of t knowns in
          let value = c.list_pivot.ensures.value knowns rows cols (ArePivots-same t knowns rows cols (grid_of c.args.list.now) (grid_of c.loop-j.list) so_far.kept.rows so_far.kept.cols are) in
          below_more (λ x. HasInverse t.m pivot (grid_of c.set.new.self) i x) c.loop-j.j
          (λ x less. rw (same x less) (so_far.inverts knowns rows cols x are less))
          (rw (step.here, ← value) (c.in-Some.ensures.product, c.in-Some.ensures.range)) k below;
    }

pub returns-in-None-clause-bad_pivot : goal.returns-in-None-clause-bad_pivot
returns-in-None-clause-bad_pivot c place e = λ knowns rows cols are.
    let t = c.args.self.now in
    let so_far = c.loop-j.invariant in
    let pivot : Table = pivots_of t knowns in
    let value = c.list_pivot.ensures.value knowns rows cols (ArePivots-same t knowns rows cols (grid_of c.args.list.now) (grid_of c.loop-j.list) so_far.kept.rows so_far.kept.cols are) in
    let here : IsFirstInRow t.m c.args.list.now.cols c.args.i pivot (record { row = c.args.i; col = c.loop-j.j }) = record {
      row = refl;
      col = omega (arith, c.cols-j-end.ensures);
      bad = λ unit. absurd (let is = c.in-None.ensures.units.1 (rw value unit) in cc);
      first = λ k below. IsUnit-from_product t.m (pivot c.args.i k) (entry (grid_of c.loop-j.list) c.args.i k) c.value-modulus.ensures.range.at_least_two
          (so_far.inverts knowns rows cols k are below).0;
    } in
    subst (λ p. IsFirstInRow t.m c.args.list.now.cols c.args.i pivot p) (ap bad_of e) here

pub returns-clause-inverts : goal.returns-clause-inverts
returns-clause-inverts c = λ knowns rows cols j are below. c.loop-j.invariant.inverts knowns rows cols j are (omega (arith, c.cols-j-end.ensures))
