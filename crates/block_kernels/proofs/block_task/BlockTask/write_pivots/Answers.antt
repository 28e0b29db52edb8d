use Rattle.std.proofs.Common.{◌≡◌, ℕ, ◌<◌, inl, inr, ◌∙◌, arith}
use Rattle.std.proofs.lemmas.Bool.{cases_eq}
use Rattle.residue_sums.specs.Tables.{Table}
use Rattle.residue_sums.specs.Grids.{entry}
use Rattle.matrix_parts.specs.Lent.{grid_of}
use Rattle.matrix_parts.proofs.Kept.{IsKept-then}
use Rattle.part_factors.proofs.FirstBads.{by_rows_from_row, IsUnit-from_product}
use Rattle.block_kernels.specs.PivotLists.{pivots_of}
use Rattle.block_kernels.proofs.ListInverses.{all_inverted, one_is_bad}
use Rattle.block_kernels.proofs.PivotReads.{ArePivots-same, CanInvert-same}
use Rattle.block_kernels.proofs.block_task.BlockTask.write_pivots.Goals as goal

pub write_list_row-requires-clause-can : goal.write_list_row-requires-clause-can
write_list_row-requires-clause-can c =
    let so_far = c.loop-i.invariant in
    CanInvert-same c.args.self.now (grid_of c.args.list.now) (grid_of c.loop-i.list) so_far.kept.rows so_far.kept.cols c.requires.can

pub returns-in-Err-clause-kept : goal.returns-in-Err-clause-kept
returns-in-Err-clause-kept c = IsKept-then c.args.list.now c.loop-i.list c.write_list_row.new.list c.loop-i.invariant.kept c.write_list_row.ensures.kept

pub returns-in-Err-clause-outcome : goal.returns-in-Err-clause-outcome
returns-in-Err-clause-outcome c = λ knowns rows cols are.
    let t = c.args.self.now in
    let so_far = c.loop-i.invariant in
    let pivot : Table = pivots_of t knowns in
    let now = ArePivots-same t knowns rows cols (grid_of c.args.list.now) (grid_of c.loop-i.list) so_far.kept.rows so_far.kept.cols are in
    one_is_bad t knowns rows cols (grid_of c.args.list.now) are c.in-Err.entry.row c.in-Err.entry.col c.pivot_place.result c.pivot_place.ensures
    (by_rows_from_row t.m c.args.list.now.rows c.args.list.now.cols c.loop-i.i pivot c.in-Err.entry (omega (arith, c.rows-i-end.ensures))
    (rw so_far.kept.cols at (c.write_list_row.ensures.bad_pivot c.in-Err.entry c.in-Err.is knowns rows cols now))
    (λ a j row col. IsUnit-from_product t.m (pivot a j) (entry (grid_of c.loop-i.list) a j) c.value-modulus.ensures.range.at_least_two (so_far.inverts knowns rows cols a j are row col).0))

pub loop-i-preserved : goal.loop-i-preserved
loop-i-preserved c =
    let t = c.args.self.now in
    let so_far = c.loop-i.invariant in
    let step = c.write_list_row.ensures in
    let new = c.write_list_row.new.list in
    let same : (a j : ℕ) → a < c.loop-i.i → j < c.args.list.now.cols → entry (grid_of new) a j ≡ entry (grid_of c.loop-i.list) a j =
    λ a j row col. step.others a j (omega (arith, so_far.kept.rows, c.rows-i-end.ensures)) (omega (arith, so_far.kept.cols)) (λ e. omega arith) in
    record {
      loan = step.loan ∙ so_far.loan;
      part = step.part;
      kept = IsKept-then c.args.list.now c.loop-i.list new so_far.kept step.kept;
      inverts = λ knowns rows cols a j are row col. elim (cases_eq a c.loop-i.i) [
        | inl here ↦ rw here (c.in-Ok.ensures.inverts knowns rows cols j
            (ArePivots-same t knowns rows cols (grid_of c.args.list.now) (grid_of c.loop-i.list) so_far.kept.rows so_far.kept.cols are) (omega (arith, so_far.kept.cols)))
        | inr apart ↦ rw (same a j (omega arith) col) (so_far.inverts knowns rows cols a j are (omega arith) col)
      ];
    }

pub returns-clause-outcome : goal.returns-clause-outcome
returns-clause-outcome c = λ knowns rows cols are.
    let so_far = c.loop-i.invariant in
    all_inverted c.args.self.now knowns rows cols (grid_of c.args.list.now) are c.loop-i.list so_far.kept.rows so_far.kept.cols c.value-modulus.ensures.range.at_least_two
    (λ i j row col. so_far.inverts knowns rows cols i j are (omega (arith, so_far.kept.rows, c.rows-i-end.ensures)) (omega (arith, so_far.kept.cols)))
