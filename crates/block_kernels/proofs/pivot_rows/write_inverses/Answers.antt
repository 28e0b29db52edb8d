use Rattle.std.proofs.Common.{◌≡◌, ℕ, ◌*◌, length, sym, subst, ◌∙◌, arith}
use Rattle.std.proofs.lemmas.Result.{on_ok_weaker}
use Rattle.residue_sums.specs.Grids.{Grid}
use Rattle.matrix_parts.specs.Lent.{grid_of}
use Rattle.matrix_parts.specs.Opers.{op_rows, op_table}
use Rattle.kernel_lib.specs.Conditions.{HasInverses}
use Rattle.block_kernels.proofs.RowEntries.{HasInverses-written, grid-back}
use Rattle.block_kernels.proofs.pivot_rows.write_inverses.Goals as goal

pub returns-clause-inverses : goal.returns-clause-inverses
returns-clause-inverses c =
    let n : ℕ = op_rows c.args.t in
    let same = c.row-1.given.1.1 (sym c.whole_of-out.ensures.loan ∙ sym c.pivots.ensures.loan) in
    let full : length c.row-1.given.0 ≡ 1 * n = omega (arith, c.row-1.given.1.0, c.requires.count) in
    let grid = grid-back c.row-1.given.0 1 n c.whole_of-out.result c.pivots.new.out c.whole_of-out.ensures.first (c.whole_of-out.ensures.stride ∙ c.rows.ensures.rows)
    c.whole_of-out.ensures.rows (c.whole_of-out.ensures.cols ∙ c.rows.ensures.rows) c.pivots.ensures.kept same full in
    on_ok_weaker c.pivots.result
    (λ are. subst (λ (g : Grid). HasInverses c.args.m n (op_table c.args.t) g) grid
    (HasInverses-written c.args.m n (op_table c.args.t) (grid_of c.whole_of-out.result) (grid_of c.pivots.new.out) c.whole_of-out.ensures.rows
    (c.whole_of-out.ensures.cols ∙ c.rows.ensures.rows) are))
    c.pivots.ensures.inverses

pub returns-clause-bad_pivot : goal.returns-clause-bad_pivot
returns-clause-bad_pivot c = λ place. rw (c.whole_of-out.ensures.cols, c.rows.ensures.rows) at c.pivots.ensures.bad_pivot place
