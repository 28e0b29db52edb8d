use Rattle.std.proofs.Common.{◌≡◌, ℕ, ◌+◌, ◌*◌, ◌%◌, get_or, length, ap, ◌∙◌, arith}
use Rattle.kernel_bench.proofs.ProductRows.{row_sums_are}
use Rattle.kernel_bench.proofs.unit.add_row.Goals as goal

pub returns-clause-here : goal.returns-clause-here
returns-clause-here c = λ j within.
    let start : ℕ = c.args.i * c.args.second.now.cols in
    let sum_is = row_sums_are c.args.first.now c.args.second.now c.args.i c.multiply_row.new.sums c.cols.ensures.full c.requires.row_in
    (rw (c.cols.ensures.cols, c.entries.ensures.entries) at c.multiply_row.ensures.sums) j within in
    let here : get_or c.add_reduced.new.entries (start + j) 0 ≡ (get_or c.args.entries.now (start + j) 0 + get_or c.multiply_row.new.sums j 0 % c.args.m) % c.args.m =
    rw (c.cols-2.ensures.cols) at c.add_reduced.ensures.here j (omega arith) in
    here ∙ ap (λ x. (get_or c.args.entries.now (start + j) 0 + x % c.args.m) % c.args.m) sum_is
