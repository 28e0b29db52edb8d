use Rattle.std.proofs.Common.{arith}
use Rattle.kernel_bench.proofs.ProductRows.{get_or-row_of, row_sum_room}
use Rattle.kernel_bench.proofs.unit.multiply_row.Goals as goal

pub add_multiple-requires-clause-room : goal.add_multiple-requires-clause-room
add_multiple-requires-clause-room c = λ j within.
    row_sum_room c.args.row.now c.args.b.now c.entries-entries.ensures.full c.requires.inner c.requires.first c.requires.second j (omega arith)
    c.loop-k.k _ _ c.loop-k-test.true c.requires.few (c.loop-k.invariant j (omega arith))
    (rw (c.requires.places, c.entries-entries.ensures.entries) (get_or-row_of c.args.b.now c.loop-k.k j (omega arith)))
