use Rattle.matrix_parts.specs.Opers.{op_rows, op_table}
use Rattle.block_kernels.proofs.RowEntries.{none_named}
use Rattle.block_kernels.proofs.pivot_rows.write_unit_inverses.Goals as goal

pub returns : goal.returns
returns c = record {
  inverses = none_named c.args.m (op_rows c.args.t) (λ i. op_table c.args.t i i) c.write_inverses.result c.write_inverses.ensures.bad_pivot
      c.requires.units c.write_inverses.ensures.inverses;
  count = c.write_inverses.ensures.count;
}
