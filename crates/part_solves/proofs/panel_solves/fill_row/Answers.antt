use Rattle.std.proofs.Common.{length, slice_index, arith}
use Rattle.matrix_parts.specs.Opers.{op_table}
use Rattle.part_solves.proofs.LineSteps.{one_line}
use Rattle.part_solves.proofs.panel_solves.fill_row.Goals as goal

pub returns : goal.returns
returns c k below = one_line (slice_index c.fill_lines.new.panel) (op_table c.args.o.now) c.args.i c.args.from (length c.args.row.now) k (c.fill_lines.ensures 0 k (omega arith) below)
