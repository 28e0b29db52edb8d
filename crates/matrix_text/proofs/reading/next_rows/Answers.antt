use Rattle.std.proofs.Common.{arith}
use Rattle.matrix_text.proofs.Found.{found_rows}
use Rattle.matrix_text.proofs.reading.next_rows.Goals as goal

pub returns-clause-found : goal.returns-clause-found
returns-clause-found c = found_rows _ c.args.m c.args.rows c.args.cols _ _ _ (omega (arith, c.value.ensures.range)) c.are_lines.ensures (rw c.value.ensures.value at c.grid.ensures.grid)
