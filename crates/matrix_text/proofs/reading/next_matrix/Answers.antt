use Rattle.std.proofs.Common.{arith}
use Rattle.matrix_text.proofs.Found.{found_matrix}
use Rattle.matrix_text.proofs.reading.next_matrix.Goals as goal

pub returns-clause-found : goal.returns-clause-found
returns-clause-found c = found_matrix _ c.args.m c.args.room _ _ _ (omega (arith, c.value.ensures.range)) c.are_lines.ensures (rw c.value.ensures.value at c.matrix.ensures.matrix)
