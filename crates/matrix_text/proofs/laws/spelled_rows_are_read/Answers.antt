use Rattle.matrix_text.proofs.MatrixSpelling.{grid_again}
use Rattle.matrix_text.proofs.laws.spelled_rows_are_read.Goals as goal

pub returns : goal.returns
returns c = grid_again
