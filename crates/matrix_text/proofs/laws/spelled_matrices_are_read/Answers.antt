use Rattle.matrix_text.proofs.MatrixSpelling.{matrix_again}
use Rattle.matrix_text.proofs.laws.spelled_matrices_are_read.Goals as goal

pub returns : goal.returns
returns c = matrix_again
