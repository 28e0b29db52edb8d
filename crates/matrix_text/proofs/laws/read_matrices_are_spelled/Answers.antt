use Rattle.matrix_text.proofs.MatrixSpelling.{matrix_takes}
use Rattle.matrix_text.proofs.laws.read_matrices_are_spelled.Goals as goal

pub returns : goal.returns
returns c = matrix_takes
