use Rattle.matrix_text.proofs.MatrixSpelling.{grid_takes}
use Rattle.matrix_text.proofs.laws.read_rows_are_spelled.Goals as goal

pub returns : goal.returns
returns c = grid_takes
