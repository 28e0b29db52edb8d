use Rattle.matrix_text.proofs.PrintedTexts.{printed_matrix_spelled}
use Rattle.matrix_text.proofs.laws.printed_matrices_are_spelled.Goals as goal

pub returns : goal.returns
returns c = printed_matrix_spelled
