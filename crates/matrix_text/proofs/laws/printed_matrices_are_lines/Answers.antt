use Rattle.matrix_text.proofs.PrintedLines.{matrix_text-lines, matrix_lines-words}
use Rattle.matrix_text.proofs.laws.printed_matrices_are_lines.Goals as goal

pub returns-clause-text : goal.returns-clause-text
returns-clause-text c = matrix_text-lines

pub returns-clause-lines : goal.returns-clause-lines
returns-clause-lines c = matrix_lines-words
