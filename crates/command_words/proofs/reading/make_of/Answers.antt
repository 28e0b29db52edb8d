use Rattle.command_words.proofs.CommandWords.{bad_make_numbers}
use Rattle.command_words.proofs.reading.make_of.Goals as goal

pub returns-in_err-numbers : goal.returns-in_err-numbers
returns-in_err-numbers c = rw c.from_residual.ensures (bad_make_numbers _ c.in_err-numbers.ensures)
