use Rattle.command_words.proofs.CommandWords.{bad_selfrun_numbers}
use Rattle.command_words.proofs.reading.selfrun_of.Goals as goal

pub returns-in_err-numbers : goal.returns-in_err-numbers
returns-in_err-numbers c = rw c.from_residual.ensures (bad_selfrun_numbers _ c.in_err-numbers.ensures)
