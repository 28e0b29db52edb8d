use Rattle.command_words.proofs.CommandWords.{bad_run_sizes}
use Rattle.command_words.proofs.reading.run_of.Goals as goal

pub returns-in_default : goal.returns-in_default
returns-in_default c = bad_run_sizes _ c.in_default.ensures
