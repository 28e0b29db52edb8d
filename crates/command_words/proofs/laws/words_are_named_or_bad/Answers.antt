use Rattle.command_words.proofs.CommandWords.{bad_or_named}
use Rattle.command_words.proofs.laws.words_are_named_or_bad.Goals as goal

pub returns : goal.returns
returns c = bad_or_named
