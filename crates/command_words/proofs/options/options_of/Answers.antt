use Rattle.command_words.proofs.RunOptions.{no_variants}
use Rattle.command_words.proofs.options.options_of.Goals as goal

pub returns-in-None-trace_of : goal.returns-in-None-trace_of
returns-in-None-trace_of c = no_variants _ c.in-None.ensures c.in-None-trace_of.ensures
