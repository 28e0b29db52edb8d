use Rattle.block_store.specs.declared.outcome.StepOutcome.TheVariants.{Ran}
use Rattle.block_store.proofs.seat.Board.give.Given as goal

abbrev pub ghosts-give_named : goal.ghosts-give_named
ghosts-give_named a = record { step = a.t; outcome = Ran; block = a.block }
