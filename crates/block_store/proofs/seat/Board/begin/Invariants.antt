use Rattle.block_store.specs.declared.outcome.StepOutcome.TheVariants.{Ran}
use Rattle.block_store.proofs.seat.Board.begin.Given as goal

abbrev pub ghosts-begin_named : goal.ghosts-begin_named
ghosts-begin_named a = record { step = a.t; outcome = Ran; block = 0 }
