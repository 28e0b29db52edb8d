use Rattle.block_store.specs.declared.outcome.StepOutcome.TheVariants.{Ran}
use Rattle.block_store.proofs.seat.Board.put.Given as goal

abbrev pub ghosts-put_named : goal.ghosts-put_named
ghosts-put_named a = record { step = a.t; outcome = Ran; block = a.block }
