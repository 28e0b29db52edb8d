use Rattle.block_store.specs.declared.outcome.StepOutcome.TheVariants.{Ran}
use Rattle.block_store.proofs.seat.Board.take.Given as goal

abbrev pub ghosts-take_named : goal.ghosts-take_named
ghosts-take_named a = record { step = a.t; outcome = Ran; block = a.block }
