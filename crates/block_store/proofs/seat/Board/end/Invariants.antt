use Rattle.block_store.proofs.seat.Board.end.Given as goal

abbrev pub ghosts-end_named : goal.ghosts-end_named
ghosts-end_named a = record { step = a.t; outcome = a.outcome; block = 0 }
