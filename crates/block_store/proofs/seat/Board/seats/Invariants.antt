use Rattle.block_store.specs.Seats.{view}
use Rattle.block_store.proofs.NewSeats.{AreSoFar}
use Rattle.block_store.proofs.seat.Board.seats.Given as goal

abbrev pub invariant-loop : goal.invariant-loop
invariant-loop l = AreSoFar l.self l.workers (view l.fn.seat).workers l.counter l.last l.seats.items
