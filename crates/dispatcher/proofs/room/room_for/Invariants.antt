use Rattle.block_store.specs.Seats.{key_of}
use Rattle.dispatcher.specs.BufferSizes.{HaveRoom, NeedRoom}
use Rattle.dispatcher.proofs.room.room_for.Given as goal

abbrev pub invariant-loop-n : goal.invariant-loop-n
invariant-loop-n l = record {
  enough : HaveRoom (key_of l.board) l.steps l.n l.room;
  least : NeedRoom (key_of l.board) l.steps l.n l.room;
}
