use Rattle.std.proofs.Common.{◌≡◌, ◌+◌, drop}
use Rattle.block_store.specs.Seats.{key_of}
use Rattle.dispatcher.specs.SharedRuns.{entries_of}
use Rattle.dispatcher.proofs.room.entries_of.Given as goal

abbrev pub invariant-loop-k : goal.invariant-loop-k
invariant-loop-k l = l.sum + entries_of (key_of l.board) (drop l.k l.reads) ≡ entries_of (key_of l.board) l.reads
