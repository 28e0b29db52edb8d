use Rattle.block_store.specs.Seats.{key_of}
use Rattle.dispatcher.proofs.Readings.{IsReading}
use Rattle.dispatcher.proofs.shared_run.SharedRun.copy_reads.Given as goal

abbrev pub invariant-loop-k : goal.invariant-loop-k
invariant-loop-k g l = IsReading (key_of l.self.board.now) l.t l.fn.seat l.seat l.k l.at l.room l.cuts
