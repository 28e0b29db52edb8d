use Rattle.std.proofs.Common.{take}
use Rattle.std.specs.Prelude.{All}
use Rattle.dependence_queue.specs.Uses.{UsesBelow}
use Rattle.dependence_queue.proofs.analysis.block_count.Given as goal

-- the accesses so far use blocks below the count
abbrev pub invariant-loop-access : goal.invariant-loop-access
invariant-loop-access l = All (UsesBelow l.count) (take l.access-index l.accesses)
