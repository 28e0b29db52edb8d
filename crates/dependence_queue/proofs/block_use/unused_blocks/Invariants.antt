use Rattle.std.proofs.Common.{◌≡◌, replicate}
use Rattle.dependence_queue.specs.Uses.{no_use}
use Rattle.dependence_queue.proofs.block_use.unused_blocks.Given as goal

abbrev pub invariant-loop : goal.invariant-loop
invariant-loop l = l.uses.items ≡ replicate l.counter no_use
