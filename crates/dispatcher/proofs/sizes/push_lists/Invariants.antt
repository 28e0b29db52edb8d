use Rattle.std.proofs.Common.{◌≡◌, ◌++◌, map, drop}
use Rattle.std.specs.List.{flat_map}
use Rattle.job_blocks.specs.Tables.{zero_list, zero_lists}
use Rattle.dispatcher.specs.BufferSizes.{size_of}
use Rattle.dispatcher.proofs.sizes.push_lists.Given as goal

abbrev pub invariant-loop-n : goal.invariant-loop-n
invariant-loop-n l =
    l.sizes.items ++ map size_of (flat_map (zero_list l.blocks.job) (drop l.n l.blocks.job.statements)) ≡ l.initial.sizes.items ++ map size_of (zero_lists l.blocks.job)
