use Rattle.std.proofs.Common.{◌≡◌, ◌++◌, ◌/◌, ◌%◌, ℕ, map}
use Rattle.std.specs.List.{range_with_len}
use Rattle.residue_sums.specs.Sums.{part_count}
use Rattle.flash_blocks.specs.Blocks.{block_of}
use Rattle.dispatcher.specs.BufferSizes.{size_of}
use Rattle.dispatcher.proofs.sizes.push_blocks.Given as goal

abbrev pub invariant-loop-k : goal.invariant-loop-k
invariant-loop-k l =
    l.sizes.items ≡ l.initial.sizes.items ++ map (λ (k : ℕ). size_of (block_of l.b l.matrix (k / part_count l.matrix.cols l.b) (k % part_count l.matrix.cols l.b))) (range_with_len 0 l.k)
