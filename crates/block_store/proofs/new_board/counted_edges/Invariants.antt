use Rattle.std.proofs.Common.{◌≡◌, map}
use Rattle.std.specs.List.{range_with_len}
use Rattle.dependence_queue.specs.Edges.{count_into}
use Rattle.block_store.proofs.new_board.counted_edges.Given as goal

abbrev pub invariant-loop-t : goal.invariant-loop-t
invariant-loop-t l = l.words.items ≡ map (λ t. count_into l.edges t) (range_with_len 0 l.t)
