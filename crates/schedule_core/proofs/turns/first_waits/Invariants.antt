use Rattle.std.proofs.Common.{◌≡◌, ◌+◌, map}
use Rattle.std.specs.List.{range_with_len}
use Rattle.dependence_queue.specs.Edges.{count_into}
use Rattle.schedule_core.proofs.turns.first_waits.Given as goal

abbrev pub invariant-loop-s : goal.invariant-loop-s
invariant-loop-s l = l.waits.items ≡ map (λ s. count_into l.edges (s + 1)) (range_with_len 0 l.s)
