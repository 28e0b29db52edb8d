use Rattle.std.proofs.Common.{◌≡◌, ℕ, ◌+◌, ◌≤◌, drop, length}
use Rattle.std.specs.Prelude.{slice_index}
use Rattle.dependence_queue.specs.Edges.{successors}
use Rattle.schedule_core.specs.Turns.{times_in}
use Rattle.schedule_core.proofs.turns.release.Given as goal

abbrev pub invariant-loop-p : goal.invariant-loop-p
invariant-loop-p l = (length l.waits ≡ length l.initial.waits) × (l.p ≤ length (successors l.edges l.t))
    × ((s : ℕ) → slice_index l.waits s + times_in (successors l.edges l.t) (s + 1) ≡ slice_index l.initial.waits s + times_in (drop l.p (successors l.edges l.t)) (s + 1))
