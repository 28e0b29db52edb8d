use Rattle.std.proofs.Common.{◌<◌, ◌≤◌, take}
use Rattle.std.specs.Prelude.{All}
use Rattle.dependence_queue.proofs.analysis.past.Given as goal

-- the end is past the numbers so far
abbrev pub invariant-loop-number : goal.invariant-loop-number
invariant-loop-number l = record { past : All (λ x. x < l.end) (take l.number-index l.numbers); least : l.least ≤ l.end }
