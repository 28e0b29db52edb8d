use Rattle.std.proofs.Common.{◌≡◌, ◌+◌, ◌-◌, ◌≤◌, length, drop}
use Rattle.job_text.specs.SpelledJobs.{place_behind}
use Rattle.job_text.proofs.second_part.place_behind.Given as goal

-- the bytes that were passed, and those up to the place
abbrev pub invariant-loop-left : goal.invariant-loop-left
invariant-loop-left l = record {
  within : l.at ≤ length l.bytes;
  place : l.at + place_behind l.left (drop l.at l.bytes) ≡ place_behind l.feeds l.bytes;
}

abbrev pub decreases-loop-left : goal.decreases-loop-left
decreases-loop-left l = length l.bytes - l.at
