use Rattle.std.proofs.Common.{◌≡◌, drop, map}
use Rattle.equation.specs.Jobs.{nth_grid}
use Rattle.step_replays.specs.Fits.{length_among}
use Rattle.job_blocks.proofs.job_blocks.JobBlocks.length_among.Given as goal

-- no operand before this place is on the dimension
abbrev pub invariant-loop-at : goal.invariant-loop-at
invariant-loop-at l =
    length_among l.operands (map (nth_grid l.self.job.matrices) l.numbers) l.d
    ≡ length_among (drop l.at l.operands) (map (nth_grid l.self.job.matrices) (drop l.at l.numbers)) l.d
