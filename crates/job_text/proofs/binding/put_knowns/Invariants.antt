use Rattle.std.proofs.Common.{◌≡◌, ◌++◌, drop, map}
use Rattle.equation.specs.Jobs.{nth_grid}
use Rattle.job_text.specs.JobFaults.{lengths_of}
use Rattle.job_text.proofs.binding.put_knowns.Given as goal

-- the lengths so far, and those of the operands that are left
abbrev pub invariant-loop-i : goal.invariant-loop-i
invariant-loop-i l = l.lengths.items ++ lengths_of (drop l.i l.operands) (map (nth_grid l.matrices) (drop l.i l.bound))
    ≡ l.fn.lengths.items ++ lengths_of l.operands (map (nth_grid l.matrices) l.bound)
