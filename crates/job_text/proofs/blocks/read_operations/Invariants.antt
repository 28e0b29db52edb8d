use Rattle.std.proofs.Common.{◌≡◌, ◌≤◌, ◌-◌, suc, [], length}
use Rattle.job_text.specs.JobFaults.{operation_limit, operations_at}
use Rattle.job_text.proofs.blocks.read_operations.Given as goal

-- the operations so far, and those of the lines that are left
abbrev pub invariant-loop-alloc : goal.invariant-loop-alloc
invariant-loop-alloc l = record {
  few : length l.found ≤ 16;
  end : l.lines.end ≡ l.fn.lines.end;
  on : operations_at (suc operation_limit - length l.found) l.fn.lines.end l.found l.lines.lines ≡ operations_at (suc operation_limit) l.fn.lines.end [] l.fn.lines.lines;
}

abbrev pub decreases-loop-alloc : goal.decreases-loop-alloc
decreases-loop-alloc l = suc operation_limit - length l.found
