use Rattle.std.proofs.Common.{◌≡◌, ◌-◌, ◌≤◌, suc, [], length}
use Rattle.equation.specs.Jobs.{entry_count}
use Rattle.job_text.specs.JobFaults.{entry_limit, matrices_at, matrix_limit}
use Rattle.job_text.proofs.blocks.read_matrices.Given as goal

-- the matrices so far, the room that they leave, and those of the lines that are left
abbrev pub invariant-loop-alloc : goal.invariant-loop-alloc
invariant-loop-alloc l = record {
  few : length l.matrices ≤ 32;
  same : length l.names ≡ length l.matrices;
  room : l.room ≡ entry_limit - entry_count l.matrices;
  end : l.lines.end ≡ l.fn.lines.end;
  on : matrices_at (suc matrix_limit - length l.matrices) l.fn.lines.end l.m (record { names = l.names; grids = l.matrices }) l.lines.lines
      ≡ matrices_at (suc matrix_limit) l.fn.lines.end l.m (record { names = []; grids = [] }) l.fn.lines.lines;
}

abbrev pub decreases-loop-alloc : goal.decreases-loop-alloc
decreases-loop-alloc l = suc matrix_limit - length l.matrices
