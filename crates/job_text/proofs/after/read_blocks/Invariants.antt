use Rattle.std.proofs.Common.{◌≡◌, ◌<◌, ℕ, [], drop, get_or}
use Rattle.equation.specs.declared.job.Statement.{Statement}
use Rattle.job_text.specs.AfterBlocks.{HasShortSizes, work_grid}
use Rattle.job_text.specs.AfterFaults.{blocks_at}
use Rattle.job_text.proofs.after.read_blocks.Given as goal

-- the matrices so far, and the blocks of the statements that are left
abbrev pub invariant-loop-statement : goal.invariant-loop-statement
invariant-loop-statement l = record {
  items : l.statement-items ≡ l.job.statements;
  end : l.lines.end ≡ l.fn.lines.end;
  on : blocks_at l.fn.lines.end l.job l.found (drop l.statement-index l.job.statements) l.lines.lines ≡ blocks_at l.fn.lines.end l.job [] l.job.statements l.fn.lines.lines;
  sizes : (k : ℕ) (d : Statement) → k < l.statement-index → HasShortSizes (work_grid l.job (get_or l.job.statements k d));
}
