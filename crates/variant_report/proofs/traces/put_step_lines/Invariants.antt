use Rattle.std.proofs.Common.{◌≡◌, ◌++◌, ◌+◌, drop}
use Rattle.variant_report.specs.TraceTexts.{step_lines}
use Rattle.variant_report.proofs.traces.put_step_lines.Given as goal

-- the number of the last step, what is appended, and the lines of the steps that are left
abbrev pub invariant-loop-step : goal.invariant-loop-step
invariant-loop-step l = record {
  number : l.number ≡ l.step-index;
  lines : l.out.items ++ step_lines (l.step-index + 1) (drop l.step-index l.steps) ≡ l.fn.out.items ++ step_lines 1 l.steps;
}
