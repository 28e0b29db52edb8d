use Rattle.std.proofs.Common.{◌≡◌, ◌≤◌, length, take}
use Rattle.std.specs.List.{flat_map, range_with_len}
use Rattle.issue_list.specs.CanonicalSteps.{most_steps}
use Rattle.issue_list.specs.ChosenVariants.{statement_steps_by}
use Rattle.issue_list.proofs.job_steps.list_steps.Given as goal

abbrev pub invariant-loop-before : goal.invariant-loop-before
invariant-loop-before l = record {
  listed : l.steps ≡ flat_map (statement_steps_by l.blocks.job l.blocks.b l.variants) (take l.before (range_with_len 1 (length l.blocks.job.statements)));
  few : length l.steps ≤ most_steps;
}
