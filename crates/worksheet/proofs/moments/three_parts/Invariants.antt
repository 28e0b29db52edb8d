use Rattle.std.proofs.Common.{◌≡◌, map, if◌then◌else◌}
use Rattle.task_graph.specs.Order.{numbers_below}
use Rattle.invariant_family.specs.Splits.{is_split}
use Rattle.worksheet.proofs.moments.three_parts.Given as goal

abbrev pub invariant-loop-dim : goal.invariant-loop-dim
invariant-loop-dim l = l.parts ≡ map (λ d. if is_split l.split d then 3 else 1) (numbers_below l.dim)
