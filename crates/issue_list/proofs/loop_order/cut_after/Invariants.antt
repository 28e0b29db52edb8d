use Rattle.std.proofs.Common.{◌≡◌, map, if◌then◌else◌}
use Rattle.task_graph.specs.Order.{numbers_below}
use Rattle.task_graph.specs.Tasks.{parts_of}
use Rattle.task_graph.specs.declared.cut.Sides.TheVariants.{One}
use Rattle.invariant_family.specs.Splits.{dir_of, is_split}
use Rattle.issue_list.specs.IssuedSteps.{side_after}
use Rattle.issue_list.proofs.loop_order.cut_after.Given as goal

abbrev pub invariant-loop-dim : goal.invariant-loop-dim
invariant-loop-dim l =
    l.cut ≡ map (λ d. if is_split l.variant.split d then side_after (dir_of l.variant.split l.variant.dirs d) (parts_of l.counts d) l.t else One) (numbers_below l.dim)
