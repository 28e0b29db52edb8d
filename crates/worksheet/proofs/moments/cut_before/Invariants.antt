use Rattle.std.proofs.Common.{◌≡◌, map, if◌then◌else◌}
use Rattle.task_graph.specs.Order.{numbers_below}
use Rattle.task_graph.specs.declared.cut.Sides.TheVariants.{One}
use Rattle.invariant_family.specs.Splits.{is_split, dir_of, middle_remaining}
use Rattle.worksheet.proofs.moments.cut_before.Given as goal

abbrev pub invariant-loop-dim : goal.invariant-loop-dim
invariant-loop-dim l = l.cut ≡ map (λ d. if is_split l.split d then middle_remaining (dir_of l.split l.dirs d) else One) (numbers_below l.dim)
