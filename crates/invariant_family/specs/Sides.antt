-- The parts on a side of a loop, done or remaining.
use Rattle.std.specs.Prelude.{ℕ}
use Rattle.operation_spec.specs.declared.split.Dir.{Dir}
use Rattle.task_graph.specs.declared.cut.Sides.{Sides}
use Rattle.invariant_family.specs.declared.splits.Side.{Side}
use Rattle.invariant_family.specs.declared.splits.Side.TheVariants.{Done, Remaining}
use Rattle.invariant_family.specs.Splits.{done_part, remaining_part, middle_done, middle_remaining}

-- of two parts, the one on a side
abbrev pub part_on : Side → Dir → ℕ
part_on Done = done_part
part_on Remaining = remaining_part

-- three parts as two, with the middle one on a side
abbrev pub middle_on : Side → Dir → Sides
middle_on Done = middle_done
middle_on Remaining = middle_remaining
