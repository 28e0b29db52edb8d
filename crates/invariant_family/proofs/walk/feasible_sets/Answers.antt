use Rattle.std.proofs.Common.{◌∙◌}
use Rattle.invariant_family.proofs.Walks.{feasible_sets-from_walk}
use Rattle.invariant_family.proofs.walk.feasible_sets.Goals as goal

pub returns : goal.returns
returns c = feasible_sets-from_walk c.args.op.now c.args.split c.args.dirs c.in_ok-two_parts.two_parts c.as_slice.result.now c.as_slice-2.result.now c.as_slice-3.result.now _
    c.in_ok-two_parts.ensures (c.as_slice.ensures.value ∙ c.in_ok-two_part_tasks.ensures) (c.as_slice-2.ensures.value ∙ c.in_ok-pairs.ensures) (c.as_slice-3.ensures.value ∙ c.in_ok-numbers.ensures) c.in_ok-sets_of.ensures
