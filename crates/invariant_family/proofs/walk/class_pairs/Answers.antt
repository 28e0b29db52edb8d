use Rattle.std.proofs.Common.{◌∙◌}
use Rattle.invariant_family.proofs.Walks.{class_pairs-from_cuts}
use Rattle.invariant_family.proofs.walk.class_pairs.Goals as goal

pub returns : goal.returns
returns c = class_pairs-from_cuts c.args.op.now c.args.split c.args.dirs c.in_ok-remaining.remaining c.in_ok-done.done c.in_ok-three_parts.three_parts c.as_slice.result.now _
    c.in_ok-remaining.ensures c.in_ok-done.ensures c.in_ok-three_parts.ensures (c.as_slice.ensures.value ∙ c.in_ok-three_part_tasks.ensures) c.in_ok-classes.ensures
