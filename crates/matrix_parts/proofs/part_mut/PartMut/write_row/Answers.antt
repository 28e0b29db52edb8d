use Rattle.std.proofs.Common.{rules, ◌∙◌}
use Rattle.matrix_parts.proofs.Kept.{IsKept-then}
use Rattle.matrix_parts.proofs.part_mut.PartMut.write_row.Goals as goal

pub loop-j-preserved : goal.loop-j-preserved
loop-j-preserved c = record {
  loan = c.set.ensures.loan ∙ c.loop-j.invariant.loan;
  part = c.set.ensures.part;
  kept = IsKept-then _ _ _ c.loop-j.invariant.kept c.set.ensures.kept;
  here = search rules;
  others = search rules;
}
