use Rattle.part_solves.proofs.SylvesterSteps.{subtracted}
use Rattle.part_solves.proofs.sylvester.combined_residues.Goals as goal

pub returns-then-negative-clause-value : goal.returns-then-negative-clause-value
returns-then-negative-clause-value c =
    rw c.if-negative.true (subtracted c.args.m c.args.a c.args.b c.sub.result c.value-value.ensures.range.at_least_two c.requires.second c.sub.ensures.value)
