use Rattle.std.proofs.Common.{sym, ◌∙◌}
use Rattle.std.proofs.lemmas.Bool.{le-ltb}
use Rattle.invariant_family.proofs.NumberedSets.{has_bit-past}
use Rattle.invariant_family.proofs.rules.has_bit.Goals as goal

pub returns-else-place-lt64 : goal.returns-else-place-lt64
returns-else-place-lt64 c = le-ltb c.args.place 64 c.if-place-lt64.false ∙ sym (has_bit-past c.args.number c.args.place c.ranges.number.fits c.if-place-lt64.false)
