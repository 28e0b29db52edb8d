use Rattle.std.proofs.Common.{sym, ◌∙◌}
use Rattle.part_updates.proofs.updates.factors.needed_of.Goals as goal

pub returns-else-factors-clause-zero : goal.returns-else-factors-clause-zero
returns-else-factors-clause-zero c m k j after before beside from_left below =
    rw c.if-factors.false (sym (c.turned.ensures.table j k) ∙ c.needed_columns.ensures.zero k j after before beside from_left below)
