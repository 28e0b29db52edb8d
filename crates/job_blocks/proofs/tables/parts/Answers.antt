use Rattle.std.proofs.Common.{◌∙◌}
use Rattle.residue_sums.proofs.Parts.{div_ceil_is_part_count}
use Rattle.job_blocks.proofs.tables.parts.Goals as goal

pub returns : goal.returns
returns c = c.div_ceil.ensures ∙ div_ceil_is_part_count c.args.n c.args.b c.requires
