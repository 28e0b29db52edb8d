use Rattle.std.proofs.Common.{codes}
use Rattle.matrix_text.proofs.WordLists.{sized_numbers}
use Rattle.job_text.proofs.after.is_block_of.Goals as goal

pub is_value-requires : goal.is_value-requires
is_value-requires c = (sized_numbers (codes "after") c.args.line.now.words c.requires).0

pub is_value-requires-then-is_value : goal.is_value-requires-then-is_value
is_value-requires-then-is_value c = (sized_numbers (codes "after") c.args.line.now.words c.requires).1
