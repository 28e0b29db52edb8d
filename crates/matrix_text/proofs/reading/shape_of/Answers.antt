use Rattle.std.proofs.Common.{codes}
use Rattle.matrix_text.proofs.WordLists.{sized_numbers}
use Rattle.matrix_text.proofs.reading.shape_of.Goals as goal

pub size-requires : goal.size-requires
size-requires c = (sized_numbers (codes "matrix") c.args.line.now.words c.requires).0

pub size-requires-2 : goal.size-requires-2
size-requires-2 c = (sized_numbers (codes "matrix") c.args.line.now.words c.requires).1
