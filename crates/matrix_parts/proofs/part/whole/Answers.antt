use Rattle.matrix_parts.proofs.Rects.{rect-whole_grid}
use Rattle.matrix_parts.proofs.part.whole.Goals as goal

pub returns : goal.returns
returns c = rect-whole_grid c.args.m.now c.entries.result.now c.rows-rows.result c.cols-cols.result c.entries.ensures.full c.entries.ensures.entries c.rows-rows.ensures.rows c.cols-cols.ensures.cols
