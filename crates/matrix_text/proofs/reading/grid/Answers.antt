use Rattle.std.proofs.Common.{◌∙◌}
use Rattle.matrix_text.proofs.MatrixRows.{rows-count}
use Rattle.matrix_text.proofs.MatrixSpelling.{row_count-entries}
use Rattle.matrix_text.proofs.reading.grid.Goals as goal

pub from_entries-requires : goal.from_entries-requires
from_entries-requires c =
    let count = rows-count _ c.args.m _ _ _ _ _ c.in_ok-entries.ensures.rows in
    (rw c.row_count.ensures at count) ∙ row_count-entries c.args.shape.rows c.args.shape.cols
