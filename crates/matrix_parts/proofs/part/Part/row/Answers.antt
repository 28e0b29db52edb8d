use Rattle.std.proofs.Common.{◌<◌}
use Rattle.matrix_parts.proofs.Rects.{get_or-row}
use Rattle.matrix_parts.proofs.part.Part.row.Goals as goal

pub returns-clause-entries : goal.returns-clause-entries
returns-clause-entries c j col =
    let row : c.args.i < c.self.inside.rows = rw (← c.self.view_is) at c.requires.row_in in
    let col_in : j < c.self.inside.cols = rw (← c.self.view_is) at col in
    rw (← c.self.view_is) (get_or-row c.self.inside.entries.now c.self.inside.first c.self.inside.stride c.self.inside.rows c.self.inside.cols c.args.i j row col_in)
