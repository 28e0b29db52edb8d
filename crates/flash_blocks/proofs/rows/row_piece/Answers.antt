use Rattle.std.proofs.Common.{◌+◌, ◌*◌, ◌≤◌, length}
use Rattle.flash_blocks.proofs.Pieces.{piece_items, piece_within}
use Rattle.flash_blocks.proofs.rows.row_piece.Goals as goal

pub slice_bounds-result-end : goal.slice_bounds-result-end
slice_bounds-result-end c =
    let within = piece_within c.args.matrix.now c.args.r c.args.c c.args.n c.cols.ensures.full c.requires.row_in c.requires.cols_in in
    let bound : c.args.r * c.cols.result + c.args.c + c.args.n ≤ length c.entries.result.now = rw (c.cols.ensures.cols, c.entries.ensures.entries) within in
    bound

pub returns : goal.returns
returns c =
    rw (c.cols.ensures.cols, c.entries.ensures.entries)
    (piece_items c.args.matrix.now c.args.r c.args.c c.args.n c.cols.ensures.full c.requires.row_in c.requires.cols_in)
