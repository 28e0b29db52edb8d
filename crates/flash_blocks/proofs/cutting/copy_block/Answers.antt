use Rattle.std.proofs.Common.{◌≡◌, ◌*◌, refl, arith}
use Rattle.residue_sums.specs.Grids.{entry}
use Rattle.flash_blocks.specs.Blocks.{block_of}
use Rattle.flash_blocks.proofs.FirstRows.{from_place, length-first_rows, map-append_row}
use Rattle.flash_blocks.proofs.cutting.copy_block.Goals as goal

pub row_piece-requires : goal.row_piece-requires
row_piece-requires c = record { row_in = omega arith; cols_in = omega arith }

pub loop-r-preserved : goal.loop-r-preserved
loop-r-preserved c =
    rw (c.in_ok-extend_from_slice.ensures.items, c.loop-r.invariant, c.row_piece.ensures)
    (map-append_row (from_place (entry c.args.matrix.now) (c.args.i * c.args.b) (c.args.j * c.args.b)) c.min-cols.result c.loop-r.r)

pub from_entries-requires : goal.from_entries-requires
from_entries-requires c =
    let done : c.loop-r.r ≡ c.min-rows.result = omega arith in
    rw (c.loop-r.invariant, done)
    (length-first_rows (from_place (entry c.args.matrix.now) (c.args.i * c.args.b) (c.args.j * c.args.b)) c.min-cols.result c.min-rows.result)

pub returns : goal.returns
returns c =
    let done : c.loop-r.r ≡ c.min-rows.result = omega arith in
    rw (c.from_entries.ensures, c.loop-r.invariant, done, c.min-rows.ensures, c.min-cols.ensures, c.rows-height.ensures.rows, c.cols-width.ensures.cols)
    (refl {a = block_of c.args.b c.args.matrix.now c.args.i c.args.j})
