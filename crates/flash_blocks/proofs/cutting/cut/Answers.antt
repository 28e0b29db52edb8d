use Rattle.std.proofs.Common.{◌≡◌, ◌*◌, length, ap, ap₂, refl, ◌∙◌, ℕ, arith}
use Rattle.residue_sums.specs.Sums.{part_count}
use Rattle.flash_blocks.specs.Blocks.{block_of}
use Rattle.flash_blocks.specs.Flashes.{cut_of}
use Rattle.flash_blocks.proofs.FirstRows.{length-first_rows, map-append_row}
use Rattle.flash_blocks.proofs.Places.{parts_counted}
use Rattle.flash_blocks.proofs.cutting.cut.Goals as goal

pub copy_blocks-requires : goal.copy_blocks-requires
copy_blocks-requires c =
    let down : c.div_ceil-down.result ≡ part_count c.args.matrix.now.rows c.args.b =
    parts_counted _ _ _ _ _ c.requires c.rows-rows.ensures.rows refl c.div_ceil-down.ensures in
    record { size = c.requires; row_in = omega arith }

pub loop-i-preserved : goal.loop-i-preserved
loop-i-preserved c =
    let across : c.div_ceil-across.result ≡ part_count c.args.matrix.now.cols c.args.b =
    parts_counted _ _ _ _ _ c.requires c.cols-cols.ensures.cols refl c.div_ceil-across.ensures in
    rw (c.in_ok-copy_blocks.ensures, c.loop-i.invariant, ← across)
    (map-append_row (block_of c.args.b c.args.matrix.now) c.div_ceil-across.result c.loop-i.i)

pub from_blocks-requires : goal.from_blocks-requires
from_blocks-requires c =
    let down : c.div_ceil-down.result ≡ part_count c.rows-rows.result c.args.b = parts_counted _ _ _ _ _ c.requires refl refl c.div_ceil-down.ensures in
    let across : c.div_ceil-across.result ≡ part_count c.cols-cols.result c.args.b = parts_counted _ _ _ _ _ c.requires refl refl c.div_ceil-across.ensures in
    let done : c.loop-i.i ≡ part_count c.rows-rows.result c.args.b = omega arith in
    let count = length-first_rows (block_of c.args.b c.args.matrix.now) c.div_ceil-across.result c.loop-i.i in
    record { size = c.requires; count = ap length c.loop-i.invariant ∙ count ∙ ap₂ (λ (n m : ℕ). n * m) done across }

pub returns : goal.returns
returns c =
    let g = c.args.matrix.now in
    let down : c.div_ceil-down.result ≡ part_count g.rows c.args.b =
    parts_counted _ _ _ _ _ c.requires c.rows-rows.ensures.rows refl c.div_ceil-down.ensures in
    let across : c.div_ceil-across.result ≡ part_count g.cols c.args.b =
    parts_counted _ _ _ _ _ c.requires c.cols-cols.ensures.cols refl c.div_ceil-across.ensures in
    let done : c.loop-i.i ≡ part_count g.rows c.args.b = omega arith in
    rw (c.from_blocks.ensures, c.loop-i.invariant, done, across, c.rows-rows.ensures.rows, c.cols-cols.ensures.cols) (refl {a = cut_of c.args.b g})
