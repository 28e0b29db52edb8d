use Rattle.std.proofs.Common.{◌≡◌, ℕ, ◌++◌, ap, refl, ◌∙◌, arith}
use Rattle.residue_sums.specs.Sums.{part_count}
use Rattle.flash_blocks.specs.Blocks.{block_of}
use Rattle.flash_blocks.proofs.FirstRows.{first_items, first_items-more}
use Rattle.flash_blocks.proofs.Places.{part_begins_within, parts_counted}
use Rattle.flash_blocks.proofs.cutting.copy_blocks.Goals as goal

pub copy_block-requires : goal.copy_block-requires
copy_block-requires c =
    let across : c.div_ceil-j-end.result ≡ part_count c.args.matrix.now.cols c.args.b =
    parts_counted _ _ _ _ _ c.requires.size c.cols.ensures.cols refl c.div_ceil-j-end.ensures in
    record {
      row_in = part_begins_within c.args.matrix.now.rows c.args.b c.args.i c.requires.row_in;
      col_in = part_begins_within c.args.matrix.now.cols c.args.b c.loop-j.j (omega arith);
    }

pub loop-j-preserved : goal.loop-j-preserved
loop-j-preserved c =
    rw (c.in_ok-push.ensures.items, c.loop-j.invariant, c.in_ok-copy_block.ensures)
    (first_items-more c.args.blocks.now.items (block_of c.args.b c.args.matrix.now c.args.i) c.loop-j.j)

pub returns : goal.returns
returns c =
    let across : c.div_ceil-j-end.result ≡ part_count c.args.matrix.now.cols c.args.b =
    parts_counted _ _ _ _ _ c.requires.size c.cols.ensures.cols refl c.div_ceil-j-end.ensures in
    let done : c.loop-j.j ≡ part_count c.args.matrix.now.cols c.args.b = omega arith in
    c.loop-j.invariant ∙ ap (λ (n : ℕ). c.args.blocks.now.items ++ first_items (block_of c.args.b c.args.matrix.now c.args.i) n) done
