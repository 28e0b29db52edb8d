use Rattle.std.proofs.Common.{◌≡◌, ◌≤◌, ◌*◌, ◌/◌, ◌++◌, ℕ, List, min, ap, ap₂, append-nil, append_assoc, sym, ◌∙◌, arith}
use Rattle.residue_sums.specs.Sums.{part_count}
use Rattle.residue_sums.proofs.Parts.{part_count_covers}
use Rattle.flash_blocks.specs.Blocks.{gathered}
use Rattle.flash_blocks.specs.Flashes.{flash_block}
use Rattle.flash_blocks.proofs.FirstRows.{first_items}
use Rattle.flash_blocks.proofs.Pieces.{row_more, row_of_block}
use Rattle.flash_blocks.proofs.Places.{IsBlock-row, parts_counted}
use Rattle.flash_blocks.proofs.gathering.append_row.Goals as goal

pub row_piece-requires : goal.row_piece-requires
row_piece-requires c =
    let f = c.args.flash.now in
    let size : 1 ≤ f.b = omega (arith, c.b-b.ensures) in
    let across : c.div_ceil-across.result ≡ part_count f.cols f.b =
    parts_counted _ _ _ _ _ size c.cols.ensures c.b-b.ensures.size c.div_ceil-across.ensures in
    let there = IsBlock-row f c.args.r c.loop-j.j size c.requires.row_in (omega (arith, across)) in
    let is = c.block-block.ensures ∙ ap (λ (b : ℕ). flash_block f (c.args.r / b) c.loop-j.j) c.b-b.ensures.size in
    record {
      row_in = rw (is, c.b-b.ensures.size) (row_of_block f c.args.r c.loop-j.j size c.requires.shapes there c.requires.row_in);
      cols_in = omega (arith, c.cols-in-loop-j.ensures);
    }

pub loop-j-init : goal.loop-j-init
loop-j-init c = let none : min (0 * c.args.flash.now.b) c.args.flash.now.cols ≡ 0 = omega arith in rw none (sym (append-nil _))

pub loop-j-preserved : goal.loop-j-preserved
loop-j-preserved c =
    let f = c.args.flash.now in
    let size : 1 ≤ f.b = omega (arith, c.b-b.ensures) in
    let across : c.div_ceil-across.result ≡ part_count f.cols f.b =
    parts_counted _ _ _ _ _ size c.cols.ensures c.b-b.ensures.size c.div_ceil-across.ensures in
    let there = IsBlock-row f c.args.r c.loop-j.j size c.requires.row_in (omega (arith, across)) in
    let is = c.block-block.ensures ∙ ap (λ (b : ℕ). flash_block f (c.args.r / b) c.loop-j.j) c.b-b.ensures.size in
    let piece = rw (c.cols-in-loop-j.ensures.cols, is, c.b-b.ensures.size) at c.row_piece.ensures in
    let old = c.args.entries.now.items in
    c.in_ok-extend_from_slice.ensures.items
    ∙ ap₂ (λ (xs ys : List ℕ). xs ++ ys) c.loop-j.invariant piece
    ∙ append_assoc old _ _
    ∙ ap (λ (ys : List ℕ). old ++ ys) (row_more f c.args.r c.loop-j.j size c.requires.shapes there c.requires.row_in)

pub returns : goal.returns
returns c =
    let f = c.args.flash.now in
    let size : 1 ≤ f.b = omega (arith, c.b-b.ensures) in
    let across : c.div_ceil-across.result ≡ part_count f.cols f.b =
    parts_counted _ _ _ _ _ size c.cols.ensures c.b-b.ensures.size c.div_ceil-across.ensures in
    let last : c.loop-j.j ≡ part_count f.cols f.b = omega (arith, across) in
    let covers : f.cols ≤ part_count f.cols f.b * f.b = part_count_covers f.cols f.b size in
    let done : min (c.loop-j.j * f.b) f.cols ≡ f.cols = rw last (omega (arith, covers)) in
    c.loop-j.invariant ∙ ap (λ (n : ℕ). c.args.entries.now.items ++ first_items (gathered f.b (flash_block f) c.args.r) n) done
