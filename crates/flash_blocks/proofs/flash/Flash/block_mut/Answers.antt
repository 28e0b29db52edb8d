use Rattle.std.proofs.Common.{ℕ, slice_set, ap, ◌∙◌, refl}
use Rattle.residue_sums.specs.Grids.{Grid}
use Rattle.flash_blocks.specs.Flashes.{BlockedGrid, flash_block, with_block}
use Rattle.flash_blocks.specs.contracts.flash.Flash.{the_view}
use Rattle.flash_blocks.proofs.Places.{flash_block-read}
use Rattle.flash_blocks.proofs.flash.Flash.block_mut.Goals as goal

pub returns : goal.returns
returns c =
    let inside = c.self.inside in
    let written = λ (w : Grid).
    ap (λ (k : ℕ). record { b = inside.b; rows = inside.rows; cols = inside.cols; blocks = slice_set inside.blocks.items k w }) c.place-at.ensures.place
    ∙ ap (λ (f : BlockedGrid). with_block f c.args.i c.args.j w) c.self.view_is in
    let read =
    flash_block-read (the_view inside) c.args.i c.args.j c.place-at.result c.index_mut.result.now c.place-at.ensures.place c.place-at.ensures.bound c.index_mut.ensures.value
    ∙ ap (λ (f : BlockedGrid). flash_block f c.args.i c.args.j) c.self.view_is in
    ((refl, written), record { writes_back = tt; block = read })
