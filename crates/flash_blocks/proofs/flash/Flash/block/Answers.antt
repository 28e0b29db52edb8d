use Rattle.std.proofs.Common.{◌≡◌, get_or, subst}
use Rattle.flash_blocks.specs.Flashes.{BlockedGrid}
use Rattle.flash_blocks.proofs.Places.{flash_block-read}
use Rattle.flash_blocks.proofs.flash.Flash.block.Goals as goal

pub returns : goal.returns
returns c =
    let read = subst (λ (f : BlockedGrid). c.index.result.now ≡ get_or f.blocks c.place-at.result c.index.result.now) c.self.view_is c.index.ensures in
    flash_block-read c.args.self.now c.args.i c.args.j c.place-at.result c.index.result.now c.place-at.ensures.place c.place-at.ensures.bound read
