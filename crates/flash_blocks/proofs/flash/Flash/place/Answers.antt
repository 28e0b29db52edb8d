use Rattle.std.proofs.Common.{◌≡◌, ◌∙◌, subst, refl}
use Rattle.residue_sums.specs.Sums.{part_count}
use Rattle.residue_sums.proofs.Parts.{div_ceil_is_part_count}
use Rattle.flash_blocks.specs.Flashes.{BlockedGrid, IsFlash}
use Rattle.flash_blocks.proofs.Places.{block_place-below}
use Rattle.flash_blocks.proofs.flash.Flash.place.Goals as goal

pub returns : goal.returns
returns c =
    let across : c.div_ceil.result ≡ part_count c.args.self.now.cols c.args.self.now.b =
    subst (λ (f : BlockedGrid). c.div_ceil.result ≡ part_count f.cols f.b) c.self.view_is
    (c.div_ceil.ensures ∙ div_ceil_is_part_count c.self.inside.cols c.self.inside.b c.self.invariant.size) in
    let flash : IsFlash c.args.self.now = subst IsFlash c.self.view_is c.self.invariant in
    let below = block_place-below c.args.self.now c.args.i c.args.j flash (record { row = c.requires.row_in; col = c.requires.col_in }) in
    rw across (record { place = refl; bound = below })
