use Rattle.std.proofs.Common.{sym, subst}
use Rattle.flash_blocks.specs.Flashes.{HasShapes}
use Rattle.flash_blocks.proofs.Cuts.{HasShapes-cut}
use Rattle.flash_blocks.proofs.gathering.tests.gathered_again.Goals as goal

pub gather-requires : goal.gather-requires
gather-requires c = subst HasShapes (sym c.in_ok-flash.ensures) (HasShapes-cut 2 c.args.matrix.now)
