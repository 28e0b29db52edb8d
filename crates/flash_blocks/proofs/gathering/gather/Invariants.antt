use Rattle.std.proofs.Common.{◌≡◌}
use Rattle.flash_blocks.specs.Blocks.{gathered}
use Rattle.flash_blocks.specs.Flashes.{flash_block}
use Rattle.flash_blocks.proofs.FirstRows.{first_rows}
use Rattle.flash_blocks.proofs.gathering.gather.Given as goal

abbrev pub invariant-loop-r : goal.invariant-loop-r
invariant-loop-r l = l.entries.items ≡ first_rows (gathered l.flash.b (flash_block l.flash)) l.cols l.r
