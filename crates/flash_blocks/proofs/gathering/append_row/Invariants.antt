use Rattle.std.proofs.Common.{◌≡◌, ◌*◌, ◌++◌, min}
use Rattle.flash_blocks.specs.Blocks.{gathered}
use Rattle.flash_blocks.specs.Flashes.{flash_block}
use Rattle.flash_blocks.proofs.FirstRows.{first_items}
use Rattle.flash_blocks.proofs.gathering.append_row.Given as goal

abbrev pub invariant-loop-j : goal.invariant-loop-j
invariant-loop-j l =
    l.entries.items ≡ l.initial.entries.items ++ first_items (gathered l.flash.b (flash_block l.flash) l.r) (min (l.j * l.flash.b) l.flash.cols)
