use Rattle.std.proofs.Common.{◌≡◌, ◌++◌}
use Rattle.flash_blocks.proofs.FirstRows.{first_items}
use Rattle.flash_blocks.specs.Blocks.{block_of}
use Rattle.flash_blocks.proofs.cutting.copy_blocks.Given as goal

abbrev pub invariant-loop-j : goal.invariant-loop-j
invariant-loop-j l = l.blocks.items ≡ l.initial.blocks.items ++ first_items (block_of l.b l.matrix l.i) l.j
