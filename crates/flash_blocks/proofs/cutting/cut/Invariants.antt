use Rattle.std.proofs.Common.{◌≡◌}
use Rattle.flash_blocks.specs.Blocks.{block_of}
use Rattle.flash_blocks.proofs.FirstRows.{first_rows}
use Rattle.flash_blocks.proofs.cutting.cut.Given as goal

abbrev pub invariant-loop-i : goal.invariant-loop-i
invariant-loop-i l = l.blocks.items ≡ first_rows (block_of l.b l.matrix) l.across l.i
