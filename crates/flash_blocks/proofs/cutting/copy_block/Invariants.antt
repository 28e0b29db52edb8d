use Rattle.std.proofs.Common.{◌≡◌}
use Rattle.residue_sums.specs.Grids.{entry}
use Rattle.flash_blocks.proofs.FirstRows.{first_rows, from_place}
use Rattle.flash_blocks.proofs.cutting.copy_block.Given as goal

abbrev pub invariant-loop-r : goal.invariant-loop-r
invariant-loop-r l = l.entries.items ≡ first_rows (from_place (entry l.matrix) l.top l.left) l.cols l.r
