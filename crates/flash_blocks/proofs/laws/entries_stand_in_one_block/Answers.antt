use Rattle.residue_sums.proofs.Parts.{index_from_place}
use Rattle.flash_blocks.specs.Flashes.{cut_of}
use Rattle.flash_blocks.proofs.Cuts.{gathered-cut}
use Rattle.flash_blocks.proofs.Places.{IsBlock-entry}
use Rattle.flash_blocks.proofs.laws.entries_stand_in_one_block.Goals as goal

pub returns-clause-block : goal.returns-clause-block
returns-clause-block c b g row col size row_in col_in = IsBlock-entry (cut_of b g) row col size row_in col_in

pub returns-clause-place : goal.returns-clause-place
returns-clause-place c b g row col size row_in col_in = ((index_from_place g.rows b row size row_in).1, (index_from_place g.cols b col size col_in).1)

pub returns-clause-there : goal.returns-clause-there
returns-clause-there c b g row col size row_in col_in = gathered-cut b g row col size row_in col_in
