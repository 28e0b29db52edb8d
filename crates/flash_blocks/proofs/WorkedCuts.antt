-- The cuts of small matrices, computed.
use Rattle.std.proofs.Common.{◌≡◌, [], ◌∷◌, refl}
use Rattle.residue_sums.specs.Grids.{Grid}
use Rattle.flash_blocks.specs.Blocks.{gathered, grid_of}
use Rattle.flash_blocks.specs.Flashes.{cut_of, flash_block}

-- 1 2 3 / 4 5 6 / 7 8 9
abbrev three : Grid
three = record { rows = 3; cols = 3; entries = 1 ∷ 2 ∷ 3 ∷ 4 ∷ 5 ∷ 6 ∷ 7 ∷ 8 ∷ 9 ∷ [] }

-- 1 2 3 / 4 5 6
abbrev wide : Grid
wide = record { rows = 2; cols = 3; entries = 1 ∷ 2 ∷ 3 ∷ 4 ∷ 5 ∷ 6 ∷ [] }

under_two : cut_of 2 three ≡ record {
  b = 2;
  rows = 3;
  cols = 3;
  blocks =
      record { rows = 2; cols = 2; entries = 1 ∷ 2 ∷ 4 ∷ 5 ∷ [] }
      ∷ record { rows = 2; cols = 1; entries = 3 ∷ 6 ∷ [] }
      ∷ record { rows = 1; cols = 2; entries = 7 ∷ 8 ∷ [] }
      ∷ record { rows = 1; cols = 1; entries = 9 ∷ [] }
      ∷ [];
}
under_two = refl

wide_under_two : (cut_of 2 wide).blocks ≡ record { rows = 2; cols = 2; entries = 1 ∷ 2 ∷ 4 ∷ 5 ∷ [] } ∷ record { rows = 2; cols = 1; entries = 3 ∷ 6 ∷ [] } ∷ []
wide_under_two = refl

under_four : (cut_of 4 three).blocks ≡ three ∷ []
under_four = refl

no_rows : (cut_of 2 (record { rows = 0; cols = 3; entries = [] })).blocks ≡ []
no_rows = refl

gathered_from_two : grid_of (gathered 2 (flash_block (cut_of 2 three))) 3 3 ≡ three
gathered_from_two = refl
