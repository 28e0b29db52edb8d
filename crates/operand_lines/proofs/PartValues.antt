-- The value of a block, from what each place of the part that was written has.
use Rattle.std.proofs.Common.{◌≡◌, ℕ, ◌<◌, arith}
use Rattle.residue_sums.specs.Tables.{Table}
use Rattle.residue_sums.specs.Grids.{Grid, IsFull, entry}
use Rattle.structure_rules.specs.declared.Structure.{Structure}
use Rattle.structure_rules.specs.Structures.{IsInside, IsZero}
use Rattle.matrix_parts.specs.declared.part_mut.PartMut.{PartMut}
use Rattle.matrix_parts.specs.Lent.{grid_of}
use Rattle.equation.specs.Kernels.{IsValue}
use Rattle.operand_lines.proofs.PartResidues.{IsFull-part, AreResidues-by_place}

-- a part has the value whose equation holds at each inside place, and whose other entries are the old ones
pub IsValue-part : (m : ℕ) (s : Structure) (left : Table → Table) (right : Table) (old : Grid) (p : PartMut) → p.rows ≡ old.rows → p.cols ≡ old.cols
    → ((i j : ℕ) → i < old.rows → j < old.cols → entry (grid_of p) i j < m)
    → ((i j : ℕ) → i < old.rows → j < old.cols → IsInside s i j → left (entry (grid_of p)) i j ≡ right i j)
    → ((i j : ℕ) → i < old.rows → j < old.cols → IsZero s i j → entry (grid_of p) i j ≡ entry old i j)
    → IsValue m s left right old (grid_of p)
IsValue-part m s left right old p rows cols residues equation others =
    let full : IsFull (grid_of p) = IsFull-part p in
    record {
      rows = rows;
      cols = cols;
      full = full;
      residues = AreResidues-by_place m (grid_of p) full (λ i j row col. residues i j (omega arith) (omega arith));
      equation = equation;
      others = others;
    }
