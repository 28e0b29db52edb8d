-- The entries of a part are residues where each place has one, and the other way round. Cited by all kernels.
use Rattle.std.proofs.Common.{◌≡◌, ℕ, ◌*◌, ◌/◌, ◌%◌, ◌<◌, length, get_or, subst, arith}
use Rattle.std.proofs.Math.Nat.{mod-lt, pos_of_ne-zero}
use Rattle.std.proofs.lemmas.Nat.{div_below, div-add-mod'}
use Rattle.std.proofs.lemmas.List.Elements.{All-from_get_or}
use Rattle.residue_sums.specs.Grids.{Grid, IsFull, AreResidues, entry}
use Rattle.residue_sums.proofs.Grids.{entry_below}
use Rattle.matrix_parts.specs.declared.part_mut.PartMut.{PartMut}
use Rattle.matrix_parts.specs.Lent.{grid_of, IsKept}
use Rattle.matrix_parts.proofs.Rects.{IsFull-rect}

pub IsFull-part : (p : PartMut) → IsFull (grid_of p)
IsFull-part p = IsFull-rect p.entries.now p.first p.stride p.rows p.cols

-- an entry in the list, by its row and its column
entry_by_place : (m : ℕ) (g : Grid) → IsFull g → ((i j : ℕ) → i < g.rows → j < g.cols → entry g i j < m) → (k : ℕ) → k < length g.entries → get_or g.entries k 0 < m
entry_by_place m g full each k below =
    let pos : 0 < g.cols = pos_of_ne-zero (λ e. let none : g.rows * g.cols ≡ 0 = rw e (omega arith) in omega arith) in
    let row : k / g.cols < g.rows = div_below k g.cols g.rows pos (omega arith) in
    subst (λ (q : ℕ). get_or g.entries q 0 < m) (div-add-mod' k g.cols) (each (k / g.cols) (k % g.cols) row (mod-lt k pos))

-- a grid has residues where each place has one
pub AreResidues-by_place : (m : ℕ) (g : Grid) → IsFull g → ((i j : ℕ) → i < g.rows → j < g.cols → entry g i j < m) → AreResidues m g
AreResidues-by_place m g full each = All-from_get_or (λ x. x < m) g.entries 0 (entry_by_place m g full each)

-- a part that was written
pub AreResidues-part : (m : ℕ) (old new : PartMut) → IsKept old new → ((i j : ℕ) → i < old.rows → j < old.cols → entry (grid_of new) i j < m) → AreResidues m (grid_of new)
AreResidues-part m old new kept residues = AreResidues-by_place m (grid_of new) (IsFull-part new) (λ i j row col. residues i j (rw (← kept.rows) row) (rw (← kept.cols) col))

-- and by place
pub residue-part : (m : ℕ) (p : PartMut) → AreResidues m (grid_of p) → (i j : ℕ) → i < p.rows → j < p.cols → entry (grid_of p) i j < m
residue-part m p residues i j row col = entry_below m (grid_of p) i j (IsFull-part p) residues row col
