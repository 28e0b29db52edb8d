use Rattle.std.proofs.Common.{◌≡◌, ◌<◌, slice_index, ap, ◌∙◌, arith}
use Rattle.residue_sums.specs.Grids.{Grid, entry}
use Rattle.matrix_parts.specs.Lent.{grid_of}
use Rattle.part_factors.proofs.FoundEntries.{small_after}
use Rattle.part_factors.proofs.PieceRows.{IsRowFound-ldl_diagonal}
use Rattle.part_factors.proofs.ldl_rows.find_diagonal.Goals as goal

pub returns-clause-residues : goal.returns-clause-residues
returns-clause-residues c =
    let here : entry (grid_of c.set.new.self) c.args.row c.args.row < c.args.m = rw c.set.ensures.here c.diagonal_value-value.ensures.range in
    small_after c.args.w.now.rows c.args.w.now.cols c.args.row c.args.row c.args.m (entry (grid_of c.args.w.now)) (entry (grid_of c.set.new.self)) c.requires.residues here c.set.ensures.others

pub returns-clause-found : goal.returns-clause-found
returns-clause-found c =
    let cols : c.as_part.result.cols ≡ c.args.w.now.cols = ap (λ (g : Grid). g.cols) c.as_part.ensures in
    IsRowFound-ldl_diagonal c.args.m c.args.w.now.rows (entry (grid_of c.args.w.now)) (entry (grid_of c.set.new.self)) c.args.row c.diagonal_value-value.result (λ k. slice_index c.row.result.now k) (λ k. slice_index c.args.line.now k)
    c.requires.row_in (λ a b row col apart. c.set.ensures.others a b row (omega (arith, c.requires.square)) apart) c.set.ensures.here
    (λ k below. c.row.ensures.entries k (omega (arith, c.requires.square)) ∙ ap (λ (g : Grid). entry g c.args.row k) c.as_part.ensures) c.requires.scaled c.diagonal_value-value.ensures.value
