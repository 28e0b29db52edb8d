use Rattle.std.proofs.Common.{◌≡◌, ℕ, ◌+◌, ◌-◌, ◌*◌, ◌≤◌, slice_index, ap, ap₂, ◌∙◌, arith}
use Rattle.std.proofs.lemmas.Nat.{row_fits}
use Rattle.matrix_parts.specs.Opers.{op_table}
use Rattle.part_solves.proofs.three_solves.row_of_band.Goals as goal

pub numbers_from-requires : goal.numbers_from-requires
numbers_from-requires c =
    let band = c.args.rows.band in
    let e = c.args.e in
    let row : ℕ = e.unknown - band.row in
    let fits : row * band.width + band.width ≤ band.count * band.width = row_fits row band.width band.count band.width (omega (arith, c.requires.equation.below, c.requires.equation.above)) (omega arith) in
    omega (arith, fits, c.requires.rows.room, c.requires.equation.left, c.requires.equation.right)

pub returns-clause-entries : goal.returns-clause-entries
returns-clause-entries c k below =
    let t = op_table c.args.system.now.table in
    let band = c.args.rows.band in
    let e = c.args.e in
    let row : ℕ = e.unknown - band.row in
    let col : ℕ = e.from - band.from in
    let place : row * band.width + col + k ≡ row * band.width + (col + k) = omega arith in
    let row_is : band.row + row ≡ e.unknown = omega (arith, c.requires.equation.above) in
    let col_is : band.from + (col + k) ≡ e.from + k = omega (arith, c.requires.equation.left) in
    c.numbers_from.ensures.entries k below ∙ ap (λ (p : ℕ). slice_index c.args.rows.entries.now p) place
    ∙ c.requires.rows.entries row (col + k) (omega (arith, c.requires.equation.below, c.requires.equation.above)) (omega (arith, c.requires.equation.left, c.requires.equation.right))
    ∙ ap₂ (λ (i j : ℕ). t i j) row_is col_is
