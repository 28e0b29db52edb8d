use Rattle.std.proofs.Common.{◌≡◌, ℕ, zero, suc, ◌+◌, ◌*◌, ◌<◌, ◌≤◌, List, length, slice_index, sym, ap, ◌∙◌, arith}
use Rattle.structure_rules.specs.declared.Structure.{Structure}
use Rattle.residue_sums.specs.Tables.{Table}
use Rattle.matrix_algebra.proofs.Triangles.{structure_of}
use Rattle.matrix_parts.specs.Opers.{op_rows, op_table}
use Rattle.part_solves.specs.declared.line_systems.Equation.{Equation}
use Rattle.part_solves.specs.LineSystems.{early_of}
use Rattle.part_solves.proofs.PartedSums.{early-len, early-below, early-span, early_row_sum}
use Rattle.part_solves.proofs.three_solves.early_sums.Goals as goal

-- a row of an early part is as long as the first one's
as_long : (s : Structure) (n r late : ℕ) (e first : Equation) (xs ys : List ℕ) → first ≡ early_of s n r 0 → e ≡ early_of s n r late
    → length xs ≡ e.len → length ys ≡ first.len → length xs ≡ length ys
as_long s n r late e first xs ys first_is e_is xs_len ys_len =
    xs_len ∙ ap (λ (e : Equation). e.len) e_is ∙ early-len s n r late ∙ sym (ap (λ (e : Equation). e.len) first_is) ∙ sym ys_len

-- and has residues
small : (s : Structure) (n r late m limit : ℕ) (t : Table) (e : Equation) (row : List ℕ) → r + late < n → e ≡ early_of s n r late → m ≤ limit
    → ((i k : ℕ) → i < n → k < n → t i k < m) → ((k : ℕ) → k < e.len → slice_index row k ≡ t e.unknown (e.from + k))
    → (k : ℕ) → k < e.len → slice_index row k < limit
small s n r late m limit t e row below e_is most residues row_is k within =
    let unknown : e.unknown < n = rw e_is (early-below s n r late below) in
    let span : e.from + e.len ≤ n = rw e_is (early-span s n r late (omega arith)) in
    rw (row_is k within) (omega (arith, residues e.unknown (e.from + k) unknown (omega arith)))

pub three_row_sums-requires-clause-len_second : goal.three_row_sums-requires-clause-len_second
three_row_sums-requires-clause-len_second c = as_long (structure_of c.args.system.now.table.primed c.args.system.now.table.structure) (op_rows c.args.system.now.table)
    c.args.group.start c.min.result c.early_at-second.result c.early_at-first.result c.row_of_band-2.result.now c.row_of_band.result.now
    c.early_at-first.ensures c.early_at-second.ensures c.row_of_band-2.ensures.len c.row_of_band.ensures.len

pub three_row_sums-requires-clause-len_third : goal.three_row_sums-requires-clause-len_third
three_row_sums-requires-clause-len_third c = as_long (structure_of c.args.system.now.table.primed c.args.system.now.table.structure) (op_rows c.args.system.now.table)
    c.args.group.start c.min-2.result c.early_at-third.result c.early_at-first.result c.row_of_band-3.result.now c.row_of_band.result.now
    c.early_at-first.ensures c.early_at-third.ensures c.row_of_band-3.ensures.len c.row_of_band.ensures.len

pub three_row_sums-requires-clause-within : goal.three_row_sums-requires-clause-within
three_row_sums-requires-clause-within c =
    let e = c.early_at-first.result in
    let span : e.from + e.len ≤ op_rows c.args.system.now.table =
    rw c.early_at-first.ensures (early-span (structure_of c.args.system.now.table.primed c.args.system.now.table.structure) (op_rows c.args.system.now.table) c.args.group.start 0 (omega (arith, c.requires.some, c.requires.within))) in
    omega (arith, span, c.row_of_band.ensures.len, c.size.ensures)

pub three_row_sums-requires-clause-few : goal.three_row_sums-requires-clause-few
three_row_sums-requires-clause-few c =
    let e = c.early_at-first.result in
    let span : e.from + e.len ≤ op_rows c.args.system.now.table =
    rw c.early_at-first.ensures (early-span (structure_of c.args.system.now.table.primed c.args.system.now.table.structure) (op_rows c.args.system.now.table) c.args.group.start 0 (omega (arith, c.requires.some, c.requires.within))) in
    omega (arith, span, c.row_of_band.ensures.len, c.requires.few)

pub three_row_sums-requires-clause-small_first : goal.three_row_sums-requires-clause-small_first
three_row_sums-requires-clause-small_first c k within =
    small (structure_of c.args.system.now.table.primed c.args.system.now.table.structure) (op_rows c.args.system.now.table) c.args.group.start 0
    c.args.system.now.reducer 4294967296 (op_table c.args.system.now.table) c.early_at-first.result c.row_of_band.result.now (omega (arith, c.requires.some, c.requires.within))
    c.early_at-first.ensures (omega (arith, c.has_residues.ensures.modulus.below_limit)) c.has_residues.ensures.table c.row_of_band.ensures.entries
    k (omega (arith, c.row_of_band.ensures.len))

pub three_row_sums-requires-clause-small_second : goal.three_row_sums-requires-clause-small_second
three_row_sums-requires-clause-small_second c k within =
    small (structure_of c.args.system.now.table.primed c.args.system.now.table.structure) (op_rows c.args.system.now.table) c.args.group.start c.min.result
    c.args.system.now.reducer 4294967296 (op_table c.args.system.now.table) c.early_at-second.result c.row_of_band-2.result.now (omega (arith, c.min.ensures, c.requires.some, c.requires.within))
    c.early_at-second.ensures (omega (arith, c.has_residues.ensures.modulus.below_limit)) c.has_residues.ensures.table c.row_of_band-2.ensures.entries
    k (omega (arith, c.row_of_band-2.ensures.len, three_row_sums-requires-clause-len_second c))

pub three_row_sums-requires-clause-small_third : goal.three_row_sums-requires-clause-small_third
three_row_sums-requires-clause-small_third c k within =
    small (structure_of c.args.system.now.table.primed c.args.system.now.table.structure) (op_rows c.args.system.now.table) c.args.group.start c.min-2.result
    c.args.system.now.reducer 4294967296 (op_table c.args.system.now.table) c.early_at-third.result c.row_of_band-3.result.now (omega (arith, c.min-2.ensures, c.requires.some, c.requires.within))
    c.early_at-third.ensures (omega (arith, c.has_residues.ensures.modulus.below_limit)) c.has_residues.ensures.table c.row_of_band-3.ensures.entries
    k (omega (arith, c.row_of_band-3.ensures.len, three_row_sums-requires-clause-len_third c))

pub returns-clause-sums : goal.returns-clause-sums
returns-clause-sums c zero here g line =
    let place : zero * c.args.lines + g ≡ g = omega arith in
    rw place (early_row_sum (structure_of c.args.system.now.table.primed c.args.system.now.table.structure) (op_rows c.args.system.now.table) c.args.group.start zero
    c.args.system.now.reducer (length c.row_of_band.result.now) g _ (op_table c.args.system.now.table) c.early_at-first.result c.early_at-first.result c.row_of_band.result.now c.args.panel.now
    c.early_at-first.ensures c.early_at-first.ensures c.row_of_band.ensures.len c.row_of_band.ensures.entries
    (rw c.size.ensures at (c.three_row_sums.ensures.first g line)))
returns-clause-sums c (suc zero) here g line =
    let place : suc zero * c.args.lines + g ≡ c.args.lines + g = omega arith in
    let one : c.min.result ≡ suc zero = omega (arith, c.min.ensures) in
    rw place (early_row_sum (structure_of c.args.system.now.table.primed c.args.system.now.table.structure) (op_rows c.args.system.now.table) c.args.group.start (suc zero)
    c.args.system.now.reducer (length c.row_of_band.result.now) g _ (op_table c.args.system.now.table) c.early_at-second.result c.early_at-first.result c.row_of_band-2.result.now c.args.panel.now
    c.early_at-first.ensures (rw one at c.early_at-second.ensures) c.row_of_band.ensures.len c.row_of_band-2.ensures.entries
    (rw c.size.ensures at (c.three_row_sums.ensures.second g line)))
returns-clause-sums c (suc (suc zero)) here g line =
    let place : suc (suc zero) * c.args.lines + g ≡ 2 * c.args.lines + g = omega arith in
    let two : c.min-2.result ≡ suc (suc zero) = omega (arith, c.min-2.ensures) in
    rw place (early_row_sum (structure_of c.args.system.now.table.primed c.args.system.now.table.structure) (op_rows c.args.system.now.table) c.args.group.start (suc (suc zero))
    c.args.system.now.reducer (length c.row_of_band.result.now) g _ (op_table c.args.system.now.table) c.early_at-third.result c.early_at-first.result c.row_of_band-3.result.now c.args.panel.now
    c.early_at-first.ensures (rw two at c.early_at-third.ensures) c.row_of_band.ensures.len c.row_of_band-3.ensures.entries
    (rw c.size.ensures at (c.three_row_sums.ensures.third g line)))
returns-clause-sums c (suc (suc (suc s))) here g line = absurd (omega (arith, here, c.requires.at_most_three))
