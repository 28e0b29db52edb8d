use Rattle.std.proofs.Common.{◌≡◌, ℕ, ◌+◌, ◌-◌, ◌*◌, ◌<◌, min, List, length, slice_index, refl, ◌∙◌, ap, arith}
use Rattle.residue_sums.specs.Tables.{Table}
use Rattle.matrix_parts.specs.Opers.{op_table}
use Rattle.operand_lines.proofs.PanelPlaces.{line_room}
use Rattle.part_updates.proofs.PanelSums.{sums_by_row}
use Rattle.part_updates.proofs.updates.rows.filled_sums.Goals as goal

-- a line of filled rows has part of a row of the operand
of_line : (a : Table) (row inner begin width n count e d : ℕ) (rows line : List ℕ) → n ≡ width → d ≡ e → e < count
    → ((k : ℕ) → k < width → slice_index line k ≡ slice_index rows (d * width + k))
    → ((g k : ℕ) → g < count → k < width → slice_index rows (g * width + k) ≡ a (row + g) (inner + begin + k))
    → (k : ℕ) → k < n → slice_index line k ≡ a (row + e) (inner + (begin + k))
of_line a row inner begin width n count e d rows line all same below line_is rows_are k within =
    let at : inner + begin + k ≡ inner + (begin + k) = omega arith in
    line_is k (omega arith) ∙ rw same (rows_are e k below (omega arith)) ∙ ap (λ (q : ℕ). a (row + e) q) at

pub filled_row-requires-2 : goal.filled_row-requires-2
filled_row-requires-2 c = omega (arith, line_room c.min.result 3 c.span_of-span.result.width (omega arith))

pub filled_row-requires-3 : goal.filled_row-requires-3
filled_row-requires-3 c = omega (arith, line_room c.min-2.result 3 c.span_of-span.result.width (omega arith))

pub returns-clause-sums : goal.returns-clause-sums
returns-clause-sums c r j here col =
    let a = op_table c.args.a.now in
    let begin = c.span_of-span.result.begin in
    let width = c.span_of-span.result.width in
    let count = c.rows_from-count.result in
    let n = length c.filled_row.result.now in
    let all : n ≡ width = c.filled_row.ensures.len in
    let first : (k : ℕ) → k < n → slice_index c.filled_row.result.now k ≡ a c.args.tile.row (c.args.tile.inner + (begin + k)) =
    λ k within. of_line a c.args.tile.row c.args.tile.inner begin width n count 0 0
    c.fill_lines.new.panel c.filled_row.result.now all refl (omega arith) c.filled_row.ensures.entries c.fill_lines.ensures k within
    ∙ ap (λ (i : ℕ). a i (c.args.tile.inner + (begin + k))) (omega arith) in
    sums_by_row c.args.m a c.args.tile.row c.args.tile.inner c.args.panel.height c.args.tile.lines
    count begin n c.filled_row.result.now c.filled_row-2.result.now c.filled_row-3.result.now
    c.three_row_sums.new.sums c.args.panel.entries.now (omega arith) (omega (arith, all, c.span_of-span.ensures.within))
    (λ s k row below beside. c.span_of-span.ensures.zero (c.args.tile.row + s) k (omega arith) (omega arith) below (rw all at beside)) first
    (of_line a c.args.tile.row c.args.tile.inner begin width n count (min 1 (count - 1)) _
    c.fill_lines.new.panel c.filled_row-2.result.now all c.min.ensures (omega arith) c.filled_row-2.ensures.entries c.fill_lines.ensures)
    (of_line a c.args.tile.row c.args.tile.inner begin width n count (min 2 (count - 1)) _
    c.fill_lines.new.panel c.filled_row-3.result.now all c.min-2.ensures (omega arith) c.filled_row-3.ensures.entries c.fill_lines.ensures)
    c.three_row_sums.ensures.first c.three_row_sums.ensures.second c.three_row_sums.ensures.third r j (omega arith) col
