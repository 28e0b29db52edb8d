use Rattle.std.proofs.Common.{◌≡◌, ℕ, ◌+◌, ◌*◌, ◌<◌, length, slice_index, ap, ◌∙◌, arith}
use Rattle.std.proofs.lemmas.Nat.{mul-add-lt}
use Rattle.residue_sums.specs.Residues.{Cong}
use Rattle.residue_sums.specs.Sums.{sum_below}
use Rattle.residue_sums.proofs.Sums.{without}
use Rattle.matrix_algebra.proofs.Triangles.{structure_of}
use Rattle.matrix_parts.specs.Opers.{op_rows, op_table}
use Rattle.part_solves.specs.LineSystems.{equation_of, early_of, late_of, line_of}
use Rattle.part_solves.proofs.PartedSums.{IsParted, IsParted-equation, IsInBand-early, IsInBand-late, early-apart, early-span, begun_sum}
use Rattle.part_solves.proofs.three_solves.solve_three.Goals as goal

pub early_sums-requires-clause-band : goal.early_sums-requires-clause-band
early_sums-requires-clause-band c s here =
    let o = structure_of c.args.system.now.table.primed c.args.system.now.table.structure in
    let n : ℕ = op_rows c.args.system.now.table in
    let start : ℕ = c.args.group.start in
    IsInBand-early c.args.rows.band (equation_of o n (start + s)) (early_of o n start s) (late_of o n start s) (c.requires.band s here)
    (IsParted-equation o n start s (omega (arith, here, c.requires.within)))

pub row_of_band-requires-clause-equation : goal.row_of_band-requires-clause-equation
row_of_band-requires-clause-equation c =
    let o = structure_of c.args.system.now.table.primed c.args.system.now.table.structure in
    let n : ℕ = op_rows c.args.system.now.table in
    let start : ℕ = c.args.group.start in
    let s : ℕ = c.loop-s.s in
    rw c.late_at-late.ensures (IsInBand-late c.args.rows.band (equation_of o n (start + s)) (early_of o n start s) (late_of o n start s) (c.requires.band s c.loop-s-test.true)
    (IsParted-equation o n start s (omega (arith, c.loop-s-test.true, c.requires.within))))

pub solve_begun-requires-clause-within : goal.solve_begun-requires-clause-within
solve_begun-requires-clause-within c =
    let o = structure_of c.args.system.now.table.primed c.args.system.now.table.structure in
    let n : ℕ = op_rows c.args.system.now.table in
    let start : ℕ = c.args.group.start in
    let s : ℕ = c.loop-s.s in
    let late = c.late_at-late.result in
    let whole = c.equation_at-whole.result in
    let parted : IsParted whole (early_of o n start s) late = rw (c.equation_at-whole.ensures.span, c.late_at-late.ensures) (IsParted-equation o n start s (omega (arith, c.loop-s-test.true, c.requires.within))) in
    omega (arith, parted.late_right, c.equation_at-whole.ensures.equation.within, c.row_of_band.ensures.len)

pub solve_begun-requires-clause-row : goal.solve_begun-requires-clause-row
solve_begun-requires-clause-row c k below =
    let o = structure_of c.args.system.now.table.primed c.args.system.now.table.structure in
    let n : ℕ = op_rows c.args.system.now.table in
    let start : ℕ = c.args.group.start in
    let s : ℕ = c.loop-s.s in
    let late = c.late_at-late.result in
    let whole = c.equation_at-whole.result in
    let parted : IsParted whole (early_of o n start s) late = rw (c.equation_at-whole.ensures.span, c.late_at-late.ensures) (IsParted-equation o n start s (omega (arith, c.loop-s-test.true, c.requires.within))) in
    c.row_of_band.ensures.entries k (omega (arith, below, c.row_of_band.ensures.len)) ∙ ap (λ (i : ℕ). op_table c.args.system.now.table i (late.from + k)) parted.late_unknown

pub solve_begun-requires-clause-early : goal.solve_begun-requires-clause-early
solve_begun-requires-clause-early c g line =
    let lines : ℕ = c.args.lines.count in
    let col : g < lines = omega (arith, line, c.loop-s.auto.sums, c.split_at_mut-early.ensures.back_len, c.requires.scratch) in
    rw (c.numbers_from.ensures.entries g col)
    (c.early_sums.ensures.range (c.loop-s.s * lines + g) (omega (arith, mul-add-lt c.loop-s.s lines g 3 (omega (arith, c.loop-s-test.true, c.requires.at_most_three)) col)))

pub loop-s-preserved : goal.loop-s-preserved
loop-s-preserved c =
    let t = c.args.system.now.table in
    let o = structure_of t.primed t.structure in
    let n : ℕ = op_rows t in
    let m : ℕ = c.args.system.now.reducer in
    let start : ℕ = c.args.group.start in
    let s : ℕ = c.loop-s.s in
    let late = c.late_at-late.result in
    let whole = c.equation_at-whole.result in
    let early = early_of o n start s in
    let below : start + s < n = omega (arith, c.loop-s-test.true, c.requires.within) in
    let parted : IsParted whole early late = rw (c.equation_at-whole.ensures.span, c.late_at-late.ensures) (IsParted-equation o n start s below) in
    let count : length c.loop-s.sums ≡ c.args.lines.count = omega (arith, c.loop-s.auto.sums, c.split_at_mut-early.ensures.back_len, c.requires.scratch) in
    let place : start + s + 1 ≡ start + (s + 1) = omega arith in
    let row = c.row_of_band.result.now in
    let equation = c.equation_at-whole.ensures.equation in
    let premise : (g : ℕ) → g < length c.loop-s.sums → Cong m (slice_index c.numbers_from.result.now g + sum_below (λ k. slice_index row k * line_of c.loop-s.panel n g (late.from + k)) (length row))
    (sum_below (without whole.unknown (λ k. op_table t whole.unknown k * line_of c.loop-s.panel n g k)) n) =
    λ g line. begun_sum m n whole.unknown (slice_index c.numbers_from.result.now g) (length row) (op_table t whole.unknown) (line_of c.loop-s.panel n g) (line_of c.args.panel.now n g) (slice_index row)
    whole early late parted equation.within equation.apart equation.zeros c.row_of_band.ensures.len
    (λ k within. c.row_of_band.ensures.entries k within ∙ ap (λ (i : ℕ). op_table t i (late.from + k)) parted.late_unknown)
    (λ k within. c.loop-s.invariant.kept s g k within)
    (c.numbers_from.ensures.entries g (omega (arith, count, line)) ∙ (rw parted.early_unknown at (c.early_sums.ensures.sums s c.loop-s-test.true g (omega (arith, count, line))))) in
    record {
      solved = λ before so_far g line. rw place at ((rw c.equation_at-whole.ensures.place at c.solve_begun.ensures.solved) before premise
          (λ h inside. c.loop-s.invariant.solved before so_far h (omega (arith, count, inside))) g (omega (arith, count, line)));
      kept = λ q g k within. c.solve_begun.ensures.others g ((early_of o n start q).from + k)
          (omega (arith, within, early-span o n start q (omega (arith, below)))) (rw c.equation_at-whole.ensures.span (early-apart o n start q s k below within))
          ∙ c.loop-s.invariant.kept q g k within;
      residues = λ g k line inside. c.solve_begun.ensures.residues g k (omega (arith, count, line)) inside;
    }

pub returns-clause-solved : goal.returns-clause-solved
returns-clause-solved c before so_far g line =
    let all : c.args.group.start + c.loop-s.s ≡ c.args.group.start + c.args.group.count = omega arith in
    rw all at (c.loop-s.invariant.solved before so_far g line)
