use Rattle.std.proofs.Common.{◌≡◌, ℕ, ◌%◌, length, arith}
use Rattle.row_products.proofs.FilledRows.{IsFilled, IsFilled-none, IsFilled-more}
use Rattle.row_products.proofs.HalfSums.{line_sum, residue_of_line}
use Rattle.row_products.proofs.one_row.put_four_sums.Goals as goal

pub returns-clause-sums : goal.returns-clause-sums
returns-clause-sums c =
    let n : ℕ = length c.args.sums.now in
    let f : ℕ → ℕ = λ i. line_sum c.args.row.now c.args.panel.entries.now c.args.panel.height c.args.panel.from (length c.args.row.now) i % c.args.m in
    let none : IsFilled f (λ i. i) c.args.j 0 n n c.args.sums.now = IsFilled-none f (λ i. i) c.args.j n c.args.sums.now in
    let first : c.residue.result ≡ f c.args.j =
    residue_of_line c.args.m c.args.row.now c.line.result.now c.args.panel.entries.now c.args.panel.height c.args.panel.from (length c.args.row.now) c.args.j
    c.requires.few c.requires.small_row (λ k p. c.requires.small_panel c.args.j k (omega (arith, c.requires.here, c.requires.here)) p)
    c.line.ensures.entries c.four_halves-halves.ensures.first c.residue.ensures.value in
    let second : c.residue-2.result ≡ f c.min-second.result =
    residue_of_line c.args.m c.args.row.now c.line-2.result.now c.args.panel.entries.now c.args.panel.height c.args.panel.from (length c.args.row.now) c.min-second.result
    c.requires.few c.requires.small_row (λ k p. c.requires.small_panel c.min-second.result k (omega (arith, c.requires.here, c.min-second.ensures)) p)
    c.line-2.ensures.entries c.four_halves-halves.ensures.second c.residue-2.ensures.value in
    let third : c.residue-3.result ≡ f c.min-third.result =
    residue_of_line c.args.m c.args.row.now c.line-3.result.now c.args.panel.entries.now c.args.panel.height c.args.panel.from (length c.args.row.now) c.min-third.result
    c.requires.few c.requires.small_row (λ k p. c.requires.small_panel c.min-third.result k (omega (arith, c.requires.here, c.min-third.ensures)) p)
    c.line-3.ensures.entries c.four_halves-halves.ensures.third c.residue-3.ensures.value in
    let fourth : c.residue-4.result ≡ f c.min-fourth.result =
    residue_of_line c.args.m c.args.row.now c.line-4.result.now c.args.panel.entries.now c.args.panel.height c.args.panel.from (length c.args.row.now) c.min-fourth.result
    c.requires.few c.requires.small_row (λ k p. c.requires.small_panel c.min-fourth.result k (omega (arith, c.requires.here, c.min-fourth.ensures)) p)
    c.line-4.ensures.entries c.four_halves-halves.ensures.fourth c.residue-4.ensures.value in
    (IsFilled-more c.residue-4.result c.min-fourth.result
    (IsFilled-more c.residue-3.result c.min-third.result
    (IsFilled-more c.residue-2.result c.min-second.result
    (IsFilled-more c.residue.result c.args.j
    none
    (omega (arith, c.requires.here)) (λ i below ne. ne) (omega (arith, c.requires.here)) (omega (arith, c.requires.here)) first)
    (omega (arith, c.requires.here, c.min-second.ensures)) (λ i below ne. ne) (omega (arith, c.requires.here)) (omega (arith, c.requires.here, c.min-second.ensures)) second)
    (omega (arith, c.requires.here, c.min-third.ensures)) (λ i below ne. ne) (omega (arith, c.requires.here)) (omega (arith, c.requires.here, c.min-third.ensures)) third)
    (omega (arith, c.requires.here, c.min-fourth.ensures)) (λ i below ne. ne) (omega (arith, c.requires.here)) (omega (arith, c.requires.here, c.min-fourth.ensures)) fourth).entries
