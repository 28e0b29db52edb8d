use Rattle.std.proofs.Common.{◌≡◌, ℕ, ◌+◌, ◌*◌, ◌%◌, length, arith}
use Rattle.row_products.proofs.FilledRows.{IsFilled, IsFilled-none, IsFilled-more, IsFilled-elsewhere}
use Rattle.row_products.proofs.HalfSums.{line_sum, residue_of_line}
use Rattle.row_products.proofs.three_rows.put_tile_sums.Goals as goal

pub returns-clause-first : goal.returns-clause-first
returns-clause-first c =
    let n : ℕ = c.args.lines in
    let j : ℕ = c.args.j in
    let next : ℕ = c.min-next.result in
    let place : ℕ → ℕ = λ i. i in
    let f : ℕ → ℕ = λ i. line_sum c.args.rows.first.now c.args.panel.entries.now c.args.panel.height c.args.panel.from (length c.args.rows.first.now) i % c.args.m in
    let none : IsFilled f place j 0 n (length c.args.sums.now) c.args.sums.now = IsFilled-none f place j n c.args.sums.now in
    let here_sum : c.residue.result ≡ f j =
    residue_of_line c.args.m c.args.rows.first.now c.line.result.now c.args.panel.entries.now c.args.panel.height c.args.panel.from (length c.args.rows.first.now) c.args.j
    c.requires.few c.requires.small_first (λ k p. c.requires.small_panel c.args.j k (omega (arith, c.requires.here, c.requires.sizes, c.min-next.ensures)) p)
    c.line.ensures.entries c.tile_halves-tile.ensures.first_here c.residue.ensures.value in
    let next_sum : c.residue-2.result ≡ f next =
    residue_of_line c.args.m c.args.rows.first.now c.line-2.result.now c.args.panel.entries.now c.args.panel.height c.args.panel.from (length c.args.rows.first.now) c.min-next.result
    c.requires.few c.requires.small_first (λ k p. c.requires.small_panel c.min-next.result k (omega (arith, c.requires.here, c.requires.sizes, c.min-next.ensures)) p)
    c.line-2.ensures.entries c.tile_halves-tile.ensures.first_next c.residue-2.ensures.value in
    (IsFilled-elsewhere c.residue-6.result (2 * c.args.lines + c.min-next.result)
    (IsFilled-elsewhere c.residue-5.result (2 * c.args.lines + c.args.j)
    (IsFilled-elsewhere c.residue-4.result (c.args.lines + c.min-next.result)
    (IsFilled-elsewhere c.residue-3.result (c.args.lines + c.args.j)
    (IsFilled-more c.residue-2.result c.min-next.result
    (IsFilled-more c.residue.result c.args.j
    none
    (omega (arith, c.requires.here, c.requires.sizes, c.min-next.ensures)) (λ i below ne. omega (arith, ne)) (omega (arith, c.requires.here, c.requires.sizes, c.min-next.ensures)) (omega (arith, c.requires.here, c.requires.sizes, c.min-next.ensures)) here_sum)
    (omega (arith, c.requires.here, c.requires.sizes, c.min-next.ensures)) (λ i below ne. omega (arith, ne)) (omega (arith, c.requires.here, c.requires.sizes, c.min-next.ensures)) (omega (arith, c.requires.here, c.requires.sizes, c.min-next.ensures)) next_sum)
    (λ i below. omega (arith, below, c.requires.here, c.requires.sizes, c.min-next.ensures)))
    (λ i below. omega (arith, below, c.requires.here, c.requires.sizes, c.min-next.ensures)))
    (λ i below. omega (arith, below, c.requires.here, c.requires.sizes, c.min-next.ensures)))
    (λ i below. omega (arith, below, c.requires.here, c.requires.sizes, c.min-next.ensures))).entries

pub returns-clause-second : goal.returns-clause-second
returns-clause-second c =
    let n : ℕ = c.args.lines in
    let j : ℕ = c.args.j in
    let next : ℕ = c.min-next.result in
    let place : ℕ → ℕ = λ i. c.args.lines + i in
    let f : ℕ → ℕ = λ i. line_sum c.args.rows.second.now c.args.panel.entries.now c.args.panel.height c.args.panel.from (length c.args.rows.first.now) i % c.args.m in
    let none : IsFilled f place j 0 n (length c.args.sums.now) c.args.sums.now = IsFilled-none f place j n c.args.sums.now in
    let here_sum : c.residue-3.result ≡ f j =
    residue_of_line c.args.m c.args.rows.second.now c.line.result.now c.args.panel.entries.now c.args.panel.height c.args.panel.from (length c.args.rows.first.now) c.args.j
    c.requires.few c.requires.small_second (λ k p. c.requires.small_panel c.args.j k (omega (arith, c.requires.here, c.requires.sizes, c.min-next.ensures)) p)
    c.line.ensures.entries c.tile_halves-tile.ensures.second_here c.residue-3.ensures.value in
    let next_sum : c.residue-4.result ≡ f next =
    residue_of_line c.args.m c.args.rows.second.now c.line-2.result.now c.args.panel.entries.now c.args.panel.height c.args.panel.from (length c.args.rows.first.now) c.min-next.result
    c.requires.few c.requires.small_second (λ k p. c.requires.small_panel c.min-next.result k (omega (arith, c.requires.here, c.requires.sizes, c.min-next.ensures)) p)
    c.line-2.ensures.entries c.tile_halves-tile.ensures.second_next c.residue-4.ensures.value in
    (IsFilled-elsewhere c.residue-6.result (2 * c.args.lines + c.min-next.result)
    (IsFilled-elsewhere c.residue-5.result (2 * c.args.lines + c.args.j)
    (IsFilled-more c.residue-4.result c.min-next.result
    (IsFilled-more c.residue-3.result c.args.j
    (IsFilled-elsewhere c.residue-2.result c.min-next.result
    (IsFilled-elsewhere c.residue.result c.args.j
    none
    (λ i below. omega (arith, below, c.requires.here, c.requires.sizes, c.min-next.ensures)))
    (λ i below. omega (arith, below, c.requires.here, c.requires.sizes, c.min-next.ensures)))
    (omega (arith, c.requires.here, c.requires.sizes, c.min-next.ensures)) (λ i below ne. omega (arith, ne)) (omega (arith, c.requires.here, c.requires.sizes, c.min-next.ensures)) (omega (arith, c.requires.here, c.requires.sizes, c.min-next.ensures)) here_sum)
    (omega (arith, c.requires.here, c.requires.sizes, c.min-next.ensures)) (λ i below ne. omega (arith, ne)) (omega (arith, c.requires.here, c.requires.sizes, c.min-next.ensures)) (omega (arith, c.requires.here, c.requires.sizes, c.min-next.ensures)) next_sum)
    (λ i below. omega (arith, below, c.requires.here, c.requires.sizes, c.min-next.ensures)))
    (λ i below. omega (arith, below, c.requires.here, c.requires.sizes, c.min-next.ensures))).entries

pub returns-clause-third : goal.returns-clause-third
returns-clause-third c =
    let n : ℕ = c.args.lines in
    let j : ℕ = c.args.j in
    let next : ℕ = c.min-next.result in
    let place : ℕ → ℕ = λ i. 2 * c.args.lines + i in
    let f : ℕ → ℕ = λ i. line_sum c.args.rows.third.now c.args.panel.entries.now c.args.panel.height c.args.panel.from (length c.args.rows.first.now) i % c.args.m in
    let none : IsFilled f place j 0 n (length c.args.sums.now) c.args.sums.now = IsFilled-none f place j n c.args.sums.now in
    let here_sum : c.residue-5.result ≡ f j =
    residue_of_line c.args.m c.args.rows.third.now c.line.result.now c.args.panel.entries.now c.args.panel.height c.args.panel.from (length c.args.rows.first.now) c.args.j
    c.requires.few c.requires.small_third (λ k p. c.requires.small_panel c.args.j k (omega (arith, c.requires.here, c.requires.sizes, c.min-next.ensures)) p)
    c.line.ensures.entries c.tile_halves-tile.ensures.third_here c.residue-5.ensures.value in
    let next_sum : c.residue-6.result ≡ f next =
    residue_of_line c.args.m c.args.rows.third.now c.line-2.result.now c.args.panel.entries.now c.args.panel.height c.args.panel.from (length c.args.rows.first.now) c.min-next.result
    c.requires.few c.requires.small_third (λ k p. c.requires.small_panel c.min-next.result k (omega (arith, c.requires.here, c.requires.sizes, c.min-next.ensures)) p)
    c.line-2.ensures.entries c.tile_halves-tile.ensures.third_next c.residue-6.ensures.value in
    (IsFilled-more c.residue-6.result c.min-next.result
    (IsFilled-more c.residue-5.result c.args.j
    (IsFilled-elsewhere c.residue-4.result (c.args.lines + c.min-next.result)
    (IsFilled-elsewhere c.residue-3.result (c.args.lines + c.args.j)
    (IsFilled-elsewhere c.residue-2.result c.min-next.result
    (IsFilled-elsewhere c.residue.result c.args.j
    none
    (λ i below. omega (arith, below, c.requires.here, c.requires.sizes, c.min-next.ensures)))
    (λ i below. omega (arith, below, c.requires.here, c.requires.sizes, c.min-next.ensures)))
    (λ i below. omega (arith, below, c.requires.here, c.requires.sizes, c.min-next.ensures)))
    (λ i below. omega (arith, below, c.requires.here, c.requires.sizes, c.min-next.ensures)))
    (omega (arith, c.requires.here, c.requires.sizes, c.min-next.ensures)) (λ i below ne. omega (arith, ne)) (omega (arith, c.requires.here, c.requires.sizes, c.min-next.ensures)) (omega (arith, c.requires.here, c.requires.sizes, c.min-next.ensures)) here_sum)
    (omega (arith, c.requires.here, c.requires.sizes, c.min-next.ensures)) (λ i below ne. omega (arith, ne)) (omega (arith, c.requires.here, c.requires.sizes, c.min-next.ensures)) (omega (arith, c.requires.here, c.requires.sizes, c.min-next.ensures)) next_sum).entries
