use Rattle.std.proofs.Common.{◌≡◌, ℕ, ◌+◌, ◌-◌, ◌<◌, ◌≤◌, ◌⊎◌, inl, inr, ap, ◌∙◌, arith}
use Rattle.std.proofs.lemmas.Bool.{cases_lt}
use Rattle.residue_sums.specs.Grids.{entry}
use Rattle.matrix_algebra.proofs.Triangles.{IsTriangle-view, structure_of}
use Rattle.matrix_algebra.proofs.Places.{IsOrder-order_of}
use Rattle.matrix_parts.specs.Opers.{op_rows, op_table}
use Rattle.matrix_parts.specs.Lent.{grid_of}
use Rattle.part_solves.specs.LineSystems.{IsInLine, line_of, order_in}
use Rattle.part_solves.specs.SylvesterSystems.{block_of, columns_of, order_within}
use Rattle.part_solves.proofs.SylvesterSteps.{all_written, block_triangle, piece_solved}
use Rattle.part_solves.proofs.sylvester.SylvesterSystem.solve_piece.Goals as goal

pub returns-clause-solved : goal.returns-clause-solved
returns-clause-solved c =
    let system = c.args.self.now in
    let ready = c.requires.ready in
    let piece = c.requires.piece in
    let p = c.args.p in
    let t = system.columns.table in
    let u = system.rows.table in
    let m : ℕ = system.columns.reducer in
    let old = entry (grid_of c.args.w.now) in
    let new = entry (grid_of c.write_lines.new.w) in
    let r = columns_of c.reduce_piece.new.panel (op_rows t) in
    let x = columns_of c.solve_piece_rows.new.panel (op_rows t) in
    let col_triangle = IsTriangle-view u.primed u.structure (op_rows u) (entry u.part) ready.rows.triangular in
    let filled : (g k : ℕ) → g < p.lines → k < op_rows t → line_of c.fill_lines.new.panel (op_rows t) g k ≡ old k (p.first + g) =
    λ g k line row.
    let zero : 0 + k ≡ k = omega arith in
    let viewed : op_table c.lines_of.result (p.first + g) (0 + k) ≡ old (0 + k) (p.first + g) = rw (ready.columns_turned, ready.columns_general) at (c.lines_of.ensures.table (p.first + g) (0 + k)) in
    (rw c.size.ensures at c.fill_lines.ensures) g k line row ∙ viewed ∙ ap (λ (q : ℕ). old q (p.first + g)) zero in
    let written : (i g : ℕ) → i < op_rows t → g < p.lines → new i (p.first + g) ≡ x i g =
    λ i g row line.
    let inner : IsInLine system.columns.turned system.columns.inside (p.first + g) i = rw (ready.columns_turned, ready.columns_general) (λ h. h) in
    rw ready.columns_turned at (c.write_lines.ensures.here g i line row inner) in
    let outside : (i j : ℕ) → i < op_rows t → j < op_rows u → (j < p.first) ⊎ (p.first + p.lines ≤ j) → new i j ≡ old i j =
    λ i j row col place. (rw ready.columns_turned at c.write_lines.ensures.others) j i (omega (arith, c.requires.block.cols)) row (elim place [ inl less ↦ inl less | inr past ↦ inr (inl past) ]) in
    record {
      solved = λ i j row col start end.
          let at = piece.here j col start end in
          let g : ℕ = j - p.first in
          let line : g < p.lines = omega (arith, at.0, at.1) in
          let same : p.first + g ≡ j = omega (arith, at.0) in
          rw same at (piece_solved m (op_rows t) (op_rows u) p.lines p.first p.from p.len p.len system.negative (op_table t) (op_table u) (order_in u) col_triangle
          piece.within piece.done_within piece.apart piece.here piece.turns piece.before old r x new i g line
          (λ k below. written k g below line) (λ k below. written i k row below)
          (λ k below. outside i (p.from + k) row (omega (arith, piece.done_within)) (elim piece.apart [ inl after ↦ inr (omega arith) | inr before ↦ inl (omega arith) ]))
          (all_written m (op_rows t) p.lines system.negative (op_table t) (block_of p.first (op_table u)) (order_in t) (order_within u p.lines)
          (IsTriangle-view t.primed t.structure (op_rows t) (entry t.part) ready.columns.triangular)
          (block_triangle u.primed u.structure (op_rows u) p.first p.lines (entry u.part) ready.rows.triangular piece.within)
          (IsOrder-order_of (structure_of t.primed t.structure) (op_rows t)) (IsOrder-order_of (structure_of u.primed u.structure) p.lines)
          r x c.solve_piece_rows.ensures.solved i g row line)
          (rw (filled g i line row) at (c.reduce_piece.ensures.here g i line row)));
      others = λ i j row col place. elim (cases_lt j p.first) [
        | inl less ↦ outside i j row col (inl less)
        | inr later ↦ elim (cases_lt j (p.first + p.lines)) [
          | inl mine ↦ (let at = piece.turns j later mine in absurd (elim place [ inl early ↦ omega (arith, at.0) | inr late ↦ omega (arith, at.1) ]))
          | inr past ↦ outside i j row col (inr past)
        ]
      ];
      residues = c.write_lines.ensures.residues;
    }
