use Rattle.std.proofs.Common.{◌≡◌, ℕ, ◌+◌, ◌*◌, ◌<◌, refl, ◌∙◌, arith}
use Rattle.residue_sums.specs.Residues.{Cong}
use Rattle.residue_sums.specs.Sums.{sum_below}
use Rattle.residue_sums.specs.Tables.{oriented}
use Rattle.residue_sums.specs.Grids.{entry}
use Rattle.matrix_algebra.proofs.Triangles.{structure_of}
use Rattle.matrix_algebra.proofs.Places.{IsOrder-order_of}
use Rattle.matrix_parts.specs.Opers.{op_rows, op_table}
use Rattle.matrix_parts.specs.Lent.{grid_of}
use Rattle.part_solves.specs.LineSystems.{IsInLine, line_of, line_table, order_in}
use Rattle.part_solves.proofs.LinesDone.{by_shift, line_done}
use Rattle.part_solves.proofs.line_systems.LineSystem.solve_piece.Goals as goal

pub returns-clause-solved : goal.returns-clause-solved
returns-clause-solved c =
    let system = c.args.self.now in
    let t = system.table in
    let n : ℕ = op_rows t in
    let old = entry (grid_of c.args.w.now) in
    let new = entry (grid_of c.write_lines.new.w) in
    let copied : (g k : ℕ) → g < c.args.lines.count → k < n → line_of c.fill_lines.new.panel n g k ≡ line_table system.turned system.inside old (c.args.lines.first + g) k =
    λ g k line below. (rw c.size.ensures at c.fill_lines.ensures) g k line below ∙ c.lines_of.ensures.table (c.args.lines.first + g) (0 + k) ∙ (let zero : 0 + k ≡ k = omega arith in rw zero refl) in
    record {
      solved = λ g i from end below inner. by_shift (λ g. IsInLine system.turned system.inside g i
          → Cong system.reducer (sum_below (λ k. op_table t i k * line_table system.turned system.inside new g k) n) (oriented system.turned old g i))
          c.args.lines.first c.args.lines.count
          (λ g line. line_done system.reducer n system.turned system.inside (op_table t) (order_in t) old new (c.args.lines.first + g) (line_of c.fill_lines.new.panel n g) (line_of c.solve_panel.new.panel n g)
          c.requires.ready.readable.work (IsOrder-order_of (structure_of t.primed t.structure) n).below (λ k col. copied g k line col) (c.solve_panel.ensures.solved g line)
          (λ k col inside. c.write_lines.ensures.here g k line col inside) i below)
          g from end inner;
      others = c.write_lines.ensures.others;
      residues = c.write_lines.ensures.residues;
    }
