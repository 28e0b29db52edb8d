use Rattle.std.proofs.Common.{◌≡◌, ℕ, ◌+◌, ◌*◌, subst, arith}
use Rattle.matrix_parts.specs.Opers.{op_rows}
use Rattle.part_solves.specs.SylvesterSystems.{IsPieceTo, columns_of}
use Rattle.part_solves.proofs.sylvester.SylvesterSystem.solve_piece_rows.Goals as goal

pub loop-r-preserved : goal.loop-r-preserved
loop-r-preserved c =
    let n : ℕ = op_rows c.args.self.now.columns.table in
    let size : ℕ = c.args.p.lines in
    let next : c.loop-r.r * size + size ≡ (c.loop-r.r + 1) * size = omega arith in
    record {
      solved = subst (λ (q : ℕ). IsPieceTo c.args.self.now c.args.p (columns_of c.args.panel.now n) (columns_of c.solve_piece_row.new.panel n) q) next
          ((rw c.equation_at-row.ensures.place at c.solve_piece_row.ensures.solved) (columns_of c.args.panel.now n) c.loop-r.invariant.solved);
      residues = c.solve_piece_row.ensures.residues;
    }
