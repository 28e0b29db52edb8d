use Rattle.std.proofs.Common.{◌≡◌, ℕ, ◌+◌, ◌*◌, subst, ◌∙◌, arith}
use Rattle.residue_sums.specs.Grids.{entry}
use Rattle.matrix_parts.specs.Opers.{op_rows}
use Rattle.matrix_parts.specs.Lent.{grid_of}
use Rattle.matrix_parts.proofs.Kept.{IsKept-then}
use Rattle.part_solves.specs.LineSystems.{order_in}
use Rattle.part_solves.specs.SylvesterSystems.{IsSylvesterTo}
use Rattle.part_solves.proofs.sylvester.SylvesterSystem.solve_row.Goals as goal

pub loop-r-preserved : goal.loop-r-preserved
loop-r-preserved c =
    let so_far = c.loop-r.invariant in
    let step = c.solve_entry.ensures in
    let start : ℕ = order_in c.args.self.now.columns.table c.args.row.unknown * op_rows c.args.self.now.rows.table in
    let next : start + c.loop-r.r + 1 ≡ start + (c.loop-r.r + 1) = omega arith in
    record {
      loan = step.loan ∙ so_far.loan;
      part = step.part;
      kept = IsKept-then c.args.w.now c.loop-r.w c.solve_entry.new.w so_far.kept step.kept;
      solved = λ before begun. subst (λ (q : ℕ). IsSylvesterTo c.args.self.now before (entry (grid_of c.solve_entry.new.w)) q) next
          ((rw c.equation_at.ensures.place at step.solved) before (so_far.solved before begun));
      residues = λ a b row col. step.residues a b (omega (arith, so_far.kept.rows)) (omega (arith, so_far.kept.cols));
    }
