use Rattle.std.proofs.Common.{◌≡◌, ℕ, ◌<◌, inl, inr, ◌∙◌, arith}
use Rattle.residue_sums.specs.Grids.{entry}
use Rattle.matrix_algebra.proofs.Triangles.{structure_of}
use Rattle.matrix_algebra.proofs.Places.{IsOrder-order_of}
use Rattle.matrix_parts.specs.Opers.{op_rows}
use Rattle.matrix_parts.specs.Lent.{grid_of}
use Rattle.matrix_parts.proofs.Kept.{IsKept-then}
use Rattle.part_solves.specs.LineSystems.{IsInLine, line_table, line_count, order_in}
use Rattle.part_solves.proofs.LinesDone.{line_count-kept, line_table-inside}
use Rattle.part_solves.proofs.line_systems.LineSystem.solve_line.Goals as goal

pub loop-r-preserved : goal.loop-r-preserved
loop-r-preserved c =
    let so_far = c.loop-r.invariant in
    let step = c.solve_plain_equation.ensures in
    let turned = c.args.self.now.turned in
    let count : line_count turned (grid_of c.loop-r.w) ≡ line_count turned (grid_of c.args.w.now) = line_count-kept turned c.args.w.now c.loop-r.w so_far.kept in
    record {
      loan = step.loan ∙ so_far.loan;
      part = step.part;
      kept = IsKept-then c.args.w.now c.loop-r.w c.solve_plain_equation.new.w so_far.kept step.kept;
      solved = (rw c.equation_at.ensures.place at step.solved) (line_table turned c.args.self.now.inside (entry (grid_of c.args.w.now)) c.args.line) so_far.solved;
      others = λ h k line below place. step.others h k (omega arith) below place ∙ so_far.others h k line below place;
      residues = λ a b row col. step.residues a b (omega (arith, so_far.kept.rows)) (omega (arith, so_far.kept.cols));
    }

pub returns-clause-solved : goal.returns-clause-solved
returns-clause-solved c =
    let so_far = c.loop-r.invariant in
    let system = c.args.self.now in
    let n : ℕ = op_rows system.table in
    let all : c.loop-r.r ≡ n = omega (arith, c.size-r-end.ensures) in
    record {
      solved = λ g i from end below inner. let same : g ≡ c.args.line = omega arith in
          let mine : IsInLine system.turned system.inside c.args.line i = rw same at inner in
          rw same (rw (line_table-inside system.turned system.inside (entry (grid_of c.args.w.now)) c.args.line i c.requires.ready.readable.work mine)
          at (so_far.solved.solved i below mine (let placed : order_in system.table i < n = (IsOrder-order_of (structure_of system.table.primed system.table.structure) n).below i below in omega arith)));
      others = λ g i line below place. elim place [
        | inl before ↦ so_far.others g i line below (inl (λ e. omega arith))
        | inr (inl behind) ↦ so_far.others g i line below (inl (λ e. omega arith))
        | inr (inr out) ↦ so_far.others g i line below (inr out)
      ];
      residues = so_far.residues;
    }
