use Rattle.std.proofs.Common.{ℕ, ◌+◌, inl, inr, ◌∙◌, arith}
use Rattle.std.proofs.lemmas.Bool.{cases_lt}
use Rattle.residue_sums.specs.Grids.{entry}
use Rattle.residue_sums.proofs.Congruence.{Cong-trans, Cong-from_same}
use Rattle.matrix_algebra.proofs.Triangles.{IsTriangle-view}
use Rattle.matrix_parts.specs.Opers.{op_rows, op_table}
use Rattle.matrix_parts.specs.Lent.{grid_of}
use Rattle.matrix_parts.proofs.Kept.{IsKept-then}
use Rattle.part_solves.specs.LineSystems.{order_in}
use Rattle.part_solves.specs.SylvesterSystems.{AreColumnsSolved}
use Rattle.part_solves.proofs.SylvesterSteps.{still_solved}
use Rattle.part_solves.proofs.sylvester.SylvesterSystem.solve_by_pieces.Goals as goal

pub loop-at-preserved : goal.loop-at-preserved
loop-at-preserved c =
    let so_far = c.loop-at.invariant in
    let step = c.solve_piece.ensures in
    let system = c.args.self.now in
    let t = system.columns.table in
    let u = system.rows.table in
    let first = so_far.solved in
    let mid = entry (grid_of c.loop-at.w) in
    let new = entry (grid_of c.solve_piece.new.w) in
    let lines : ℕ = c.min-lines.result in
    let second : AreColumnsSolved system c.loop-at.at (c.loop-at.at + lines) (grid_of c.loop-at.w) (grid_of c.solve_piece.new.w) = rw (c.piece_at-p.ensures.lines, c.piece_at-p.ensures.len) at step.solved in
    record {
      loan = step.loan ∙ so_far.loan;
      part = step.part;
      kept = IsKept-then c.args.w.now c.loop-at.w c.solve_piece.new.w so_far.kept step.kept;
      end = omega arith;
      solved = record {
        solved = λ i j row col from to. elim (cases_lt (order_in u j) c.loop-at.at) [
          | inl earlier ↦ still_solved system.columns.reducer (op_rows t) (op_rows u) c.loop-at.at system.negative (op_table t) (op_table u) (order_in u)
              (IsTriangle-view u.primed u.structure (op_rows u) (entry u.part) c.requires.ready.rows.triangular) mid new i j (entry (grid_of c.args.w.now) i j) row col earlier
              (λ a b a_in b_in before. second.others a b a_in b_in (inl before)) (first.solved i j row col from earlier)
          | inr later ↦ Cong-trans (second.solved i j row col later to) (Cong-from_same (first.others i j row col (inr later)))
        ];
        others = λ i j row col place. elim place [
          | inl none ↦ absurd (omega arith)
          | inr past ↦ second.others i j row col (inr past) ∙ first.others i j row col (inr (omega arith))
        ];
        residues = λ i j row col. second.residues i j (omega (arith, so_far.kept.rows)) (omega (arith, so_far.kept.cols));
      };
    }
