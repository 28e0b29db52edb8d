use Rattle.std.proofs.Common.{ℕ, ◌+◌, ◌∙◌, arith}
use Rattle.matrix_parts.specs.Lent.{grid_of}
use Rattle.matrix_parts.proofs.Kept.{IsKept-then}
use Rattle.part_solves.proofs.LinesDone.{AreLinesSolved-more}
use Rattle.part_solves.proofs.line_systems.LineSystem.solve_by_panels.Goals as goal

pub loop-first-preserved : goal.loop-first-preserved
loop-first-preserved c =
    let so_far = c.loop-first.invariant in
    let step = c.solve_piece.ensures in
    let width : ℕ = c.min-count.result in
    record {
      loan = step.loan ∙ so_far.loan;
      part = step.part;
      kept = IsKept-then c.args.w.now c.loop-first.w c.solve_piece.new.w so_far.kept step.kept;
      end = omega arith;
      solved = AreLinesSolved-more c.args.self.now c.requires.ready.readable.work c.loop-first.first (c.loop-first.first + width) (grid_of c.args.w.now) (grid_of c.loop-first.w) (grid_of c.solve_piece.new.w)
          so_far.kept.rows so_far.kept.cols (omega arith) (omega (arith, c.count-all.ensures)) so_far.solved step.solved;
    }
