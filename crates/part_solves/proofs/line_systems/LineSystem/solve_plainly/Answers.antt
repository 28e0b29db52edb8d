use Rattle.std.proofs.Common.{◌+◌, ◌∙◌, arith}
use Rattle.matrix_parts.specs.Lent.{grid_of}
use Rattle.matrix_parts.proofs.Kept.{IsKept-then}
use Rattle.part_solves.proofs.LinesDone.{AreLinesSolved-more}
use Rattle.part_solves.proofs.line_systems.LineSystem.solve_plainly.Goals as goal

pub loop-line-preserved : goal.loop-line-preserved
loop-line-preserved c =
    let so_far = c.loop-line.invariant in
    let step = c.solve_line.ensures in
    record {
      loan = step.loan ∙ so_far.loan;
      part = step.part;
      kept = IsKept-then c.args.w.now c.loop-line.w c.solve_line.new.w so_far.kept step.kept;
      solved = AreLinesSolved-more c.args.self.now c.requires.ready.readable.work c.loop-line.line (c.loop-line.line + 1) (grid_of c.args.w.now) (grid_of c.loop-line.w) (grid_of c.solve_line.new.w)
          so_far.kept.rows so_far.kept.cols (omega arith) (omega (arith, c.count-line-end.ensures)) so_far.solved step.solved;
    }
