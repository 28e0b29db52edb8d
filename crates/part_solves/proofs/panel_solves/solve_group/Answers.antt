use Rattle.std.proofs.Common.{◌≡◌, ◌+◌, arith}
use Rattle.part_solves.proofs.panel_solves.solve_group.Goals as goal

pub loop-done-preserved : goal.loop-done-preserved
loop-done-preserved c =
    let place : c.args.group.start + c.loop-done.done + c.min.result ≡ c.args.group.start + (c.loop-done.done + c.min.result) = omega arith in
    record {
      end = omega arith;
      solved = λ before so_far g line. rw place at (c.solve_three.ensures.solved before (c.loop-done.invariant.solved before so_far) g line);
      residues = c.solve_three.ensures.residues;
    }

pub returns-clause-solved : goal.returns-clause-solved
returns-clause-solved c before so_far =
    let all : c.args.group.start + c.loop-done.done ≡ c.args.group.start + c.args.group.count = omega arith in
    rw all at (c.loop-done.invariant.solved before so_far)
