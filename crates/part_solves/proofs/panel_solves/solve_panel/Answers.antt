use Rattle.std.proofs.Common.{◌≡◌, arith}
use Rattle.matrix_parts.specs.Opers.{op_rows}
use Rattle.part_solves.specs.LineSystems.{line_of}
use Rattle.part_solves.proofs.panel_solves.solve_panel.Goals as goal

pub loop-start-preserved : goal.loop-start-preserved
loop-start-preserved c = record {
  end = omega arith;
  solved = c.solve_group.ensures.solved (line_of c.args.panel.now (op_rows c.args.system.now.table)) c.loop-start.invariant.solved;
  residues = c.solve_group.ensures.residues;
}

pub returns-clause-solved : goal.returns-clause-solved
returns-clause-solved c =
    let all : c.loop-start.start ≡ op_rows c.args.system.now.table = omega (arith, c.size-n.ensures) in
    rw all at c.loop-start.invariant.solved
