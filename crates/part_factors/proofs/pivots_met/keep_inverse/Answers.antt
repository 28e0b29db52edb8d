use Rattle.std.proofs.Common.{◌-◌, arith}
use Rattle.residue_sums.specs.Grids.{entry}
use Rattle.matrix_parts.specs.Lent.{grid_of}
use Rattle.part_factors.proofs.PivotScales.{inverse_kept}
use Rattle.part_factors.proofs.pivots_met.keep_inverse.Goals as goal

pub returns-clause-here : goal.returns-clause-here
returns-clause-here c j col same =
    inverse_kept c.args.m (entry (grid_of c.args.w.now) c.args.at.row c.args.at.row) c.args.inverses.now (c.args.at.row - c.args.at.from) j c.in-Some.inverse
    c.modulus-modulus.ensures.range.at_least_two c.modulus-modulus.ensures.value c.get.ensures c.in-Some.ensures.product (omega arith) (omega arith)
