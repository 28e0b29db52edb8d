use Rattle.std.proofs.Math.Nat.{mod-eq_of_lt}
use Rattle.residue_sums.specs.Grids.{entry}
use Rattle.part_solves.proofs.Diagonals.{one_on_diagonal}
use Rattle.part_solves.proofs.line_systems.LineSystem.inverse_at.Goals as goal

pub returns-in-UnitLower-clause-inverts : goal.returns-in-UnitLower-clause-inverts
returns-in-UnitLower-clause-inverts c =
    let t = c.args.self.now.table in
    rw (one_on_diagonal t.primed t.structure (entry t.part) c.args.i c.in-UnitLower.is) (mod-eq_of_lt c.modulus-modulus.ensures.range.at_least_two)
