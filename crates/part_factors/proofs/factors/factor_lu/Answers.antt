use Rattle.std.proofs.Common.{◌<◌, ◌≤◌, arith}
use Rattle.residue_sums.specs.Grids.{entry}
use Rattle.matrix_parts.specs.Lent.{grid_of}
use Rattle.equation.specs.Pivots.{IsBadForLu}
use Rattle.equation.proofs.FactorPivots.{one_lu_bad_pivot}
use Rattle.operand_lines.proofs.PartResidues.{IsFull-part, AreResidues-part, residue-part}
use Rattle.part_factors.specs.declared.factoring.FactorKind.TheVariants.{Lu}
use Rattle.part_factors.proofs.Factored.{IsFactoredLu-found, no_bad_for_lu, bad_for_lu_found}
use Rattle.part_factors.proofs.FactorOutcomes.{on_found, bad_pivot_met}
use Rattle.part_factors.proofs.factors.factor_lu.Goals as goal

pub find_factors-requires-clause-residues : goal.find_factors-requires-clause-residues
find_factors-requires-clause-residues c = residue-part c.args.m c.args.w.now c.requires.residues

pub returns-clause-factored : goal.returns-clause-factored
returns-clause-factored c = on_found
    (IsFactoredLu-found c.args.m (grid_of c.args.w.now) (grid_of c.find_factors.new.w) c.value-modulus.ensures.range.at_least_two c.requires.square (IsFull-part c.args.w.now) c.requires.residues
    c.find_factors.ensures.kept.rows c.find_factors.ensures.kept.cols (IsFull-part c.find_factors.new.w)
    (AreResidues-part c.args.m c.args.w.now c.find_factors.new.w c.find_factors.ensures.kept c.find_factors.ensures.residues))
    c.find_factors.result c.find_factors.ensures.outcome

pub returns-clause-units : goal.returns-clause-units
returns-clause-units c = on_found (λ found. λ i row. found.units i row (omega arith) row) c.find_factors.result c.find_factors.ensures.outcome

pub returns-clause-bad_pivot : goal.returns-clause-bad_pivot
returns-clause-bad_pivot c =
    let two = c.value-modulus.ensures.range.at_least_two in
    let full = IsFull-part c.args.w.now in
    let old = grid_of c.args.w.now in
    let new = grid_of c.find_factors.new.w in
    bad_pivot_met c.args.m c.args.w.now.rows Lu (entry old) (entry new) (IsBadForLu c.args.m (entry old))
    (no_bad_for_lu c.args.m old new two c.requires.square full c.requires.residues) (bad_for_lu_found c.args.m old new two c.requires.square full c.requires.residues)
    (one_lu_bad_pivot c.args.m c.args.w.now.rows two (entry old)) c.find_factors.result c.find_factors.ensures.outcome
