use Rattle.std.proofs.Common.{◌≡◌, ◌+◌, ◌-◌, ◌*◌, ◌%◌, ◌<◌, arith}
use Rattle.residue_sums.specs.Grids.{entry}
use Rattle.matrix_parts.specs.Lent.{grid_of}
use Rattle.part_factors.proofs.FoundEntries.{IsRowFound-written, small_after}
use Rattle.part_factors.proofs.columns.write_entry.Goals as goal

pub returns-clause-found : goal.returns-clause-found
returns-clause-found c =
    let rest_is : c.sub-rest.result ≡ (entry (grid_of c.args.w.now) c.args.i c.args.j + c.args.factoring.now.m - c.other_terms.result) % c.args.factoring.now.m = rw (← c.get.ensures, ← c.modulus-m.ensures.value) c.sub-rest.ensures.value in
    let value_is : c.mul-value.result ≡ (c.sub-rest.result * c.args.scale) % c.args.factoring.now.m = rw (← c.modulus-m.ensures.value) c.mul-value.ensures.value in
    IsRowFound-written c.args.factoring.now.m c.args.w.now.rows (entry (grid_of c.args.w.now)) (entry (grid_of c.set.new.self)) c.args.i c.args.j c.other_terms.result c.sub-rest.result c.args.scale c.mul-value.result
    c.requires.row_in (omega (arith, c.requires.square, c.requires.col_in)) (λ a b row col apart. c.set.ensures.others a b row (omega (arith, c.requires.square)) apart)
    c.set.ensures.here c.other_terms.ensures.range rest_is value_is c.requires.lower c.requires.upper c.args.factoring.now.kind c.requires.begun c.other_terms.ensures.value

pub returns-clause-residues : goal.returns-clause-residues
returns-clause-residues c =
    let here : entry (grid_of c.set.new.self) c.args.i c.args.j < c.args.factoring.now.m = rw (c.set.ensures.here, ← c.modulus-m.ensures.value) c.mul-value.ensures.range in
    small_after c.args.w.now.rows c.args.w.now.cols c.args.i c.args.j c.args.factoring.now.m (entry (grid_of c.args.w.now)) (entry (grid_of c.set.new.self)) c.requires.residues here c.set.ensures.others
