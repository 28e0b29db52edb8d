use Rattle.std.proofs.Common.{◌≡◌, ◌+◌, ◌-◌, ◌*◌, sym, ◌∙◌, arith}
use Rattle.std.proofs.Math.Nat.{mod-eq_of_lt}
use Rattle.residue_sums.specs.Residues.{Cong}
use Rattle.residue_sums.proofs.Congruence.{Cong-from_difference, Cong-from_scaled_difference, row_from_unknown}
use Rattle.part_solves.proofs.line_systems.unknown.Goals as goal

pub returns-clause-solves : goal.returns-clause-solves
returns-clause-solves c t product =
    let m_is : c.value-value.result ≡ c.args.m = c.value-value.ensures.value ∙ c.modulus.ensures.value in
    let moved : Cong c.args.m (c.residue.result + c.args.sum) c.args.right = Cong-from_difference c.args.sum (c.args.right + c.args.m - c.args.sum) (rw m_is at c.residue.ensures.value) (omega arith) in
    let inverts : Cong c.args.m (t * c.args.inverse) 1 = record { same = product ∙ sym (mod-eq_of_lt (c.modulus.ensures.range.at_least_two)) } in
    row_from_unknown c.args.sum c.product.result t c.args.inverse (Cong-from_scaled_difference c.args.sum c.residue.result c.args.inverse c.product.ensures.value moved) inverts
