use Rattle.std.proofs.Common.{◌*◌, ◌≤◌, ◌∙◌, sym, arith}
use Rattle.std.proofs.Math.Nat.{mod-eq_of_lt}
use Rattle.residue_sums.specs.Residues.{Cong}
use Rattle.residue_sums.proofs.Congruence.{same_from_Cong, Cong-cancel}
use Rattle.field_word.proofs.modulus.inverse_is_unique.Goals as goal

pub returns : goal.returns
returns c =
    let two : 2 ≤ c.args.modulus = omega arith in
    let one_product : Cong c.args.modulus (c.args.a * c.args.u) 1 = record { same = c.requires.first_product ∙ sym (mod-eq_of_lt two) } in
    let same_products : Cong c.args.modulus (c.args.a * c.args.u) (c.args.a * c.args.v) = record { same = c.requires.first_product ∙ sym c.requires.second_product } in
    same_from_Cong c.requires.first c.requires.second (Cong-cancel c.args.a c.args.u one_product same_products)
