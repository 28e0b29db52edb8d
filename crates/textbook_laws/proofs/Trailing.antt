-- What the equation of the whole says at an entry of the trailing block, and views off and on the diagonal.
use Rattle.std.proofs.Common.{◌≡◌, ℕ, ◌+◌, ◌-◌, ◌%◌, ◌<◌, arith}
use Rattle.std.specs.Prelude.{◌↔◌}
use Rattle.std.proofs.Math.Nat.{mod-lt}
use Rattle.std.proofs.lemmas.Bool.Decides.{nat_tests}
use Rattle.residue_sums.specs.Residues.{Cong}
use Rattle.residue_sums.specs.Tables.{Table}
use Rattle.residue_sums.proofs.Congruence.{Cong-sym, Cong-trans, Cong-add, Cong-by, Cong-mod, Cong-multiple}
use Rattle.structure_rules.specs.declared.Structure.TheVariants.{UnitLower, Upper}
use Rattle.structure_rules.specs.Structures.{view}

-- p + q is w exactly where q is the reduced difference of w and p
pub moved_over : (m p q w : ℕ) → 0 < m → Cong m (p + q) w ↔ Cong m q ((w + (m - p % m)) % m)
moved_over m p q w pos =
    let small : p % m < m = mod-lt p pos in (
      λ h. Cong-trans (Cong-by (Cong-add (Cong-add h (Cong-mod m p)) (Cong-sym (Cong-multiple m 1))) (omega arith)) (Cong-sym (Cong-mod m (w + (m - p % m)))),
      λ h. Cong-by (Cong-add (Cong-add (Cong-trans h (Cong-mod m (w + (m - p % m)))) (Cong-sym (Cong-mod m p))) (Cong-multiple m 1)) (omega arith),
    )

-- entries off the diagonal are read as they are stored
pub lower_stored : (x : Table) (r k : ℕ) → k < r → view UnitLower x r k ≡ x r k
lower_stored x r k less = grind (arith, nat_tests)

pub upper_stored : (x : Table) (k c : ℕ) → k < c → view Upper x k c ≡ x k c
upper_stored x k c less = grind (arith, nat_tests)
