-- The numbers that are drawn from, as powers. Cited by the law.
use Rattle.std.proofs.Common.{ℕ, zero, suc, ◌+◌, ◌*◌, ◌^◌, ◌<◌, arith}
use Rattle.std.proofs.Math.Nat.{mod-lt, pow-suc}
use Rattle.residue_sums.specs.Residues.{Cong}
use Rattle.residue_sums.proofs.Congruence.{Cong-by, Cong-from_same, Cong-mod, Cong-add, Cong-scale}
use Rattle.job_generator.specs.Draws.{draw_prime, number_after}

pub number-below : (x draws : ℕ) → number_after (suc draws) x < draw_prime
number-below x draws = mod-lt (75 * number_after draws x + 74) (omega arith)

-- with each draw one more than the number is multiplied by 75
pub number-power : (x draws : ℕ) → Cong draw_prime (number_after draws x + 1) (75 ^ draws * (x + 1))
number-power x zero = Cong-from_same (omega arith)
number-power x (suc draws) =
    Cong-by (Cong-add (Cong-mod draw_prime (75 * number_after draws x + 74)) (Cong-scale 75 (number-power x draws))) (rw (pow-suc 75 draws) (omega arith))
