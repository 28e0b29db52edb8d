-- Division by a precomputed reciprocal. Cited by the residue of a number of 64 bits and by that of a sum in two halves.
use Rattle.std.proofs.Common.{◌≡◌, ℕ, ◌+◌, ◌*◌, ◌-◌, ◌/◌, ◌%◌, ◌^◌, ◌<◌, ◌≤◌, sym, ◌∙◌, ap, arith}
use Rattle.std.proofs.Math.Nat.{div-mul-le_self, mul-le-mul_left, mul-le-mul_right, le_of_mul-le-mul_right, lt_of_mul-lt-mul_right, lt-div-mul-add, mul-lt-mul_of_pos_right}
use Rattle.std.proofs.lemmas.Nat.{mod-mul-add}
use Rattle.residue_sums.proofs.Congruence.{Cong-by, Cong-scale, Cong-mod}

-- with v * m at most b, x * v / b isn't above the quotient of x by m
quotient_below : (b x m v : ℕ) → 0 < b → v * m ≤ b → x * v / b * m ≤ x
quotient_below b x m v positive fits =
    le_of_mul-le-mul_right (omega (arith, mul-le-mul_right m (div-mul-le_self (x * v) b), mul-le-mul_left x fits)) positive

-- with b at most (v + 1) * m, x * v / b is at most one below the quotient of x by m
quotient_near : (b x m v : ℕ) → 0 < b → 0 < m → x < b → b ≤ v * m + m → x < x * v / b * m + 2 * m
quotient_near b x m v positive some below near =
    let quotient : x * v ≤ x * v / b * b + b = omega (arith, lt-div-mul-add {a = x * v} positive) in
    lt_of_mul-lt-mul_right b (omega (arith, mul-le-mul_right m quotient, mul-le-mul_left x near, mul-lt-mul_of_pos_right below some))

-- both for the reciprocal v of m with 64 bits
pub reciprocal_below : (x m v : ℕ) → v ≡ (2 ^ 64 - 1) / m → x * v / 2 ^ 64 * m ≤ x
reciprocal_below x m v e =
    let product : v * m ≤ 2 ^ 64 - 1 = rw e (div-mul-le_self (2 ^ 64 - 1) m) in
    quotient_below (2 ^ 64) x m v (omega arith) (omega (arith, product))

pub reciprocal_near : (x m v : ℕ) → 1 < m → x < 2 ^ 64 → v ≡ (2 ^ 64 - 1) / m → x < x * v / 2 ^ 64 * m + 2 * m
reciprocal_near x m v some below e =
    let product : 2 ^ 64 - 1 < v * m + m = rw e (lt-div-mul-add {a = 2 ^ 64 - 1} {b = m} (omega arith)) in
    quotient_near (2 ^ 64) x m v (omega arith) (omega arith) below (omega (arith, product))

-- what is left of x without q times m is its residue, where it is below m
pub rest_below : (x q m : ℕ) → q * m ≤ x → x - q * m < m → x - q * m ≡ x % m
rest_below x q m le lt =
    let whole : x ≡ q * m + (x - q * m) = omega (arith, le) in
    sym (ap (λ t. t % m) whole ∙ mod-mul-add q m (x - q * m) lt)

-- and where it is from m on and below 2 * m, one m more is to be taken away
pub rest_above : (x q m : ℕ) → q * m ≤ x → m ≤ x - q * m → x < q * m + 2 * m → x - q * m - m ≡ x % m
rest_above x q m le more near =
    let whole : x ≡ (q + 1) * m + (x - q * m - m) = omega (arith, le, more) in
    sym (ap (λ t. t % m) whole ∙ mod-mul-add (q + 1) m (x - q * m - m) (omega (arith, le, more, near)))

-- a number of two halves is reduced half by half
pub reduced_by_halves : (h r m : ℕ) → ((h + r / 2 ^ 32) % m * 2 ^ 32 + r % 2 ^ 32) % m ≡ (h * 2 ^ 32 + r) % m
reduced_by_halves h r m = (Cong-by (Cong-scale (2 ^ 32) (Cong-mod m (h + r / 2 ^ 32))) (omega arith)).same
