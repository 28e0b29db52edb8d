-- The extended Euclidean algorithm with the absolute values of the factors, whose signs alternate, for a modulus m and a residue a.
use Rattle.std.proofs.Common.{◌≡◌, ℕ, Bool, true, false, not, ◌+◌, ◌-◌, ◌*◌, ◌/◌, ◌%◌, ◌<◌, ◌≤◌, ap, arith}
use Rattle.std.proofs.Math.Nat.{div-add-mod, le-mul_of_pos_right, mul-le-mul_right, dvd-sub, dvd-mul_right_of_dvd, eq-one_of_dvd-one}
use Rattle.std.specs.Bool.{MatchBool}
use Rattle.std.specs.Int.{◌∣◌, IsGcd}
use Rattle.residue_sums.specs.Residues.{Cong, IsUnit}
use Rattle.residue_sums.proofs.Congruence.{Cong-add, Cong-scale, Cong-sym, Cong-by, Cong-from_difference}

-- a times the first factor is high, and a times the second factor is low, where the sign of one of them is turned
abbrev pub Factors : (m a high low high_factor low_factor : ℕ) → Bool → Type 0
Factors m a high low high_factor low_factor is_high_positive =
    MatchBool is_high_positive
    (Cong m (a * high_factor) high × Cong m (a * low_factor + low) 0)
    (Cong m (a * high_factor + high) 0 × Cong m (a * low_factor) low)

-- one step turns the signs
pub Factors-step : (m a high low high_factor low_factor : ℕ) (is_high_positive : Bool) → Factors m a high low high_factor low_factor is_high_positive
    → Factors m a low (high % low) low_factor (high_factor + high / low * low_factor) (not is_high_positive)
Factors-step m a high low high_factor low_factor true h =
    (h.1, Cong-by (Cong-add h.0 (Cong-scale (high / low) h.1)) (omega (arith, div-add-mod high low)))
Factors-step m a high low high_factor low_factor false h =
    (h.1, Cong-by (Cong-add h.0 (Cong-scale (high / low) h.1)) (omega (arith, div-add-mod high low)))

-- what the factors and the numbers keep: a sum of products
pub products_step : (m high low high_factor low_factor : ℕ) → high * low_factor + low * high_factor ≡ m
    → low * (high_factor + high / low * low_factor) + high % low * low_factor ≡ m
products_step m high low high_factor low_factor products =
    omega (arith, products, ap (λ (x : ℕ). x * low_factor) (div-add-mod high low))

-- the next factor is at most m
pub factor_le : (m high low high_factor low_factor : ℕ) → 0 < low → high * low_factor + low * high_factor ≡ m
    → high_factor + high / low * low_factor ≤ m
factor_le m high low high_factor low_factor pos products =
    omega (arith, products_step m high low high_factor low_factor products, le-mul_of_pos_right {m = low} (high_factor + high / low * low_factor) pos)

-- the factor of low is below m
pub low_factor_below : (m high low high_factor low_factor : ℕ) → 0 < m → 0 < low → low < high → high * low_factor + low * high_factor ≡ m → low_factor < m
low_factor_below m high low high_factor low_factor m_pos pos order products =
    let twice : 2 * low_factor ≤ high * low_factor = mul-le-mul_right {m = 2} {n = high} low_factor (omega arith) in
    omega (arith, products)

-- a factor with its sign turned back
pub factor_from_negative : (m a high high_factor r : ℕ) → high_factor < m → Cong m (a * high_factor + high) 0 → r ≡ (m - high_factor) % m → Cong m (a * r) high
factor_from_negative m a high high_factor r below h e =
    Cong-by (Cong-add (Cong-scale a (Cong-from_difference {a = 0} high_factor (m - high_factor) e (omega arith))) (Cong-sym h)) (omega arith)

-- a unit has no divisor in common with m but 1
pub one_from_IsUnit : (m a d : ℕ) → 2 ≤ m → IsGcd m a d → IsUnit m a → d ≡ 1
one_from_IsUnit m a d two common unit =
    let u = unit.0 in
    let rest : a * u - m * (a * u / m) ≡ 1 = omega (arith, div-add-mod (a * u) m, unit.2) in
    let divides : d ∣ a * u - m * (a * u / m) = dvd-sub d (dvd-mul_right_of_dvd d common.1 u) (dvd-mul_right_of_dvd d common.0 (a * u / m)) in
    eq-one_of_dvd-one (rw rest at divides)
