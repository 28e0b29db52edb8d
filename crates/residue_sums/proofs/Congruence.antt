-- Congruences modulo m, and their linear combinations. Cited by each proof of arithmetic: the steps of Modulus, the kernels that
-- solve and factor in place, the equations of the six forms, and the uniqueness of their solutions.
-- A modular step is `Cong-by COMBINATION (omega arith)`, where the combination is a sum of known congruences, each scaled by a factor.
use Rattle.std.proofs.Common.{◌≡◌, ℕ, ◌+◌, ◌*◌, ◌/◌, ◌%◌, ◌<◌, ◌≤◌, sym, ◌∙◌, ap, refl, arith}
use Rattle.std.proofs.Math.Nat.{add-mul-mod_self_right, mod-mod, mod-lt, mod-eq_of_lt}
use Rattle.std.proofs.lemmas.Nat.{div-add-mod'}
use Rattle.residue_sums.specs.Residues.{Cong, IsUnit}

-- two numbers that become equal when multiples of m are added
pub Cong-from_multiples : (m a b p q : ℕ) → a + p * m ≡ b + q * m → Cong m a b
Cong-from_multiples m a b p q e = record {
  same = sym (add-mul-mod_self_right a p m) ∙ ap (λ (x : ℕ). x % m) e ∙ add-mul-mod_self_right b q m;
}

-- the multiples of m that make two congruent numbers equal
pub Cong-to_multiples : (m a b : ℕ) → Cong m a b → a + b / m * m ≡ b + a / m * m
Cong-to_multiples m a b h =
    let one_residue : a % m ≡ b % m = h.same in
    omega (arith, div-add-mod' a m, div-add-mod' b m)

-- each number is congruent to itself
pub Cong-refl : (m a : ℕ) → Cong m a a
Cong-refl m a = record { same = refl }

-- equal numbers are congruent
pub Cong-from_same : {m a b : ℕ} → a ≡ b → Cong m a b
Cong-from_same {m} e = record { same = ap (λ (x : ℕ). x % m) e }

-- a congruence turned round
pub Cong-sym : {m a b : ℕ} → Cong m a b → Cong m b a
Cong-sym h = record { same = sym h.same }

-- two congruences in a row
pub Cong-trans : {m a b c : ℕ} → Cong m a b → Cong m b c → Cong m a c
Cong-trans h k = record { same = h.same ∙ k.same }

-- the sum of two congruences
pub Cong-add : {m a b c d : ℕ} → Cong m a b → Cong m c d → Cong m (a + c) (b + d)
Cong-add {m} {a} {b} {c} {d} h k =
    Cong-from_multiples m (a + c) (b + d) (b / m + d / m) (a / m + c / m) (omega (arith, Cong-to_multiples m a b h, Cong-to_multiples m c d k))

-- a congruence times a number
pub Cong-scale : {m a b : ℕ} (k : ℕ) → Cong m a b → Cong m (k * a) (k * b)
Cong-scale {m} {a} {b} k h =
    Cong-from_multiples m (k * a) (k * b) (k * (b / m)) (k * (a / m)) (omega (arith, ap (λ (x : ℕ). k * x) (Cong-to_multiples m a b h)))

-- x - y is a - b, as an equation between natural numbers
pub Cong-by : {m a b x y : ℕ} → Cong m a b → x + b ≡ y + a → Cong m x y
Cong-by {m} {a} {b} {x} {y} h e = Cong-from_multiples m x y (b / m) (a / m) (omega (arith, Cong-to_multiples m a b h))

-- the product of two congruences
pub Cong-mul : {m a b c d : ℕ} → Cong m a b → Cong m c d → Cong m (a * c) (b * d)
Cong-mul {m} {a} {b} {c} {d} h k = Cong-by (Cong-add (Cong-scale c h) (Cong-scale b k)) (omega arith)

-- a number and its residue
pub Cong-mod : (m a : ℕ) → Cong m (a % m) a
Cong-mod m a = record { same = mod-mod a m }

-- a multiple of m
pub Cong-multiple : (m k : ℕ) → Cong m (k * m) 0
Cong-multiple m k = Cong-from_multiples m (k * m) 0 0 k (omega arith)

-- what an operation on residues answers, as a congruence
pub Cong-from_mod : {m a x : ℕ} → x ≡ a % m → Cong m x a
Cong-from_mod {m} {a} e = Cong-trans (Cong-from_same e) (Cong-mod m a)

-- a residue that is congruent to a is the residue of a
pub mod_from_Cong : {m a x : ℕ} → x < m → Cong m x a → x ≡ a % m
mod_from_Cong below h = sym (mod-eq_of_lt below) ∙ h.same

-- residues that are congruent are equal
pub same_from_Cong : {m a b : ℕ} → a < m → b < m → Cong m a b → a ≡ b
same_from_Cong a_below b_below h = mod_from_Cong a_below h ∙ mod-eq_of_lt b_below

-- a difference d of a and b modulo m, moved to the other side
pub Cong-from_difference : {m a x : ℕ} (b d : ℕ) → x ≡ d % m → d + b ≡ a + m → Cong m (x + b) a
Cong-from_difference {m} b d e difference = Cong-by (Cong-add (Cong-from_mod e) (Cong-multiple m 1)) (omega arith)

-- and back
pub difference_from_Cong : {m a x : ℕ} (b d : ℕ) → x < m → Cong m (x + b) a → d + b ≡ a + m → x ≡ d % m
difference_from_Cong {m} b d below h difference = mod_from_Cong below (Cong-by (Cong-add h (Cong-sym (Cong-multiple m 1))) (omega arith))

-- a difference of residues that is multiplied by c: r is (a - b) * c
pub Cong-from_scaled_difference : {m a r : ℕ} (b x c : ℕ) → r ≡ (x * c) % m → Cong m (x + b) a → Cong m (r + b * c) (a * c)
Cong-from_scaled_difference b x c e h = Cong-by (Cong-add (Cong-from_mod e) (Cong-scale c h)) (omega arith)

-- a factor with an inverse v cancels
pub Cong-cancel : {m a b : ℕ} (u v : ℕ) → Cong m (u * v) 1 → Cong m (u * a) (u * b) → Cong m a b
Cong-cancel {m} {a} {b} u v inverts h =
    Cong-by (Cong-add (Cong-scale v h) (Cong-add (Cong-sym (Cong-scale a inverts)) (Cong-scale b inverts))) (omega arith)

-- a row of a triangular system holds for its unknown r: x is the right side, t the pivot, v its inverse, s the sum of the other terms
pub row_from_unknown : {m x : ℕ} (s r t v : ℕ) → Cong m (r + s * v) (x * v) → Cong m (t * v) 1 → Cong m (s + t * r) x
row_from_unknown {m} {x} s r t v unknown inverts =
    Cong-by (Cong-add (Cong-scale t unknown) (Cong-add (Cong-sym (Cong-scale s inverts)) (Cong-scale x inverts))) (omega arith)

-- a unit has an inverse
pub inverse_from_IsUnit : (m a : ℕ) → 2 ≤ m → IsUnit m a → (v : ℕ) × (v < m) × Cong m (a * v) 1
inverse_from_IsUnit m a two unit = (unit.0, unit.1, record { same = unit.2 ∙ sym (mod-eq_of_lt two) })

-- what has an inverse, a residue or not, is a unit
pub IsUnit-from_inverse : (m a v : ℕ) → 2 ≤ m → Cong m (a * v) 1 → IsUnit m a
IsUnit-from_inverse m a v two inverts =
    let reduced : Cong m (a * (v % m)) 1 = Cong-trans (Cong-scale a (Cong-mod m v)) inverts in
    (v % m, mod-lt v (omega arith), reduced.same ∙ mod-eq_of_lt two)

-- what is congruent to a unit is a unit
pub IsUnit-Cong : (m a b : ℕ) → Cong m a b → IsUnit m a → IsUnit m b
IsUnit-Cong m a b h unit =
    let u : ℕ = unit.0 in
    let one_product : Cong m (b * u) (a * u) = Cong-mul (Cong-sym h) (Cong-refl m u) in
    (u, unit.1, one_product.same ∙ unit.2)
