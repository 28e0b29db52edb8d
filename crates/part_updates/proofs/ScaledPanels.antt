-- A diagonal operand times another one.
use Rattle.std.proofs.Common.{◌≡◌, ◌≢◌, ℕ, ◌+◌, ◌*◌, ◌%◌, ◌<◌, Bool, true, false, refl, sym, ap, ◌∙◌, arith}
use Rattle.residue_sums.specs.Tables.{Table, oriented, times}
use Rattle.residue_sums.proofs.Sums.{sum_below-only}
use Rattle.structure_rules.specs.declared.Structure.{Structure}
use Rattle.structure_rules.specs.declared.Structure.TheVariants.{Diagonal}
use Rattle.structure_rules.specs.Structures.{view}
use Rattle.matrix_algebra.specs.Triangles.{IsDiagonal}
use Rattle.matrix_algebra.proofs.Packed.{IsDiagonal-view}

-- it has zeros beside its diagonal
zero_beside : (primed : Bool) (n : ℕ) (a : Table) (i p : ℕ) → i < n → p < n → p ≢ i → oriented primed (view Diagonal a) i p ≡ 0
zero_beside true n a i p row col apart = (IsDiagonal-view n a).apart p i col row apart
zero_beside false n a i p row col apart = (IsDiagonal-view n a).apart i p row col (λ e. apart (sym e))

-- an entry of the product is an entry of the other, scaled
pub times-diagonal : (m n : ℕ) (primed : Bool) (s : Structure) (a b : Table) (i j x : ℕ) → s ≡ Diagonal → i < n
    → x ≡ b i j * oriented primed (view s a) i i % m → x ≡ times m n (oriented primed (view s a)) b i j
times-diagonal m n primed s a b i j x diagonal row scaled =
    let only = sum_below-only (λ p. oriented primed (view s a) i p * b p j) n i row
    (λ p col apart. rw (diagonal, zero_beside primed n a i p row col apart) (omega arith)) in
    scaled ∙ ap (λ (y : ℕ). y % m) (omega (arith, only))
