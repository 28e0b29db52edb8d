-- The inverse of a triangle. Cited by the inversion of a triangular matrix.
use Rattle.std.proofs.Common.{ℕ, ◌<◌, ◌≤◌, sym}
use Rattle.residue_sums.specs.Residues.{Cong, IsUnit}
use Rattle.residue_sums.specs.Tables.{Table, product, identity}
use Rattle.residue_sums.proofs.Congruence.{Cong-refl, Cong-trans, Cong-from_same}
use Rattle.structure_rules.specs.declared.Structure.TheVariants.{General}
use Rattle.matrix_algebra.proofs.Products.{product-assoc, product-Cong, product-identity_left, product-identity_right}
use Rattle.matrix_algebra.proofs.Solutions.{left_unique}
use Rattle.matrix_algebra.proofs.Triangles.{IsTriangle}

-- a right inverse of a triangle whose pivots are units is a left inverse
pub inverse_left : (m n : ℕ) → 2 ≤ m → (order : ℕ → ℕ) (t x : Table) → IsTriangle n order t → ((i : ℕ) → i < n → IsUnit m (t i i))
    → ((i j : ℕ) → i < n → j < n → Cong m (product n t x i j) (identity i j))
    → (i j : ℕ) → i < n → j < n → Cong m (product n x t i j) (identity i j)
inverse_left m n two order t x triangle units inverse i j row col =
    left_unique m n n two General tt t order triangle units t (product n x t) identity
    (λ i j entry. Cong-trans (Cong-from_same (sym (product-assoc n n t x t i j)))
    (Cong-trans (product-Cong n (product n t x) t identity t i j m (λ k h. inverse i k entry.row h) (λ k h. Cong-refl m (t k j)))
    (Cong-from_same (product-identity_left n t i j entry.row))))
    (λ i j entry. Cong-from_same (product-identity_right n t i j entry.col))
    i j (record { row = row; col = col; inside = λ none. none })
