-- Laws of products of tables. Cited by the kernels, which add up products part by part, and by each law of the factors and the
-- inverse of a matrix.
use Rattle.std.proofs.Common.{◌≡◌, ◌≢◌, ℕ, ◌+◌, ◌*◌, ◌<◌, refl, sym, ◌∙◌, ap₂, arith}
use Rattle.std.proofs.lemmas.Bool.Decides.{nat_tests}
use Rattle.residue_sums.specs.Residues.{Cong}
use Rattle.residue_sums.specs.Sums.{sum_below, part_count, part_length}
use Rattle.residue_sums.specs.Tables.{Table, identity, transpose, product, times}
use Rattle.residue_sums.proofs.Congruence.{Cong-refl, Cong-sym, Cong-trans, Cong-mul, Cong-mod, Cong-from_same}
use Rattle.residue_sums.proofs.Sums.{sum_below-same, sum_below-Cong, sum_below-only, sum_below-scale, sum_below-scale_right, sum_below-swap}
use Rattle.residue_sums.proofs.Parts.{sum_below-all_parts}

module _ (n : ℕ) (a b a' b' : Table) (i j : ℕ) where
  -- factors that are equal where the entry reads them
  pub product-same : ((k : ℕ) → k < n → a i k ≡ a' i k) → ((k : ℕ) → k < n → b k j ≡ b' k j) → product n a b i j ≡ product n a' b' i j
  product-same left right = sum_below-same (λ k. a i k * b k j) (λ k. a' i k * b' k j) n (λ k h. ap₂ (λ (x y : ℕ). x * y) (left k h) (right k h))

  -- factors that are congruent where the entry reads them
  pub product-Cong : (m : ℕ) → ((k : ℕ) → k < n → Cong m (a i k) (a' i k)) → ((k : ℕ) → k < n → Cong m (b k j) (b' k j))
      → Cong m (product n a b i j) (product n a' b' i j)
  product-Cong m left right = sum_below-Cong m (λ k. a i k * b k j) (λ k. a' i k * b' k j) n (λ k h. Cong-mul (left k h) (right k h))

-- a product of three
pub product-assoc : (n p : ℕ) (a b c : Table) (i j : ℕ) → product p (product n a b) c i j ≡ product n a (product p b c) i j
product-assoc n p a b c i j =
    sum_below-same (λ l. product n a b i l * c l j) (λ l. sum_below (λ k. a i k * b k l * c l j) n) p
    (λ l h. sym (sum_below-scale_right (λ k. a i k * b k l) (c l j) n))
    ∙ sum_below-swap (λ l k. a i k * b k l * c l j) p n
    ∙ sum_below-same (λ k. sum_below (λ l. a i k * b k l * c l j) p) (λ k. a i k * product p b c k j) n
    (λ k h. sum_below-same (λ l. a i k * b k l * c l j) (λ l. a i k * (b k l * c l j)) p (λ l q. omega arith)
    ∙ sum_below-scale (a i k) (λ l. b k l * c l j) p)

-- a product is the sum of the products of its inner parts
pub product-parts : (n b : ℕ) (x y : Table) (i j : ℕ) → 0 < b
    → product n x y i j ≡ sum_below (λ p. product (part_length n b p) (λ r k. x r (p * b + k)) (λ k c. y (p * b + k) c) i j) (part_count n b)
product-parts n b x y i j pos = sym (sum_below-all_parts n b (λ k. x i k * y k j) pos)

-- the transpose of a product
pub product-transpose : (n : ℕ) (a b : Table) (i j : ℕ) → transpose (product n a b) i j ≡ product n (transpose b) (transpose a) i j
product-transpose n a b i j = sum_below-same (λ k. a j k * b k i) (λ k. b k i * a j k) n (λ k h. omega arith)

identity-same : (i j : ℕ) → i ≡ j → identity i j ≡ 1
identity-same i j h = grind (arith, nat_tests)

identity-other : (i j : ℕ) → i ≢ j → identity i j ≡ 0
identity-other i j h = grind (arith, nat_tests)

-- the identity on the left of a product
pub product-identity_left : (n : ℕ) (a : Table) (i j : ℕ) → i < n → product n identity a i j ≡ a i j
product-identity_left n a i j h =
    sum_below-only (λ k. identity i k * a k j) n i h (λ k p ne. rw (identity-other i k (λ e. ne (sym e))) (omega arith))
    ∙ (rw (identity-same i i refl) (omega arith))

-- the identity on the right of a product
pub product-identity_right : (n : ℕ) (a : Table) (i j : ℕ) → j < n → product n a identity i j ≡ a i j
product-identity_right n a i j h =
    sum_below-only (λ k. a i k * identity k j) n j h (λ k p ne. rw (identity-other k j ne) (omega arith))
    ∙ (rw (identity-same j j refl) (omega arith))

module _ (m n p : ℕ) (a b c : Table) (i j : ℕ) where
  -- a left factor that is a reduced product
  pub product-times_left : Cong m (product p (times m n a b) c i j) (product p (product n a b) c i j)
  product-times_left = product-Cong p (times m n a b) c (product n a b) c i j m (λ k h. Cong-mod m (product n a b i k)) (λ k h. Cong-refl m (c k j))

  -- a right factor that is a reduced product
  pub product-times_right : Cong m (product n a (times m p b c) i j) (product n a (product p b c) i j)
  product-times_right = product-Cong n a (times m p b c) a (product p b c) i j m (λ k h. Cong-refl m (a i k)) (λ k h. Cong-mod m (product p b c k j))

  -- a reduced product of three
  pub times-assoc : times m p (times m n a b) c i j ≡ times m n a (times m p b c) i j
  times-assoc =
      let both : Cong m (product p (times m n a b) c i j) (product n a (times m p b c) i j) =
      Cong-trans product-times_left (Cong-trans (Cong-from_same (product-assoc n p a b c i j)) (Cong-sym product-times_right)) in
      both.same
