-- A product L * D * L' of packed factors that are cut in two, block by block.
use Rattle.std.proofs.Common.{◌≡◌, ℕ, ◌+◌, ◌*◌, ◌<◌, ◌≤◌, sym, ◌∙◌, ap, ap₂, arith}
use Rattle.std.specs.Prelude.{◌↔◌}
use Rattle.std.proofs.lemmas.Bool.Decides.{nat_tests}
use Rattle.residue_sums.specs.Residues.{Cong}
use Rattle.residue_sums.specs.Sums.{sum_below}
use Rattle.residue_sums.specs.Tables.{Table, product, transpose}
use Rattle.residue_sums.proofs.Congruence.{Cong-trans, Cong-from_same}
use Rattle.residue_sums.proofs.Sums.{sum_below-same, sum_below-only, sum_below-shrink, sum_below-split}
use Rattle.structure_rules.specs.declared.Structure.TheVariants.{UnitLower, Diagonal}
use Rattle.structure_rules.proofs.Views.{view-zero, view-diagonal_block}
use Rattle.matrix_algebra.proofs.Products.{product-assoc}
use Rattle.textbook_laws.specs.Textbook.{Blocks, four_blocks, lower, diagonal, IsLdlInTwo}
use Rattle.textbook_laws.proofs.Quarters.{by_quarters}
use Rattle.textbook_laws.proofs.Trailing.{moved_over, lower_stored}

on_diagonal : (x : Table) (k : ℕ) → diagonal x k k ≡ x k k
on_diagonal x k = grind (arith, nat_tests)

-- a product with a diagonal between two factors, term by term
module _ (n : ℕ) (a b x : Table) (r c : ℕ) where
  abbrev scaled_sum : ℕ
  scaled_sum = sum_below (λ k. a r k * x k k * b k c) n

  scaled_at : (k : ℕ) → k < n → product n a (diagonal x) r k ≡ a r k * x k k
  scaled_at k within = sum_below-only (λ z. a r z * diagonal x z k) n k within
      (λ z z_within other. let none : diagonal x z k ≡ 0 = view-zero Diagonal x z k other in rw none (omega arith))
      ∙ ap (λ (p : ℕ). a r k * p) (on_diagonal x k)

  scaled_left : product n (product n a (diagonal x)) b r c ≡ scaled_sum
  scaled_left = sum_below-same (λ k. product n a (diagonal x) r k * b k c) (λ k. a r k * x k k * b k c) n (λ k within. ap (λ (p : ℕ). p * b k c) (scaled_at k within))

  scaled_right : product n a (product n (diagonal x) b) r c ≡ scaled_sum
  scaled_right = sym (product-assoc n n a (diagonal x) b r c) ∙ scaled_left

module _ (n0 n1 : ℕ) (x : Table) where
  abbrev b : Blocks
  b = four_blocks n0 x

  -- L * D * L' at an entry of the whole, and its terms
  abbrev pub ldl_whole : Table
  ldl_whole = product (n0 + n1) (product (n0 + n1) (lower x) (diagonal x)) (transpose (lower x))

  abbrev term : ℕ → ℕ → ℕ → ℕ
  term r c k = lower x r k * x k k * lower x c k

  -- left of the cut the rows of L' below it are zero
  left_of : (r c : ℕ) → c < n0 → ldl_whole r c ≡ sum_below (term r c) n0
  left_of r c col = scaled_left (n0 + n1) (lower x) (transpose (lower x)) x r c
      ∙ sum_below-shrink (term r c) (n0 + n1) n0 (omega arith)
      (λ k past within. let none : lower x c k ≡ 0 = view-zero UnitLower x c k (omega arith) in rw none (omega arith))

  leading_is : (i j : ℕ) → j < n0 → ldl_whole i j ≡ product n0 (product n0 (lower b.b00) (diagonal b.b00)) (transpose (lower b.b00)) i j
  leading_is i j col = left_of i j col ∙ sym (scaled_left n0 (lower x) (transpose (lower x)) x i j)

  below_is : (i j : ℕ) → j < n0 → ldl_whole (n0 + i) j ≡ product n0 b.b10 (product n0 (diagonal b.b00) (transpose (lower b.b00))) i j
  below_is i j col = left_of (n0 + i) j col
      ∙ sum_below-same (term (n0 + i) j) (λ k. x (n0 + i) k * x k k * lower x j k) n0
      (λ k within. ap (λ (p : ℕ). p * x k k * lower x j k) (lower_stored x (n0 + i) k (omega arith)))
      ∙ sym (scaled_right n0 b.b10 (transpose (lower x)) x i j)

  trailing_is : (i j : ℕ) → ldl_whole (n0 + i) (n0 + j)
      ≡ product n0 (product n0 b.b10 (diagonal b.b00)) (transpose b.b10) i j + product n1 (product n1 (lower b.b11) (diagonal b.b11)) (transpose (lower b.b11)) i j
  trailing_is i j = scaled_left (n0 + n1) (lower x) (transpose (lower x)) x (n0 + i) (n0 + j)
      ∙ sum_below-split (term (n0 + i) (n0 + j)) n0 n1
      ∙ ap₂ (λ (p q : ℕ). p + q)
      (sum_below-same (term (n0 + i) (n0 + j)) (λ k. x (n0 + i) k * x k k * x (n0 + j) k) n0
      (λ k within. ap₂ (λ (p q : ℕ). p * x k k * q) (lower_stored x (n0 + i) k (omega arith)) (lower_stored x (n0 + j) k (omega arith)))
      ∙ sym (scaled_left n0 b.b10 (transpose b.b10) x i j))
      (sum_below-same (λ k. term (n0 + i) (n0 + j) (n0 + k)) (λ k. lower b.b11 i k * b.b11 k k * lower b.b11 j k) n1
      (λ k within. ap₂ (λ (p q : ℕ). p * b.b11 k k * q) (view-diagonal_block UnitLower x n0 i k) (view-diagonal_block UnitLower x n0 j k))
      ∙ sym (scaled_left n1 (lower b.b11) (transpose (lower b.b11)) b.b11 i j))

-- the equation of the whole on and below the diagonal is that of its three blocks there
module _ (m n0 n1 : ℕ) (w x : Table) (pos : 0 < m) where
  abbrev IsWhole : Type 0
  IsWhole = (r c : ℕ) → r < n0 + n1 → c < n0 + n1 → c ≤ r → Cong m (ldl_whole n0 n1 x r c) (w r c)

  to_blocks : IsWhole → IsLdlInTwo m n0 n1 (four_blocks n0 w) (four_blocks n0 x)
  to_blocks whole = record {
    leading = λ i j le row. Cong-trans (Cong-from_same (sym (leading_is n0 n1 x i j (omega arith)))) (whole i j (omega arith) (omega arith) le);
    below = λ i j row col. Cong-trans (Cong-from_same (sym (below_is n0 n1 x i j col))) (whole (n0 + i) j (omega arith) (omega arith) (omega arith));
    trailing = λ i j le row. (moved_over m _ _ (w (n0 + i) (n0 + j)) pos).0
        (Cong-trans (Cong-from_same (sym (trailing_is n0 n1 x i j))) (whole (n0 + i) (n0 + j) (omega arith) (omega arith) (omega arith)));
  }

  from_blocks : IsLdlInTwo m n0 n1 (four_blocks n0 w) (four_blocks n0 x) → IsWhole
  from_blocks is = by_quarters n0 n1 (λ r c. c ≤ r → Cong m (ldl_whole n0 n1 x r c) (w r c))
      (λ i j row col le. Cong-trans (Cong-from_same (leading_is n0 n1 x i j col)) (is.leading i j le row))
      (λ i j row col le. absurd (omega arith))
      (λ i j row col le. Cong-trans (Cong-from_same (below_is n0 n1 x i j col)) (is.below i j row col))
      (λ i j row col le. Cong-trans (Cong-from_same (trailing_is n0 n1 x i j)) ((moved_over m _ _ (w (n0 + i) (n0 + j)) pos).1 (is.trailing i j (omega arith) row)))

  pub ldl_in_two : IsWhole ↔ IsLdlInTwo m n0 n1 (four_blocks n0 w) (four_blocks n0 x)
  ldl_in_two = (to_blocks, from_blocks)
