-- A product L * U of packed factors that are cut in two, block by block.
use Rattle.std.proofs.Common.{◌≡◌, ℕ, ◌+◌, ◌*◌, ◌<◌, refl, sym, ◌∙◌, ap₂, arith}
use Rattle.std.specs.Prelude.{◌↔◌}
use Rattle.residue_sums.specs.Residues.{Cong}
use Rattle.residue_sums.specs.Tables.{Table, product}
use Rattle.residue_sums.proofs.Congruence.{Cong-trans, Cong-from_same}
use Rattle.residue_sums.proofs.Sums.{sum_below-shrink, sum_below-split}
use Rattle.structure_rules.specs.declared.Structure.TheVariants.{UnitLower, Upper}
use Rattle.structure_rules.proofs.Views.{view-zero, view-diagonal_block}
use Rattle.matrix_algebra.proofs.Products.{product-same}
use Rattle.textbook_laws.specs.Textbook.{Blocks, four_blocks, lower, upper, IsLuInTwo}
use Rattle.textbook_laws.proofs.Quarters.{by_quarters}
use Rattle.textbook_laws.proofs.Trailing.{moved_over, lower_stored, upper_stored}

module _ (n0 n1 : ℕ) (x : Table) where
  abbrev b : Blocks
  b = four_blocks n0 x

  -- L * U at an entry of the whole
  abbrev pub lu_whole : Table
  lu_whole = product (n0 + n1) (lower x) (upper x)

  -- above the cut the columns of L behind it are zero, left of it the rows of U below it
  above : (i c : ℕ) → i < n0 → lu_whole i c ≡ product n0 (lower x) (upper x) i c
  above i c row = sum_below-shrink (λ k. lower x i k * upper x k c) (n0 + n1) n0 (omega arith)
      (λ k past within. let none : lower x i k ≡ 0 = view-zero UnitLower x i k (omega arith) in rw none (omega arith))

  left_of : (r j : ℕ) → j < n0 → lu_whole r j ≡ product n0 (lower x) (upper x) r j
  left_of r j col = sum_below-shrink (λ k. lower x r k * upper x k j) (n0 + n1) n0 (omega arith)
      (λ k past within. let none : upper x k j ≡ 0 = view-zero Upper x k j (omega arith) in rw none (omega arith))

  right_is : (i j : ℕ) → i < n0 → lu_whole i (n0 + j) ≡ product n0 (lower b.b00) b.b01 i j
  right_is i j row = above i (n0 + j) row
      ∙ product-same n0 (lower x) (λ k c. upper x k (n0 + c)) (lower x) b.b01 i j (λ k within. refl) (λ k within. upper_stored x k (n0 + j) (omega arith))

  below_is : (i j : ℕ) → j < n0 → lu_whole (n0 + i) j ≡ product n0 b.b10 (upper b.b00) i j
  below_is i j col = left_of (n0 + i) j col
      ∙ product-same n0 (λ r k. lower x (n0 + r) k) (upper x) b.b10 (upper x) i j (λ k within. lower_stored x (n0 + i) k (omega arith)) (λ k within. refl)

  trailing_is : (i j : ℕ) → lu_whole (n0 + i) (n0 + j) ≡ product n0 b.b10 b.b01 i j + product n1 (lower b.b11) (upper b.b11) i j
  trailing_is i j = sum_below-split (λ k. lower x (n0 + i) k * upper x k (n0 + j)) n0 n1
      ∙ ap₂ (λ (p q : ℕ). p + q)
      (product-same n0 (λ r k. lower x (n0 + r) k) (λ k c. upper x k (n0 + c)) b.b10 b.b01 i j
      (λ k within. lower_stored x (n0 + i) k (omega arith)) (λ k within. upper_stored x k (n0 + j) (omega arith)))
      (product-same n1 (λ r k. lower x (n0 + r) (n0 + k)) (λ k c. upper x (n0 + k) (n0 + c)) (lower b.b11) (upper b.b11) i j
      (λ k within. view-diagonal_block UnitLower x n0 i k) (λ k within. view-diagonal_block Upper x n0 k j))

-- the equation of the whole is that of its four blocks
module _ (m n0 n1 : ℕ) (w x : Table) (pos : 0 < m) where
  abbrev IsWhole : Type 0
  IsWhole = (r c : ℕ) → r < n0 + n1 → c < n0 + n1 → Cong m (lu_whole n0 n1 x r c) (w r c)

  to_blocks : IsWhole → IsLuInTwo m n0 n1 (four_blocks n0 w) (four_blocks n0 x)
  to_blocks whole = record {
    leading = λ i j row col. Cong-trans (Cong-from_same (sym (above n0 n1 x i j row))) (whole i j (omega arith) (omega arith));
    right = λ i j row col. Cong-trans (Cong-from_same (sym (right_is n0 n1 x i j row))) (whole i (n0 + j) (omega arith) (omega arith));
    below = λ i j row col. Cong-trans (Cong-from_same (sym (below_is n0 n1 x i j col))) (whole (n0 + i) j (omega arith) (omega arith));
    trailing = λ i j row col. (moved_over m _ _ (w (n0 + i) (n0 + j)) pos).0
        (Cong-trans (Cong-from_same (sym (trailing_is n0 n1 x i j))) (whole (n0 + i) (n0 + j) (omega arith) (omega arith)));
  }

  from_blocks : IsLuInTwo m n0 n1 (four_blocks n0 w) (four_blocks n0 x) → IsWhole
  from_blocks is = by_quarters n0 n1 (λ r c. Cong m (lu_whole n0 n1 x r c) (w r c))
      (λ i j row col. Cong-trans (Cong-from_same (above n0 n1 x i j row)) (is.leading i j row col))
      (λ i j row col. Cong-trans (Cong-from_same (right_is n0 n1 x i j row)) (is.right i j row col))
      (λ i j row col. Cong-trans (Cong-from_same (below_is n0 n1 x i j col)) (is.below i j row col))
      (λ i j row col. Cong-trans (Cong-from_same (trailing_is n0 n1 x i j)) ((moved_over m _ _ (w (n0 + i) (n0 + j)) pos).1 (is.trailing i j row col)))

  pub lu_in_two : IsWhole ↔ IsLuInTwo m n0 n1 (four_blocks n0 w) (four_blocks n0 x)
  lu_in_two = (to_blocks, from_blocks)
