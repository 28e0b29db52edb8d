-- The left sides of the forms that find factors, over a table that holds the entries of the stored matrix, as exact products of its
-- views. Cited where a statement has one solution, and has one at all.
use Rattle.std.proofs.Common.{◌≡◌, ℕ, ◌%◌, ◌<◌, List, refl, ap, ◌∙◌}
use Rattle.residue_sums.specs.Residues.{Cong}
use Rattle.residue_sums.specs.Tables.{Table, product, times, transpose}
use Rattle.residue_sums.specs.Grids.{Grid, HasEntries, entry}
use Rattle.structure_rules.specs.declared.Structure.TheVariants.{UnitLower, Upper, Diagonal}
use Rattle.structure_rules.specs.Structures.{view}
use Rattle.matrix_algebra.proofs.Products.{product-same, product-times_left}
use Rattle.operation_spec.specs.declared.operation.Operation.{Operation}
use Rattle.operation_spec.specs.declared.operation.Form.TheVariants.{Lu, Ldl}
use Rattle.equation.specs.Equations.{left_side}

-- a view reads the entry alone
unit_lower-same : (a b : Table) (i j : ℕ) → a i j ≡ b i j → view UnitLower a i j ≡ view UnitLower b i j
unit_lower-same a b i j e = rw e refl

upper-same : (a b : Table) (i j : ℕ) → a i j ≡ b i j → view Upper a i j ≡ view Upper b i j
upper-same a b i j e = rw e refl

diagonal-same : (a b : Table) (i j : ℕ) → a i j ≡ b i j → view Diagonal a i j ≡ view Diagonal b i j
diagonal-same a b i j e = rw e refl

module _ (m : ℕ) (op : Operation) (knowns : List Grid) (n : ℕ) (x : Grid) (a : Table) (rows_are : x.rows ≡ n) (cols_are : x.cols ≡ n) (has : HasEntries x a)
    (i j : ℕ) (row : i < n) (col : j < n) where
  entry_is : (p q : ℕ) → p < n → q < n → entry x p q ≡ a p q
  entry_is p q p_row q_col = has p q (rw rows_are p_row) (rw cols_are q_col)

  lower_is : (p q : ℕ) → p < n → q < n → view UnitLower (entry x) p q ≡ view UnitLower a p q
  lower_is p q p_row q_col = unit_lower-same (entry x) a p q (entry_is p q p_row q_col)

  pub left_side-lu : op.form ≡ Lu → left_side m op knowns x i j ≡ product n (view UnitLower a) (view Upper a) i j % m
  left_side-lu form = rw form
      (ap (λ (r : ℕ). times m r (view UnitLower (entry x)) (view Upper (entry x)) i j) rows_are
      ∙ ap (λ (p : ℕ). p % m) (product-same n (view UnitLower (entry x)) (view Upper (entry x)) (view UnitLower a) (view Upper a) i j
      (λ k h. lower_is i k row h) (λ k h. upper-same (entry x) a k j (entry_is k j h col))))

  pub left_side-ldl : op.form ≡ Ldl
      → left_side m op knowns x i j ≡ product n (product n (view UnitLower a) (view Diagonal a)) (transpose (view UnitLower a)) i j % m
  left_side-ldl form =
      let l : Table = view UnitLower (entry x) in
      let d : Table = view Diagonal (entry x) in
      let both : Cong m (product n (times m n (view UnitLower a) (view Diagonal a)) (transpose (view UnitLower a)) i j)
      (product n (product n (view UnitLower a) (view Diagonal a)) (transpose (view UnitLower a)) i j)
      = product-times_left m n n (view UnitLower a) (view Diagonal a) (transpose (view UnitLower a)) i j in
      rw form
      (ap (λ (r : ℕ). times m r (times m r l d) (transpose l) i j) rows_are
      ∙ ap (λ (p : ℕ). p % m) (product-same n (times m n l d) (transpose l) (times m n (view UnitLower a) (view Diagonal a)) (transpose (view UnitLower a)) i j
      (λ k h. ap (λ (p : ℕ). p % m) (product-same n l d (view UnitLower a) (view Diagonal a) i k
      (λ q inner. lower_is i q row inner) (λ q inner. diagonal-same (entry x) a q k (entry_is q k inner h))))
      (λ k h. lower_is j k col h))
      ∙ both.same)
