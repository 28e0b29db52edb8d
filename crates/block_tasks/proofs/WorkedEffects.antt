-- The lists that the test of the pivots leaves, on rows that were worked by hand.
use Rattle.std.proofs.Common.{◌≡◌, ℕ, zero, suc, ◌<◌, List, [], ◌∷◌, true, false, refl, arith}
use Rattle.std.specs.Prelude.{◌==◌, if◌then◌else◌}
use Rattle.std.proofs.lemmas.List.Elements.{All-cons, All-nil}
use Rattle.residue_sums.specs.Tables.{Table}
use Rattle.residue_sums.specs.Grids.{Grid, entry}
use Rattle.structure_rules.specs.declared.Structure.TheVariants.{General}
use Rattle.operation_spec.specs.declared.operation.Form.TheVariants.{Left, Right, Sylvester}
use Rattle.operation_spec.proofs.WorkedOperations.{factor, low, low_right, syl_lower}
use Rattle.equation.specs.Kernels.{IsValue}
use Rattle.flash_blocks.specs.Blocks.{Blocks, block_of}
use Rattle.block_tasks.specs.Effects.{pivots_effect}

abbrev grid : ℕ → ℕ → List ℕ → Grid
grid rows cols entries = record { rows = rows; cols = cols; entries = entries }

-- two numbers in a row, and in a column
abbrev row : ℕ → ℕ → Grid
row a b = grid 1 2 (a ∷ b ∷ [])

abbrev column : ℕ → ℕ → Grid
column a b = grid 2 1 (a ∷ b ∷ [])

row_value : (left : Table → Table) (right : Table) (a b : ℕ) → a < 7 → b < 7 → left (entry (row a b)) 0 0 ≡ right 0 0 → left (entry (row a b)) 0 1 ≡ right 0 1
    → IsValue 7 General left right (row 0 0) (row a b)
row_value left right a b a_is b_is first second = record {
  rows = refl;
  cols = refl;
  full = refl;
  residues = All-cons (λ x. x < 7) a (b ∷ []) a_is (All-cons (λ x. x < 7) b [] b_is (All-nil (λ x. x < 7)));
  equation = λ i j row_in col_in inside. each i j row_in col_in;
  others = λ i j row_in col_in none. absurd none;
}
  where
    each : (i j : ℕ) → i < 1 → j < 2 → left (entry (row a b)) i j ≡ right i j
    each zero zero row_in col_in = first
    each zero (suc zero) row_in col_in = second
    each zero (suc (suc j)) row_in col_in = absurd (omega arith)
    each (suc i) j row_in col_in = absurd (omega arith)

column_value : (left : Table → Table) (right : Table) (a b : ℕ) → a < 7 → b < 7 → left (entry (column a b)) 0 0 ≡ right 0 0
    → left (entry (column a b)) 1 0 ≡ right 1 0 → IsValue 7 General left right (column 0 0) (column a b)
column_value left right a b a_is b_is first second = record {
  rows = refl;
  cols = refl;
  full = refl;
  residues = All-cons (λ x. x < 7) a (b ∷ []) a_is (All-cons (λ x. x < 7) b [] b_is (All-nil (λ x. x < 7)));
  equation = λ i j row_in col_in inside. each i j row_in col_in;
  others = λ i j row_in col_in none. absurd none;
}
  where
    each : (i j : ℕ) → i < 2 → j < 1 → left (entry (column a b)) i j ≡ right i j
    each zero zero row_in col_in = first
    each (suc zero) zero row_in col_in = second
    each (suc (suc i)) j row_in col_in = absurd (omega arith)
    each i (suc j) row_in col_in = absurd (omega arith)

-- T is 1 0 / 1 2, and U is 3
abbrev t : Grid
t = grid 2 2 (1 ∷ 0 ∷ 1 ∷ 2 ∷ [])

abbrev knowns : ℕ → ℕ → Blocks
knowns b k = if k == 0 then block_of b t else block_of b (grid 1 1 (3 ∷ []))

-- the inverses of 1 and 2 modulo 7, in blocks of one entry and in one block
on_the_left : pivots_effect 7 1 low (knowns 1) (Left (factor 0 false)) (row 0 0) (row 1 4)
unfolding low
on_the_left = row_value _ _ 1 4 (omega arith) (omega arith) refl refl

in_one_block : pivots_effect 7 2 low (knowns 2) (Left (factor 0 false)) (row 0 0) (row 1 4)
unfolding low
in_one_block = row_value _ _ 1 4 (omega arith) (omega arith) refl refl

on_the_right : pivots_effect 7 1 low_right (knowns 1) (Right (factor 0 false)) (row 0 0) (row 1 4)
unfolding low_right
on_the_right = row_value _ _ 1 4 (omega arith) (omega arith) refl refl

-- the inverses of 1 - 3 and 2 - 3
of_pairs : pivots_effect 7 1 syl_lower (knowns 1) (Sylvester (factor 0 false) (factor 1 false) true) (column 0 0) (column 3 6)
unfolding syl_lower
of_pairs = column_value _ _ 3 6 (omega arith) (omega arith) refl refl
