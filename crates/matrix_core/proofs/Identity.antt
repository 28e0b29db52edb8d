-- The diagonal is written from the top.
use Rattle.std.proofs.Common.{◌≡◌, ℕ, ◌+◌, ◌<◌, ◌==◌, ◌&&◌, nat_lt, if◌then◌else◌, inl, inr, arith, ◌∙◌}
use Rattle.std.proofs.lemmas.Bool.{cases_eq}
use Rattle.std.proofs.lemmas.Bool.Decides.{nat_tests}
use Rattle.residue_sums.specs.Grids.{Grid, IsFull, entry, with_entry}
use Rattle.residue_sums.proofs.Grids.{entry-with_entry_same, entry-with_entry_other_row, entry-with_entry_other_col}

-- the first i ones of the diagonal are written
pub record IsIdentityTo (n i : ℕ) (g : Grid) : Type 0 where
  pub rows : g.rows ≡ n
  pub cols : g.cols ≡ n
  pub full : IsFull g
  pub entries : (a b : ℕ) → a < n → b < n → entry g a b ≡ (if a == b && nat_lt a i then 1 else 0)

pub one_more : (g : Grid) (n i : ℕ) → IsIdentityTo n i g → i < n
    → (a b : ℕ) → a < n → b < n → entry (with_entry g i i 1) a b ≡ (if a == b && nat_lt a (i + 1) then 1 else 0)
one_more g n i so_far below a b a_in b_in =
    let rows = so_far.rows in
    let cols = so_far.cols in
    let before = so_far.entries a b a_in b_in in
    elim (cases_eq a i) [
      | inl same_row ↦ elim (cases_eq b i) [
        | inl same_col ↦ rw (same_row, same_col) (entry-with_entry_same g i i 1 so_far.full (omega arith) (omega arith) ∙ grind (arith, nat_tests))
        | inr other_col ↦ entry-with_entry_other_col g i i 1 a b (omega arith) (omega arith) other_col ∙ before ∙ grind (arith, nat_tests)
      ]
      | inr other_row ↦ entry-with_entry_other_row g i i 1 a b (omega arith) (omega arith) other_row ∙ before ∙ grind (arith, nat_tests)
    ]
