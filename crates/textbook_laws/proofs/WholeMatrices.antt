-- The equation of a statement whose work matrix is cut in two, entry by entry of the whole matrix.
use Rattle.std.proofs.Common.{◌≡◌, ℕ, ◌+◌, ◌%◌, ◌<◌, List, [], sym, ◌∙◌, subst, refl}
use Rattle.std.specs.Prelude.{◌↔◌}
use Rattle.std.proofs.Math.Nat.{mod-lt}
use Rattle.residue_sums.specs.Residues.{Cong}
use Rattle.residue_sums.specs.Tables.{Table}
use Rattle.residue_sums.specs.Grids.{entry}
use Rattle.residue_sums.proofs.Congruence.{Cong-sym, Cong-trans, Cong-mod, Cong-from_same, same_from_Cong}
use Rattle.structure_rules.specs.Structures.{IsInside}
use Rattle.equation.specs.Equations.{left_side, right_side}
use Rattle.block_values.specs.Values.{Setting}
use Rattle.block_values.specs.Settings.{IsSetting}
use Rattle.block_values.specs.PartitionedEquations.{HaveValues}
use Rattle.block_values.proofs.Assigned.{right_side-below}
use Rattle.block_values.proofs.Fitting.{IsFitting, IsFitting-setting}
use Rattle.block_values.proofs.Partitioned.{WholeHolds, blocks_are_whole}
use Rattle.block_values.proofs.AllForms.{each_block}
use Rattle.textbook_laws.specs.TwoParts.{IsInTwo}

module _ (s : Setting) (counts : List ℕ) (n0 n1 : ℕ) (is : IsSetting s counts) (two : IsInTwo s counts n0 n1) (square : s.op.work.rows ≡ s.op.work.cols) where
  pub fits : IsFitting s is.lengths counts
  fits = IsFitting-setting s counts is

  pub rows_are : is.lengths s.op.work.rows ≡ n0 + n1
  rows_are = sym (subst (λ k. s.starts s.op.work.rows k ≡ is.lengths s.op.work.rows) two.parts (is.cut.to_length s.op.work.rows fits.row_dim)) ∙ two.second

  pub cols_are : is.lengths s.op.work.cols ≡ n0 + n1
  cols_are = subst (λ d. is.lengths d ≡ n0 + n1) square rows_are

  pub size_is : s.solution.rows ≡ n0 + n1
  size_is = is.solution.rows ∙ rows_are

  -- the blocks have their values exactly where the whole is congruent to the right side, whatever the left side is the residue of
  module _ (reduced whole : Table) (left_is : (r c : ℕ) → left_side s.modulus s.op s.knowns s.solution r c ≡ reduced r c % s.modulus)
      (whole_is : (r c : ℕ) → Cong s.modulus (reduced r c) (whole r c)) where
    abbrev IsWhole : Type 0
    IsWhole = (r c : ℕ) → r < n0 + n1 → c < n0 + n1 → IsInside s.op.work.structure r c → Cong s.modulus (whole r c) (right_side s.modulus s.op s.knowns s.work r c)

    to_whole : WholeHolds s is.lengths counts fits (each_block s counts is) → IsWhole
    to_whole holds r c row col inside =
        let same : left_side s.modulus s.op s.knowns s.solution r c ≡ right_side s.modulus s.op s.knowns s.work r c =
        holds r c (subst (λ n. r < n) (sym rows_are) row) (subst (λ n. c < n) (sym cols_are) col) inside in
        Cong-trans (Cong-sym (whole_is r c)) (Cong-trans (Cong-sym (Cong-mod s.modulus (reduced r c))) (Cong-from_same (sym (left_is r c) ∙ same)))

    from_whole : IsWhole → WholeHolds s is.lengths counts fits (each_block s counts is)
    from_whole whole_holds r c row col inside = left_is r c
        ∙ same_from_Cong (mod-lt (reduced r c) fits.pos) (right_side-below s is.lengths counts fits 0 0 r c)
        (Cong-trans (Cong-mod s.modulus (reduced r c)) (Cong-trans (whole_is r c)
        (whole_holds r c (subst (λ n. r < n) rows_are row) (subst (λ n. c < n) cols_are col) inside)))

    pub blocks_hold : HaveValues s counts ↔ IsWhole
    blocks_hold =
        let both = blocks_are_whole s is.lengths counts fits (each_block s counts is) in
        (λ values. to_whole (both.0 values), λ holds. both.1 (from_whole holds))

-- with no terms the right side is W
pub plain_right : (s : Setting) → s.op.terms ≡ [] → right_side s.modulus s.op s.knowns s.work ≡ entry s.work
plain_right s none = rw none refl
