-- A statement that finds the factors L * D * L', and has no bad pivot, has just one solution.
use Rattle.std.proofs.Common.{◌≡◌, ℕ, ◌<◌, ◌≤◌, List, sym, refl, subst, ◌∙◌, arith}
use Rattle.residue_sums.specs.Residues.{Cong}
use Rattle.residue_sums.specs.Tables.{Table, product, transpose}
use Rattle.residue_sums.specs.Grids.{Grid, AreResidues, entry}
use Rattle.residue_sums.proofs.Congruence.{Cong-sym, mod_from_Cong}
use Rattle.structure_rules.specs.declared.Structure.{Structure}
use Rattle.structure_rules.specs.declared.Structure.TheVariants.{Lower, UnitLower, Diagonal}
use Rattle.structure_rules.specs.Structures.{view, IsEntry, IsInside}
use Rattle.matrix_algebra.specs.Factors.{IsLdlBadPivot}
use Rattle.matrix_algebra.proofs.LdlFactors.{ldl_solution}
use Rattle.matrix_algebra.proofs.Substitution.{Solution}
use Rattle.operation_spec.specs.declared.operation.Operation.{Operation}
use Rattle.operation_spec.specs.declared.operation.Form.TheVariants.{Ldl}
use Rattle.equation.specs.declared.job.Place.{Place}
use Rattle.equation.specs.Equations.{right_side, Satisfies}
use Rattle.equation.specs.Pivots.{IsBadForLdl, IsFirstBadPivot}
use Rattle.equation.proofs.FactorLeftSides.{left_side-ldl}
use Rattle.equation.proofs.PackedFactors.{PacksLdl, one_packed_ldl}
use Rattle.equation.proofs.ReducedFactors.{no_bad_ldl}
use Rattle.equation.proofs.SolvedGrids.{same_solution, solution_grid, HasResidues-right_side}

module _ (m : ℕ) (two : 2 ≤ m) (op : Operation) (knowns : List Grid) (work : Grid) (form : op.form ≡ Ldl) (lower : op.work.structure ≡ Lower)
    (square : work.rows ≡ work.cols) (none : (place : Place) → ¬ (IsFirstBadPivot m op knowns work place)) where
  is_inside : (i j : ℕ) → j ≤ i → IsInside op.work.structure i j
  is_inside i j low = rw lower (λ above. omega arith)

  is_low : (i j : ℕ) → IsInside op.work.structure i j → j ≤ i
  is_low i j inside = let not_above : ¬ (i < j) = rw lower at inside in omega arith

  no_bad_place : (k : ℕ) → k < work.rows → ¬ (IsBadForLdl m (right_side m op knowns work) k)
  no_bad_place k below bad = none (record { row = k; col = k }) (rw form (refl, below, bad))

  no_bad_block : ((i j : ℕ) → j ≤ i → i < work.rows → right_side m op knowns work i j < m) → (k : ℕ) → ¬ (IsLdlBadPivot m work.rows (right_side m op knowns work) k)
  no_bad_block residues = no_bad_ldl m work.rows two (right_side m op knowns work) residues no_bad_place

  -- what a solution holds
  packs : (x : Grid) → Satisfies m op knowns work x → PacksLdl m work.rows (right_side m op knowns work) (entry x)
  packs x is = record {
    equation = λ i j low row.
        let col : j < work.rows = omega arith in
        sym (is.equation i j row (rw (sym square) col) (is_inside i j low))
        ∙ left_side-ldl m op knowns work.rows x (entry x) is.rows (is.cols ∙ sym square) (λ a b a_row b_col. refl) i j row col form;
  }

  pub one_ldl : (x y : Grid) → Satisfies m op knowns work x → Satisfies m op knowns work y → x ≡ y
  one_ldl x y x_is y_is = same_solution m op knowns work x y x_is y_is
      (λ i j within. one_packed_ldl m work.rows two (right_side m op knowns work) no_bad_place (entry x) (entry y) (packs x x_is) (packs y y_is)
      i j (is_low i j within.inside) within.row)

  pub some_ldl : AreResidues m work → (x : Grid) × Satisfies m op knowns work x
  some_ldl residues = solution_grid m op knowns work Holds (omega arith) residues found
      (λ x rows cols has i j within holds.
      left_side-ldl m op knowns work.rows x found.table rows (cols ∙ sym square) has i j within.row (rw square within.col) form
      ∙ sym (mod_from_Cong (below i j) (Cong-sym holds)))
    where
      Holds : Table → ℕ → ℕ → Type 0
      Holds a i j = Cong m (product work.rows (product work.rows (view UnitLower a) (view Diagonal a)) (transpose (view UnitLower a)) i j) (right_side m op knowns work i j)

      below : (i j : ℕ) → right_side m op knowns work i j < m
      below = HasResidues-right_side m op knowns work (omega arith) residues

      found : Solution m (IsEntry work.rows work.cols op.work.structure) Holds (entry work)
      found = subst (λ (cols : ℕ). Solution m (IsEntry work.rows cols op.work.structure) Holds (entry work)) square
          (subst (λ (s : Structure). Solution m (IsEntry work.rows work.rows s) Holds (entry work)) (sym lower)
          (ldl_solution m work.rows two (right_side m op knowns work) (entry work) (λ k inner. no_bad_block (λ i j low row. below i j) k)))
