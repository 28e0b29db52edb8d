-- A statement that finds the factors L * U, and has no bad pivot, has just one solution.
use Rattle.std.proofs.Common.{◌≡◌, ℕ, ◌<◌, ◌≤◌, List, sym, refl, subst, ◌∙◌, arith}
use Rattle.residue_sums.specs.Residues.{Cong}
use Rattle.residue_sums.specs.Tables.{Table, product}
use Rattle.residue_sums.specs.Grids.{Grid, AreResidues, entry}
use Rattle.residue_sums.proofs.Congruence.{Cong-sym, mod_from_Cong}
use Rattle.structure_rules.specs.declared.Structure.{Structure}
use Rattle.structure_rules.specs.declared.Structure.TheVariants.{General, UnitLower, Upper}
use Rattle.structure_rules.specs.Structures.{view, IsEntry, IsInside}
use Rattle.matrix_algebra.specs.Factors.{IsLuBadPivot}
use Rattle.matrix_algebra.proofs.LuFactors.{lu_solution}
use Rattle.matrix_algebra.proofs.Substitution.{Solution}
use Rattle.operation_spec.specs.declared.operation.Operation.{Operation}
use Rattle.operation_spec.specs.declared.operation.Form.TheVariants.{Lu}
use Rattle.equation.specs.declared.job.Place.{Place}
use Rattle.equation.specs.Equations.{right_side, Satisfies}
use Rattle.equation.specs.Pivots.{IsBadForLu, IsFirstBadPivot}
use Rattle.equation.proofs.FactorLeftSides.{left_side-lu}
use Rattle.equation.proofs.PackedFactors.{PacksLu, one_packed_lu}
use Rattle.equation.proofs.ReducedFactors.{no_bad_lu}
use Rattle.equation.proofs.SolvedGrids.{same_solution, solution_grid, HasResidues-right_side}

module _ (m : ℕ) (two : 2 ≤ m) (op : Operation) (knowns : List Grid) (work : Grid) (form : op.form ≡ Lu) (general : op.work.structure ≡ General)
    (square : work.rows ≡ work.cols) (none : (place : Place) → ¬ (IsFirstBadPivot m op knowns work place)) where
  is_inside : (i j : ℕ) → IsInside op.work.structure i j
  is_inside i j = rw general (λ outside. outside)

  no_bad_place : (k : ℕ) → k < work.rows → ¬ (IsBadForLu m (right_side m op knowns work) k)
  no_bad_place k below bad = none (record { row = k; col = k }) (rw form (refl, below, bad))

  no_bad_block : ((i j : ℕ) → i < work.rows → j < work.rows → right_side m op knowns work i j < m) → (k : ℕ) → ¬ (IsLuBadPivot m work.rows (right_side m op knowns work) k)
  no_bad_block residues = no_bad_lu m work.rows two (right_side m op knowns work) residues no_bad_place

  -- what a solution holds
  packs : (x : Grid) → Satisfies m op knowns work x → PacksLu m work.rows (right_side m op knowns work) (entry x)
  packs x is = record {
    equation = λ i j row col.
        sym (is.equation i j row (rw (sym square) col) (is_inside i j))
        ∙ left_side-lu m op knowns work.rows x (entry x) is.rows (is.cols ∙ sym square) (λ a b a_row b_col. refl) i j row col form;
  }

  pub one_lu : (x y : Grid) → Satisfies m op knowns work x → Satisfies m op knowns work y → x ≡ y
  one_lu x y x_is y_is = same_solution m op knowns work x y x_is y_is
      (λ i j within. one_packed_lu m work.rows two (right_side m op knowns work) no_bad_place (entry x) (entry y) (packs x x_is) (packs y y_is)
      i j within.row (rw square within.col))

  pub some_lu : AreResidues m work → (x : Grid) × Satisfies m op knowns work x
  some_lu residues = solution_grid m op knowns work Holds (omega arith) residues found
      (λ x rows cols has i j within holds.
      left_side-lu m op knowns work.rows x found.table rows (cols ∙ sym square) has i j within.row (rw square within.col) form
      ∙ sym (mod_from_Cong (below i j) (Cong-sym holds)))
    where
      Holds : Table → ℕ → ℕ → Type 0
      Holds a i j = Cong m (product work.rows (view UnitLower a) (view Upper a) i j) (right_side m op knowns work i j)

      below : (i j : ℕ) → right_side m op knowns work i j < m
      below = HasResidues-right_side m op knowns work (omega arith) residues

      found : Solution m (IsEntry work.rows work.cols op.work.structure) Holds (entry work)
      found = subst (λ (cols : ℕ). Solution m (IsEntry work.rows cols op.work.structure) Holds (entry work)) square
          (subst (λ (s : Structure). Solution m (IsEntry work.rows work.rows s) Holds (entry work)) (sym general)
          (lu_solution m work.rows two (right_side m op knowns work) (entry work) (λ k inner. no_bad_block (λ i j row col. below i j) k)))
