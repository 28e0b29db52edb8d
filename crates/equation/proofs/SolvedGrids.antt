-- Tables that solve the equation of a form, and the matrices that hold them. Cited where a statement has one solution.
use Rattle.std.proofs.Common.{◌≡◌, ℕ, ◌<◌, ◌⊎◌, List, if◌then◌else◌, inl, inr, sym, ◌∙◌, refl, arith}
use Rattle.std.proofs.lemmas.Bool.Decides.{nat_tests}
use Rattle.residue_sums.specs.Tables.{Table}
use Rattle.residue_sums.specs.Grids.{Grid, AreResidues, HasEntries, entry}
use Rattle.structure_rules.specs.declared.Structure.{Structure}
use Rattle.structure_rules.specs.Structures.{view, IsEntry, IsWorkStructure, is_zero}
use Rattle.structure_rules.proofs.Views.{IsEntry-or_not}
use Rattle.matrix_algebra.proofs.Substitution.{Solution}
use Rattle.matrix_algebra.proofs.Solutions.{AgreeOn}
use Rattle.operation_spec.specs.declared.operation.Operation.{Operation}
use Rattle.equation.specs.Equations.{left_side, right_side, solution_table, Satisfies}
use Rattle.equation.specs.Kernels.{IsValue}
use Rattle.equation.specs.Pivots.{HasResidues}
use Rattle.equation.proofs.AssignedGrids.{grid_of, IsFull-grid_of, HasEntries-grid_of, AreResidues-grid_of, HasResidues-entry, HasResidues-terms}
use Rattle.equation.proofs.OneValue.{one_value}

-- what a work structure reads, by the test
view-by_test : (s : Structure) (a : Table) (i j : ℕ) → IsWorkStructure s → view s a i j ≡ (if is_zero s i j then 0 else a i j)
view-by_test s a i j work = grind (arith, nat_tests)

-- the solution is the work structure's view of what is stored
pub solution_table-view : (op : Operation) (x : Grid) (a : Table) (i j : ℕ) → IsWorkStructure op.work.structure → entry x i j ≡ a i j
    → solution_table op x i j ≡ view op.work.structure a i j
solution_table-view op x a i j work e = rw e (sym (view-by_test op.work.structure a i j work))

-- what a solution keeps
kept : (m : ℕ) (op : Operation) (knowns : List Grid) (work x : Grid) → Satisfies m op knowns work x
    → IsValue m op.work.structure (λ a. right_side m op knowns work) (right_side m op knowns work) work x
kept m op knowns work x is = record {
  rows = is.rows;
  cols = is.cols;
  full = is.full;
  residues = is.residues;
  equation = λ i j row col inside. refl;
  others = is.others;
}

-- two matrices that satisfy an equation, and agree on the entries of the work structure, are one
pub same_solution : (m : ℕ) (op : Operation) (knowns : List Grid) (work x y : Grid) → Satisfies m op knowns work x → Satisfies m op knowns work y
    → AgreeOn m work.rows work.cols op.work.structure (entry x) (entry y) → x ≡ y
same_solution m op knowns work x y x_is y_is = one_value m op.work.structure _ _ work x y (kept m op knowns work x x_is) (kept m op knowns work y y_is)

-- the right side has residues
pub HasResidues-right_side : (m : ℕ) (op : Operation) (knowns : List Grid) (work : Grid) → 0 < m → AreResidues m work → HasResidues m (right_side m op knowns work)
HasResidues-right_side m op knowns work pos residues = HasResidues-terms m op knowns op.terms (entry work) pos (HasResidues-entry m work pos residues)

-- a table that solves an equation, and keeps the other entries of the work matrix, gives a matrix that satisfies the equation
pub solution_grid : (m : ℕ) (op : Operation) (knowns : List Grid) (work : Grid) (Holds : Table → ℕ → ℕ → Type 0) → 0 < m → AreResidues m work
    → (found : Solution m (IsEntry work.rows work.cols op.work.structure) Holds (entry work))
    → ((x : Grid) → x.rows ≡ work.rows → x.cols ≡ work.cols → HasEntries x found.table
    → (i j : ℕ) → IsEntry work.rows work.cols op.work.structure i j → Holds found.table i j → left_side m op knowns x i j ≡ right_side m op knowns work i j)
    → (x : Grid) × Satisfies m op knowns work x
solution_grid m op knowns work Holds pos residues found equation = (
  x,
  record {
    rows = refl;
    cols = refl;
    full = IsFull-grid_of found.table work.rows work.cols;
    residues = AreResidues-grid_of found.table work.rows work.cols m (λ i j. below i j (IsEntry-or_not work.rows work.cols op.work.structure i j));
    equation = λ i j row col inside.
        let within : IsEntry work.rows work.cols op.work.structure i j = record { row = row; col = col; inside = inside } in
        equation x refl refl has i j within (found.solves i j within);
    others = λ i j row col none. has i j row col ∙ found.kept i j (λ within. within.inside none);
  },
)
  where
    x : Grid
    x = grid_of found.table work.rows work.cols

    has : HasEntries x found.table
    has = HasEntries-grid_of found.table work.rows work.cols

    below : (i j : ℕ) → IsEntry work.rows work.cols op.work.structure i j ⊎ ¬ (IsEntry work.rows work.cols op.work.structure i j) → found.table i j < m
    below i j (inl within) = found.residues i j within
    below i j (inr apart) = rw (found.kept i j apart) (HasResidues-entry m work pos residues i j)
