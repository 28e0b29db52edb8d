-- Operations of the form `X = R`: one solution, and no bad pivot.
use Rattle.std.proofs.Common.{◌≡◌, ℕ, List, true, false, if◌then◌else◌, inl, inr, sym, ◌∙◌, refl, arith}
use Rattle.std.proofs.lemmas.Bool.Decides.{nat_tests}
use Rattle.residue_sums.specs.Tables.{Table}
use Rattle.residue_sums.specs.Grids.{Grid, IsFull, AreResidues, HasEntries, entry}
use Rattle.residue_sums.proofs.Grids.{same_from_HasEntries}
use Rattle.structure_rules.specs.declared.Structure.{Structure}
use Rattle.structure_rules.specs.Structures.{IsZero, IsInside, is_zero}
use Rattle.structure_rules.proofs.Views.{IsZero-or_inside}
use Rattle.operation_spec.specs.declared.operation.Operation.{Operation}
use Rattle.operation_spec.specs.declared.operation.Form.TheVariants.{Assign}
use Rattle.equation.specs.declared.job.Place.{Place}
use Rattle.equation.specs.Equations.{left_side, right_side, solution_table, Satisfies}
use Rattle.equation.specs.Pivots.{IsFirstBadPivot}

-- the test agrees with the relation
is_zero-inside : (s : Structure) (i j : ℕ) → IsInside s i j → is_zero s i j ≡ false
is_zero-inside s i j h = grind (arith, nat_tests)

is_zero-zero : (s : Structure) (i j : ℕ) → IsZero s i j → is_zero s i j ≡ true
is_zero-zero s i j h = grind (arith, nat_tests)

-- the left side is the solution
pub left_side-assign : (m : ℕ) (op : Operation) (knowns : List Grid) (stored : Grid) → op.form ≡ Assign
    → (i j : ℕ) → left_side m op knowns stored i j ≡ solution_table op stored i j
left_side-assign m op knowns stored form i j = rw form refl

-- what the solution holds: R on the entries of the work structure, and the work matrix elsewhere
abbrev pub assigned : ℕ → Operation → List Grid → Grid → Table
assigned m op knowns work i j = if is_zero op.work.structure i j then entry work i j else right_side m op knowns work i j

pub solution_inside : (op : Operation) (x : Grid) (i j : ℕ) → IsInside op.work.structure i j → solution_table op x i j ≡ entry x i j
solution_inside op x i j inside = rw (is_zero-inside op.work.structure i j inside) refl

HasEntries-assigned : (m : ℕ) (op : Operation) (knowns : List Grid) (work x : Grid) → op.form ≡ Assign → Satisfies m op knowns work x
    → HasEntries x (assigned m op knowns work)
HasEntries-assigned m op knowns work x form is i j row col = elim (IsZero-or_inside op.work.structure i j) [
  | inl none ↦ rw (is_zero-zero op.work.structure i j none) (is.others i j (rw (sym is.rows) row) (rw (sym is.cols) col) none)
  | inr inside ↦ rw (is_zero-inside op.work.structure i j inside)
      (sym (solution_inside op x i j inside) ∙ sym (left_side-assign m op knowns x form i j) ∙ is.equation i j (rw (sym is.rows) row) (rw (sym is.cols) col) inside)
]

-- and a grid of residues that holds them satisfies the equation
pub Satisfies-assigned : (m : ℕ) (op : Operation) (knowns : List Grid) (work x : Grid) → op.form ≡ Assign → x.rows ≡ work.rows → x.cols ≡ work.cols
    → IsFull x → AreResidues m x → HasEntries x (assigned m op knowns work) → Satisfies m op knowns work x
Satisfies-assigned m op knowns work x form rows cols full residues has = record {
  rows = rows;
  cols = cols;
  full = full;
  residues = residues;
  equation = λ i j row col inside.
      left_side-assign m op knowns x form i j ∙ solution_inside op x i j inside ∙ has i j (rw rows row) (rw cols col)
      ∙ rw (is_zero-inside op.work.structure i j inside) refl;
  others = λ i j row col none. has i j (rw rows row) (rw cols col) ∙ rw (is_zero-zero op.work.structure i j none) refl;
}

pub one_solution : (m : ℕ) (op : Operation) (knowns : List Grid) (work x y : Grid) → op.form ≡ Assign
    → Satisfies m op knowns work x → Satisfies m op knowns work y → x ≡ y
one_solution m op knowns work x y form x_is y_is =
    same_from_HasEntries x y (assigned m op knowns work) x_is.full y_is.full (x_is.rows ∙ sym y_is.rows) (x_is.cols ∙ sym y_is.cols)
    (HasEntries-assigned m op knowns work x form x_is) (HasEntries-assigned m op knowns work y form y_is)

pub no_bad_pivot : (m : ℕ) (op : Operation) (knowns : List Grid) (work : Grid) (place : Place) → op.form ≡ Assign
    → ¬ (IsFirstBadPivot m op knowns work place)
no_bad_pivot m op knowns work place form bad = rw form at bad
