-- A statement of any form that has no bad pivot has just one solution.
use Rattle.std.proofs.Common.{◌≡◌, ℕ, ◌≤◌, List, Bool, true, false, length, get_or, All, inl, inr, sym, subst, refl, arith}
use Rattle.std.proofs.lemmas.Bool.{cases_lt}
use Rattle.std.proofs.lemmas.List.{get_or-map, get_or_past, length-map}
use Rattle.std.proofs.lemmas.List.Elements.{All-get_or}
use Rattle.residue_sums.specs.Residues.{IsModulus}
use Rattle.residue_sums.specs.Grids.{Grid, AreResidues}
use Rattle.operation_spec.specs.declared.operation.Operation.{Operation}
use Rattle.operation_spec.specs.declared.operation.Factor.{Factor}
use Rattle.operation_spec.specs.declared.operation.Binding.{Binding}
use Rattle.operation_spec.specs.declared.operation.Form.{Form}
use Rattle.operation_spec.specs.declared.operation.Form.TheVariants.{Assign, Left, Right, Sylvester, Lu, Ldl}
use Rattle.operation_spec.specs.ValidOperations.{IsValid}
use Rattle.equation.specs.declared.job.Place.{Place}
use Rattle.equation.specs.Equations.{known_grid, Satisfies}
use Rattle.equation.specs.Jobs.{Fits, known_grids, nth_grid, no_grid}
use Rattle.equation.specs.Pivots.{IsFirstBadPivot}
use Rattle.equation.proofs.AssignedGrids.{a_solution}
use Rattle.equation.proofs.Assignments.{one_solution}
use Rattle.equation.proofs.LdlForms.{one_ldl, some_ldl}
use Rattle.equation.proofs.LuForms.{one_lu, some_lu}
use Rattle.equation.proofs.SylvesterForms.{one_plus, one_minus, some_plus, some_minus}
use Rattle.equation.proofs.TriangularForms.{one_left, one_right, some_left, some_right}
use Rattle.equation.proofs.ValidForms.{lu-general, lu-square, ldl-lower, ldl-square}

-- ---- matrices of residues

pub AreResidues-nth : (m : ℕ) (grids : List Grid) (n : ℕ) → All (AreResidues m) grids → AreResidues m (nth_grid grids n)
AreResidues-nth m grids n residues = elim (cases_lt n (length grids)) [
  | inl below ↦ All-get_or (AreResidues m) grids n no_grid below residues
  | inr past ↦ rw (get_or_past grids n no_grid past) (λ k d below. absurd (omega arith))
]

AreResidues-known : (m : ℕ) (grids : List Grid) (bind : Binding) (k : ℕ) → All (AreResidues m) grids → AreResidues m (known_grid (known_grids grids bind) k)
AreResidues-known m grids bind k residues = elim (cases_lt k (length bind.knowns)) [
  | inl below ↦ subst (AreResidues m) (sym (get_or-map (nth_grid grids) bind.knowns k 0 no_grid below)) (AreResidues-nth m grids (get_or bind.knowns k 0) residues)
  | inr past ↦ subst (AreResidues m) (sym (get_or_past (known_grids grids bind) k no_grid (omega (arith, length-map bind.knowns (nth_grid grids))))) (λ k d below. absurd (omega arith))
]

-- ---- all forms

module _ (m : ℕ) (op : Operation) (grids : List Grid) (bind : Binding) (modulus : IsModulus m) (valid : IsValid op) (fits : Fits op grids bind)
    (residues : All (AreResidues m) grids) (none : (place : Place) → ¬ (IsFirstBadPivot m op (known_grids grids bind) (nth_grid grids bind.work) place)) where
  abbrev knowns : List Grid
  knowns = known_grids grids bind

  abbrev work : Grid
  work = nth_grid grids bind.work

  pub at_most_one : (x y : Grid) → Satisfies m op knowns work x → Satisfies m op knowns work y → x ≡ y
  at_most_one x y x_is y_is = go op.form refl
    where
      sylvester : (t u : Factor) (negative : Bool) → op.form ≡ Sylvester t u negative → x ≡ y
      sylvester t u false e = one_plus m modulus.at_least_two op valid knowns work none t u e x y x_is y_is
      sylvester t u true e = one_minus m modulus.at_least_two op valid knowns work none t u e (AreResidues-known m grids bind u.known residues) x y x_is y_is

      go : (form : Form) → op.form ≡ form → x ≡ y
      go Assign e = one_solution m op knowns work x y e x_is y_is
      go (Left t) e = one_left m modulus.at_least_two op valid knowns work none t e x y x_is y_is
      go (Right t) e = one_right m modulus.at_least_two op valid knowns work none t e x y x_is y_is
      go (Sylvester t u negative) e = sylvester t u negative e
      go Lu e = one_lu m modulus.at_least_two op knowns work e (lu-general op valid e).0 (lu-square op valid fits.lengths work fits.work e) none x y x_is y_is
      go Ldl e = one_ldl m modulus.at_least_two op knowns work e (ldl-lower op valid e) (ldl-square op valid fits.lengths work fits.work e) none x y x_is y_is

  pub at_least_one : (x : Grid) × Satisfies m op knowns work x
  at_least_one = go op.form refl
    where
      work_residues : AreResidues m work
      work_residues = AreResidues-nth m grids bind.work residues

      sylvester : (t u : Factor) (negative : Bool) → op.form ≡ Sylvester t u negative → (x : Grid) × Satisfies m op knowns work x
      sylvester t u false e = some_plus m modulus.at_least_two op valid knowns work none t u e work_residues
      sylvester t u true e = some_minus m modulus.at_least_two op valid knowns work none t u e (AreResidues-known m grids bind u.known residues) work_residues

      go : (form : Form) → op.form ≡ form → (x : Grid) × Satisfies m op knowns work x
      go Assign e = let two : 2 ≤ m = modulus.at_least_two in a_solution m op knowns work (omega arith) e work_residues
      go (Left t) e = some_left m modulus.at_least_two op valid knowns work none t e work_residues
      go (Right t) e = some_right m modulus.at_least_two op valid knowns work none t e work_residues
      go (Sylvester t u negative) e = sylvester t u negative e
      go Lu e = some_lu m modulus.at_least_two op knowns work e (lu-general op valid e).0 (lu-square op valid fits.lengths work fits.work e) none work_residues
      go Ldl e = some_ldl m modulus.at_least_two op knowns work e (ldl-lower op valid e) (ldl-square op valid fits.lengths work fits.work e) none work_residues
