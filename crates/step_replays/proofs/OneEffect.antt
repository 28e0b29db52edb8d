-- What a block task makes of its block is one value, where its solve finds pivots that are units. Cited where a step has one outcome.
use Rattle.std.proofs.Common.{◌≡◌, ℕ, zero, suc, ◌*◌, ◌<◌, ◌≤◌, Bool, true, false, List, [], ◌∷◌, refl, sym, ◌∙◌, ap, subst, arith}
use Rattle.std.specs.Prelude.{nat_lt}
use Rattle.std.proofs.lemmas.Bool.{ltb-true, ltb-false}
use Rattle.residue_sums.specs.Residues.{IsModulus, IsUnit}
use Rattle.residue_sums.specs.Tables.{Table}
use Rattle.residue_sums.specs.Grids.{Grid, AreResidues, entry}
use Rattle.structure_rules.specs.declared.Structure.TheVariants as structures
use Rattle.structure_rules.specs.Structures.{IsTriangular}
use Rattle.operation_spec.specs.declared.operation.Operation.{Operation}
use Rattle.operation_spec.specs.declared.operation.Factor.{Factor}
use Rattle.operation_spec.specs.declared.operation.Term.{Term}
use Rattle.operation_spec.specs.declared.operation.Form.{Form}
use Rattle.operation_spec.specs.declared.operation.Form.TheVariants.{Assign, Left, Right, Sylvester, Lu, Ldl}
use Rattle.operation_spec.specs.declared.task.Kind.{Kind}
use Rattle.operation_spec.specs.declared.task.Kind.TheVariants as kinds
use Rattle.operation_spec.specs.ValidOperations.{IsValid}
use Rattle.task_graph.specs.Factors.{known}
use Rattle.equation.specs.declared.job.Place.{Place}
use Rattle.equation.specs.Kernels.{combined, IsSolvedLeft, IsSolvedRight, IsSolvedSylvester}
use Rattle.equation.specs.Pivots.{IsBadForLdl, IsBadForLu}
use Rattle.equation.proofs.FactorResidues.{HasResidues-view}
use Rattle.equation.proofs.KernelValues.{one_solved_left, one_solved_right, one_solved_right_ldl, one_solved_sylvester, one_factored_lu, one_factored_ldl, one_inverted}
use Rattle.equation.proofs.OneValue.{one_written}
use Rattle.equation.proofs.ValidForms.{work-valid, left-triangular, right-triangular, sylvester-triangular}
use Rattle.flash_blocks.specs.Blocks.{Blocks}
use Rattle.block_tasks.specs.Effects.{block_structure, factor_block, block_diagonal, term_effect, numbered_term_effect, left_effect, right_effect, lu_effect, ldl_effect, solve_effect, effect_by, bad_by, bad_factor, pivots_effect}
use Rattle.step_replays.proofs.BlockPivots.{IsSolvable, diagonal, diagonal-view, none-ldl, none-lu, oriented-unit, pair-units, triangle-units, upper-unit, work-block_structure}
use Rattle.block_tasks.specs.Inverses.{HasUnits, HasPivots, HasPivotsBy}

-- ---- block tasks

module _ (m b : ℕ) (modulus : IsModulus m) (op : Operation) (valid : IsValid op) (knowns : ℕ → Blocks) (work : Blocks) where
  abbrev two : 2 ≤ m
  two = modulus.at_least_two

  -- updates
  one-term : (terms : List Term) (t i j k : ℕ) (x y : Grid) → term_effect m op knowns work terms t i j k x → term_effect m op knowns work terms t i j k y → x ≡ y
  one-term [] t i j k x y x_is y_is = absurd x_is
  one-term (term ∷ terms) zero i j k x y x_is y_is = one_written m (block_structure op.work.structure i j) _ (work i j) x y x_is y_is
  one-term (term ∷ terms) (suc t) i j k x y x_is y_is = one-term terms t i j k x y x_is y_is

  one-numbered : (t i j k : ℕ) (x y : Grid) → numbered_term_effect m op knowns work t i j k x → numbered_term_effect m op knowns work t i j k y → x ≡ y
  one-numbered zero i j k x y x_is y_is = absurd x_is
  one-numbered (suc t) i j k x y x_is y_is = one-term op.terms t i j k x y x_is y_is

  one-left : (form : Form) (i j k : ℕ) (x y : Grid) → left_effect m op knowns work form i j k x → left_effect m op knowns work form i j k y → x ≡ y
  one-left Assign i j k x y x_is y_is = absurd x_is
  one-left (Right u) i j k x y x_is y_is = absurd x_is
  one-left (Left t) i j k x y x_is y_is = one_written m (block_structure op.work.structure i j) _ (work i j) x y x_is y_is
  one-left (Sylvester t u negative) i j k x y x_is y_is = one_written m (block_structure op.work.structure i j) _ (work i j) x y x_is y_is
  one-left Lu i j k x y x_is y_is = one_written m (block_structure op.work.structure i j) _ (work i j) x y x_is y_is
  one-left Ldl i j k x y x_is y_is = one_written m (block_structure op.work.structure i j) _ (work i j) x y x_is y_is

  one-right : (form : Form) (i j k : ℕ) (x y : Grid) → right_effect m op knowns work form i j k x → right_effect m op knowns work form i j k y → x ≡ y
  one-right Assign i j k x y x_is y_is = absurd x_is
  one-right (Left t) i j k x y x_is y_is = absurd x_is
  one-right Lu i j k x y x_is y_is = absurd x_is
  one-right Ldl i j k x y x_is y_is = absurd x_is
  one-right (Right u) i j k x y x_is y_is = one_written m (block_structure op.work.structure i j) _ (work i j) x y x_is y_is
  one-right (Sylvester t u negative) i j k x y x_is y_is = one_written m (block_structure op.work.structure i j) _ (work i j) x y x_is y_is

  -- ---- solves with a known triangle

  module _ (list : Grid) (i j : ℕ) where
    one-solve_left : (f : Factor) (x y : Grid) → IsTriangular (known op f.known).structure → ((q : ℕ) → q < (work i j).rows → IsUnit m (diagonal op knowns f i q q))
        → solve_effect m op knowns work (Left f) i j x → solve_effect m op knowns work (Left f) i j y → x ≡ y
    one-solve_left f x y triangular units x_is y_is =
        one_solved_left m two (block_structure op.work.structure i j) (known op f.known).structure (work-block_structure op.work.structure i j (work-valid op valid)) triangular
        f.primed (entry (knowns f.known i i)) (work i j) x y units (viewed x x_is) (viewed y y_is)
      where
        viewed : (z : Grid) → IsSolvedLeft m (block_structure op.work.structure i j) (factor_block op knowns f i i) (work i j) z
            → IsSolvedLeft m (block_structure op.work.structure i j) (diagonal op knowns f i) (work i j) z
        viewed z is = subst (λ (t : Table). IsSolvedLeft m (block_structure op.work.structure i j) t (work i j) z) (diagonal-view op knowns f i) is

    one-solve_right : (f : Factor) (x y : Grid) → IsTriangular (known op f.known).structure → ((q : ℕ) → q < (work i j).cols → IsUnit m (diagonal op knowns f j q q))
        → solve_effect m op knowns work (Right f) i j x → solve_effect m op knowns work (Right f) i j y → x ≡ y
    one-solve_right f x y triangular units x_is y_is =
        one_solved_right m two (block_structure op.work.structure i j) (known op f.known).structure (work-block_structure op.work.structure i j (work-valid op valid)) triangular
        f.primed (entry (knowns f.known j j)) (work i j) x y units (viewed x x_is) (viewed y y_is)
      where
        viewed : (z : Grid) → IsSolvedRight m (block_structure op.work.structure i j) (factor_block op knowns f j j) (work i j) z
            → IsSolvedRight m (block_structure op.work.structure i j) (diagonal op knowns f j) (work i j) z
        viewed z is = subst (λ (t : Table). IsSolvedRight m (block_structure op.work.structure i j) t (work i j) z) (diagonal-view op knowns f j) is

    one-solve_sylvester : (f g : Factor) (negative : Bool) (x y : Grid) → IsTriangular (known op f.known).structure × IsTriangular (known op g.known).structure
        → AreResidues m (knowns g.known j j)
        → ((r c : ℕ) → r < (work i j).rows → c < (work i j).cols → IsUnit m (combined m negative (λ x y. diagonal op knowns f i x x) (λ x y. diagonal op knowns g j y y) r c))
        → solve_effect m op knowns work (Sylvester f g negative) i j x → solve_effect m op knowns work (Sylvester f g negative) i j y → x ≡ y
    one-solve_sylvester f g negative x y triangular residues units x_is y_is =
        one_solved_sylvester m two (known op f.known).structure (known op g.known).structure triangular.0 triangular.1 f.primed g.primed (entry (knowns f.known i i)) (entry (knowns g.known j j))
        (work i j) x y negative (λ q below. HasResidues-view m g.primed (known op g.known).structure (knowns g.known j j) two residues q q) units (viewed x x_is) (viewed y y_is)
      where
        viewed : (z : Grid) → IsSolvedSylvester m negative (factor_block op knowns f i i) (factor_block op knowns g j j) (work i j) z
            → IsSolvedSylvester m negative (diagonal op knowns f i) (diagonal op knowns g j) (work i j) z
        viewed z is = subst (λ (u : Table). IsSolvedSylvester m negative (diagonal op knowns f i) u (work i j) z) (diagonal-view op knowns g j)
            (subst (λ (t : Table). IsSolvedSylvester m negative t (factor_block op knowns g j j) (work i j) z) (diagonal-view op knowns f i) is)

    -- ---- solves of a factorisation

    -- the diagonal block has as many rows as its column of blocks is wide, and its pivots are units where a solve divides by them
    module _ (square : (work i j).cols ≡ (work j j).rows) where
      one-solve_lu : (right left : Bool) → nat_lt i j ≡ right → nat_lt j i ≡ left → (x y : Grid) → (j < i → HasUnits m (work j j))
          → (i ≡ j → (k : ℕ) → k < (work i j).rows → ¬ (IsBadForLu m (entry (work i j)) k))
          → lu_effect m work right left i j x → lu_effect m work right left i j y → x ≡ y
      one-solve_lu true left r l x y units good x_is y_is =
          one_solved_left m two structures.General structures.UnitLower tt tt false (entry (work i i)) (work i j) x y
          (λ q below. oriented-unit m false structures.UnitLower (entry (work i i)) q two refl) x_is y_is
      one-solve_lu false true r l x y units good x_is y_is =
          one_solved_right m two structures.General structures.Upper tt tt false (entry (work j j)) (work i j) x y
          (λ q below. upper-unit m (work j j) q (units (ltb-true j i l)) (rw square at below)) x_is y_is
      one-solve_lu false false r l x y units good x_is y_is =
          let i_le : i ≤ j = ltb-false j i l in let j_le : j ≤ i = ltb-false i j r in let same : i ≡ j = omega arith in
          one_factored_lu m two (work i j) x y (ap (λ (k : ℕ). (work k j).rows) same ∙ sym square) (good same) x_is y_is

      one-solve_ldl : (left : Bool) → nat_lt j i ≡ left → j ≤ i → (x y : Grid) → (j < i → HasUnits m (work j j))
          → (i ≡ j → (k : ℕ) → k < (work i j).rows → ¬ (IsBadForLdl m (entry (work i j)) k))
          → ldl_effect m work left i j x → ldl_effect m work left i j y → x ≡ y
      one-solve_ldl true l low x y units good x_is y_is =
          one_solved_right_ldl m two (entry (work j j)) (work i j) x y (λ q below. units (ltb-true j i l) q (rw square at below)) x_is y_is
      one-solve_ldl false l low x y units good x_is y_is =
          let i_le : i ≤ j = ltb-false j i l in let same : i ≡ j = omega arith in
          one_factored_ldl m two (work i j) x y (ap (λ (k : ℕ). (work k j).rows) same ∙ sym square) (good same) x_is y_is

  -- ---- any block task

  module _ (lengths : ℕ → ℕ) (list : Grid) where
    one-solve : (form : Form) → op.form ≡ form → (i j : ℕ) (x y : Grid) → IsSolvable m op knowns work i j → HasPivots m b op lengths knowns work list form i j
        → ((place : Place) → ¬ (bad_factor m b form work i j place))
        → solve_effect m op knowns work form i j x → solve_effect m op knowns work form i j y → x ≡ y
    one-solve Assign e i j x y can has good x_is y_is = absurd x_is
    one-solve (Left f) e i j x y can has good x_is y_is =
        one-solve_left list i j f x y (left-triangular op valid f e) (triangle-units m two op knowns list f i (i * b) (work i j).rows (lengths op.work.rows) has) x_is y_is
    one-solve (Right f) e i j x y can has good x_is y_is =
        one-solve_right list i j f x y (right-triangular op valid f e) (triangle-units m two op knowns list f j (j * b) (work i j).cols (lengths op.work.cols) has) x_is y_is
    one-solve (Sylvester f g negative) e i j x y can has good x_is y_is =
        one-solve_sylvester list i j f g negative x y (sylvester-triangular op valid f g negative e) (can.residues g.known j j)
        (pair-units m two op knowns list f g negative i j (i * b) (j * b) (lengths op.work.rows) (lengths op.work.cols) (work i j) has) x_is y_is
    one-solve Lu e i j x y can has good x_is y_is =
        one-solve_lu list i j (can.square (rw e refl)) (nat_lt i j) (nat_lt j i) refl refl x y has (none-lu m b work i j good) x_is y_is
    one-solve Ldl e i j x y can has good x_is y_is =
        one-solve_ldl list i j (can.square (rw e refl)) (nat_lt j i) refl (can.low e) x y has (none-ldl m b work i j good) x_is y_is

    pub one-effect : (kind : Kind) (t i j k : ℕ) (x y : Grid) → IsSolvable m op knowns work i j → HasPivotsBy m b op lengths knowns work list kind i j
        → ((place : Place) → ¬ (bad_by m b op.form work kind i j place))
        → effect_by m op knowns work kind t i j k x → effect_by m op knowns work kind t i j k y → x ≡ y
    one-effect kinds.Pivots t i j k x y can has good x_is y_is = absurd x_is
    one-effect kinds.Term t i j k x y can has good x_is y_is = one-numbered t i j k x y x_is y_is
    one-effect kinds.Left t i j k x y can has good x_is y_is = one-left op.form i j k x y x_is y_is
    one-effect kinds.Right t i j k x y can has good x_is y_is = one-right op.form i j k x y x_is y_is
    one-effect kinds.Solve t i j k x y can has good x_is y_is = one-solve op.form refl i j x y can has good x_is y_is

-- ---- pivot lists

-- the inverses of the pivots of a form are one list
pub one-pivots : (m b : ℕ) (op : Operation) (knowns : ℕ → Blocks) (form : Form) (old x y : Grid) → pivots_effect m b op knowns form old x → pivots_effect m b op knowns form old y → x ≡ y
one-pivots m b op knowns Assign old x y x_is y_is = absurd x_is
one-pivots m b op knowns Lu old x y x_is y_is = absurd x_is
one-pivots m b op knowns Ldl old x y x_is y_is = absurd x_is
one-pivots m b op knowns (Left t) old x y x_is y_is = one_inverted m (λ i j. block_diagonal b op knowns t j j) old x y x_is y_is
one-pivots m b op knowns (Right u) old x y x_is y_is = one_inverted m (λ i j. block_diagonal b op knowns u j j) old x y x_is y_is
one-pivots m b op knowns (Sylvester t u negative) old x y x_is y_is =
    one_inverted m (combined m negative (λ i j. block_diagonal b op knowns t i i) (λ i j. block_diagonal b op knowns u j j)) old x y x_is y_is
