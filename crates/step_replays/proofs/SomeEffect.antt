-- A block task leaves some value in its block, and the test of pivots some list, where the pivots are units. Cited where a step has an outcome.
use Rattle.std.proofs.Common.{◌≡◌, ℕ, zero, suc, ◌*◌, ◌<◌, ◌≤◌, Bool, true, false, not, List, [], ◌∷◌, refl, sym, ◌∙◌, ap, subst, arith}
use Rattle.std.specs.Prelude.{◌==◌, ◌&&◌, nat_lt}
use Rattle.std.proofs.Math.Nat.{mod-lt}
use Rattle.std.proofs.lemmas.Bool.{and_parts, ltb-true, ltb-false, false≢true}
use Rattle.residue_sums.specs.Residues.{IsModulus, IsUnit}
use Rattle.residue_sums.specs.Tables.{Table, times, transpose}
use Rattle.residue_sums.specs.Grids.{Grid, AreResidues, entry}
use Rattle.structure_rules.specs.declared.Structure.{Structure}
use Rattle.structure_rules.specs.declared.Structure.TheVariants as structures
use Rattle.structure_rules.specs.Structures.{IsTriangular, view}
use Rattle.operation_spec.specs.declared.operation.Operation.{Operation}
use Rattle.operation_spec.specs.declared.operation.Factor.{Factor}
use Rattle.operation_spec.specs.declared.operation.Term.{Term}
use Rattle.operation_spec.specs.declared.operation.Form.{Form}
use Rattle.operation_spec.specs.declared.operation.Form.TheVariants.{Assign, Left, Right, Sylvester, Lu, Ldl}
use Rattle.operation_spec.specs.declared.task.Kind.{Kind}
use Rattle.operation_spec.specs.declared.task.Kind.TheVariants as kinds
use Rattle.operation_spec.specs.ValidOperations.{IsValid}
use Rattle.task_graph.specs.Factors.{known}
use Rattle.task_graph.specs.Tasks.{has_task, has_numbered_term, has_term, has_left, has_right, has_solve}
use Rattle.equation.specs.declared.job.Place.{Place}
use Rattle.equation.specs.Kernels.{IsValue, combined, IsSolvedLeft, IsSolvedRight, IsSolvedSylvester}
use Rattle.equation.specs.Pivots.{HasResidues, IsBadForLu, IsBadForLdl}
use Rattle.equation.proofs.FactorResidues.{HasResidues-view}
use Rattle.equation.proofs.UnitPivots.{units_on_diagonal, units_by_rows}
use Rattle.equation.proofs.ValidForms.{work-valid, left-triangular, right-triangular, sylvester-triangular}
use Rattle.flash_blocks.specs.Blocks.{Blocks}
use Rattle.block_tasks.specs.Effects.{block_structure, factor_block, factor_block_cols, solution_block, block_diagonal, term_effect, numbered_term_effect, left_effect, right_effect, lu_effect, ldl_effect, solve_effect, effect_by, bad_by, bad_factor, bad_pivots, pivots_effect}
use Rattle.block_tasks.specs.Inverses.{HasUnits, HasPivots, HasPivotsBy}
use Rattle.step_replays.specs.Accesses.{has_pivots_by, zero_list_by}
use Rattle.step_replays.proofs.BlockPivots.{IsSolvable, diagonal, diagonal-view, none-lu, none-ldl, oriented-unit, pair-units, triangle-units, upper-unit, work-block_structure}
use Rattle.step_replays.proofs.SomeValues.{some-written, some-inverted, some-solved_left, some-solved_right, some-solved_right_ldl, some-solved_sylvester, some-factored_lu, some-factored_ldl}

-- sums and differences of tables are residues
HasResidues-combined : (m : ℕ) (negative : Bool) (a b : Table) → 0 < m → HasResidues m (combined m negative a b)
HasResidues-combined m true a b pos i j = mod-lt _ pos
HasResidues-combined m false a b pos i j = mod-lt _ pos

-- ---- block tasks

module _ (m b : ℕ) (modulus : IsModulus m) (op : Operation) (valid : IsValid op) (knowns : ℕ → Blocks) (work : Blocks) (counts : List ℕ) where
  abbrev two : 2 ≤ m
  two = modulus.at_least_two

  pos : 0 < m
  pos = omega (arith, modulus.at_least_two)

  module _ (i j : ℕ) (residues : AreResidues m (work i j)) where
    abbrev s : Structure
    s = block_structure op.work.structure i j

    abbrev old : Grid
    old = work i j

    -- what an update writes
    updated : (negative : Bool) (a : Table) → (x : Grid) × IsValue m (block_structure op.work.structure i j) (λ z. z) (combined m negative (entry (work i j)) a) (work i j) x
    updated negative a = some-written m s (combined m negative (entry old) a) old pos residues (HasResidues-combined m negative (entry old) a pos)

    module _ (k : ℕ) where
      some-term : (terms : List Term) (t : ℕ) → has_term op counts terms t i j k ≡ true → (x : Grid) × term_effect m op knowns work terms t i j k x
      some-term [] t h = absurd (false≢true h)
      some-term (term ∷ terms) zero h =
          updated term.minus (times m (factor_block_cols op knowns term.first i k) (factor_block op knowns term.first i k) (factor_block op knowns term.second k j))
      some-term (term ∷ terms) (suc t) h = some-term terms t h

      some-numbered : (t : ℕ) → has_numbered_term op counts t i j k ≡ true → (x : Grid) × numbered_term_effect m op knowns work t i j k x
      some-numbered zero h = absurd (false≢true h)
      some-numbered (suc t) h = some-term op.terms t h

      some-left : (form : Form) → has_left op counts form i j k ≡ true → (x : Grid) × left_effect m op knowns work form i j k x
      some-left Assign h = absurd (false≢true h)
      some-left (Right u) h = absurd (false≢true h)
      some-left (Left t) h = updated true (times m (work k j).rows (factor_block op knowns t i k) (solution_block op work k j))
      some-left (Sylvester t u negative) h = updated true (times m (work k j).rows (factor_block op knowns t i k) (solution_block op work k j))
      some-left Lu h = updated true (times m (work i k).cols (entry (work i k)) (entry (work k j)))
      some-left Ldl h = updated true
          (times m (work i k).cols (times m (work i k).cols (entry (work i k)) (view structures.Diagonal (entry (work k k)))) (transpose (entry (work j k))))

      some-right : (form : Form) → has_right op counts form i j k ≡ true → (x : Grid) × right_effect m op knowns work form i j k x
      some-right Assign h = absurd (false≢true h)
      some-right (Left t) h = absurd (false≢true h)
      some-right Lu h = absurd (false≢true h)
      some-right Ldl h = absurd (false≢true h)
      some-right (Right u) h = updated true (times m (work i k).cols (solution_block op work i k) (factor_block op knowns u k j))
      some-right (Sylvester t u negative) h = updated (not negative) (times m (work i k).cols (solution_block op work i k) (factor_block op knowns u k j))

    -- ---- solves

    -- a value for a factor as it is viewed is one for its block
    some-solve_left : (f : Factor) → IsTriangular (known op f.known).structure → ((q : ℕ) → q < (work i j).rows → IsUnit m (diagonal op knowns f i q q))
        → (x : Grid) × solve_effect m op knowns work (Left f) i j x
    some-solve_left f triangular units =
        let found = some-solved_left m two old residues s (known op f.known).structure (work-block_structure op.work.structure i j (work-valid op valid)) triangular
        f.primed (entry (knowns f.known i i)) units in
        (found.0, subst (λ (t : Table). IsSolvedLeft m (block_structure op.work.structure i j) t (work i j) found.0) (sym (diagonal-view op knowns f i)) found.1)

    some-solve_right : (f : Factor) → IsTriangular (known op f.known).structure → ((q : ℕ) → q < (work i j).cols → IsUnit m (diagonal op knowns f j q q))
        → (x : Grid) × solve_effect m op knowns work (Right f) i j x
    some-solve_right f triangular units =
        let found = some-solved_right m two old residues s (known op f.known).structure (work-block_structure op.work.structure i j (work-valid op valid)) triangular
        f.primed (entry (knowns f.known j j)) units in
        (found.0, subst (λ (t : Table). IsSolvedRight m (block_structure op.work.structure i j) t (work i j) found.0) (sym (diagonal-view op knowns f j)) found.1)

    some-solve_sylvester : (f g : Factor) (negative : Bool) → IsTriangular (known op f.known).structure × IsTriangular (known op g.known).structure → AreResidues m (knowns g.known j j)
        → ((r c : ℕ) → r < (work i j).rows → c < (work i j).cols → IsUnit m (combined m negative (λ x y. diagonal op knowns f i x x) (λ x y. diagonal op knowns g j y y) r c))
        → (x : Grid) × solve_effect m op knowns work (Sylvester f g negative) i j x
    some-solve_sylvester f g negative triangular known_residues units =
        let found = some-solved_sylvester m two old residues (known op f.known).structure (known op g.known).structure triangular.0 triangular.1 f.primed g.primed
        (entry (knowns f.known i i)) (entry (knowns g.known j j)) negative
        (λ q below. HasResidues-view m g.primed (known op g.known).structure (knowns g.known j j) two known_residues q q) units in (
          found.0,
          subst (λ (u : Table). IsSolvedSylvester m negative (factor_block op knowns f i i) u (work i j) found.0) (sym (diagonal-view op knowns g j))
              (subst (λ (t : Table). IsSolvedSylvester m negative t (diagonal op knowns g j) (work i j) found.0) (sym (diagonal-view op knowns f i)) found.1),
        )

    module _ (square : (work i j).cols ≡ (work j j).rows) where
      some-solve_lu : (right left : Bool) → nat_lt i j ≡ right → nat_lt j i ≡ left → (j < i → HasUnits m (work j j))
          → (i ≡ j → (k : ℕ) → k < (work i j).rows → ¬ (IsBadForLu m (entry (work i j)) k)) → (x : Grid) × lu_effect m work right left i j x
      some-solve_lu true left r l units good =
          some-solved_left m two old residues structures.General structures.UnitLower tt tt false (entry (work i i))
          (λ q below. oriented-unit m false structures.UnitLower (entry (work i i)) q two refl)
      some-solve_lu false true r l units good =
          some-solved_right m two old residues structures.General structures.Upper tt tt false (entry (work j j))
          (λ q below. upper-unit m (work j j) q (units (ltb-true j i l)) (rw square at below))
      some-solve_lu false false r l units good =
          let i_le : i ≤ j = ltb-false j i l in let j_le : j ≤ i = ltb-false i j r in let same : i ≡ j = omega arith in
          some-factored_lu m two old residues (ap (λ (k : ℕ). (work k j).rows) same ∙ sym square) (good same)

      some-solve_ldl : (left : Bool) → nat_lt j i ≡ left → j ≤ i → (j < i → HasUnits m (work j j))
          → (i ≡ j → (k : ℕ) → k < (work i j).rows → ¬ (IsBadForLdl m (entry (work i j)) k)) → (x : Grid) × ldl_effect m work left i j x
      some-solve_ldl true l low units good = some-solved_right_ldl m two old residues (entry (work j j)) (λ q below. units (ltb-true j i l) q (rw square at below))
      some-solve_ldl false l low units good =
          let i_le : i ≤ j = ltb-false j i l in let same : i ≡ j = omega arith in
          some-factored_ldl m two old residues (ap (λ (k : ℕ). (work k j).rows) same ∙ sym square) (good same)

    module _ (lengths : ℕ → ℕ) (list : Grid) (can : IsSolvable m op knowns work i j) where
      some-solve : (form : Form) → op.form ≡ form → has_solve form ≡ true → HasPivots m b op lengths knowns work list form i j
          → ((place : Place) → ¬ (bad_factor m b form work i j place)) → (x : Grid) × solve_effect m op knowns work form i j x
      some-solve Assign e h has good = absurd (false≢true h)
      some-solve (Left f) e h has good =
          some-solve_left f (left-triangular op valid f e) (triangle-units m two op knowns list f i (i * b) (work i j).rows (lengths op.work.rows) has)
      some-solve (Right f) e h has good =
          some-solve_right f (right-triangular op valid f e) (triangle-units m two op knowns list f j (j * b) (work i j).cols (lengths op.work.cols) has)
      some-solve (Sylvester f g negative) e h has good =
          some-solve_sylvester f g negative (sylvester-triangular op valid f g negative e) (can.residues g.known j j)
          (pair-units m two op knowns list f g negative i j (i * b) (j * b) (lengths op.work.rows) (lengths op.work.cols) (work i j) has)
      some-solve Lu e h has good = some-solve_lu (can.square (rw e refl)) (nat_lt i j) (nat_lt j i) refl refl has (none-lu m b work i j good)
      some-solve Ldl e h has good = some-solve_ldl (can.square (rw e refl)) (nat_lt j i) refl (can.low e) has (none-ldl m b work i j good)

      pub some-effect : (kind : Kind) (t k : ℕ) → has_task op counts kind t i j k ≡ true → HasPivotsBy m b op lengths knowns work list kind i j
          → ((place : Place) → ¬ (bad_by m b op.form work kind i j place)) → (x : Grid) × effect_by m op knowns work kind t i j k x
      some-effect kinds.Pivots t k h has good = absurd (false≢true h)
      some-effect kinds.Term t k h has good = some-numbered k t h
      some-effect kinds.Left t k h has good = some-left k op.form (and_parts (t == 0) (has_left op counts op.form i j k) h).1
      some-effect kinds.Right t k h has good = some-right k op.form (and_parts (t == 0) (has_right op counts op.form i j k) h).1
      some-effect kinds.Solve t k h has good = some-solve op.form refl (and_parts (t == 0 && k == 0) (has_solve op.form) h).1 has good

-- ---- pivot lists

-- the list of the inverses, where no pivot of the form is bad
pub some-pivots : (m b : ℕ) → 2 ≤ m → (op : Operation) (knowns : ℕ → Blocks) (whole old : Grid) (form : Form) → has_pivots_by op form ≡ true
    → old.rows ≡ (zero_list_by form whole).rows → old.cols ≡ (zero_list_by form whole).cols
    → ((place : Place) → ¬ (bad_pivots m b op knowns whole.rows whole.cols form place)) → (x : Grid) × pivots_effect m b op knowns form old x
some-pivots m b two op knowns whole old Assign h rows cols good = absurd (false≢true h)
some-pivots m b two op knowns whole old Lu h rows cols good = absurd (false≢true h)
some-pivots m b two op knowns whole old Ldl h rows cols good = absurd (false≢true h)
some-pivots m b two op knowns whole old (Left t) h rows cols good = some-inverted m (λ i j. block_diagonal b op knowns t j j) old two
    (λ i j row col. units_on_diagonal m whole.rows two (λ q. block_diagonal b op knowns t q q) good j (rw cols at col))
some-pivots m b two op knowns whole old (Right u) h rows cols good = some-inverted m (λ i j. block_diagonal b op knowns u j j) old two
    (λ i j row col. units_on_diagonal m whole.cols two (λ q. block_diagonal b op knowns u q q) good j (rw cols at col))
some-pivots m b two op knowns whole old (Sylvester t u negative) h rows cols good =
    some-inverted m (combined m negative (λ i j. block_diagonal b op knowns t i i) (λ i j. block_diagonal b op knowns u j j)) old two
    (λ i j row col. units_by_rows m whole.rows whole.cols two (combined m negative (λ i j. block_diagonal b op knowns t i i) (λ i j. block_diagonal b op knowns u j j))
    good i j (rw rows at row) (rw cols at col))
