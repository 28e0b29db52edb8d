-- Which pivots are bad: none of a unit structure, and the first of those on a diagonal or in rows and columns is one.
use Rattle.std.proofs.Common.{◌≡◌, ℕ, ◌<◌, ◌⊎◌, List, Bool, true, false, inl, inr, sym, ◌∙◌, refl}
use Rattle.std.proofs.lemmas.Bool.{cases_order}
use Rattle.residue_sums.specs.Residues.{IsModulus, IsUnit}
use Rattle.residue_sums.specs.Tables.{Table}
use Rattle.residue_sums.specs.Grids.{Grid, entry}
use Rattle.residue_sums.proofs.Congruence.{Cong-refl, IsUnit-from_inverse}
use Rattle.structure_rules.specs.Structures.{IsOne, view}
use Rattle.structure_rules.proofs.Views.{view-one}
use Rattle.operation_spec.specs.declared.operation.Operation.{Operation}
use Rattle.operation_spec.specs.declared.operation.Factor.{Factor}
use Rattle.operation_spec.specs.declared.operation.Form.{Form}
use Rattle.operation_spec.specs.declared.operation.Form.TheVariants.{Assign, Left, Right, Sylvester, Lu, Ldl}
use Rattle.equation.specs.declared.job.Place.{Place}
use Rattle.equation.specs.Equations.{known_grid, right_side}
use Rattle.equation.specs.Pivots.{IsFirstOnDiagonal, IsFirstByRows, IsBefore, IsFirstBadPivot, IsBadForLu, IsBadForLdl, IsUnitFactor, factor_pivots}
use Rattle.equation.proofs.Assignments.{no_bad_pivot}
use Rattle.equation.proofs.FactorPivots.{one_lu_bad_pivot, one_ldl_bad_pivot}
use Rattle.equation.proofs.ValidForms.{known_structure}

-- ---- unit structures

one_on_diagonal : (op : Operation) (t : Factor) (i : ℕ) → IsUnitFactor op t → IsOne (known_structure op t) i i
one_on_diagonal op t i (inl e) = rw e refl
one_on_diagonal op t i (inr e) = rw e refl

pivot_is_one : (op : Operation) (knowns : List Grid) (t : Factor) → IsUnitFactor op t → (i : ℕ) → factor_pivots op knowns t i ≡ 1
pivot_is_one op knowns t unit i = go t.primed refl
  where
    one : view (known_structure op t) (entry (known_grid knowns t.known)) i i ≡ 1
    one = view-one (known_structure op t) (entry (known_grid knowns t.known)) i i (one_on_diagonal op t i unit)

    go : (primed : Bool) → t.primed ≡ primed → factor_pivots op knowns t i ≡ 1
    go true e = rw e one
    go false e = rw e one

pivot_is_unit : (m : ℕ) (op : Operation) (knowns : List Grid) (t : Factor) → IsModulus m → IsUnitFactor op t → (i : ℕ) → IsUnit m (factor_pivots op knowns t i)
pivot_is_unit m op knowns t modulus unit i = rw (pivot_is_one op knowns t unit i) (IsUnit-from_inverse m 1 1 modulus.at_least_two (Cong-refl m 1))

pub no_unit_is_bad : (m : ℕ) (op : Operation) (knowns : List Grid) (work : Grid) (place : Place) (t : Factor) → IsModulus m
    → (op.form ≡ Left t) ⊎ (op.form ≡ Right t) → IsUnitFactor op t → ¬ (IsFirstBadPivot m op knowns work place)
no_unit_is_bad m op knowns work place t modulus (inl form) unit first =
    let on : IsFirstOnDiagonal m work.rows (factor_pivots op knowns t) place = rw form at first in
    on.bad (pivot_is_unit m op knowns t modulus unit place.row)
no_unit_is_bad m op knowns work place t modulus (inr form) unit first =
    let on : IsFirstOnDiagonal m work.cols (factor_pivots op knowns t) place = rw form at first in
    on.bad (pivot_is_unit m op knowns t modulus unit place.row)

-- ---- one place

same_place : (p q : Place) → p.row ≡ q.row → p.col ≡ q.col → p ≡ q
same_place p q row col = λ x. record { row = row x; col = col x }

first_on_diagonal : (m n : ℕ) (pivot : ℕ → ℕ) (p q : Place) → IsFirstOnDiagonal m n pivot p → IsFirstOnDiagonal m n pivot q → p ≡ q
first_on_diagonal m n pivot p q p_is q_is = elim (cases_order p.row q.row) [
  | inl e ↦ same_place p q e (p_is.diagonal ∙ e ∙ sym q_is.diagonal)
  | inr (inl less) ↦ absurd (p_is.bad (q_is.first p.row less))
  | inr (inr less) ↦ absurd (q_is.bad (p_is.first q.row less))
]

-- of two places one comes before the other, or they are one
first_by_rows : (m rows cols : ℕ) (pivot : Table) (p q : Place) → IsFirstByRows m rows cols pivot p → IsFirstByRows m rows cols pivot q → p ≡ q
first_by_rows m rows cols pivot p q p_is q_is = elim (cases_order p.row q.row) [
  | inl row ↦ elim (cases_order p.col q.col) [
    | inl col ↦ same_place p q row col
    | inr (inl less) ↦ absurd (after (inr (row, less)))
    | inr (inr less) ↦ absurd (before (inr (sym row, less)))
  ]
  | inr (inl less) ↦ absurd (after (inl less))
  | inr (inr less) ↦ absurd (before (inl less))
]
  where
    after : ¬ (IsBefore p.row p.col q)
    after h = p_is.bad (q_is.first p.row p.col p_is.row p_is.col h)

    before : ¬ (IsBefore q.row q.col p)
    before h = q_is.bad (p_is.first q.row q.col q_is.row q_is.col h)

pub one_first_bad_pivot : (m : ℕ) (op : Operation) (knowns : List Grid) (work : Grid) (place other : Place) → IsModulus m
    → IsFirstBadPivot m op knowns work place → IsFirstBadPivot m op knowns work other → place ≡ other
one_first_bad_pivot m op knowns work p q modulus p_is q_is = go op.form refl
  where
    on_diagonal : (p.col ≡ p.row) → (q.col ≡ q.row) → p.row ≡ q.row → p ≡ q
    on_diagonal p_on q_on row = same_place p q row (p_on ∙ row ∙ sym q_on)

    go : (form : Form) → op.form ≡ form → p ≡ q
    go Assign e = absurd (no_bad_pivot m op knowns work p e p_is)
    go (Left t) e = first_on_diagonal m work.rows (factor_pivots op knowns t) p q (rw e at p_is) (rw e at q_is)
    go (Right t) e = first_on_diagonal m work.cols (factor_pivots op knowns t) p q (rw e at p_is) (rw e at q_is)
    go (Sylvester t u negative) e = first_by_rows m work.rows work.cols _ p q (rw e at p_is) (rw e at q_is)
    go Lu e =
        let p_lu : (p.col ≡ p.row) × (p.row < work.rows) × IsBadForLu m (right_side m op knowns work) p.row = rw e at p_is in
        let q_lu : (q.col ≡ q.row) × (q.row < work.rows) × IsBadForLu m (right_side m op knowns work) q.row = rw e at q_is in
        on_diagonal p_lu.0 q_lu.0 (one_lu_bad_pivot m work.rows modulus.at_least_two (right_side m op knowns work) p.row q.row p_lu.1 q_lu.1 p_lu.2 q_lu.2)
    go Ldl e =
        let p_ldl : (p.col ≡ p.row) × (p.row < work.rows) × IsBadForLdl m (right_side m op knowns work) p.row = rw e at p_is in
        let q_ldl : (q.col ≡ q.row) × (q.row < work.rows) × IsBadForLdl m (right_side m op knowns work) q.row = rw e at q_is in
        on_diagonal p_ldl.0 q_ldl.0 (one_ldl_bad_pivot m work.rows modulus.at_least_two (right_side m op knowns work) p.row q.row p_ldl.1 q_ldl.1 p_ldl.2 q_ldl.2)
