-- Statements that are done one after another from the same matrices: where each equation on the way has one solution, there is
-- one outcome.
use Rattle.std.proofs.Common.{◌≡◌, ℕ, ◌+◌, suc, List, [], ◌∷◌, All, slice_get, slice_set, Some, inl, inr, sym, ◌∙◌, ap, subst, arith}
use Rattle.std.proofs.lemmas.Option.{same_Some}
use Rattle.residue_sums.specs.Residues.{IsModulus}
use Rattle.residue_sums.specs.Grids.{Grid}
use Rattle.operation_spec.specs.declared.operation.Operation.{Operation}
use Rattle.equation.specs.declared.job.Job.{Job}
use Rattle.equation.specs.declared.job.Place.{Place}
use Rattle.equation.specs.declared.job.Statement.{Statement}
use Rattle.equation.specs.Equations.{Satisfies}
use Rattle.equation.specs.Jobs.{known_grids, nth_grid}
use Rattle.equation.specs.Meanings.{Changes, ChangeAll, FailAt, Fails}
use Rattle.equation.specs.Pivots.{IsFirstBadPivot}
use Rattle.equation.proofs.FirstPivots.{one_first_bad_pivot}

-- the statement's equation has one solution at most at these matrices, where there is no bad pivot
abbrev pub HasOneSolution : Job → Statement → List Grid → Type 0
HasOneSolution job s before = (op : Operation) → slice_get job.operations s.operation ≡ Some op
    → ((place : Place) → ¬ (IsFirstBadPivot job.modulus op (known_grids before s.bind) (nth_grid before s.bind.work) place)) → (x y : Grid)
    → Satisfies job.modulus op (known_grids before s.bind) (nth_grid before s.bind.work) x
    → Satisfies job.modulus op (known_grids before s.bind) (nth_grid before s.bind.work) y → x ≡ y

-- ---- one statement

module _ (job : Job) (s : Statement) where
  one_operation : (op other : Operation) → slice_get job.operations s.operation ≡ Some op → slice_get job.operations s.operation ≡ Some other → op ≡ other
  one_operation op other found found_other = same_Some op other (sym found ∙ found_other)

  one_change : (before a b : List Grid) → HasOneSolution job s before → Changes job s before a → Changes job s before b → a ≡ b
  one_change before a b one a_is b_is =
      let same : b_is.operation ≡ a_is.operation = one_operation b_is.operation a_is.operation b_is.found a_is.found in
      let satisfies : Satisfies job.modulus a_is.operation (known_grids before s.bind) (nth_grid before s.bind.work) b_is.solution
      = subst (λ (op : Operation). Satisfies job.modulus op (known_grids before s.bind) (nth_grid before s.bind.work) b_is.solution) same b_is.satisfies in
      let solutions : a_is.solution ≡ b_is.solution = one a_is.operation a_is.found a_is.pivots a_is.solution b_is.solution a_is.satisfies satisfies in
      a_is.others ∙ ap (λ (g : Grid). slice_set before s.bind.work g) solutions ∙ sym b_is.others

  one_failure : (before : List Grid) (place there : Place) → IsModulus job.modulus → Fails job s before place → Fails job s before there → place ≡ there
  one_failure before place there modulus is other =
      let same : other.operation ≡ is.operation = one_operation other.operation is.operation other.found is.found in
      let pivot : IsFirstBadPivot job.modulus is.operation (known_grids before s.bind) (nth_grid before s.bind.work) there
      = subst (λ (op : Operation). IsFirstBadPivot job.modulus op (known_grids before s.bind) (nth_grid before s.bind.work) there) same other.pivot in
      one_first_bad_pivot job.modulus is.operation (known_grids before s.bind) (nth_grid before s.bind.work) place there modulus is.pivot pivot

  none_fails_and_changes : (before after : List Grid) (place : Place) → Fails job s before place → ¬ (Changes job s before after)
  none_fails_and_changes before after place fails change =
      let same : fails.operation ≡ change.operation = one_operation fails.operation change.operation fails.found change.found in
      change.pivots place
      (subst (λ (op : Operation). IsFirstBadPivot job.modulus op (known_grids before s.bind) (nth_grid before s.bind.work) place) same fails.pivot)

-- ---- all statements

-- of statements of a kind the first is of it, and the others
pub first_is : (IsOfKind : Statement → Type 0) (s : Statement) (statements : List Statement) → All IsOfKind (s ∷ statements) → IsOfKind s
first_is IsOfKind s statements all = all 0 s (omega arith)

pub others_are : (IsOfKind : Statement → Type 0) (s : Statement) (statements : List Statement) → All IsOfKind (s ∷ statements) → All IsOfKind statements
others_are IsOfKind s statements all k d below = all (suc k) d (omega arith)

-- statements of a kind, and what they keep of the matrices; there each has one solution
module _ (job : Job) (IsOfKind : Statement → Type 0) (IsKept : List Grid → Type 0)
    (next : (s : Statement) (before after : List Grid) → IsOfKind s → IsKept before → Changes job s before after → IsKept after)
    (one : (s : Statement) (before : List Grid) → IsOfKind s → IsKept before → HasOneSolution job s before) where
  pub all_come_to_one : (statements : List Statement) (before a b : List Grid) → All IsOfKind statements → IsKept before
      → ChangeAll job statements before a → ChangeAll job statements before b → a ≡ b
  all_come_to_one [] before a b all kept a_is b_is = a_is ∙ sym b_is
  all_come_to_one (s ∷ statements) before a b all kept a_is b_is =
      let is : IsOfKind s = first_is IsOfKind s statements all in
      let same : a_is.0 ≡ b_is.0 = one_change job s before a_is.0 b_is.0 (one s before is kept) a_is.1 b_is.1 in
      all_come_to_one statements b_is.0 a b (others_are IsOfKind s statements all) (next s before b_is.0 is kept b_is.1)
      (subst (λ (grids : List Grid). ChangeAll job statements grids a) same a_is.2) b_is.2

  pub all_fail_once : (statements : List Statement) (before : List Grid) (number other : ℕ) (place there : Place) → IsModulus job.modulus
      → All IsOfKind statements → IsKept before → FailAt job statements before number place → FailAt job statements before other there
      → (number ≡ other) × (place ≡ there)
  all_fail_once [] before number other place there modulus all kept fails again = absurd fails
  all_fail_once (s ∷ statements) before number other place there modulus all kept (inl here) (inl too) =
      (here.0 ∙ sym too.0, one_failure job s before place there modulus here.1 too.1)
  all_fail_once (s ∷ statements) before number other place there modulus all kept (inl here) (inr later) =
      absurd (none_fails_and_changes job s before later.0 place here.1 later.3)
  all_fail_once (s ∷ statements) before number other place there modulus all kept (inr later) (inl here) =
      absurd (none_fails_and_changes job s before later.0 there here.1 later.3)
  all_fail_once (s ∷ statements) before number other place there modulus all kept (inr later) (inr too) =
      let is : IsOfKind s = first_is IsOfKind s statements all in
      let same : later.0 ≡ too.0 = one_change job s before later.0 too.0 (one s before is kept) later.3 too.3 in
      let behind = all_fail_once statements too.0 later.1 too.1 place there modulus (others_are IsOfKind s statements all) (next s before too.0 is kept too.3)
      (subst (λ (grids : List Grid). FailAt job statements grids later.1 place) same later.4) too.4 in
      (later.2 ∙ ap (λ k. k + 1) behind.0 ∙ sym too.2, behind.1)

  pub none_change_and_fail : (statements : List Statement) (before after : List Grid) (number : ℕ) (place : Place) → All IsOfKind statements → IsKept before
      → ChangeAll job statements before after → ¬ (FailAt job statements before number place)
  none_change_and_fail [] before after number place all kept change fails = fails
  none_change_and_fail (s ∷ statements) before after number place all kept change (inl here) = none_fails_and_changes job s before change.0 place here.1 change.1
  none_change_and_fail (s ∷ statements) before after number place all kept change (inr later) =
      let is : IsOfKind s = first_is IsOfKind s statements all in
      let same : later.0 ≡ change.0 = one_change job s before later.0 change.0 (one s before is kept) later.3 change.1 in
      none_change_and_fail statements change.0 after later.1 place (others_are IsOfKind s statements all) (next s before change.0 is kept change.1) change.2
      (subst (λ (grids : List Grid). FailAt job statements grids later.1 place) same later.4)
