-- What each block task leaves, as one equation between a left side over the new block and a right side over the old one. Cited where
-- the entries that a step leaves are found again in the whole matrix.
use Rattle.std.proofs.Common.{◌≡◌, ◌≢◌, ℕ, zero, suc, ◌+◌, ◌<◌, ◌≤◌, ◌⊎◌, inl, inr, Bool, true, false, not, if◌then◌else◌, List, [], ◌∷◌, refl, sym, ◌∙◌, ap, subst, arith}
use Rattle.std.specs.Prelude.{◌==◌, nat_lt}
use Rattle.std.proofs.lemmas.Bool.{false≢true}
use Rattle.std.proofs.lemmas.Bool.Decides.{nat_tests}
use Rattle.residue_sums.specs.Tables.{Table, times, transpose}
use Rattle.residue_sums.specs.Grids.{Grid, entry}
use Rattle.structure_rules.specs.declared.Structure.{Structure}
use Rattle.structure_rules.specs.declared.Structure.TheVariants as structures
use Rattle.structure_rules.specs.Structures.{view, is_zero}
use Rattle.operation_spec.specs.declared.operation.Operation.{Operation}
use Rattle.operation_spec.specs.declared.operation.Term.{Term}
use Rattle.operation_spec.specs.declared.operation.Form.{Form}
use Rattle.operation_spec.specs.declared.operation.Form.TheVariants.{Assign, Left, Right, Sylvester, Lu, Ldl}
use Rattle.operation_spec.specs.declared.task.Kind.{Kind}
use Rattle.operation_spec.specs.declared.task.Kind.TheVariants as kinds
use Rattle.operation_spec.specs.declared.task.Task.{Task}
use Rattle.equation.specs.Equations.{minus}
use Rattle.equation.specs.Kernels.{IsValue, combined}
use Rattle.flash_blocks.specs.Blocks.{Blocks}
use Rattle.block_tasks.specs.Effects.{SuitsForm, factor_block, factor_block_cols, block_structure, solution_block, term_effect, numbered_term_effect, left_effect, right_effect, lu_effect, ldl_effect, solve_effect, effect_by, IsEffect}

-- ---- right sides

-- the term at place t of a list
abbrev pub with_term : ℕ → Operation → (ℕ → Blocks) → List Term → ℕ → ℕ → ℕ → ℕ → Table → Table
with_term m op knowns [] t i j k a = a
with_term m op knowns (term ∷ terms) zero i j k a =
    combined m term.minus a (times m (factor_block_cols op knowns term.first i k) (factor_block op knowns term.first i k) (factor_block op knowns term.second k j))
with_term m op knowns (term ∷ terms) (suc t) i j k a = with_term m op knowns terms t i j k a

abbrev pub with_numbered_term : ℕ → Operation → (ℕ → Blocks) → ℕ → ℕ → ℕ → ℕ → Table → Table
with_numbered_term m op knowns zero i j k a = a
with_numbered_term m op knowns (suc t) i j k a = with_term m op knowns op.terms t i j k a

abbrev pub with_left : ℕ → Operation → (ℕ → Blocks) → Blocks → Form → ℕ → ℕ → ℕ → Table → Table
with_left m op knowns work (Left t) i j k a = minus m a (times m (work k j).rows (factor_block op knowns t i k) (solution_block op work k j))
with_left m op knowns work (Sylvester t u negative) i j k a = minus m a (times m (work k j).rows (factor_block op knowns t i k) (solution_block op work k j))
with_left m op knowns work Lu i j k a = minus m a (times m (work i k).cols (entry (work i k)) (entry (work k j)))
with_left m op knowns work Ldl i j k a = minus m a
    (times m (work i k).cols (times m (work i k).cols (entry (work i k)) (view structures.Diagonal (entry (work k k)))) (transpose (entry (work j k))))
with_left m op knowns work form i j k a = a

abbrev pub with_right : ℕ → Operation → (ℕ → Blocks) → Blocks → Form → ℕ → ℕ → ℕ → Table → Table
with_right m op knowns work (Right u) i j k a = minus m a (times m (work i k).cols (solution_block op work i k) (factor_block op knowns u k j))
with_right m op knowns work (Sylvester t u negative) i j k a =
    combined m (not negative) a (times m (work i k).cols (solution_block op work i k) (factor_block op knowns u k j))
with_right m op knowns work form i j k a = a

abbrev pub right_of : ℕ → Operation → (ℕ → Blocks) → Blocks → Kind → ℕ → ℕ → ℕ → ℕ → Table
right_of m op knowns work kinds.Term t i j k = with_numbered_term m op knowns t i j k (entry (work i j))
right_of m op knowns work kinds.Left t i j k = with_left m op knowns work op.form i j k (entry (work i j))
right_of m op knowns work kinds.Right t i j k = with_right m op knowns work op.form i j k (entry (work i j))
right_of m op knowns work kinds.Pivots t i j k = entry (work i j)
right_of m op knowns work kinds.Solve t i j k = entry (work i j)

-- ---- left sides

abbrev pub lu_left : ℕ → Blocks → Bool → Bool → ℕ → ℕ → Table → Table
lu_left m work true below i j x = times m (work i j).rows (view structures.UnitLower (entry (work i i))) (view structures.General x)
lu_left m work false true i j x = times m (work i j).cols (view structures.General x) (view structures.Upper (entry (work j j)))
lu_left m work false false i j x = times m (work i j).rows (view structures.UnitLower x) (view structures.Upper x)

abbrev pub ldl_left : ℕ → Blocks → Bool → ℕ → ℕ → Table → Table
ldl_left m work true i j x =
    times m (work i j).cols (times m (work i j).cols x (view structures.Diagonal (entry (work j j)))) (transpose (view structures.UnitLower (entry (work j j))))
ldl_left m work false i j x =
    times m (work i j).rows (times m (work i j).rows (view structures.UnitLower x) (view structures.Diagonal x)) (transpose (view structures.UnitLower x))

abbrev pub solved_left : ℕ → Operation → (ℕ → Blocks) → Blocks → Form → ℕ → ℕ → Table → Table
solved_left m op knowns work Assign i j x = x
solved_left m op knowns work (Left t) i j x = times m (work i j).rows (factor_block op knowns t i i) (view (block_structure op.work.structure i j) x)
solved_left m op knowns work (Right u) i j x = times m (work i j).cols (view (block_structure op.work.structure i j) x) (factor_block op knowns u j j)
solved_left m op knowns work (Sylvester t u negative) i j x =
    combined m negative (times m (work i j).rows (factor_block op knowns t i i) x) (times m (work i j).cols x (factor_block op knowns u j j))
solved_left m op knowns work Lu i j x = lu_left m work (nat_lt i j) (nat_lt j i) i j x
solved_left m op knowns work Ldl i j x = ldl_left m work (nat_lt j i) i j x

abbrev pub left_of : ℕ → Operation → (ℕ → Blocks) → Blocks → Kind → ℕ → ℕ → Table → Table
left_of m op knowns work kinds.Solve i j x = solved_left m op knowns work op.form i j x
left_of m op knowns work kind i j x = x

-- ---- each effect is the equation between them

pub general-block : (i j : ℕ) → block_structure structures.General i j ≡ structures.General
general-block i j = go (i == j)
  where
    go : (x : Bool) → (if x then structures.General else structures.General) ≡ structures.General
    go true = refl
    go false = refl

module _ (m : ℕ) (op : Operation) (knowns : ℕ → Blocks) (work : Blocks) (i j : ℕ) (inside : is_zero op.work.structure i j ≡ false) (new : Grid) where
  -- the block becomes one of W's structure for which this equation holds
  abbrev Is : (Table → Table) → Table → Type 0
  Is left right = IsValue m (block_structure op.work.structure i j) left right (work i j) new

  term-value : (terms : List Term) (t k : ℕ) → term_effect m op knowns work terms t i j k new → Is (λ x. x) (with_term m op knowns terms t i j k (entry (work i j)))
  term-value [] t k h = absurd h
  term-value (term ∷ terms) zero k h = h
  term-value (term ∷ terms) (suc t) k h = term-value terms t k h

  numbered-value : (t k : ℕ) → numbered_term_effect m op knowns work t i j k new → Is (λ x. x) (with_numbered_term m op knowns t i j k (entry (work i j)))
  numbered-value zero k h = absurd h
  numbered-value (suc t) k h = term-value op.terms t k h

  left-value : (form : Form) (k : ℕ) → left_effect m op knowns work form i j k new → Is (λ x. x) (with_left m op knowns work form i j k (entry (work i j)))
  left-value (Left t) k h = h
  left-value (Sylvester t u negative) k h = h
  left-value Lu k h = h
  left-value Ldl k h = h
  left-value Assign k h = absurd h
  left-value (Right u) k h = absurd h

  right-value : (form : Form) (k : ℕ) → right_effect m op knowns work form i j k new → Is (λ x. x) (with_right m op knowns work form i j k (entry (work i j)))
  right-value (Right u) k h = h
  right-value (Sylvester t u negative) k h = h
  right-value Lu k h = absurd h
  right-value Ldl k h = absurd h
  right-value Assign k h = absurd h
  right-value (Left t) k h = absurd h

  lu-value : (above below : Bool) → lu_effect m work above below i j new → IsValue m structures.General (lu_left m work above below i j) (entry (work i j)) (work i j) new
  lu-value true below h = h
  lu-value false true h = h
  lu-value false false h = h

  ldl-value : op.work.structure ≡ structures.Lower → (below : Bool) → nat_lt j i ≡ below → ldl_effect m work below i j new → Is (ldl_left m work below i j) (entry (work i j))
  ldl-value lower true e h = let off : (i == j) ≡ false = grind (arith, nat_tests) in rw off h
  ldl-value lower false e h =
      let above : nat_lt i j ≡ false = rw lower at inside in
      let on : (i == j) ≡ true = grind (arith, nat_tests) in
      rw (on, lower) h

  -- a block of a general W
  whole-block : op.work.structure ≡ structures.General → (left : Table → Table) → IsValue m structures.General left (entry (work i j)) (work i j) new → Is left (entry (work i j))
  whole-block general left h = subst (λ s. IsValue m s left (entry (work i j)) (work i j) new) (sym (ap (λ s. block_structure s i j) general ∙ general-block i j)) h

  solve-value : (form : Form) → SuitsForm op form → solve_effect m op knowns work form i j new → Is (solved_left m op knowns work form i j) (entry (work i j))
  solve-value Assign suits h = absurd h
  solve-value (Left t) suits h = h
  solve-value (Right u) suits h = h
  solve-value (Sylvester t u negative) suits h = whole-block suits (solved_left m op knowns work (Sylvester t u negative) i j) h
  solve-value Lu suits h = whole-block suits (solved_left m op knowns work Lu i j) (lu-value (nat_lt i j) (nat_lt j i) h)
  solve-value Ldl suits h = ldl-value suits (nat_lt j i) refl h

  pub value-from_effect : (kind : Kind) (t k : ℕ) → SuitsForm op op.form → effect_by m op knowns work kind t i j k new
      → Is (left_of m op knowns work kind i j) (right_of m op knowns work kind t i j k)
  value-from_effect kinds.Pivots t k suits h = absurd h
  value-from_effect kinds.Term t k suits h = numbered-value t k h
  value-from_effect kinds.Left t k suits h = left-value op.form k h
  value-from_effect kinds.Right t k suits h = right-value op.form k h
  value-from_effect kinds.Solve t k suits h = solve-value op.form suits h
