-- A pivot list that was filled with inverses, and the first pivot that has none.
use Rattle.std.proofs.Common.{◌≡◌, ℕ, ◌*◌, ◌%◌, ◌<◌, ◌≤◌, inr, Bool, true, false, refl, arith}
use Rattle.residue_sums.specs.Residues.{IsUnit}
use Rattle.residue_sums.specs.Tables.{Table}
use Rattle.residue_sums.specs.Grids.{Grid, entry}
use Rattle.structure_rules.specs.declared.Structure.TheVariants.{General}
use Rattle.operation_spec.specs.declared.operation.Form.{Form}
use Rattle.operation_spec.specs.declared.operation.Form.TheVariants.{Assign, Left, Right, Sylvester, Lu, Ldl}
use Rattle.matrix_parts.specs.declared.part_mut.PartMut.{PartMut}
use Rattle.matrix_parts.specs.Lent.{grid_of}
use Rattle.operand_lines.proofs.PartValues.{IsValue-part}
use Rattle.part_factors.proofs.FirstBads.{IsUnit-from_product}
use Rattle.equation.specs.declared.job.Place.{Place}
use Rattle.equation.specs.Kernels.{combined, IsValue}
use Rattle.equation.specs.Pivots.{IsFirstByRows, IsFirstOnDiagonal}
use Rattle.flash_blocks.specs.Blocks.{Blocks}
use Rattle.block_tasks.specs.Effects.{bad_pivots, block_diagonal, pivots_effect}
use Rattle.block_kernels.specs.declared.block_task.BlockTask.{BlockTask}
use Rattle.block_kernels.specs.PivotLists.{list_pivots, pivot_place, AllHaveInverses, ArePivots, HasInverse, HasList}

-- a sum or difference of tables, at one place
pub combined-at : (m : ℕ) (negative : Bool) (a b : Table) (i j x y : ℕ) → x ≡ a i j → y ≡ b i j → combined m negative (λ p q. x) (λ p q. y) 0 0 ≡ combined m negative a b i j
combined-at m true a b i j x y first second = rw (first, second) refl
combined-at m false a b i j x y first second = rw (first, second) refl

-- ---- a list that is full of inverses

abbrev pub AreAllInverses : ℕ → Table → Grid → Type 0
AreAllInverses m pivot list = (i j : ℕ) → i < list.rows → j < list.cols → HasInverse m pivot list i j

abbrev IsListOf : ℕ → Table → Grid → Grid → Type 0
IsListOf m pivot old new = IsValue m General (λ x i j. (pivot i j * x i j) % m) (λ i j. 1) old new

list_of : (m : ℕ) (pivot : Table) (old : Grid) (p : PartMut) → p.rows ≡ old.rows → p.cols ≡ old.cols → AreAllInverses m pivot (grid_of p) → IsListOf m pivot old (grid_of p)
list_of m pivot old p rows cols all =
    IsValue-part m General (λ x i j. (pivot i j * x i j) % m) (λ i j. 1) old p rows cols
    (λ i j row col. (all i j (rw rows row) (rw cols col)).1)
    (λ i j row col inner. (all i j (rw rows row) (rw cols col)).0)
    (λ i j row col outside. absurd outside)

module _ (m b : ℕ) (t : BlockTask) (knowns : ℕ → Blocks) (rows cols : ℕ) where
  -- it is what the step leaves
  effect_by : (form : Form) (old new : Grid) → HasList form rows cols old → IsListOf m (list_pivots m b t.op.now knowns form) old new → pivots_effect m b t.op.now knowns form old new
  effect_by (Left f) old new has is = is
  effect_by (Right f) old new has is = is
  effect_by (Sylvester f h negative) old new has is = is
  effect_by Assign old new has is = absurd has
  effect_by Lu old new has is = absurd has
  effect_by Ldl old new has is = absurd has

  -- what its entries invert are units
  none_by : (form : Form) (list : Grid) → HasList form rows cols list → ((i j : ℕ) → i < list.rows → j < list.cols → IsUnit m (list_pivots m b t.op.now knowns form i j))
      → (place : Place) → ¬ (bad_pivots m b t.op.now knowns rows cols form place)
  none_by (Left f) list has units place bad = bad.bad (units 0 place.row (omega (arith, has.0)) (omega (arith, has.1, bad.within)))
  none_by (Right f) list has units place bad = bad.bad (units 0 place.row (omega (arith, has.0)) (omega (arith, has.1, bad.within)))
  none_by (Sylvester f h negative) list has units place bad = bad.bad (units place.row place.col (omega (arith, has.0, bad.row)) (omega (arith, has.1, bad.col)))
  none_by Assign list has units place bad = absurd has
  none_by Lu list has units place bad = absurd has
  none_by Ldl list has units place bad = absurd has

  -- its first entry, row by row, whose pivot is no unit
  abbrev IsFirstOf : Form → Grid → ℕ → ℕ → Type 0
  IsFirstOf form list i j = IsFirstByRows m list.rows list.cols (list_pivots m b t.op.now knowns form) (record { row = i; col = j })

  on_diagonal : (pivot : ℕ → ℕ) (n i j : ℕ) (list : Grid) → list.rows ≡ 1 → list.cols ≡ n → IsFirstByRows m list.rows list.cols (λ a k. pivot k) (record { row = i; col = j })
      → IsFirstOnDiagonal m n pivot (record { row = j; col = j })
  on_diagonal pivot n i j list one_row long first = record {
    diagonal = refl;
    within = omega (arith, first.col);
    bad = first.bad;
    first = λ k less. first.first 0 k (omega arith) (omega (arith, first.col)) (inr (omega (arith, first.row), less));
  }

  first_by : (form : Form) (list : Grid) (i j : ℕ) → HasList form rows cols list → IsFirstOf form list i j → bad_pivots m b t.op.now knowns rows cols form (pivot_place form i j)
  first_by (Left f) list i j has first = on_diagonal (λ k. block_diagonal b t.op.now knowns f k k) rows i j list has.0 has.1 first
  first_by (Right f) list i j has first = on_diagonal (λ k. block_diagonal b t.op.now knowns f k k) cols i j list has.0 has.1 first
  first_by (Sylvester f h negative) list i j has first = rw (has.0, has.1) at first
  first_by Assign list i j has first = absurd has
  first_by Lu list i j has first = absurd has
  first_by Ldl list i j has first = absurd has

-- ---- the step

module _ (t : BlockTask) (knowns : ℕ → Blocks) (rows cols : ℕ) (old : Grid) (are : ArePivots t knowns rows cols old) where
  abbrev pivot : Table
  pivot = list_pivots t.m t.b t.op.now knowns t.op.now.form

  pub all_inverted : (p : PartMut) → p.rows ≡ old.rows → p.cols ≡ old.cols → 2 ≤ t.m → AreAllInverses t.m pivot (grid_of p)
      → pivots_effect t.m t.b t.op.now knowns t.op.now.form old (grid_of p) × AllHaveInverses t knowns rows cols
  all_inverted p same_rows same_cols two all = (
    effect_by t.m t.b t knowns rows cols t.op.now.form old (grid_of p) are.list_is (list_of t.m pivot old p same_rows same_cols all),
    none_by t.m t.b t knowns rows cols t.op.now.form old are.list_is
        (λ i j row col. IsUnit-from_product t.m (pivot i j) (entry (grid_of p) i j) two (all i j (rw same_rows row) (rw same_cols col)).0),
  )

  pub one_is_bad : (i j : ℕ) (place : Place) → place ≡ pivot_place t.op.now.form i j → IsFirstByRows t.m old.rows old.cols pivot (record { row = i; col = j })
      → bad_pivots t.m t.b t.op.now knowns rows cols t.op.now.form place
  one_is_bad i j place is first = rw is (first_by t.m t.b t knowns rows cols t.op.now.form old i j are.list_is first)
