-- The sides of the expanded equations have the values of the sides of the whole equation.
use Rattle.std.proofs.Common.{◌≡◌, ℕ, zero, suc, ◌+◌, ◌*◌, ◌-◌, ◌%◌, ◌<◌, List, [], ◌∷◌, Bool, true, false, if◌then◌else◌, refl, sym, ◌∙◌, ap, ap₂, subst, arith}
use Rattle.std.proofs.Math.Nat.{mod-lt, mod-eq_of_lt}
use Rattle.residue_sums.specs.Residues.{Cong}
use Rattle.residue_sums.specs.Sums.{sum_below}
use Rattle.residue_sums.specs.Tables.{Table, oriented, plus, product, times, transpose}
use Rattle.residue_sums.specs.Grids.{entry}
use Rattle.residue_sums.proofs.Congruence.{Cong-refl, Cong-add, Cong-by, Cong-mod, Cong-multiple, Cong-sym, Cong-trans, Cong-from_same, same_from_Cong}
use Rattle.residue_sums.proofs.Sums.{sum_below-same}
use Rattle.structure_rules.specs.declared.Structure.TheVariants as structures
use Rattle.structure_rules.specs.Structures.{view}
use Rattle.operation_spec.specs.declared.operation.Term.{Term}
use Rattle.operation_spec.specs.declared.operation.Form.{Form}
use Rattle.operation_spec.specs.declared.operation.Form.TheVariants as forms
use Rattle.equation.specs.Equations as equations
use Rattle.equation.specs.Equations.{minus, factor_table, solution_table, term_table, left_side, right_side}
use Rattle.equation.proofs.ValidForms.{lu-general}
use Rattle.task_graph.specs.Factors.{factor_cols}
use Rattle.task_graph.specs.Tasks.{parts_of}
use Rattle.block_values.specs.declared.leaf.Leaf.{Leaf}
use Rattle.block_values.specs.declared.leaf.Leaf.TheVariants.{Work, Known, Solution, L, D, U}
use Rattle.block_values.specs.Cuts.{Range, part, times_over}
use Rattle.block_values.specs.Trees.{Tree, Block, Add, Sub, Mul}
use Rattle.block_values.specs.Values.{Setting, leaf_table, leaf_cols, cols_of}
use Rattle.block_values.specs.Settings.{IsSetting}
use Rattle.block_values.proofs.PureTrees.{value}
use Rattle.block_values.proofs.Ranges.{product_of_parts}
use Rattle.block_values.proofs.Fitting.{IsFitting, IsFitting-setting, AllFit, FactorFits, left_fits, sylvester_fit, ldl_square}
use Rattle.block_expr.specs.Expanded.{sum_of, products_of, times_x, x_times, ldl_left, left_by, with_product, with_products, with_terms, expanded_left, expanded_right}

-- ---- sums over parts

module _ (s : Setting) (pos : 0 < s.modulus) (r c : ℕ) where
  sum-value : (f : ℕ → Tree) (n : ℕ) → ((k : ℕ) → value s (f k) r c < s.modulus)
      → value s (sum_of f (suc n)) r c ≡ sum_below (λ k. value s (f k) r c) (suc n) % s.modulus
  sum-value f zero below =
      let whole : 0 + value s (f 0) r c ≡ value s (f 0) r c = omega arith in
      sym (ap (λ (x : ℕ). x % s.modulus) whole ∙ mod-eq_of_lt (below 0))
  sum-value f (suc n) below =
      let so_far : ℕ = sum_below (λ k. value s (f k) r c) (suc n) in
      let same : Cong s.modulus (so_far % s.modulus + value s (f (suc n)) r c) (so_far + value s (f (suc n)) r c) = Cong-by (Cong-mod s.modulus so_far) (omega arith) in
      ap (λ (x : ℕ). (x + value s (f (suc n)) r c) % s.modulus) (sum-value f n below) ∙ same.same

cols-sum : (s : Setting) (f : ℕ → Tree) (n : ℕ) → cols_of s (sum_of f (suc n)) ≡ cols_of s (f 0)
cols-sum s f zero = refl
cols-sum s f (suc n) = cols-sum s f n

module _ (s : Setting) (lengths : ℕ → ℕ) (counts : List ℕ) (is : IsFitting s lengths counts) (r c : ℕ) where
  -- products whose first factors are values with the columns of dimension d
  parts-value : (d : ℕ) (f : ℕ → Tree) (a b : Table) (n : ℕ)
      → ((k : ℕ) → value s (f k) r c ≡ times_over s.modulus (part s.starts d k) a b r c)
      → value s (sum_of f n) r c ≡ times s.modulus (s.starts d n) a b r c
  parts-value d f a b zero each = let none : s.starts d 0 ≡ 0 = is.cut.from_zero d in rw none (sym (mod-eq_of_lt is.pos))
  parts-value d f a b (suc n) each =
      let same : Cong s.modulus (sum_below (λ k. times_over s.modulus (part s.starts d k) a b r c) (suc n)) (sum_below (λ k. a r k * b k c) (s.starts d (suc n))) =
      product_of_parts s.starts d (is.cut.from_zero d) (is.cut.ascending d) s.modulus a b r c (suc n) in
      sum-value s is.pos r c f n (λ k. subst (λ (x : ℕ). x < s.modulus) (sym (each k)) (mod-lt _ is.pos))
      ∙ ap (λ (x : ℕ). x % s.modulus) (sum_below-same (λ k. value s (f k) r c) (λ k. times_over s.modulus (part s.starts d k) a b r c) (suc n) (λ k below. each k))
      ∙ same.same

  products-value : (a : Leaf) (a_primed : Bool) (b : Leaf) (b_primed : Bool) (n i j : ℕ)
      → value s (products_of a a_primed b b_primed n i j) r c
      ≡ times s.modulus (s.starts (leaf_cols s.op a a_primed) n) (oriented a_primed (leaf_table s a)) (oriented b_primed (leaf_table s b)) r c
  products-value a a_primed b b_primed n i j = parts-value (leaf_cols s.op a a_primed) (λ k. Mul (Block a a_primed i k) (Block b b_primed k j))
      (oriented a_primed (leaf_table s a)) (oriented b_primed (leaf_table s b)) n (λ k. refl)

-- ---- the left side

module _ (s : Setting) (lengths : ℕ → ℕ) (counts : List ℕ) (is : IsFitting s lengths counts) where
  rows_end : s.starts s.op.work.rows (parts_of counts s.op.work.rows) ≡ s.solution.rows
  rows_end = is.cut.to_length s.op.work.rows is.row_dim ∙ sym is.rows

  cols_end : s.starts s.op.work.cols (parts_of counts s.op.work.cols) ≡ s.solution.cols
  cols_end = is.cut.to_length s.op.work.cols is.col_dim ∙ sym is.cols

  times_x-value : (t : _) → FactorFits s s.op.work.rows t → (i j r c : ℕ)
      → value s (times_x s.op counts t i j) r c ≡ times s.modulus s.solution.rows (factor_table s.op s.knowns t) (solution_table s.op s.solution) r c
  times_x-value t fits i j r c = products-value s lengths counts is r c (Known t.known) t.primed Solution false (parts_of counts s.op.work.rows) i j
      ∙ ap (λ (n : ℕ). times s.modulus n (factor_table s.op s.knowns t) (solution_table s.op s.solution) r c)
      (ap (λ (d : ℕ). s.starts d (parts_of counts s.op.work.rows)) fits.cols ∙ rows_end)

  x_times-value : (u : _) (i j r c : ℕ)
      → value s (x_times s.op counts u i j) r c ≡ times s.modulus s.solution.cols (solution_table s.op s.solution) (factor_table s.op s.knowns u) r c
  x_times-value u i j r c = products-value s lengths counts is r c Solution false (Known u.known) u.primed (parts_of counts s.op.work.cols) i j
      ∙ ap (λ (n : ℕ). times s.modulus n (solution_table s.op s.solution) (factor_table s.op s.knowns u) r c) cols_end

  module _ (dims : s.op.work.rows ≡ s.op.work.cols) where
    square_end : s.starts s.op.work.cols (parts_of counts s.op.work.cols) ≡ s.solution.rows
    square_end = is.cut.to_length s.op.work.cols is.col_dim ∙ ap lengths (sym dims) ∙ sym is.rows

    lu-value : (i j r c : ℕ) → value s (products_of L false U false (parts_of counts s.op.work.cols) i j) r c
        ≡ times s.modulus s.solution.rows (view structures.UnitLower (entry s.solution)) (view structures.Upper (entry s.solution)) r c
    lu-value i j r c = products-value s lengths counts is r c L false U false (parts_of counts s.op.work.cols) i j
        ∙ ap (λ (n : ℕ). times s.modulus n (view structures.UnitLower (entry s.solution)) (view structures.Upper (entry s.solution)) r c) square_end

    abbrev l : Table
    l = view structures.UnitLower (entry s.solution)

    abbrev scaled : ℕ → Table
    scaled n = times s.modulus n (view structures.UnitLower (entry s.solution)) (view structures.Diagonal (entry s.solution))

    ldl-value : (i j r c : ℕ) → value s (ldl_left (parts_of counts s.op.work.cols) i j) r c
        ≡ times s.modulus s.solution.rows (times s.modulus s.solution.rows (view structures.UnitLower (entry s.solution)) (view structures.Diagonal (entry s.solution)))
        (transpose (view structures.UnitLower (entry s.solution))) r c
    ldl-value i j r c = go (parts_of counts s.op.work.cols) refl
      where
        go : (n : ℕ) → n ≡ parts_of counts s.op.work.cols → value s (ldl_left n i j) r c ≡ times s.modulus s.solution.rows (scaled s.solution.rows) (transpose l) r c
        go zero none =
            let empty : s.solution.rows ≡ 0 = sym square_end ∙ ap (s.starts s.op.work.cols) (sym none) ∙ is.cut.from_zero s.op.work.cols in
            rw empty (sym (mod-eq_of_lt is.pos))
        go (suc n) all =
            let end : s.starts s.op.work.cols (suc n) ≡ s.solution.rows = ap (s.starts s.op.work.cols) all ∙ square_end in
            parts-value s lengths counts is r c s.op.work.cols (λ k. Mul (products_of L false D false (suc n) i k) (Block L true k j)) (scaled s.solution.rows) (transpose l) (suc n)
            (λ k. ap (λ (g : Range). times_over s.modulus g (value s (products_of L false D false (suc n) i k)) (transpose l) r c) (cols-sum s (λ q. Mul (Block L false i q) (Block D false q k)) n)
            ∙ same_left (part s.starts s.op.work.cols k) (value s (products_of L false D false (suc n) i k)) (scaled s.solution.rows) (λ x.
            products-value s lengths counts is r x L false D false (suc n) i k ∙ ap (λ (m : ℕ). scaled m r x) end))
            ∙ ap (λ (m : ℕ). times s.modulus m (scaled s.solution.rows) (transpose l) r c) end
          where
            same_left : (g : Range) (a b : Table) → ((x : ℕ) → a r x ≡ b r x) → times_over s.modulus g a (transpose l) r c ≡ times_over s.modulus g b (transpose l) r c
            same_left g a b same = ap (λ (x : ℕ). x % s.modulus) (sum_below-same (λ k. a r (g.first + k) * transpose l (g.first + k) c) (λ k. b r (g.first + k) * transpose l (g.first + k) c)
                (g.past - g.first) (λ k below. ap (λ (x : ℕ). x * transpose l (g.first + k) c) (same (g.first + k))))

-- ---- the right side

-- a sum with n products added, or subtracted
folded : Bool → (ℕ → Tree) → ℕ → Tree → Tree
folded negative f zero e = e
folded negative f (suc n) e = if negative then Sub (folded negative f n e) (f n) else Add (folded negative f n e) (f n)

with_products-folded : (term : Term) (i j n : ℕ) (e : Tree)
    → with_products term i j n e ≡ folded term.minus (λ k. Mul (Block (Known term.first.known) term.first.primed i k) (Block (Known term.second.known) term.second.primed k j)) n e
unfolding folded
with_products-folded term i j zero e = refl
with_products-folded term i j (suc n) e = ap (λ (z : Tree). with_product term i j n z) (with_products-folded term i j n e)

module _ (s : Setting) (pos : 0 < s.modulus) (r c : ℕ) (f : ℕ → Tree) (e : Tree) where
  abbrev shared : ℕ → ℕ
  shared n = sum_below (λ k. value s (f k) r c) n

  folded-below : (negative : Bool) (n : ℕ) → value s e r c < s.modulus → value s (folded negative f n e) r c < s.modulus
  unfolding folded
  folded-below negative zero below = below
  folded-below true (suc n) below = mod-lt _ pos
  folded-below false (suc n) below = mod-lt _ pos

  taken : (n : ℕ) → ((k : ℕ) → value s (f k) r c < s.modulus) → Cong s.modulus (value s (folded true f n e) r c + shared n) (value s e r c)
  unfolding folded
  taken zero below = Cong-by (Cong-refl s.modulus 0) (omega arith)
  taken (suc n) below =
      let one : value s (f n) r c < s.modulus = below n in
      Cong-by (Cong-add (Cong-add (Cong-mod s.modulus (value s (folded true f n e) r c + (s.modulus - value s (f n) r c))) (Cong-multiple s.modulus 1)) (taken n below)) (omega arith)

  added : (n : ℕ) → Cong s.modulus (value s (folded false f n e) r c) (value s e r c + shared n)
  unfolding folded
  added zero = Cong-by (Cong-refl s.modulus 0) (omega arith)
  added (suc n) = Cong-by (Cong-add (Cong-mod s.modulus (value s (folded false f n e) r c + value s (f n) r c)) (added n)) (omega arith)

  -- together they are one step of the right side
  folded-value : (negative : Bool) (n : ℕ) (a p : Table) → ((k : ℕ) → value s (f k) r c < s.modulus) → value s e r c ≡ a r c → a r c < s.modulus → p r c < s.modulus
      → Cong s.modulus (p r c) (shared n) → value s (folded negative f n e) r c ≡ (if negative then minus s.modulus a p else plus s.modulus a p) r c
  folded-value true n a p below same a_below p_below h =
      same_from_Cong (folded-below true n (subst (λ (x : ℕ). x < s.modulus) (sym same) a_below)) (mod-lt _ pos)
      (Cong-by (Cong-add (Cong-add (Cong-add (taken n below) (Cong-sym (Cong-mod s.modulus (a r c + (s.modulus - p r c))))) h) (Cong-sym (Cong-multiple s.modulus 1))) (omega (arith, same)))
  folded-value false n a p below same a_below p_below h =
      same_from_Cong (folded-below false n (subst (λ (x : ℕ). x < s.modulus) (sym same) a_below)) (mod-lt _ pos)
      (Cong-by (Cong-add (Cong-add (added n) (Cong-sym (Cong-mod s.modulus (a r c + p r c)))) (Cong-sym h)) (omega (arith, same)))

module _ (s : Setting) (lengths : ℕ → ℕ) (counts : List ℕ) (is : IsFitting s lengths counts) (i j r c : ℕ) where
  terms-value : (terms : List Term) → AllFit s lengths terms → (e : Tree) (a : Table) → value s e r c ≡ a r c → a r c < s.modulus
      → value s (with_terms s.op counts i j terms e) r c ≡ equations.with_terms s.modulus s.op s.knowns terms a r c
  terms-value [] fit e a same below = same
  terms-value (term ∷ terms) fit e a same below =
      terms-value terms fit.1 (with_products term i j (parts_of counts d) e) (if term.minus then minus s.modulus a p else plus s.modulus a p)
      (ap (λ (z : Tree). value s z r c) (with_products-folded term i j (parts_of counts d) e)
      ∙ folded-value s is.pos r c f e term.minus (parts_of counts d) a p (λ k. mod-lt _ is.pos) same below (mod-lt _ is.pos) whole)
      (step term.minus)
    where
      d : ℕ
      d = factor_cols s.op term.first

      f : ℕ → Tree
      f k = Mul (Block (Known term.first.known) term.first.primed i k) (Block (Known term.second.known) term.second.primed k j)

      p : Table
      p = term_table s.modulus s.op s.knowns term

      whole : Cong s.modulus (p r c) (sum_below (λ k. value s (f k) r c) (parts_of counts d))
      whole =
          let n : ℕ = equations.factor_cols s.knowns term.first in
          let length : s.starts d (parts_of counts d) ≡ n = is.cut.to_length d fit.0.inner_dim ∙ sym fit.0.inner_length in
          Cong-trans (Cong-mod s.modulus (product n (factor_table s.op s.knowns term.first) (factor_table s.op s.knowns term.second) r c))
          (Cong-trans (Cong-from_same (ap (λ (q : ℕ). product q (factor_table s.op s.knowns term.first) (factor_table s.op s.knowns term.second) r c) (sym length)))
          (Cong-sym (product_of_parts s.starts d (is.cut.from_zero d) (is.cut.ascending d) s.modulus (factor_table s.op s.knowns term.first) (factor_table s.op s.knowns term.second) r c (parts_of counts d))))

      step : (negative : Bool) → (if negative then minus s.modulus a p else plus s.modulus a p) r c < s.modulus
      step true = mod-lt _ is.pos
      step false = mod-lt _ is.pos

-- ---- both sides

module _ (s : Setting) (counts : List ℕ) (is : IsSetting s counts) (i j r c : ℕ) where
  pub left-value : value s (expanded_left s.op counts i j) r c ≡ left_side s.modulus s.op s.knowns s.solution r c
  left-value = go s.op.form refl
    where
      fitting : IsFitting s is.lengths counts
      fitting = IsFitting-setting s counts is

      go : (form : Form) → s.op.form ≡ form → value s (left_by s.op counts form i j) r c ≡ left_side s.modulus s.op s.knowns s.solution r c
      go forms.Assign form = rw form refl
      go (forms.Left t) form =
          let left_is : left_side s.modulus s.op s.knowns s.solution r c ≡ times s.modulus s.solution.rows (factor_table s.op s.knowns t) (solution_table s.op s.solution) r c = rw form refl in
          times_x-value s is.lengths counts fitting t (left_fits s counts is t form) i j r c ∙ sym left_is
      go (forms.Right u) form =
          let left_is : left_side s.modulus s.op s.knowns s.solution r c ≡ times s.modulus s.solution.cols (solution_table s.op s.solution) (factor_table s.op s.knowns u) r c = rw form refl in
          x_times-value s is.lengths counts fitting u i j r c ∙ sym left_is
      go (forms.Sylvester t u negative) form = both negative form
        where
          both : (negative : Bool) → s.op.form ≡ forms.Sylvester t u negative
              → value s (left_by s.op counts (forms.Sylvester t u negative) i j) r c ≡ left_side s.modulus s.op s.knowns s.solution r c
          both true form =
              let left_is : left_side s.modulus s.op s.knowns s.solution r c ≡ (times s.modulus s.solution.rows (factor_table s.op s.knowns t) (solution_table s.op s.solution) r c
              + (s.modulus - times s.modulus s.solution.cols (solution_table s.op s.solution) (factor_table s.op s.knowns u) r c)) % s.modulus = rw form refl in
              ap₂ (λ (x y : ℕ). (x + (s.modulus - y)) % s.modulus) (times_x-value s is.lengths counts fitting t (sylvester_fit s counts is t u true form).0 i j r c)
              (x_times-value s is.lengths counts fitting u i j r c) ∙ sym left_is
          both false form =
              let left_is : left_side s.modulus s.op s.knowns s.solution r c ≡ (times s.modulus s.solution.rows (factor_table s.op s.knowns t) (solution_table s.op s.solution) r c
              + times s.modulus s.solution.cols (solution_table s.op s.solution) (factor_table s.op s.knowns u) r c) % s.modulus = rw form refl in
              ap₂ (λ (x y : ℕ). (x + y) % s.modulus) (times_x-value s is.lengths counts fitting t (sylvester_fit s counts is t u false form).0 i j r c)
              (x_times-value s is.lengths counts fitting u i j r c) ∙ sym left_is
      go forms.Lu form =
          let left_is : left_side s.modulus s.op s.knowns s.solution r c ≡ times s.modulus s.solution.rows (view structures.UnitLower (entry s.solution)) (view structures.Upper (entry s.solution)) r c = rw form refl in
          lu-value s is.lengths counts fitting (lu-general s.op is.valid form).1 i j r c ∙ sym left_is
      go forms.Ldl form =
          let left_is : left_side s.modulus s.op s.knowns s.solution r c ≡ times s.modulus s.solution.rows (times s.modulus s.solution.rows (view structures.UnitLower (entry s.solution)) (view structures.Diagonal (entry s.solution)))
          (transpose (view structures.UnitLower (entry s.solution))) r c = rw form refl in
          ldl-value s is.lengths counts fitting (ldl_square s counts is form) i j r c ∙ sym left_is

  pub right-value : value s (expanded_right s.op counts i j) r c ≡ right_side s.modulus s.op s.knowns s.work r c
  right-value =
      let fitting = IsFitting-setting s counts is in
      terms-value s is.lengths counts fitting i j r c s.op.terms fitting.terms (Block Work false i j) (entry s.work) refl (fitting.work_residues r c)
