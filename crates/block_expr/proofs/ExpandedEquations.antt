-- The expanded equation of a block holds on the block exactly where the equation of the whole does.
use Rattle.std.proofs.Common.{◌≡◌, ℕ, zero, suc, List, [], ◌∷◌, Bool, true, false, if◌then◌else◌, sym, ◌∙◌}
use Rattle.std.specs.Prelude.{◌↔◌}
use Rattle.residue_sums.specs.Tables.{Table}
use Rattle.operation_spec.specs.declared.operation.Term.{Term}
use Rattle.operation_spec.specs.declared.operation.Form.{Form}
use Rattle.operation_spec.specs.declared.operation.Form.TheVariants as forms
use Rattle.equation.specs.Equations.{left_side, right_side}
use Rattle.task_graph.specs.Factors.{factor_cols}
use Rattle.task_graph.specs.Tasks.{parts_of}
use Rattle.block_values.specs.declared.leaf.Leaf.{Leaf}
use Rattle.block_values.specs.declared.leaf.Leaf.TheVariants.{Work, Known, Solution, L, D, U}
use Rattle.block_values.specs.Trees.{Tree, Block, Add, Sub, Mul}
use Rattle.block_values.specs.Values.{Setting, IsValue}
use Rattle.block_values.specs.States.{factor_block}
use Rattle.block_values.specs.Settings.{IsSetting}
use Rattle.block_values.specs.PartitionedEquations.{EquationHolds}
use Rattle.block_values.proofs.PureTrees.{IsPure, value, IsValue-at, IsValue-value, value-only}
use Rattle.block_expr.specs.Expanded.{sum_of, products_of, left_by, with_products, with_terms, expanded_left, expanded_right, SidesAgree}
use Rattle.block_expr.proofs.ExpandedValues.{left-value, right-value}

-- ---- they are sums of products of blocks

pure-sum : (f : ℕ → Tree) (n : ℕ) → ((k : ℕ) → IsPure (f k)) → IsPure (sum_of f n)
pure-sum f zero each = tt
pure-sum f (suc zero) each = each 0
pure-sum f (suc (suc n)) each = (pure-sum f (suc n) each, each (suc n))

pure-products : (a : Leaf) (a_primed : Bool) (b : Leaf) (b_primed : Bool) (n i j : ℕ) → IsPure (products_of a a_primed b b_primed n i j)
pure-products a a_primed b b_primed n i j = pure-sum (λ k. Mul (Block a a_primed i k) (Block b b_primed k j)) n (λ k. (tt, tt))

pure-left_by : (s : Setting) (counts : List ℕ) (form : Form) (i j : ℕ) → IsPure (left_by s.op counts form i j)
pure-left_by s counts forms.Assign i j = tt
pure-left_by s counts (forms.Left t) i j = pure-products (Known t.known) t.primed Solution false (parts_of counts s.op.work.rows) i j
pure-left_by s counts (forms.Right u) i j = pure-products Solution false (Known u.known) u.primed (parts_of counts s.op.work.cols) i j
pure-left_by s counts (forms.Sylvester t u true) i j = (
  pure-products (Known t.known) t.primed Solution false (parts_of counts s.op.work.rows) i j,
  pure-products Solution false (Known u.known) u.primed (parts_of counts s.op.work.cols) i j,
)
pure-left_by s counts (forms.Sylvester t u false) i j = (
  pure-products (Known t.known) t.primed Solution false (parts_of counts s.op.work.rows) i j,
  pure-products Solution false (Known u.known) u.primed (parts_of counts s.op.work.cols) i j,
)
pure-left_by s counts forms.Lu i j = pure-products L false U false (parts_of counts s.op.work.cols) i j
pure-left_by s counts forms.Ldl i j =
    let n : ℕ = parts_of counts s.op.work.cols in
    pure-sum (λ k. Mul (products_of L false D false n i k) (Block L true k j)) n (λ k. (pure-products L false D false n i k, tt))

pure-with_products : (term : Term) (i j n : ℕ) (e : Tree) → IsPure e → IsPure (with_products term i j n e)
pure-with_products term i j zero e pure = pure
pure-with_products term i j (suc n) e pure = go term.minus (pure-with_products term i j n e pure)
  where
    go : (negative : Bool) → IsPure (with_products term i j n e) → IsPure (if negative then Sub (with_products term i j n e) (Mul (factor_block term.first i n) (factor_block term.second n j))
        else Add (with_products term i j n e) (Mul (factor_block term.first i n) (factor_block term.second n j)))
    go true before = (before, (tt, tt))
    go false before = (before, (tt, tt))

pure-with_terms : (s : Setting) (counts : List ℕ) (i j : ℕ) (terms : List Term) (e : Tree) → IsPure e → IsPure (with_terms s.op counts i j terms e)
pure-with_terms s counts i j [] e pure = pure
pure-with_terms s counts i j (term ∷ terms) e pure =
    pure-with_terms s counts i j terms (with_products term i j (parts_of counts (factor_cols s.op term.first)) e) (pure-with_products term i j (parts_of counts (factor_cols s.op term.first)) e pure)

pub pure-right : (s : Setting) (counts : List ℕ) (i j : ℕ) → IsPure (expanded_right s.op counts i j)
pure-right s counts i j = pure-with_terms s counts i j s.op.terms (Block Work false i j) tt

pub pure-left : (s : Setting) (counts : List ℕ) (i j : ℕ) → IsPure (expanded_left s.op counts i j)
pure-left s counts i j = pure-left_by s counts s.op.form i j

-- ---- their values

module _ (s : Setting) (counts : List ℕ) (is : IsSetting s counts) (i j : ℕ) where
  pub left_is : (y : Table) → IsValue s (expanded_left s.op counts i j) y ↔ ((r c : ℕ) → y r c ≡ left_side s.modulus s.op s.knowns s.solution r c)
  left_is y = (
    λ is_value r c. value-only s (expanded_left s.op counts i j) y (pure-left s counts i j) is_value r c ∙ left-value s counts is i j r c,
    λ same. IsValue-at s (expanded_left s.op counts i j) y (pure-left s counts i j) (λ r c. same r c ∙ sym (left-value s counts is i j r c)),
  )

  pub right_is : (y : Table) → IsValue s (expanded_right s.op counts i j) y ↔ ((r c : ℕ) → y r c ≡ right_side s.modulus s.op s.knowns s.work r c)
  right_is y = (
    λ is_value r c. value-only s (expanded_right s.op counts i j) y (pure-right s counts i j) is_value r c ∙ right-value s counts is i j r c,
    λ same. IsValue-at s (expanded_right s.op counts i j) y (pure-right s counts i j) (λ r c. same r c ∙ sym (right-value s counts is i j r c)),
  )

  pub sides_agree : SidesAgree s i j (expanded_left s.op counts i j) (expanded_right s.op counts i j) ↔ EquationHolds s i j
  sides_agree = (
    λ agree r c within. sym ((left_is agree.x).0 agree.left_value r c) ∙ agree.same r c within ∙ (right_is agree.y).0 agree.right_value r c,
    λ holds. record {
      x = value s (expanded_left s.op counts i j);
      y = value s (expanded_right s.op counts i j);
      left_value = IsValue-value s (expanded_left s.op counts i j) (pure-left s counts i j);
      right_value = IsValue-value s (expanded_right s.op counts i j) (pure-right s counts i j);
      same = λ r c within. left-value s counts is i j r c ∙ holds r c within ∙ sym (right-value s counts is i j r c);
    },
  )
