-- The sum of a block with all its updates is R with the products of its left and right updates taken or added.
use Rattle.std.proofs.Common.{◌≡◌, ℕ, zero, ◌+◌, ◌<◌, List, [], ◌∷◌, ◌++◌, length, Bool, true, false, if◌then◌else◌, refl, ◌∙◌, arith}
use Rattle.std.proofs.Math.Nat.{mod-lt}
use Rattle.residue_sums.specs.Residues.{Cong}
use Rattle.residue_sums.specs.Sums.{sum_below}
use Rattle.residue_sums.specs.Tables.{Table, plus}
use Rattle.residue_sums.specs.Grids.{entry}
use Rattle.residue_sums.proofs.Congruence.{Cong-add, Cong-sym, Cong-by}
use Rattle.residue_sums.proofs.Sums.{sum_below-same}
use Rattle.operation_spec.specs.declared.operation.Term.{Term}
use Rattle.operation_spec.specs.declared.task.Kind.TheVariants as kinds
use Rattle.operation_spec.specs.declared.task.Task.{Task}
use Rattle.equation.specs.Equations.{minus, term_table, with_terms, right_side}
use Rattle.task_graph.specs.Needs.{is_solve}
use Rattle.task_graph.specs.Tasks.{is_work_block, has, has_left, has_right, parts_of}
use Rattle.task_graph.specs.Order.{task_of}
use Rattle.task_graph.specs.Listing.{task_if_any, updates_of, products_of, block_of, inner_count, may_have}
use Rattle.block_values.specs.declared.leaf.Leaf.TheVariants.{Work}
use Rattle.block_values.specs.Cuts.{IsIn, IsCut, part}
use Rattle.block_values.specs.Trees.{Tree, Block, Add, Sub}
use Rattle.block_values.specs.Values.{Setting}
use Rattle.block_values.specs.States.{left_product, right_product, right_minus, task_product, task_minus, with_updates}
use Rattle.block_values.proofs.PureTrees.{value}
use Rattle.block_values.proofs.TaskShares.{same_sign, shares, shares-append, shares-joined, shares-task, with_updates-shares}
use Rattle.block_values.proofs.TermShares.{AllFit, with_terms-shares, shares-products}

-- the sum of block (i, j) with all its updates
abbrev pub block_sum : Setting → List ℕ → ℕ → ℕ → Table
block_sum s counts i j = value s (with_updates s.op (block_of s.op counts i j) (Block Work false i j))

-- ---- residues

-- a sum that starts with a residue is one
pub with_updates-below : (s : Setting) (tasks : List Task) (sum : Tree) (r c : ℕ) → 0 < s.modulus → value s sum r c < s.modulus
    → value s (with_updates s.op tasks sum) r c < s.modulus
with_updates-below s [] sum r c pos below = below
with_updates-below s (a ∷ tasks) sum r c pos below =
    let next : Tree = (if is_solve a.kind then sum
    else (if task_minus s.op a.kind a.term then Sub sum (task_product s.op a.kind a.term a.i a.j a.k) else Add sum (task_product s.op a.kind a.term a.i a.j a.k))) in
    with_updates-below s tasks next r c pos (step (is_solve a.kind) (task_minus s.op a.kind a.term) (task_product s.op a.kind a.term a.i a.j a.k))
  where
    step : (solves negative : Bool) (p : Tree) → value s (if solves then sum else (if negative then Sub sum p else Add sum p)) r c < s.modulus
    step true negative p = below
    step false true p = mod-lt _ pos
    step false false p = mod-lt _ pos

pub with_terms-below : (s : Setting) (terms : List Term) (a : Table) (r c : ℕ) → 0 < s.modulus → a r c < s.modulus → with_terms s.modulus s.op s.knowns terms a r c < s.modulus
with_terms-below s [] a r c pos below = below
with_terms-below s (term ∷ terms) a r c pos below = with_terms-below s terms _ r c pos (step term.minus)
  where
    step : (negative : Bool) → (if negative then minus s.modulus a (term_table s.modulus s.op s.knowns term) else plus s.modulus a (term_table s.modulus s.op s.knowns term)) r c < s.modulus
    step true = mod-lt _ pos
    step false = mod-lt _ pos

-- ---- the other updates

shares-four : (s : Setting) (taken : Bool) (w x y z : List Task) (r c : ℕ)
    → shares s taken (w ++ x ++ y ++ z) r c ≡ shares s taken w r c + shares s taken x r c + shares s taken y r c + shares s taken z r c
shares-four s taken w x y z r c = omega (arith, shares-append s taken (w ++ x ++ y) z r c, shares-append s taken (w ++ x) y r c, shares-append s taken w x r c)

sum_of_four : (p x y z x' y' : ℕ) → x ≡ x' → y ≡ y' → z ≡ 0 → p + x + y + z ≡ p + x' + y'
sum_of_four p x y z x' y' h k l = omega arith

module _ (s : Setting) (counts : List ℕ) (i j r c : ℕ) (taken : Bool) where
  abbrev pub left_shares : ℕ
  left_shares = sum_below (λ k. if has_left s.op counts s.op.form i j k then (if same_sign taken true then value s (left_product s.op.form i j k) r c else 0) else 0)
      (if may_have kinds.Left s.op.form then parts_of counts s.op.work.rows else 0)

  abbrev pub right_shares : ℕ
  right_shares = sum_below (λ k. if has_right s.op counts s.op.form i j k then (if same_sign taken (right_minus s.op.form) then value s (right_product s.op.form i j k) r c else 0) else 0)
      (if may_have kinds.Right s.op.form then parts_of counts s.op.work.cols else 0)

  module _ (work : is_work_block s.op counts i j ≡ true) where
    shares-left : shares s taken (updates_of s.op counts kinds.Left 0 i j (inner_count s.op counts kinds.Left 0)) r c ≡ left_shares
    unfolding updates_of
    shares-left = shares-joined s taken (λ k. task_if_any s.op counts (task_of kinds.Left 0 i j k)) (inner_count s.op counts kinds.Left 0) r c
        ∙ sum_below-same (λ k. shares s taken (task_if_any s.op counts (task_of kinds.Left 0 i j k)) r c)
        (λ k. if has_left s.op counts s.op.form i j k then (if same_sign taken true then value s (left_product s.op.form i j k) r c else 0) else 0)
        (inner_count s.op counts kinds.Left 0)
        (λ k below. shares-task s counts taken (task_of kinds.Left 0 i j k) r c ∙ rw work refl)

    shares-right : shares s taken (updates_of s.op counts kinds.Right 0 i j (inner_count s.op counts kinds.Right 0)) r c ≡ right_shares
    unfolding updates_of
    shares-right = shares-joined s taken (λ k. task_if_any s.op counts (task_of kinds.Right 0 i j k)) (inner_count s.op counts kinds.Right 0) r c
        ∙ sum_below-same (λ k. shares s taken (task_if_any s.op counts (task_of kinds.Right 0 i j k)) r c)
        (λ k. if has_right s.op counts s.op.form i j k then (if same_sign taken (right_minus s.op.form) then value s (right_product s.op.form i j k) r c else 0) else 0)
        (inner_count s.op counts kinds.Right 0)
        (λ k below. shares-task s counts taken (task_of kinds.Right 0 i j k) r c ∙ rw work refl)

    shares-solve : shares s taken (task_if_any s.op counts (task_of kinds.Solve 0 i j 0)) r c ≡ 0
    shares-solve = shares-task s counts taken (task_of kinds.Solve 0 i j 0) r c ∙ either (has s.op counts (task_of kinds.Solve 0 i j 0))
      where
        either : (b : Bool) → (if b then zero else zero) ≡ zero
        either true = refl
        either false = refl

    shares-block : shares s taken (block_of s.op counts i j) r c
        ≡ shares s taken (products_of s.op counts i j (length s.op.terms)) r c + left_shares + right_shares
    unfolding block_of
    shares-block =
        shares-four s taken (products_of s.op counts i j (length s.op.terms)) (updates_of s.op counts kinds.Left 0 i j (inner_count s.op counts kinds.Left 0))
        (updates_of s.op counts kinds.Right 0 i j (inner_count s.op counts kinds.Right 0)) (task_if_any s.op counts (task_of kinds.Solve 0 i j 0)) r c
        ∙ sum_of_four _ _ _ _ _ _ shares-left shares-right shares-solve

-- ---- the sum

pub block_sum-shares : (s : Setting) (lengths : ℕ → ℕ) (counts : List ℕ) → IsCut (length s.op.dims) lengths counts s.starts → 0 < s.modulus → AllFit s lengths s.op.terms
    → (i j r c : ℕ) → IsIn (part s.starts s.op.work.rows i) r → IsIn (part s.starts s.op.work.cols j) c → is_work_block s.op counts i j ≡ true
    → Cong s.modulus (block_sum s counts i j r c + left_shares s counts i j r c true + right_shares s counts i j r c true)
    (right_side s.modulus s.op s.knowns s.work r c + left_shares s counts i j r c false + right_shares s counts i j r c false)
block_sum-shares s lengths counts cut pos fit i j r c r_in c_in work =
    let sum = with_updates-shares s (block_of s.op counts i j) (Block Work false i j) r c pos in
    let whole = with_terms-shares s pos r c s.op.terms (entry s.work) in
    let take = shares-products s lengths counts cut pos i j r c r_in c_in true work fit in
    let give = shares-products s lengths counts cut pos i j r c r_in c_in false work fit in
    Cong-by (Cong-add (Cong-add sum (Cong-sym whole)) (Cong-add (Cong-sym take) give))
    (omega (arith, shares-block s counts i j r c true work, shares-block s counts i j r c false work))
