-- The rows and columns of expanded equations and of states are those of their blocks.
use Rattle.std.proofs.Common.{◌≡◌, ℕ, zero, suc, ◌<◌, List, [], ◌∷◌, Bool, true, false, if◌then◌else◌, refl, ◌∙◌, ap, arith}
use Rattle.std.specs.Prelude.{◌==◌, nat_lt}
use Rattle.operation_spec.specs.declared.operation.Factor.{Factor}
use Rattle.operation_spec.specs.declared.operation.Term.{Term}
use Rattle.operation_spec.specs.declared.operation.Form.{Form}
use Rattle.operation_spec.specs.declared.operation.Form.TheVariants as forms
use Rattle.operation_spec.specs.declared.task.Task.{Task}
use Rattle.task_graph.specs.Factors.{factor_cols}
use Rattle.task_graph.specs.Needs.{is_solve}
use Rattle.task_graph.specs.Tasks.{parts_of, is_work_block}
use Rattle.task_graph.proofs.WorkBlocks.{work-block}
use Rattle.block_values.specs.declared.leaf.Leaf.TheVariants.{Work, Solution, L, D, U}
use Rattle.block_values.specs.Cuts.{part}
use Rattle.block_values.specs.Trees.{Tree, Block, Add, Sub, Mul, SolveLeft, SolveRight, Lu, Ldl}
use Rattle.block_values.specs.Values.{Setting, rows_of, cols_of}
use Rattle.block_values.specs.States.{factor_block, task_product, task_minus, with_update, with_updates, has_solved, solved, state_tree}
use Rattle.block_values.specs.Settings.{IsSetting}
use Rattle.block_values.proofs.Fitting.{FactorFits, left_fits, right_fits, sylvester_fit, ldl_square}
use Rattle.block_expr.specs.Expanded.{sum_of, products_of, times_x, x_times, ldl_left, left_by, with_products, with_terms, expanded_left, expanded_right}
use Rattle.expression_laws.specs.OwnBlocks.{IsOfBlock}

module _ (s : Setting) where
  -- ---- a sum over parts has the rows and columns of its first summand

  rows-sum : (f : ℕ → Tree) (n : ℕ) → rows_of s (sum_of f (suc n)) ≡ rows_of s (f 0)
  rows-sum f zero = refl
  rows-sum f (suc n) = rows-sum f n

  cols-sum : (f : ℕ → Tree) (n : ℕ) → cols_of s (sum_of f (suc n)) ≡ cols_of s (f 0)
  cols-sum f zero = refl
  cols-sum f (suc n) = cols-sum f n

  module _ (i j : ℕ) where
    of-sum : (f : ℕ → Tree) (n : ℕ) → 0 < n → IsOfBlock s i j (f 0) → IsOfBlock s i j (sum_of f n)
    of-sum f zero some first = absurd (omega arith)
    of-sum f (suc n) some first = record { rows = rows-sum f n ∙ first.rows; cols = cols-sum f n ∙ first.cols }

    -- ---- what is added or subtracted changes neither

    of-work : IsOfBlock s i j (Block Work false i j)
    of-work = record { rows = refl; cols = refl }

    of-more : (negative : Bool) (e p : Tree) → IsOfBlock s i j e → IsOfBlock s i j (if negative then Sub e p else Add e p)
    of-more true e p own = record { rows = own.rows; cols = own.cols }
    of-more false e p own = record { rows = own.rows; cols = own.cols }

    -- ---- the right side

    of-products : (term : Term) (n : ℕ) (e : Tree) → IsOfBlock s i j e → IsOfBlock s i j (with_products term i j n e)
    of-products term zero e own = own
    of-products term (suc n) e own = of-more term.minus (with_products term i j n e) (Mul (factor_block term.first i n) (factor_block term.second n j)) (of-products term n e own)

    of-terms : (counts : List ℕ) (terms : List Term) (e : Tree) → IsOfBlock s i j e → IsOfBlock s i j (with_terms s.op counts i j terms e)
    of-terms counts [] e own = own
    of-terms counts (term ∷ terms) e own = of-terms counts terms _ (of-products term (parts_of counts (factor_cols s.op term.first)) e own)

    -- ---- states

    of-update : (a : Task) (e : Tree) → IsOfBlock s i j e → IsOfBlock s i j (with_update s.op a e)
    of-update a e own = go (is_solve a.kind)
      where
        go : (solves : Bool) → IsOfBlock s i j (if solves then e else
            (if task_minus s.op a.kind a.term then Sub e (task_product s.op a.kind a.term a.i a.j a.k) else Add e (task_product s.op a.kind a.term a.i a.j a.k)))
        go true = own
        go false = of-more (task_minus s.op a.kind a.term) e (task_product s.op a.kind a.term a.i a.j a.k) own

    of-updates : (tasks : List Task) (e : Tree) → IsOfBlock s i j e → IsOfBlock s i j (with_updates s.op tasks e)
    of-updates [] e own = own
    of-updates (a ∷ tasks) e own = of-updates tasks (with_update s.op a e) (of-update a e own)

    of-solved : (form : Form) (e : Tree) → IsOfBlock s i j e → IsOfBlock s i j (solved form i j e)
    of-solved forms.Assign e own = own
    of-solved (forms.Left t) e own = record { rows = own.rows; cols = own.cols }
    of-solved (forms.Right u) e own = record { rows = own.rows; cols = own.cols }
    of-solved (forms.Sylvester t u negative) e own = record { rows = own.rows; cols = own.cols }
    of-solved forms.Lu e own = go (i == j) (nat_lt i j)
      where
        go : (x y : Bool) → IsOfBlock s i j (if x then Lu e else (if y then SolveLeft (Block L false i i) e else SolveRight e (Block U false j j)))
        go true y = record { rows = own.rows; cols = own.cols }
        go false true = record { rows = own.rows; cols = own.cols }
        go false false = record { rows = own.rows; cols = own.cols }
    of-solved forms.Ldl e own = go (i == j)
      where
        go : (x : Bool) → IsOfBlock s i j (if x then Ldl e else SolveRight e (Mul (Block D false j j) (Block L true j j)))
        go true = record { rows = own.rows; cols = own.cols }
        go false = record { rows = own.rows; cols = own.cols }

  pub of-right : (counts : List ℕ) (i j : ℕ) → IsOfBlock s i j (expanded_right s.op counts i j)
  of-right counts i j = of-terms i j counts s.op.terms (Block Work false i j) (of-work i j)

  pub of-state : (i j : ℕ) (done : List Task) → IsOfBlock s i j (state_tree s.op i j done)
  of-state i j done = go (has_solved done)
    where
      sum : IsOfBlock s i j (with_updates s.op done (Block Work false i j))
      sum = of-updates i j done (Block Work false i j) (of-work i j)

      go : (b : Bool) → IsOfBlock s i j (if b then solved s.op.form i j (with_updates s.op done (Block Work false i j)) else with_updates s.op done (Block Work false i j))
      go true = of-solved i j s.op.form (with_updates s.op done (Block Work false i j)) sum
      go false = sum

-- ---- the left side

module _ (s : Setting) (counts : List ℕ) (is : IsSetting s counts) (i j : ℕ) (work : is_work_block s.op counts i j ≡ true) where
  of-times_x : (t : Factor) → FactorFits s s.op.work.rows t → IsOfBlock s i j (times_x s.op counts t i j)
  of-times_x t fits = of-sum s i j (λ k. Mul (factor_block t i k) (Block Solution false k j)) (parts_of counts s.op.work.rows)
      (let within = work-block s.op counts i j work in omega (arith, within.0))
      (record { rows = ap (λ (d : ℕ). part s.starts d i) fits.rows; cols = refl })

  some_cols : 0 < parts_of counts s.op.work.cols
  some_cols = let within = work-block s.op counts i j work in omega (arith, within.1)

  of-x_times : (u : Factor) → FactorFits s s.op.work.cols u → IsOfBlock s i j (x_times s.op counts u i j)
  of-x_times u fits = of-sum s i j (λ k. Mul (Block Solution false i k) (factor_block u k j)) (parts_of counts s.op.work.cols) some_cols
      (record { rows = refl; cols = ap (λ (d : ℕ). part s.starts d j) fits.cols })

  of-left_by : (form : Form) → s.op.form ≡ form → IsOfBlock s i j (left_by s.op counts form i j)
  of-left_by forms.Assign form = record { rows = refl; cols = refl }
  of-left_by (forms.Left t) form = of-times_x t (left_fits s counts is t form)
  of-left_by (forms.Right u) form = of-x_times u (right_fits s counts is u form)
  of-left_by (forms.Sylvester t u negative) form =
      of-more s i j negative (times_x s.op counts t i j) (x_times s.op counts u i j) (of-times_x t (sylvester_fit s counts is t u negative form).0)
  of-left_by forms.Lu form = of-sum s i j (λ k. Mul (Block L false i k) (Block U false k j)) (parts_of counts s.op.work.cols) some_cols (record { rows = refl; cols = refl })
  of-left_by forms.Ldl form = go (parts_of counts s.op.work.cols) some_cols
    where
      go : (n : ℕ) → 0 < n → IsOfBlock s i j (ldl_left n i j)
      go zero some = absurd (omega arith)
      go (suc n) some = of-sum s i j (λ k. Mul (products_of L false D false (suc n) i k) (Block L true k j)) (suc n) some
          (record {
            rows = rows-sum s (λ q. Mul (Block L false i q) (Block D false q 0)) n;
            cols = ap (λ (d : ℕ). part s.starts d j) (ldl_square s counts is form);
          })

  pub of-left : IsOfBlock s i j (expanded_left s.op counts i j)
  of-left = of-left_by s.op.form refl
