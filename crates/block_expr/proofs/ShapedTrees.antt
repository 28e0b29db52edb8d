-- The blocks of expanded equations and of states fit together.
use Rattle.std.proofs.Common.{◌≡◌, ℕ, zero, suc, ◌<◌, List, [], ◌∷◌, Bool, true, false, if◌then◌else◌, refl, sym, ◌∙◌, ap, subst, All, arith}
use Rattle.std.specs.Prelude.{◌==◌, nat_lt}
use Rattle.std.proofs.lemmas.Bool.{and_parts}
use Rattle.std.proofs.lemmas.List.Elements.{All-head, All-tail}
use Rattle.operation_spec.specs.declared.operation.Factor.{Factor}
use Rattle.operation_spec.specs.declared.operation.Term.{Term}
use Rattle.operation_spec.specs.declared.operation.Form.{Form}
use Rattle.operation_spec.specs.declared.operation.Form.TheVariants as forms
use Rattle.operation_spec.specs.declared.task.Kind.{Kind}
use Rattle.operation_spec.specs.declared.task.Kind.TheVariants as kinds
use Rattle.operation_spec.specs.declared.task.Task.{Task}
use Rattle.equation.proofs.ValidForms.{lu-general}
use Rattle.task_graph.specs.Factors.{factor_cols}
use Rattle.task_graph.specs.Needs.{is_solve}
use Rattle.task_graph.specs.Tasks.{parts_of, is_work_block, has, has_task, has_term, has_left, has_right}
use Rattle.task_graph.proofs.WorkBlocks.{work-block}
use Rattle.block_values.specs.declared.leaf.Leaf.TheVariants.{Work, Solution, L, D, U}
use Rattle.block_values.specs.Cuts.{part}
use Rattle.block_values.specs.Trees.{Tree, Zero, Block, Add, Sub, Mul, SolveLeft, SolveRight, Sylvester, Lu, Ldl}
use Rattle.block_values.specs.Values.{Setting, rows_of, cols_of}
use Rattle.block_values.specs.States.{factor_block, term_product, left_product, right_product, task_product, task_minus, with_update, with_updates, has_solved, solved, state_tree}
use Rattle.block_values.specs.Settings.{IsSetting}
use Rattle.block_values.proofs.Fitting.{IsFitting, IsFitting-setting, TermFits, AllFit, FactorFits, left_fits, right_fits, sylvester_fit, ldl_square}
use Rattle.block_expr.specs.Expanded.{sum_of, products_of, times_x, x_times, ldl_left, left_by, with_products, with_terms, expanded_left, expanded_right}
use Rattle.block_expr.specs.Shapes.{IsSum, IsRunning, IsFlat, IsShaped, HaveOneShape}
use Rattle.block_expr.proofs.SimplifiedValues.{IsFlat-running}

-- a sum on the places of block (i, j) of W
record IsSumAt (s : Setting) (i j : ℕ) (e : Tree) : Type 0 where
  sum : IsSum s e
  rows : rows_of s e ≡ part s.starts s.op.work.rows i
  cols : cols_of s e ≡ part s.starts s.op.work.cols j

-- a block of W with sums, on its places
record IsRunningAt (s : Setting) (i j : ℕ) (e : Tree) : Type 0 where
  running : IsRunning s e
  rows : rows_of s e ≡ part s.starts s.op.work.rows i
  cols : cols_of s e ≡ part s.starts s.op.work.cols j

module _ (s : Setting) where
  -- ---- sums over parts

  rows-sum : (f : ℕ → Tree) (n : ℕ) → rows_of s (sum_of f (suc n)) ≡ rows_of s (f 0)
  rows-sum f zero = refl
  rows-sum f (suc n) = rows-sum f n

  cols-sum : (f : ℕ → Tree) (n : ℕ) → cols_of s (sum_of f (suc n)) ≡ cols_of s (f 0)
  cols-sum f zero = refl
  cols-sum f (suc n) = cols-sum f n

  IsSum-sum : (f : ℕ → Tree) (n : ℕ) → ((k : ℕ) → IsSum s (f k)) → ((k : ℕ) → HaveOneShape s (f 0) (f k)) → IsSum s (sum_of f (suc n))
  IsSum-sum f zero each same = each 0
  IsSum-sum f (suc n) each same = (IsSum-sum f n each same, each (suc n), ((same (suc n)).0 ∙ sym (rows-sum f n), (same (suc n)).1 ∙ sym (cols-sum f n)))

  module _ (i j : ℕ) where
    at-sum : (f : ℕ → Tree) (n : ℕ) → ((k : ℕ) → IsSumAt s i j (f k)) → IsSumAt s i j (sum_of f (suc n))
    at-sum f n each = record {
      sum = IsSum-sum f n (λ k. let at : IsSumAt s i j (f k) = each k in at.sum) (λ k.
          let at : IsSumAt s i j (f k) = each k in
          let first : IsSumAt s i j (f 0) = each 0 in
          (at.rows ∙ sym first.rows, at.cols ∙ sym first.cols));
      rows = rows-sum f n ∙ (let first : IsSumAt s i j (f 0) = each 0 in first.rows);
      cols = cols-sum f n ∙ (let first : IsSumAt s i j (f 0) = each 0 in first.cols);
    }

    one_shape : (a b : Tree) → IsSumAt s i j a → IsSumAt s i j b → HaveOneShape s a b
    one_shape a b p q = (q.rows ∙ sym p.rows, q.cols ∙ sym p.cols)

    -- ---- a product added or subtracted

    at-more : (negative : Bool) (e p : Tree) → IsRunningAt s i j e → IsSumAt s i j p → IsRunningAt s i j (if negative then Sub e p else Add e p)
    at-more true e p running product = record {
      running = (running.running, product.sum, (product.rows ∙ sym running.rows, product.cols ∙ sym running.cols));
      rows = running.rows;
      cols = running.cols;
    }
    at-more false e p running product = record {
      running = (running.running, product.sum, (product.rows ∙ sym running.rows, product.cols ∙ sym running.cols));
      rows = running.rows;
      cols = running.cols;
    }

    at-work : IsRunningAt s i j (Block Work false i j)
    at-work = record { running = refl; rows = refl; cols = refl }

    -- ---- products

    at-term : (lengths : ℕ → ℕ) (term : Term) → TermFits s lengths term → (k : ℕ) → IsSumAt s i j (Mul (factor_block term.first i k) (factor_block term.second k j))
    at-term lengths term fits k = record {
      sum = (tt, tt, ap (λ (d : ℕ). part s.starts d k) fits.inner);
      rows = ap (λ (d : ℕ). part s.starts d i) fits.rows;
      cols = ap (λ (d : ℕ). part s.starts d j) fits.cols;
    }

    at-left : (t : Factor) → FactorFits s s.op.work.rows t → (k : ℕ) → IsSumAt s i j (Mul (factor_block t i k) (Block Solution false k j))
    at-left t fits k = record {
      sum = (tt, tt, ap (λ (d : ℕ). part s.starts d k) (sym fits.cols));
      rows = ap (λ (d : ℕ). part s.starts d i) fits.rows;
      cols = refl;
    }

    at-right : (u : Factor) → FactorFits s s.op.work.cols u → (k : ℕ) → IsSumAt s i j (Mul (Block Solution false i k) (factor_block u k j))
    at-right u fits k = record {
      sum = (tt, tt, ap (λ (d : ℕ). part s.starts d k) fits.rows);
      rows = refl;
      cols = ap (λ (d : ℕ). part s.starts d j) fits.cols;
    }

    module _ (dims : s.op.work.rows ≡ s.op.work.cols) where
      at-lu : (k : ℕ) → IsSumAt s i j (Mul (Block L false i k) (Block U false k j))
      at-lu k = record { sum = (dims, dims, ap (λ (d : ℕ). part s.starts d k) dims); rows = refl; cols = refl }

      at-ldl : (k : ℕ) → IsSumAt s i j (Mul (Mul (Block L false i k) (Block D false k k)) (Block L true k j))
      at-ldl k = record {
        sum = ((dims, dims, ap (λ (d : ℕ). part s.starts d k) dims), dims, refl);
        rows = refl;
        cols = ap (λ (d : ℕ). part s.starts d j) dims;
      }

      at-ldl_sum : (n k : ℕ) → IsSumAt s i j (Mul (products_of L false D false (suc n) i k) (Block L true k j))
      at-ldl_sum n k = record {
        sum = (
          IsSum-sum (λ q. Mul (Block L false i q) (Block D false q k)) n (λ q. (dims, dims, ap (λ (d : ℕ). part s.starts d q) dims)) (λ q. (refl, refl)),
          dims,
          sym (cols-sum (λ q. Mul (Block L false i q) (Block D false q k)) n),
        );
        rows = rows-sum (λ q. Mul (Block L false i q) (Block D false q k)) n;
        cols = ap (λ (d : ℕ). part s.starts d j) dims;
      }

-- ---- expanded equations

IsFlat-sum : (s : Setting) (e : Tree) → IsSum s e → IsFlat s e
IsFlat-sum s (Block leaf primed i j) sum = sum
IsFlat-sum s (Add a b) sum = (IsFlat-sum s a sum.0, sum.1, sum.2)
IsFlat-sum s (Mul a b) sum = sum
IsFlat-sum s Zero sum = absurd sum
IsFlat-sum s (Sub a b) sum = absurd sum
IsFlat-sum s (SolveLeft t x) sum = absurd sum
IsFlat-sum s (SolveRight x t) sum = absurd sum
IsFlat-sum s (Sylvester t u negative x) sum = absurd sum
IsFlat-sum s (Lu x) sum = absurd sum
IsFlat-sum s (Ldl x) sum = absurd sum

IsShaped-flat : (s : Setting) (e : Tree) → IsFlat s e → IsShaped s e
IsShaped-flat s (Block leaf primed i j) flat = flat
IsShaped-flat s (Add a b) flat = flat
IsShaped-flat s (Sub a b) flat = flat
IsShaped-flat s (Mul a b) flat = flat
IsShaped-flat s Zero flat = absurd flat
IsShaped-flat s (SolveLeft t x) flat = absurd flat
IsShaped-flat s (SolveRight x t) flat = absurd flat
IsShaped-flat s (Sylvester t u negative x) flat = absurd flat
IsShaped-flat s (Lu x) flat = absurd flat
IsShaped-flat s (Ldl x) flat = absurd flat

module _ (s : Setting) (counts : List ℕ) (is : IsSetting s counts) (i j : ℕ) where
  fitting : IsFitting s is.lengths counts
  fitting = IsFitting-setting s counts is

  module _ (work : is_work_block s.op counts i j ≡ true) where
    -- each of W's dimensions has a part
    some_rows : (n : ℕ) × (parts_of counts s.op.work.rows ≡ suc n)
    some_rows = go (parts_of counts s.op.work.rows) (work-block s.op counts i j work).0
      where
        go : (n : ℕ) → i < n → (k : ℕ) × (n ≡ suc k)
        go zero below = absurd (omega arith)
        go (suc n) below = (n, refl)

    some_cols : (n : ℕ) × (parts_of counts s.op.work.cols ≡ suc n)
    some_cols = go (parts_of counts s.op.work.cols) (work-block s.op counts i j work).1
      where
        go : (n : ℕ) → j < n → (k : ℕ) × (n ≡ suc k)
        go zero below = absurd (omega arith)
        go (suc n) below = (n, refl)

    over_parts : (f : ℕ → Tree) (n : ℕ) → (k : ℕ) × (n ≡ suc k) → ((k : ℕ) → IsSumAt s i j (f k)) → IsSumAt s i j (sum_of f n)
    over_parts f n some each = subst (λ (m : ℕ). IsSumAt s i j (sum_of f m)) (sym some.1) (at-sum s i j f some.0 each)

    at-times_x : (t : Factor) → FactorFits s s.op.work.rows t → IsSumAt s i j (times_x s.op counts t i j)
    at-times_x t fits = over_parts (λ k. Mul (factor_block t i k) (Block Solution false k j)) (parts_of counts s.op.work.rows) some_rows (at-left s i j t fits)

    at-x_times : (u : Factor) → FactorFits s s.op.work.cols u → IsSumAt s i j (x_times s.op counts u i j)
    at-x_times u fits = over_parts (λ k. Mul (Block Solution false i k) (factor_block u k j)) (parts_of counts s.op.work.cols) some_cols (at-right s i j u fits)

    flat-left : (form : Form) → s.op.form ≡ form → IsFlat s (left_by s.op counts form i j)
    flat-left forms.Assign form = tt
    flat-left (forms.Left t) form = let at = at-times_x t (left_fits s counts is t form) in IsFlat-sum s _ at.sum
    flat-left (forms.Right u) form = let at = at-x_times u (right_fits s counts is u form) in IsFlat-sum s _ at.sum
    flat-left (forms.Sylvester t u negative) form =
        let fit = sylvester_fit s counts is t u negative form in
        both negative (at-times_x t fit.0) (at-x_times u fit.1)
      where
        both : (negative : Bool) → IsSumAt s i j (times_x s.op counts t i j) → IsSumAt s i j (x_times s.op counts u i j)
            → IsFlat s (if negative then Sub (times_x s.op counts t i j) (x_times s.op counts u i j) else Add (times_x s.op counts t i j) (x_times s.op counts u i j))
        both true p q = (IsFlat-sum s _ p.sum, q.sum, one_shape s i j _ _ p q)
        both false p q = (IsFlat-sum s _ p.sum, q.sum, one_shape s i j _ _ p q)
    flat-left forms.Lu form =
        let at = over_parts (λ k. Mul (Block L false i k) (Block U false k j)) (parts_of counts s.op.work.cols) some_cols (at-lu s i j (lu-general s.op is.valid form).1) in
        IsFlat-sum s _ at.sum
    flat-left forms.Ldl form = go (parts_of counts s.op.work.cols) some_cols
      where
        go : (n : ℕ) → (k : ℕ) × (n ≡ suc k) → IsFlat s (ldl_left n i j)
        go zero some = absurd (omega (arith, some.1))
        go (suc n) some = let at = at-sum s i j (λ k. Mul (products_of L false D false (suc n) i k) (Block L true k j)) n (at-ldl_sum s i j (ldl_square s counts is form) n) in IsFlat-sum s _ at.sum

    pub shaped-left : IsShaped s (expanded_left s.op counts i j)
    shaped-left = IsShaped-flat s (expanded_left s.op counts i j) (flat-left s.op.form refl)

  at-products : (term : Term) → TermFits s is.lengths term → (n : ℕ) (e : Tree) → IsRunningAt s i j e → IsRunningAt s i j (with_products term i j n e)
  at-products term fits zero e running = running
  at-products term fits (suc n) e running = at-more s i j term.minus (with_products term i j n e) (Mul (factor_block term.first i n) (factor_block term.second n j))
      (at-products term fits n e running) (at-term s i j is.lengths term fits n)

  at-terms : (terms : List Term) → AllFit s is.lengths terms → (e : Tree) → IsRunningAt s i j e → IsRunningAt s i j (with_terms s.op counts i j terms e)
  at-terms [] fit e running = running
  at-terms (term ∷ terms) fit e running = at-terms terms fit.1 _ (at-products term fit.0 (parts_of counts (factor_cols s.op term.first)) e running)

  pub shaped-right : IsShaped s (expanded_right s.op counts i j)
  shaped-right =
      let all : AllFit s is.lengths s.op.terms = (let fit : IsFitting s is.lengths counts = fitting in fit.terms) in
      let at = at-terms s.op.terms all (Block Work false i j) (at-work s i j) in
      IsShaped-flat s (expanded_right s.op counts i j) (IsFlat-running s (expanded_right s.op counts i j) at.running)

  -- ---- states

  at-term_task : (terms : List Term) → AllFit s is.lengths terms → (t k : ℕ) → has_term s.op counts terms t i j k ≡ true → IsSumAt s i j (term_product terms t i j k)
  at-term_task [] fit t k h = absurd (cc)
  at-term_task (term ∷ terms) fit zero k h = at-term s i j is.lengths term fit.0 k
  at-term_task (term ∷ terms) fit (suc t) k h = at-term_task terms fit.1 t k h

  at-left_task : (form : Form) → s.op.form ≡ form → (k : ℕ) → has_left s.op counts form i j k ≡ true → IsSumAt s i j (left_product form i j k)
  at-left_task forms.Assign form k h = absurd (cc)
  at-left_task (forms.Left t) form k h = at-left s i j t (left_fits s counts is t form) k
  at-left_task (forms.Right u) form k h = absurd (cc)
  at-left_task (forms.Sylvester t u negative) form k h = at-left s i j t (sylvester_fit s counts is t u negative form).0 k
  at-left_task forms.Lu form k h = at-lu s i j (lu-general s.op is.valid form).1 k
  at-left_task forms.Ldl form k h = at-ldl s i j (ldl_square s counts is form) k

  at-right_task : (form : Form) → s.op.form ≡ form → (k : ℕ) → has_right s.op counts form i j k ≡ true → IsSumAt s i j (right_product form i j k)
  at-right_task forms.Assign form k h = absurd (cc)
  at-right_task (forms.Left t) form k h = absurd (cc)
  at-right_task (forms.Right u) form k h = at-right s i j u (right_fits s counts is u form) k
  at-right_task (forms.Sylvester t u negative) form k h = at-right s i j u (sylvester_fit s counts is t u negative form).1 k
  at-right_task forms.Lu form k h = absurd (cc)
  at-right_task forms.Ldl form k h = absurd (cc)

  at-task : (kind : Kind) (t k : ℕ) → is_solve kind ≡ false → has_task s.op counts kind t i j k ≡ true → IsSumAt s i j (task_product s.op kind t i j k)
  at-task kinds.Pivots t k solve h = absurd (cc)
  at-task kinds.Term zero k solve h = absurd (cc)
  at-task kinds.Term (suc t) k solve h = at-term_task s.op.terms (let fit : IsFitting s is.lengths counts = fitting in fit.terms) t k h
  at-task kinds.Left t k solve h = at-left_task s.op.form refl k (and_parts (t == 0) (has_left s.op counts s.op.form i j k) h).1
  at-task kinds.Right t k solve h = at-right_task s.op.form refl k (and_parts (t == 0) (has_right s.op counts s.op.form i j k) h).1
  at-task kinds.Solve t k solve h = absurd (cc)

  -- a task of the block that the operation has
  abbrev pub IsOwn : Task → Type 0
  IsOwn a = (has s.op counts a ≡ true) × (a.i ≡ i) × (a.j ≡ j)

  at-update : (a : Task) → IsOwn a → (e : Tree) → IsRunningAt s i j e → IsRunningAt s i j (with_update s.op a e)
  at-update a own e running = go (is_solve a.kind) refl
    where
      here : has_task s.op counts a.kind a.term i j a.k ≡ true
      here = subst (λ (q : ℕ). has_task s.op counts a.kind a.term i q a.k ≡ true) own.2
          (subst (λ (p : ℕ). has_task s.op counts a.kind a.term p a.j a.k ≡ true) own.1 (and_parts (is_work_block s.op counts a.i a.j) (has_task s.op counts a.kind a.term a.i a.j a.k) own.0).1)

      go : (solves : Bool) → is_solve a.kind ≡ solves → IsRunningAt s i j (if solves then e else
          (if task_minus s.op a.kind a.term then Sub e (task_product s.op a.kind a.term a.i a.j a.k) else Add e (task_product s.op a.kind a.term a.i a.j a.k)))
      go true h = running
      go false h = at-more s i j (task_minus s.op a.kind a.term) e (task_product s.op a.kind a.term a.i a.j a.k) running
          (subst (λ (q : ℕ). IsSumAt s i j (task_product s.op a.kind a.term a.i q a.k)) (sym own.2)
          (subst (λ (p : ℕ). IsSumAt s i j (task_product s.op a.kind a.term p j a.k)) (sym own.1) (at-task a.kind a.term a.k h here)))

  at-updates : (tasks : List Task) → All IsOwn tasks → (e : Tree) → IsRunningAt s i j e → IsRunningAt s i j (with_updates s.op tasks e)
  at-updates [] own e running = running
  at-updates (a ∷ tasks) own e running = at-updates tasks (All-tail IsOwn a tasks own) (with_update s.op a e) (at-update a (All-head IsOwn a tasks own) e running)

  -- the solve of a form
  shaped-solved : (form : Form) → s.op.form ≡ form → (e : Tree) → IsRunningAt s i j e → IsShaped s (solved form i j e)
  shaped-solved forms.Assign form e running = IsShaped-flat s e (IsFlat-running s e running.running)
  shaped-solved (forms.Left t) form e running = let fits = left_fits s counts is t form in
      (tt, running.running, ap (λ (d : ℕ). part s.starts d i) fits.rows ∙ sym running.rows)
  shaped-solved (forms.Right u) form e running = let fits = right_fits s counts is u form in
      (tt, running.running, ap (λ (d : ℕ). part s.starts d j) fits.cols ∙ sym running.cols)
  shaped-solved (forms.Sylvester t u negative) form e running = let fits = sylvester_fit s counts is t u negative form in
      (tt, tt, running.running, ap (λ (d : ℕ). part s.starts d i) fits.0.rows ∙ sym running.rows, ap (λ (d : ℕ). part s.starts d j) fits.1.cols ∙ sym running.cols)
  shaped-solved forms.Lu form e running = go (i == j) (nat_lt i j)
    where
      dims : s.op.work.rows ≡ s.op.work.cols
      dims = (lu-general s.op is.valid form).1

      go : (x y : Bool) → IsShaped s (if x then Lu e else (if y then SolveLeft (Block L false i i) e else SolveRight e (Block U false j j)))
      go true y = running.running
      go false true = (dims, running.running, sym running.rows)
      go false false = (dims, running.running, sym running.cols)
  shaped-solved forms.Ldl form e running = go (i == j)
    where
      dims : s.op.work.rows ≡ s.op.work.cols
      dims = ldl_square s counts is form

      go : (x : Bool) → IsShaped s (if x then Ldl e else SolveRight e (Mul (Block D false j j) (Block L true j j)))
      go true = running.running
      go false = ((dims, dims, refl), running.running, ap (λ (d : ℕ). part s.starts d j) dims ∙ sym running.cols)

  pub shaped-state : (done : List Task) → All IsOwn done → IsShaped s (state_tree s.op i j done)
  shaped-state done own = go (has_solved done)
    where
      sum : Tree
      sum = with_updates s.op done (Block Work false i j)

      at : IsRunningAt s i j sum
      at = at-updates done own (Block Work false i j) (at-work s i j)

      go : (b : Bool) → IsShaped s (if b then solved s.op.form i j (with_updates s.op done (Block Work false i j)) else with_updates s.op done (Block Work false i j))
      go true = shaped-solved s.op.form refl sum at
      go false = IsShaped-flat s sum (IsFlat-running s sum at.running)
