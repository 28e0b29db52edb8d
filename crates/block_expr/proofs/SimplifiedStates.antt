-- In a state there is nothing to simplify: each of its tasks reads blocks that are no zero blocks.
use Rattle.std.proofs.Common.{◌≡◌, ℕ, zero, suc, ◌≤◌, List, [], ◌∷◌, Bool, true, false, if◌then◌else◌, refl, sym, ◌∙◌, ap, ap₂, subst, inl, inr, All, arith}
use Rattle.std.specs.Prelude.{◌&&◌, ◌==◌, nat_lt, not, min}
use Rattle.std.proofs.lemmas.Bool.{and_parts, ltb-true, le-ltb, not-true, eq-eqb}
use Rattle.std.proofs.lemmas.Bool.Decides.{nat_tests}
use Rattle.std.proofs.lemmas.List.Elements.{All-head, All-tail}
use Rattle.structure_rules.specs.declared.Structure.{Structure}
use Rattle.structure_rules.specs.declared.Structure.TheVariants.{General, Lower, UnitLower, Upper, UnitUpper, Diagonal, Symmetric}
use Rattle.structure_rules.specs.Structures.{is_zero, transpose_of}
use Rattle.operation_spec.specs.declared.operation.Operation.{Operation}
use Rattle.operation_spec.specs.declared.operation.Factor.{Factor}
use Rattle.operation_spec.specs.declared.operation.Term.{Term}
use Rattle.operation_spec.specs.declared.operation.Form.{Form}
use Rattle.operation_spec.specs.declared.operation.Form.TheVariants as forms
use Rattle.operation_spec.specs.declared.task.Kind.{Kind}
use Rattle.operation_spec.specs.declared.task.Kind.TheVariants as kinds
use Rattle.operation_spec.specs.declared.task.Task.{Task}
use Rattle.operation_spec.specs.ValidOperations.{IsValid}
use Rattle.equation.proofs.ValidForms.{ldl-lower}
use Rattle.task_graph.specs.Factors.{known, factor_cols}
use Rattle.task_graph.specs.Needs.{is_solve}
use Rattle.task_graph.specs.Listing.{block_of}
use Rattle.task_graph.specs.Tasks.{parts_of, is_work_block, is_inside, reads_left, reads_right, has_task, has_term, has_left, has_right}
use Rattle.task_graph.proofs.WorkBlocks.{lower-block}
use Rattle.block_values.specs.declared.leaf.Leaf.{Leaf}
use Rattle.block_values.specs.declared.leaf.Leaf.TheVariants.{Work, Known, Solution, L, D, U}
use Rattle.block_values.specs.Trees.{Tree, Block, Add, Sub, Mul, SolveLeft, SolveRight, Lu, Ldl}
use Rattle.block_values.specs.States.{factor_block, term_product, left_product, right_product, task_product, task_minus, with_update, with_updates, has_solved, solved, state_tree, full_tree}
use Rattle.block_values.proofs.Orders.{Among}
use Rattle.block_values.proofs.BlockTasks.{IsTaskAt, at-block}
use Rattle.block_expr.specs.Simplified.{is_zero_block, is_none, simplified}

-- simplifying changes nothing, and something is left
record IsSimple (op : Operation) (e : Tree) : Type 0 where
  same : simplified op e ≡ e
  some : is_none e ≡ false

-- ---- zero blocks

-- a block of a transpose is zero where the block turned is
turned : (s : Structure) (i j : ℕ) → is_zero (transpose_of s) i j ≡ is_zero s j i
turned General i j = refl
turned Lower i j = refl
turned UnitLower i j = refl
turned Upper i j = refl
turned UnitUpper i j = refl
turned Diagonal i j = grind (arith, nat_tests)
turned Symmetric i j = refl

-- no block on the diagonal is zero
on_diagonal : (s : Structure) (i : ℕ) → is_zero s i i ≡ false
on_diagonal General i = refl
on_diagonal Lower i = le-ltb i i (omega arith)
on_diagonal UnitLower i = le-ltb i i (omega arith)
on_diagonal Upper i = le-ltb i i (omega arith)
on_diagonal UnitUpper i = le-ltb i i (omega arith)
on_diagonal Diagonal i = ap not (eq-eqb i i refl)
on_diagonal Symmetric i = refl

module _ (op : Operation) where
  -- ---- expressions of simple ones

  simple-block : (leaf : Leaf) (primed : Bool) (i j : ℕ) → is_zero_block op leaf primed i j ≡ false → IsSimple op (Block leaf primed i j)
  simple-block leaf primed i j inside = record { same = rw inside refl; some = refl }

  simple-more : (negative : Bool) (a b : Tree) → IsSimple op a → IsSimple op b → IsSimple op (if negative then Sub a b else Add a b)
  simple-more true a b p q = record { same = rw (p.same, q.same, q.some) refl; some = refl }
  simple-more false a b p q = record { same = rw (p.same, q.same, p.some, q.some) refl; some = refl }

  simple-mul : (a b : Tree) → IsSimple op a → IsSimple op b → IsSimple op (Mul a b)
  simple-mul a b p q = record { same = rw (p.same, q.same, p.some, q.some) refl; some = refl }

  simple-left : (t sum : Tree) → IsSimple op t → IsSimple op sum → IsSimple op (SolveLeft t sum)
  simple-left t sum p q = record { same = ap₂ SolveLeft p.same q.same; some = refl }

  simple-right : (sum t : Tree) → IsSimple op sum → IsSimple op t → IsSimple op (SolveRight sum t)
  simple-right sum t p q = record { same = ap₂ SolveRight p.same q.same; some = refl }

  -- ---- blocks of operands

  simple-factor : (f : Factor) (i j : ℕ) → is_inside op f i j ≡ true → IsSimple op (factor_block f i j)
  simple-factor f i j inside = simple-block (Known f.known) f.primed i j (go f.primed (not-true _ inside))
    where
      s : Structure
      s = (known op f.known).structure

      go : (b : Bool) → is_zero (if b then transpose_of s else s) i j ≡ false → (if b then is_zero s j i else is_zero s i j) ≡ false
      go true h = sym (turned s i j) ∙ h
      go false h = h

  -- a factor's block on the diagonal
  simple-diagonal : (f : Factor) (i : ℕ) → IsSimple op (factor_block f i i)
  simple-diagonal f i = simple-block (Known f.known) f.primed i i (go f.primed)
    where
      go : (b : Bool) → (if b then is_zero (known op f.known).structure i i else is_zero (known op f.known).structure i i) ≡ false
      go true = on_diagonal (known op f.known).structure i
      go false = on_diagonal (known op f.known).structure i

  module _ (counts : List ℕ) where
    simple-x : (i j : ℕ) → is_work_block op counts i j ≡ true → IsSimple op (Block Solution false i j)
    simple-x i j work = simple-block Solution false i j (not-true (is_zero op.work.structure i j)
        (and_parts (nat_lt i (parts_of counts op.work.rows) && nat_lt j (parts_of counts op.work.cols)) (not (is_zero op.work.structure i j)) work).1)

    -- ---- products of tasks

    module _ (i j : ℕ) where
      simple-term : (terms : List Term) (t k : ℕ) → has_term op counts terms t i j k ≡ true → IsSimple op (term_product terms t i j k)
      simple-term [] t k h = absurd (cc)
      simple-term (term ∷ terms) zero k h =
          let within = nat_lt k (parts_of counts (factor_cols op term.first)) in
          let p = and_parts (within && is_inside op term.first i k) (is_inside op term.second k j) h in
          simple-mul (factor_block term.first i k) (factor_block term.second k j)
          (simple-factor term.first i k (and_parts within (is_inside op term.first i k) p.0).1) (simple-factor term.second k j p.1)
      simple-term (term ∷ terms) (suc t) k h = simple-term terms t k h

      simple-reads_left : (t : Factor) (k : ℕ) → reads_left op counts t i j k ≡ true → IsSimple op (Mul (factor_block t i k) (Block Solution false k j))
      simple-reads_left t k h =
          let p = and_parts (is_inside op t i k && not (i == k)) (is_work_block op counts k j) h in
          simple-mul (factor_block t i k) (Block Solution false k j)
          (simple-factor t i k (and_parts (is_inside op t i k) (not (i == k)) p.0).0) (simple-x k j p.1)

      simple-reads_right : (u : Factor) (k : ℕ) → reads_right op counts u i j k ≡ true → IsSimple op (Mul (Block Solution false i k) (factor_block u k j))
      simple-reads_right u k h =
          let p = and_parts (is_inside op u k j && not (k == j)) (is_work_block op counts i k) h in
          simple-mul (Block Solution false i k) (factor_block u k j)
          (simple-x i k p.1) (simple-factor u k j (and_parts (is_inside op u k j) (not (k == j)) p.0).0)

      module _ (lower : op.form ≡ forms.Ldl → j ≤ i) where
        simple-left_task : (form : Form) → op.form ≡ form → (k : ℕ) → has_left op counts form i j k ≡ true → IsSimple op (left_product form i j k)
        simple-left_task forms.Assign form k h = absurd (cc)
        simple-left_task (forms.Left t) form k h = simple-reads_left t k h
        simple-left_task (forms.Right u) form k h = absurd (cc)
        simple-left_task (forms.Sylvester t u negative) form k h = simple-reads_left t k h
        simple-left_task forms.Lu form k h =
            let below = ltb-true k (min i j) h in
            simple-mul (Block L false i k) (Block U false k j)
            (simple-block L false i k (le-ltb i k (omega arith))) (simple-block U false k j (le-ltb j k (omega arith)))
        simple-left_task forms.Ldl form k h =
            let below = ltb-true k j h in
            let under : j ≤ i = lower form in
            simple-mul (Mul (Block L false i k) (Block D false k k)) (Block L true k j)
            (simple-mul (Block L false i k) (Block D false k k) (simple-block L false i k (le-ltb i k (omega arith))) (simple-block D false k k (on_diagonal Diagonal k)))
            (simple-block L true k j (le-ltb j k (omega arith)))

        simple-right_task : (form : Form) (k : ℕ) → has_right op counts form i j k ≡ true → IsSimple op (right_product form i j k)
        simple-right_task forms.Assign k h = absurd (cc)
        simple-right_task (forms.Left t) k h = absurd (cc)
        simple-right_task (forms.Right u) k h = simple-reads_right u k h
        simple-right_task (forms.Sylvester t u negative) k h = simple-reads_right u k h
        simple-right_task forms.Lu k h = absurd (cc)
        simple-right_task forms.Ldl k h = absurd (cc)

        simple-task : (kind : Kind) (t k : ℕ) → is_solve kind ≡ false → has_task op counts kind t i j k ≡ true → IsSimple op (task_product op kind t i j k)
        simple-task kinds.Pivots t k solve h = absurd (cc)
        simple-task kinds.Term zero k solve h = absurd (cc)
        simple-task kinds.Term (suc t) k solve h = simple-term op.terms t k h
        simple-task kinds.Left t k solve h = simple-left_task op.form refl k (and_parts (t == 0) (has_left op counts op.form i j k) h).1
        simple-task kinds.Right t k solve h = simple-right_task op.form k (and_parts (t == 0) (has_right op counts op.form i j k) h).1
        simple-task kinds.Solve t k solve h = absurd (cc)

        -- ---- states

        simple-update : (a : Task) → IsTaskAt op counts i j a → (e : Tree) → IsSimple op e → IsSimple op (with_update op a e)
        simple-update a own e simple = go (is_solve a.kind) refl
          where
            here : has_task op counts a.kind a.term i j a.k ≡ true
            here = subst (λ (q : ℕ). has_task op counts a.kind a.term i q a.k ≡ true) own.2
                (subst (λ (p : ℕ). has_task op counts a.kind a.term p a.j a.k ≡ true) own.1
                (and_parts (is_work_block op counts a.i a.j) (has_task op counts a.kind a.term a.i a.j a.k) own.0).1)

            go : (solves : Bool) → is_solve a.kind ≡ solves → IsSimple op (if solves then e else
                (if task_minus op a.kind a.term then Sub e (task_product op a.kind a.term a.i a.j a.k) else Add e (task_product op a.kind a.term a.i a.j a.k)))
            go true h = simple
            go false h = simple-more (task_minus op a.kind a.term) e (task_product op a.kind a.term a.i a.j a.k) simple
                (subst (λ (q : ℕ). IsSimple op (task_product op a.kind a.term a.i q a.k)) (sym own.2)
                (subst (λ (p : ℕ). IsSimple op (task_product op a.kind a.term p j a.k)) (sym own.1) (simple-task a.kind a.term a.k h here)))

        simple-updates : (tasks : List Task) → ((a : Task) → Among a tasks → IsTaskAt op counts i j a) → (e : Tree) → IsSimple op e → IsSimple op (with_updates op tasks e)
        simple-updates [] own e simple = simple
        simple-updates (a ∷ tasks) own e simple = simple-updates tasks (λ b among. own b (inr among)) (with_update op a e) (simple-update a (own a (inl refl)) e simple)

        simple-solved : (form : Form) (e : Tree) → IsSimple op e → IsSimple op (solved form i j e)
        simple-solved forms.Assign e simple = simple
        simple-solved (forms.Left t) e simple = simple-left (factor_block t i i) e (simple-diagonal t i) simple
        simple-solved (forms.Right u) e simple = simple-right e (factor_block u j j) simple (simple-diagonal u j)
        simple-solved (forms.Sylvester t u negative) e simple =
            let first : IsSimple op (factor_block t i i) = simple-diagonal t i in
            let second : IsSimple op (factor_block u j j) = simple-diagonal u j in
            record { same = rw (first.same, second.same, simple.same) refl; some = refl }
        simple-solved forms.Lu e simple = go (i == j) (nat_lt i j)
          where
            go : (x y : Bool) → IsSimple op (if x then Lu e else (if y then SolveLeft (Block L false i i) e else SolveRight e (Block U false j j)))
            go true y = record { same = ap Lu simple.same; some = refl }
            go false true = simple-left (Block L false i i) e (simple-block L false i i (on_diagonal UnitLower i)) simple
            go false false = simple-right e (Block U false j j) simple (simple-block U false j j (on_diagonal Upper j))
        simple-solved forms.Ldl e simple = go (i == j)
          where
            go : (x : Bool) → IsSimple op (if x then Ldl e else SolveRight e (Mul (Block D false j j) (Block L true j j)))
            go true = record { same = ap Ldl simple.same; some = refl }
            go false = simple-right e (Mul (Block D false j j) (Block L true j j)) simple
                (simple-mul (Block D false j j) (Block L true j j) (simple-block D false j j (on_diagonal Diagonal j)) (simple-block L true j j (on_diagonal UnitLower j)))

        simple-state : (done : List Task) → ((a : Task) → Among a done → IsTaskAt op counts i j a) → IsSimple op (state_tree op i j done)
        simple-state done own = go (has_solved done)
          where
            sum : IsSimple op (with_updates op done (Block Work false i j))
            sum = simple-updates done own (Block Work false i j) (simple-block Work false i j refl)

            go : (b : Bool) → IsSimple op (if b then solved op.form i j (with_updates op done (Block Work false i j)) else with_updates op done (Block Work false i j))
            go true = simple-solved op.form (with_updates op done (Block Work false i j)) sum
            go false = sum

-- the same of the tasks of a list
among-all : (P : Task → Type 0) (tasks : List Task) → All P tasks → (a : Task) → Among a tasks → P a
among-all P [] all a among = absurd among
among-all P (x ∷ tasks) all a (inl same) = subst P (sym same) (All-head P x tasks all)
among-all P (x ∷ tasks) all a (inr among) = among-all P tasks (All-tail P x tasks all) a among

module _ (op : Operation) (counts : List ℕ) (valid : IsValid op) (i j : ℕ) (work : is_work_block op counts i j ≡ true) where
  below_diagonal : op.form ≡ forms.Ldl → j ≤ i
  below_diagonal form = lower-block op counts i j (ldl-lower op valid form) work

  pub simplified-state : (done : List Task) → All (IsTaskAt op counts i j) done → simplified op (state_tree op i j done) ≡ state_tree op i j done
  simplified-state done own =
      let simple : IsSimple op (state_tree op i j done) = simple-state op counts i j below_diagonal done (among-all (IsTaskAt op counts i j) done own) in
      simple.same

  pub simplified-full : simplified op (full_tree op counts i j) ≡ full_tree op counts i j
  simplified-full =
      let simple : IsSimple op (full_tree op counts i j) = simple-state op counts i j below_diagonal (block_of op counts i j) (at-block op counts i j) in
      simple.same
