-- A statement's steps on the blocks of its work matrix: each block task once, what a task needs before it, some of them not done.
-- Cited by each form; here is what holds for all of them.
use Rattle.std.proofs.Common.{◌≡◌, ◌≢◌, ℕ, zero, suc, ◌+◌, ◌*◌, ◌/◌, ◌%◌, ◌<◌, ◌≤◌, ◌⊎◌, inl, inr, Bool, true, false, not, if◌then◌else◌, List, refl, sym, ◌∙◌, ap, subst, arith}
use Rattle.std.specs.Prelude.{◌==◌, ◌&&◌, ◌||◌, nat_lt}
use Rattle.std.proofs.lemmas.Bool.{cases_Bool, cases_eq, cases_lt, and_parts, or_cases, eqb-true, false≢true}
use Rattle.std.proofs.lemmas.Bool.Decides.{nat_tests}
use Rattle.residue_sums.specs.Residues.{Cong}
use Rattle.residue_sums.specs.Sums.{part_count, part_length}
use Rattle.residue_sums.specs.Tables.{Table}
use Rattle.residue_sums.specs.Grids.{Grid, IsFull, AreResidues, entry}
use Rattle.residue_sums.proofs.Parts.{part_below_count, index_from_place}
use Rattle.structure_rules.specs.declared.Structure.{Structure}
use Rattle.structure_rules.specs.Structures.{IsEntry, IsInside, IsZero, is_zero}
use Rattle.operation_spec.specs.declared.operation.Operation.{Operation}
use Rattle.operation_spec.specs.declared.operation.Form.{Form}
use Rattle.operation_spec.specs.declared.operation.Form.TheVariants.{Assign, Left, Right, Sylvester, Lu, Ldl}
use Rattle.operation_spec.specs.declared.task.Kind.{Kind}
use Rattle.operation_spec.specs.declared.task.Kind.TheVariants as kinds
use Rattle.operation_spec.specs.declared.task.Task.{Task}
use Rattle.task_graph.specs.Tasks.{has, has_task, has_solve, is_work_block, parts_of}
use Rattle.task_graph.specs.Needs.{is_solve, does_need, needs_by, left_needs, right_needs, solve_needs}
use Rattle.task_graph.specs.Order.{task_of}
use Rattle.task_sums.specs.SharedSums.{IsShared}
use Rattle.task_sums.specs.TaskRuns.{IsRun}
use Rattle.flash_blocks.specs.Blocks.{Blocks, block_of, gathered}
use Rattle.block_tasks.proofs.SolveTasks.{operation_tasks, solve_of, IsSolveTask, DependsOn, solve-needed, solve-needs, has-solve, solve-is}
use Rattle.statement_runs.specs.StatementRuns.{IsStatementRun}
use Rattle.block_tasks.specs.Effects.{AreKnown, SuitsForm, IsEffect, block_structure}
use Rattle.block_tasks.proofs.EffectValues.{left_of, right_of, value-from_effect}
use Rattle.equation.specs.Kernels.{IsValue}
use Rattle.block_tasks.proofs.BlockViews.{block_entry}
use Rattle.block_tasks.proofs.LeftSums.{work_block-zero}
use Rattle.block_tasks.proofs.TaskTests.{is_task, is_task-self, is_task-or}

module _ (m b : ℕ) (op : Operation) (knowns : List Grid) (work : Grid) (counts : List ℕ) (n : ℕ) (task : ℕ → Task) (did : ℕ → Bool) (known_at : ℕ → ℕ → Blocks) (w : ℕ → Blocks)
    (run : IsStatementRun m b op knowns work counts n task did known_at w) where
  -- the solve of a block comes after its other tasks
  solve-last : (p q : ℕ) → p < n → q < n → IsSolveTask (task q) → (task p).i ≡ (task q).i → (task p).j ≡ (task q).j → p ≤ q
  solve-last p q p_in q_in solve row col = elim (cases_Bool (is_solve (task p).kind)) [
    | inl too ↦ (let same : task p ≡ task q =
        solve-is op counts (task p) (run.exists p p_in) too ∙ (λ x. solve_of (row x) (col x)) ∙ sym (solve-is op counts (task q) (run.exists q q_in) solve) in
        let one : p ≡ q = run.once p q p_in q_in same in omega arith)
    | inr other ↦ (let before : p < q = run.needs_before q p q_in p_in (solve-needs op (task q) (task p) solve other row col) in omega arith)
  ]

  -- the solve that a task needs comes before it
  solve-before : (p q : ℕ) → p < n → q < n → does_need op (task q) (solve_of (task p).i (task p).j) ≡ true → p < q
  solve-before p q p_in q_in need =
      let s = run.all (solve_of (task p).i (task p).j) (has-solve op counts (task p) (run.exists p p_in) (solve-needed op (task q) (task p).i (task p).j need)) in
      let before : s.0 < q = run.needs_before q s.0 q_in s.1 (rw s.2 need) in
      let last : p ≤ s.0 = solve-last p s.0 p_in s.1 (rw s.2 refl) (rw s.2 refl) (rw s.2 refl) in
      omega arith

  pub settled : (p q : ℕ) → p < n → q < n → DependsOn op (task q) (task p).i (task p).j → p ≤ q
  settled p q p_in q_in (inl own) = solve-last p q p_in q_in own.0 (sym own.1) (sym own.2)
  settled p q p_in q_in (inr need) = let before : p < q = solve-before p q p_in q_in need in omega arith

  pub update_own : (p : ℕ) → p < n → ¬ (IsSolveTask (task p)) → ¬ (DependsOn op (task p) (task p).i (task p).j)
  update_own p p_in update (inl own) = update own.0
  update_own p p_in update (inr need) = let before : p < p = solve-before p p p_in p_in need in omega arith

  -- the matrix after p steps
  abbrev pub table : ℕ → Table
  table p = gathered b (w p)

  -- what is left for each form: the shares
  pub IsRun-statement : (S : (Task → ℕ) → Table → ℕ → ℕ → ℕ)
      → (shared : IsShared b (operation_tasks op counts) (IsEntry work.rows work.cols op.work.structure) S)
      → ((p : ℕ) → p < n → did p ≡ true → ¬ (IsSolveTask (task p)) → (r c : ℕ) → IsEntry work.rows work.cols op.work.structure r c → (task p).i ≡ r / b → (task p).j ≡ c / b
      → Cong m (table (suc p) r c + S (is_task (task p)) (table p) r c) (table p r c))
      → ((p : ℕ) → p < n → did p ≡ true → IsSolveTask (task p) → (r c : ℕ) → IsEntry work.rows work.cols op.work.structure r c → (task p).i ≡ r / b → (task p).j ≡ c / b
      → Cong m (S (is_task (task p)) (table (suc p)) r c) (table p r c))
      → IsRun m b (operation_tasks op counts) (IsEntry work.rows work.cols op.work.structure) S n task did table
  IsRun-statement S shared updated solved = record {
    settled = λ p q p_in q_in ran ran' depends. settled p q p_in q_in depends;
    update_own = update_own;
    solve_own = λ p p_in solve. inl (solve, refl, refl);
    decide = λ p p_in. elim (cases_Bool (is_solve (task p).kind)) [ inl h ↦ inl h | inr h ↦ inr (λ e. false≢true (sym h ∙ e)) ];
    idle = λ p p_in idle r c. ap (λ (g : Grid). entry g (r % b) (c % b)) (run.idle p p_in idle (r / b) (c / b));
    elsewhere = λ p p_in r c apart. ap (λ (g : Grid). entry g (r % b) (c % b)) (run.elsewhere p p_in (r / b) (c / b) apart);
    updated = updated;
    solved = solved;
  }

  -- what ran in its block
  pub value-own : (p : ℕ) → p < n → did p ≡ true
      → IsValue m (block_structure op.work.structure (task p).i (task p).j) (left_of m op (known_at p) (w p) (task p).kind (task p).i (task p).j)
      (right_of m op (known_at p) (w p) (task p).kind (task p).term (task p).i (task p).j (task p).k) (w p (task p).i (task p).j) (w (suc p) (task p).i (task p).j)
  value-own p below ran = value-from_effect m op (known_at p) (w p) (task p).i (task p).j
      (work_block-zero op counts (task p).i (task p).j (and_parts (is_work_block op counts (task p).i (task p).j) (has_task op counts (task p).kind (task p).term (task p).i (task p).j (task p).k) (run.exists p below)).0)
      (w (suc p) (task p).i (task p).j) (task p).kind (task p).term (task p).k run.suits (run.ran p below ran)

  -- ---- the blocks keep their sizes

  abbrev HasSize : ℕ → ℕ → ℕ → Type 0
  HasSize p i j = ((w p i j).rows ≡ part_length work.rows b i) × ((w p i j).cols ≡ part_length work.cols b j)

  size-step : (p i j : ℕ) → p < n → HasSize p i j → HasSize (suc p) i j
  size-step p i j p_in h = go (cases_Bool (did p)) (cases_eq (task p).i i) (cases_eq (task p).j j)
    where
      go : (did p ≡ true) ⊎ (did p ≡ false) → ((task p).i ≡ i) ⊎ ((task p).i ≢ i) → ((task p).j ≡ j) ⊎ ((task p).j ≢ j) → HasSize (suc p) i j
      go (inr idle) x y = rw (run.idle p p_in idle i j) h
      go (inl ran) (inr x) y = rw (run.elsewhere p p_in i j (inl x)) h
      go (inl ran) (inl x) (inr y) = rw (run.elsewhere p p_in i j (inr y)) h
      go (inl ran) (inl x) (inl y) =
          let v = value-own p p_in ran in
          let rows : (w (suc p) (task p).i (task p).j).rows ≡ (w p (task p).i (task p).j).rows = v.rows in
          let cols : (w (suc p) (task p).i (task p).j).cols ≡ (w p (task p).i (task p).j).cols = v.cols in
          (rw (x, y) at rows ∙ h.0, rw (x, y) at cols ∙ h.1)

  pub sizes : (p : ℕ) → p ≤ n → (i j : ℕ) → i < part_count work.rows b → j < part_count work.cols b → HasSize p i j
  sizes zero le i j row col = rw (run.start i j row col) (refl, refl)
  sizes (suc p) le i j row col = size-step p i j (omega arith) (sizes p (omega arith) i j row col)

  -- ---- what stays, and what ran before

  -- a diagonal block that was solved stays
  pub solved_stays : (s a f t : ℕ) → s < t → t ≤ f → f ≤ n → did s ≡ true → task s ≡ solve_of a a → w t a a ≡ w (suc s) a a
  solved_stays s a f zero before le f_le ran is = absurd (omega arith)
  solved_stays s a f (suc t) before le f_le ran is = elim (cases_eq s t) [
    | inl same ↦ rw same refl
    | inr other ↦ (let earlier : w t a a ≡ w (suc s) a a = solved_stays s a f t (omega arith) (omega arith) f_le ran is in
        elim (cases_eq (task t).i a) [
          | inr x ↦ run.elsewhere t (omega arith) a a (inl x) ∙ earlier
          | inl x ↦ elim (cases_eq (task t).j a) [
            | inr y ↦ run.elsewhere t (omega arith) a a (inr y) ∙ earlier
            | inl y ↦ absurd (let late : t ≤ s = settled t s (omega arith) (omega arith) (inl (rw is refl, rw is (sym x), rw is (sym y))) in omega arith)
          ]
        ])
  ]

  -- what a task that ran, or task f, needs ran before it
  module _ (f : ℕ) (f_in : f < n) (ready : (p r : ℕ) → p < n → r < n → (did p ≡ true) ⊎ (p ≡ f) → does_need op (task p) (task r) ≡ true → did r ≡ true) where
    -- a task that ran before the step
    abbrev pub DoneBefore : Task → Type 0
    DoneBefore u = (s : ℕ) × (s < f) × (did s ≡ true) × (task s ≡ u)

    pub needed_ran : (p : ℕ) (v : Task) → p < n → p ≤ f → (did p ≡ true) ⊎ (p ≡ f) → does_need op (task p) v ≡ true → has op counts v ≡ true → DoneBefore v
    needed_ran p v below le active need exists =
        let r = run.all v exists in
        let before : r.0 < p = run.needs_before p r.0 below r.1 (rw r.2 need) in
        (r.0, omega arith, ready p r.0 below r.1 active (rw r.2 need), r.2)

    pub needed_by_done : (u v : Task) → DoneBefore u → does_need op u v ≡ true → has op counts v ≡ true → DoneBefore v
    needed_by_done u v h need exists = needed_ran h.0 v (omega (arith, h.1)) (omega (arith, h.1)) (inl h.2) (rw h.3 need) exists
