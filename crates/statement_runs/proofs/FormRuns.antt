-- The whole equation after all steps of a statement, for any form: the sums of the terms beside the sum of the form. Cited by each form.
use Rattle.std.proofs.Common.{◌≡◌, ◌≢◌, ℕ, zero, suc, ◌+◌, ◌-◌, ◌*◌, ◌/◌, ◌%◌, ◌<◌, ◌≤◌, ◌⊎◌, inl, inr, Bool, true, false, not, if◌then◌else◌, List, [], ◌∷◌, refl, sym, ◌∙◌, ap, ap₂, subst, arith}
use Rattle.std.specs.Prelude.{◌==◌, ◌&&◌, nat_lt}
use Rattle.std.proofs.lemmas.Bool.{cases_Bool, cases_eq, and_parts, false≢true}
use Rattle.residue_sums.specs.Residues.{Cong}
use Rattle.residue_sums.specs.Sums.{part_count, part_length}
use Rattle.residue_sums.specs.Tables.{Table}
use Rattle.residue_sums.specs.Grids.{Grid, IsFull, AreResidues, HasEntries, entry}
use Rattle.residue_sums.proofs.Congruence.{Cong-by, Cong-add, Cong-sym, Cong-from_same}
use Rattle.structure_rules.specs.Structures.{IsEntry, IsInside, IsZero, is_zero}
use Rattle.operation_spec.specs.declared.operation.Operation.{Operation}
use Rattle.operation_spec.specs.declared.operation.Form.{Form}
use Rattle.operation_spec.specs.declared.operation.Form.TheVariants.{Assign, Left, Right, Sylvester, Lu, Ldl}
use Rattle.operation_spec.specs.declared.task.Kind.{Kind}
use Rattle.operation_spec.specs.declared.task.Kind.TheVariants as kinds
use Rattle.operation_spec.specs.declared.task.Task.{Task}
use Rattle.task_graph.specs.Tasks.{has, has_task, has_left, has_right, has_solve, is_work_block, parts_of}
use Rattle.task_graph.specs.Needs.{is_solve}
use Rattle.equation.specs.Equations.{with_terms, right_side}
use Rattle.task_sums.specs.SharedSums.{IsOfBlock, IsShared}
use Rattle.task_sums.proofs.Shares.{IsShared-none, IsShared-sum}
use Rattle.task_sums.specs.TaskRuns.{IsRun, IsSolvedAt}
use Rattle.task_sums.proofs.Runs.{whole-solved, whole-updated}
use Rattle.flash_blocks.specs.Blocks.{Blocks, gathered}
use Rattle.block_tasks.proofs.TaskTests.{is_task, is_task-self, is_task-or}
use Rattle.statement_runs.specs.StatementRuns.{IsStatementRun}
use Rattle.statement_runs.proofs.StatementRuns.{IsRun-statement}
use Rattle.block_tasks.proofs.SolveTasks.{operation_tasks, IsSolveTask, DependsOn, solve_of}
use Rattle.block_tasks.proofs.TermSums.{terms_sum, terms-other, terms-whole, HasTerms, IsSharedSum, IsShared-terms, work_block-inside}
use Rattle.statement_runs.proofs.StepValues.{table-first, term-updated, from_first}

-- a solve is of no other kind
solve-kind : (k : Kind) → is_solve k ≡ true → k ≡ kinds.Solve
solve-kind kinds.Solve h = refl
solve-kind kinds.Pivots h = absurd (false≢true h)
solve-kind kinds.Term h = absurd (false≢true h)
solve-kind kinds.Left h = absurd (false≢true h)
solve-kind kinds.Right h = absurd (false≢true h)

module _ (m b : ℕ) (two : 2 ≤ m) (pos : 0 < b) (op : Operation) (knowns : List Grid) (work : Grid) (counts : List ℕ) (n : ℕ) (task : ℕ → Task) (did : ℕ → Bool) (known_at : ℕ → ℕ → Blocks) (w : ℕ → Blocks)
    (run : IsStatementRun m b op knowns work counts n task did known_at w)
    (rows_are : parts_of counts op.work.rows ≡ part_count work.rows b) (cols_are : parts_of counts op.work.cols ≡ part_count work.cols b)
    (have : HasTerms m b two pos op knowns work counts rows_are cols_are op.terms) where
  abbrev table : ℕ → Table
  table p = gathered b (w p)

  abbrev terms : (Task → ℕ) → Table → ℕ → ℕ → ℕ
  terms = terms_sum m b two pos op knowns work counts rows_are cols_are op.terms 0

  abbrev Inside : ℕ → ℕ → Type 0
  Inside = IsEntry work.rows work.cols op.work.structure

  terms-shared : IsSharedSum m b two pos op knowns work counts rows_are cols_are terms
  terms-shared = IsShared-terms m b two pos op knowns work counts rows_are cols_are op.terms 0
      (from_first m b two pos op knowns work counts n task did known_at w run rows_are cols_are have) have

  -- ---- forms with a sum of their own

  module _ (form : (Task → ℕ) → Table → ℕ → ℕ → ℕ) (form_shared : IsSharedSum m b two pos op knowns work counts rows_are cols_are form)
      (form_term : (t : Task) (v : Table) (r c : ℕ) → t.kind ≡ kinds.Term → form (is_task t) v r c ≡ 0)
      (form_updated : (p : ℕ) → p < n → did p ≡ true → ¬ (IsSolveTask (task p)) → (task p).kind ≢ kinds.Term → (r c : ℕ) → IsEntry work.rows work.cols op.work.structure r c
      → (task p).i ≡ r / b → (task p).j ≡ c / b → Cong m (gathered b (w (suc p)) r c + form (is_task (task p)) (gathered b (w p)) r c) (gathered b (w p) r c))
      (form_solved : (p : ℕ) → p < n → did p ≡ true → (task p).kind ≡ kinds.Solve → (r c : ℕ) → IsEntry work.rows work.cols op.work.structure r c
      → (task p).i ≡ r / b → (task p).j ≡ c / b → Cong m (form (is_task (task p)) (gathered b (w (suc p))) r c) (gathered b (w p) r c)) where
    abbrev pub both : (Task → ℕ) → Table → ℕ → ℕ → ℕ
    both f v r c = terms f v r c + form f v r c

    pub both-shared : IsSharedSum m b two pos op knowns work counts rows_are cols_are both
    both-shared = IsShared-sum b (operation_tasks op counts) Inside terms form terms-shared form_shared

    is_term_or : (k : Kind) → (k ≡ kinds.Term) ⊎ (k ≢ kinds.Term)
    is_term_or kinds.Term = inl refl
    is_term_or kinds.Pivots = inr (λ e. absurd (cc))
    is_term_or kinds.Left = inr (λ e. absurd (cc))
    is_term_or kinds.Right = inr (λ e. absurd (cc))
    is_term_or kinds.Solve = inr (λ e. absurd (cc))

    terms-none : (t : Task) (v : Table) (r c : ℕ) → t.kind ≢ kinds.Term → terms (is_task t) v r c ≡ 0
    terms-none t v r c apart = terms-other m b two pos op knowns work counts rows_are cols_are op.terms 0 t v r c apart

    pub updated : (p : ℕ) → p < n → did p ≡ true → ¬ (IsSolveTask (task p)) → (r c : ℕ) → Inside r c → (task p).i ≡ r / b → (task p).j ≡ c / b
        → Cong m (table (suc p) r c + both (is_task (task p)) (table p) r c) (table p r c)
    updated p below ran update r c within row col = elim (is_term_or (task p).kind) [
      | inl kind ↦ Cong-by (term-updated m b two pos op knowns work counts n task did known_at w run rows_are cols_are have p below ran kind r c within row col)
          (omega (arith, form_term (task p) (table p) r c kind))
      | inr apart ↦ Cong-by (form_updated p below ran update apart r c within row col) (omega (arith, terms-none (task p) (table p) r c apart))
    ]

    pub solved : (p : ℕ) → p < n → did p ≡ true → IsSolveTask (task p) → (r c : ℕ) → Inside r c → (task p).i ≡ r / b → (task p).j ≡ c / b
        → Cong m (both (is_task (task p)) (table (suc p)) r c) (table p r c)
    solved p below ran solve r c within row col =
        let kind : (task p).kind ≡ kinds.Solve = solve-kind (task p).kind solve in
        Cong-by (form_solved p below ran kind r c within row col) (omega (arith, terms-none (task p) (table (suc p)) r c (rw kind (λ e. absurd (cc)))))

    pub form-run : IsRun m b (operation_tasks op counts) Inside both n task did table
    form-run = IsRun-statement m b op knowns work counts n task did known_at w run both both-shared updated solved

    -- all tasks ran
    module _ (all_ran : (p : ℕ) → p < n → did p ≡ true) (r c : ℕ) (within : IsEntry work.rows work.cols op.work.structure r c) where
      each-once : (u : Task) → IsOfBlock b (operation_tasks op counts) u r c
          → (q : ℕ) × (q < n) × (did q ≡ true) × (task q ≡ u) × ((k : ℕ) → k < n → task k ≡ u → k ≡ q)
      each-once u h = let q = run.all u h.0 in (q.0, q.1, all_ran q.0 q.1, q.2, λ k below e. run.once k q.0 below q.1 (e ∙ sym q.2))

      sum-right : Cong m (right_side m op knowns work r c + terms (λ u. 1) (table n) r c) (entry work r c)
      sum-right = terms-whole m b two pos op knowns work counts rows_are cols_are op.terms 0 (entry work) (table n) r c

      first : table 0 r c ≡ entry work r c
      first = table-first m b two pos op knowns work counts n task did known_at w run r c within.row within.col

      -- a form that solves
      pub form-solved : has_solve op.form ≡ true → Cong m (form (λ u. 1) (table n) r c) (right_side m op knowns work r c)
      form-solved solves =
          let exists : has op counts (solve_of (r / b) (c / b)) ≡ true = rw (work_block-inside op counts b r c work.rows work.cols pos rows_are cols_are within, solves) refl in
          let q = run.all (solve_of (r / b) (c / b)) exists in
          let at : IsSolvedAt m b (operation_tasks op counts) Inside both n task did table q.0 r c
          = record { ran = all_ran q.0 q.1; solve = rw q.2 refl; row_is = rw q.2 refl; col_is = rw q.2 refl } in
          let whole : Cong m (terms (λ u. 1) (table n) r c + form (λ u. 1) (table n) r c) (table 0 r c)
          = whole-solved m b (operation_tasks op counts) Inside both both-shared n task did table
          form-run r c within each-once q.0 q.1 at in
          Cong-by (Cong-add whole (Cong-sym sum-right)) (omega (arith, first))

      -- and one that doesn't
      pub form-updated : has_solve op.form ≡ false → Cong m (table n r c + form (λ u. 1) (table n) r c) (right_side m op knowns work r c)
      form-updated none =
          let whole : Cong m (table n r c + (terms (λ u. 1) (table n) r c + form (λ u. 1) (table n) r c)) (table 0 r c)
          = whole-updated m b (operation_tasks op counts) Inside both both-shared n task did table
          form-run r c within each-once (λ q below at. no-solve q below at.solve) in
          Cong-by (Cong-add whole (Cong-sym sum-right)) (omega (arith, first))
        where
          no-solve : (q : ℕ) → q < n → is_solve (task q).kind ≡ true → ⊥
          no-solve q below solve =
              let p = and_parts (is_work_block op counts (task q).i (task q).j) (has_task op counts (task q).kind (task q).term (task q).i (task q).j (task q).k) (run.exists q below) in
              let s = and_parts ((task q).term == 0 && (task q).k == 0) (has_solve op.form) (rw (solve-kind (task q).kind solve) at p.1) in
              false≢true (sym none ∙ s.1)
