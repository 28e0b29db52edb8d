-- Operations of the form `X = R`, in any order of their block tasks.
use Rattle.std.proofs.Common.{◌≡◌, ◌≢◌, ℕ, zero, suc, ◌+◌, ◌*◌, ◌/◌, ◌%◌, ◌<◌, ◌≤◌, Bool, true, false, List, refl, sym, ◌∙◌, ap, arith}
use Rattle.std.specs.Prelude.{◌==◌, ◌&&◌}
use Rattle.std.proofs.lemmas.Bool.{and_parts, false≢true}
use Rattle.residue_sums.specs.Residues.{Cong}
use Rattle.residue_sums.specs.Sums.{part_count}
use Rattle.residue_sums.specs.Tables.{Table}
use Rattle.residue_sums.specs.Grids.{Grid, AreResidues, entry}
use Rattle.residue_sums.proofs.Congruence.{Cong-by, same_from_Cong}
use Rattle.structure_rules.specs.Structures.{IsEntry}
use Rattle.structure_rules.proofs.Views.{view-work}
use Rattle.operation_spec.specs.declared.operation.Operation.{Operation}
use Rattle.operation_spec.specs.declared.operation.Form.{Form}
use Rattle.operation_spec.specs.declared.operation.Form.TheVariants.{Assign}
use Rattle.operation_spec.specs.declared.task.Kind.{Kind}
use Rattle.operation_spec.specs.declared.task.Kind.TheVariants as kinds
use Rattle.operation_spec.specs.declared.task.Task.{Task}
use Rattle.task_graph.specs.Tasks.{has, has_task, has_left, has_right, has_solve, is_work_block, parts_of}
use Rattle.task_graph.specs.Needs.{is_solve}
use Rattle.equation.specs.Equations.{Satisfies, left_side, right_side, solution_table}
use Rattle.equation.proofs.Assignments.{left_side-assign, solution_inside}
use Rattle.equation.proofs.SolvedGrids.{HasResidues-right_side}
use Rattle.task_sums.proofs.Shares.{IsShared-none}
use Rattle.flash_blocks.specs.Blocks.{Blocks, gathered}
use Rattle.statement_runs.specs.StatementRuns.{IsStatementRun}
use Rattle.block_tasks.proofs.SolveTasks.{operation_tasks, IsSolveTask, DependsOn}
use Rattle.block_tasks.proofs.TermSums.{HasTerms}
use Rattle.statement_runs.proofs.StepValues.{residues}
use Rattle.statement_runs.proofs.FormRuns.{form-updated}
use Rattle.statement_runs.proofs.GatheredGrids.{gathered_grid, gathered-has, Satisfies-gathered}

-- all its tasks are those of terms
only_terms : (op : Operation) (counts : List ℕ) (kind : Kind) (t i j k : ℕ) → op.form ≡ Assign → has_task op counts kind t i j k ≡ true → kind ≡ kinds.Term
only_terms op counts kinds.Term t i j k form h = refl
only_terms op counts kinds.Pivots t i j k form h = absurd (false≢true h)
only_terms op counts kinds.Left t i j k form h = absurd (false≢true (rw form at (and_parts (t == 0) (has_left op counts op.form i j k) h).1))
only_terms op counts kinds.Right t i j k form h = absurd (false≢true (rw form at (and_parts (t == 0) (has_right op counts op.form i j k) h).1))
only_terms op counts kinds.Solve t i j k form h = absurd (false≢true (rw form at (and_parts (t == 0 && k == 0) (has_solve op.form) h).1))

module _ (m b : ℕ) (two : 2 ≤ m) (pos : 0 < b) (op : Operation) (knowns : List Grid) (work : Grid) (counts : List ℕ) (n : ℕ) (task : ℕ → Task) (did : ℕ → Bool) (known_at : ℕ → ℕ → Blocks) (w : ℕ → Blocks)
    (run : IsStatementRun m b op knowns work counts n task did known_at w)
    (rows_are : parts_of counts op.work.rows ≡ part_count work.rows b) (cols_are : parts_of counts op.work.cols ≡ part_count work.cols b)
    (have : HasTerms m b two pos op knowns work counts rows_are cols_are op.terms)
    (form : op.form ≡ Assign) (all_ran : (p : ℕ) → p < n → did p ≡ true) (given : AreResidues m work) where
  kind-term : (p : ℕ) → p < n → (task p).kind ≡ kinds.Term
  kind-term p below = only_terms op counts (task p).kind (task p).term (task p).i (task p).j (task p).k form
      (and_parts (is_work_block op counts (task p).i (task p).j) (has_task op counts (task p).kind (task p).term (task p).i (task p).j (task p).k) (run.exists p below)).1

  whole : (r c : ℕ) → IsEntry work.rows work.cols op.work.structure r c → Cong m (gathered b (w n) r c + 0) (right_side m op knowns work r c)
  whole r c within = form-updated m b two pos op knowns work counts n task did known_at w run rows_are cols_are have (λ f v r c. 0)
      (IsShared-none b (operation_tasks op counts) (IsEntry work.rows work.cols op.work.structure))
      (λ t v r c kind. refl)
      (λ p below ran update apart r c within row col. absurd (apart (kind-term p below)))
      (λ p below ran kind r c within row col. absurd (let k : kinds.Term ≡ kinds.Solve = sym (kind-term p below) ∙ kind in cc))
      all_ran r c within (rw form refl)

  pub Satisfies-assign : Satisfies m op knowns work (gathered_grid m b two pos op knowns work counts n task did known_at w run)
  Satisfies-assign = Satisfies-gathered m b two pos op knowns work counts n task did known_at w run given (λ r c within.
      left_side-assign m op knowns (gathered_grid m b two pos op knowns work counts n task did known_at w run) form r c
      ∙ solution_inside op (gathered_grid m b two pos op knowns work counts n task did known_at w run) r c within.inside
      ∙ gathered-has m b two pos op knowns work counts n task did known_at w run r c within.row within.col
      ∙ same_from_Cong (residues m b two pos op knowns work counts n task did known_at w run given n (omega arith) r c within.row within.col)
      (HasResidues-right_side m op knowns work (omega arith) given r c) (Cong-by (whole r c within) (omega arith)))
