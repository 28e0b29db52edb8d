-- The block tasks of a statement in a replay of a job, in any form: one that fails does so at the statement's first bad pivot, and where no step
-- failed the statement changes the matrices before it as it means to. Cited where the outcome of a statement is what it means.
use Rattle.std.proofs.Common.{◌≡◌, ◌≢◌, ℕ, suc, ◌+◌, ◌<◌, ◌≤◌, ◌⊎◌, inl, inr, Bool, true, List, length, refl, sym, ◌∙◌, ap, subst, arith}
use Rattle.std.specs.Prelude.{slice_set}
use Rattle.residue_sums.specs.Grids.{Grid}
use Rattle.operation_spec.specs.declared.operation.Operation.{Operation}
use Rattle.operation_spec.specs.declared.operation.Binding.{Binding}
use Rattle.operation_spec.specs.declared.operation.Form.TheVariants.{Lu, Ldl}
use Rattle.operation_spec.specs.declared.task.Kind.{Kind}
use Rattle.operation_spec.specs.declared.task.Kind.TheVariants as kinds
use Rattle.operation_spec.specs.declared.task.Task.{Task}
use Rattle.task_graph.specs.Needs.{does_need}
use Rattle.equation.specs.declared.job.Job.{Job}
use Rattle.equation.specs.declared.job.Place.{Place}
use Rattle.equation.specs.declared.job.Statement.{Statement}
use Rattle.equation.specs.Jobs.{nth_grid, known_grids}
use Rattle.equation.specs.Meanings.{Changes}
use Rattle.equation.proofs.JobMeanings.{AreKept}
use Rattle.equation.specs.Pivots.{IsFirstBadPivot}
use Rattle.flash_blocks.specs.Blocks.{Blocks, gathered, grid_of}
use Rattle.block_tasks.specs.Effects.{bad_by, IsBadTask}
use Rattle.statement_runs.specs.StatementRuns.{IsStatementRun, NoneBad, IsReady}
use Rattle.statement_runs.proofs.AllForms.{run-satisfies, run-fails, none-first}
use Rattle.step_replays.specs.Accesses.{operation_of}
use Rattle.step_replays.specs.Replays.{Ran, Skipped, Failed, bad_step_by}
use Rattle.step_replays.proofs.StatementsAfter.{after-statement}
use Rattle.step_replays.proofs.ReplayRuns.{IsRange, is_ran, ran-value, known_at, IsStatementRun-replay, not-pivots, nth-before}
use Rattle.step_replays.proofs.KeptMatrices.{kept-at}
use Rattle.step_replays.proofs.Stops.{unstopped, need-ran, all-ran}
use Rattle.step_replays.proofs.JobReplays.{JobReplay, ran-active, failed-active, ran-done, failed-done, own_valid, own_found, kept_fits, kept_counts, kept_residues, two, cuts, step_at, result_at, blocks_at, matrix_at, matrices_at, IsResultAt, own_statement, own_operation, own_binding, own_counts}

-- ---- a bad pivot of a block task, as one of its step

module _ (job : Job) (b : ℕ) (blocks : ℕ → Blocks) (s : Statement) (u : Task) (place : Place) where
  task-bad : (kind : Kind) → kind ≢ kinds.Pivots → bad_step_by job b blocks s kind u place → bad_by job.modulus b (operation_of job s).form (blocks s.bind.work) kind u.i u.j place
  task-bad kinds.Pivots other h = absurd (other refl)
  task-bad kinds.Term other h = h
  task-bad kinds.Left other h = h
  task-bad kinds.Right other h = h
  task-bad kinds.Solve other h = h

  step-bad : (kind : Kind) → kind ≢ kinds.Pivots → bad_by job.modulus b (operation_of job s).form (blocks s.bind.work) kind u.i u.j place → bad_step_by job b blocks s kind u place
  step-bad kinds.Pivots other h = absurd (other refl)
  step-bad kinds.Term other h = h
  step-bad kinds.Left other h = h
  step-bad kinds.Right other h = h
  step-bad kinds.Solve other h = h

module _ (replay : JobReplay)
    (t base n : ℕ) (t_in : t < length replay.job.statements) (range : IsRange replay.job replay.b replay.steps t base n) where
  abbrev op : Operation
  op = own_operation replay t

  abbrev bind : Binding
  bind = (own_binding replay t)

  abbrev before : List Grid
  before = matrices_at replay base

  abbrev kept : AreKept replay.job (matrices_at replay base)
  kept = kept-at replay base (omega (arith, range.within))

  abbrev task : ℕ → Task
  task p = (step_at replay (base + p)).task

  abbrev did : ℕ → Bool
  did p = is_ran (result_at replay (base + p))

  abbrev blocks : ℕ → Blocks
  blocks p = blocks_at replay (base + p) (own_binding replay t).work

  abbrev known : ℕ → ℕ → Blocks
  known = known_at replay t base n t_in range

  run : IsStatementRun replay.job.modulus replay.b op (known_grids before bind) (nth_grid before bind.work) (own_counts replay t) n task did known blocks
  run = IsStatementRun-replay replay t base n t_in range

  place_in : (p : ℕ) → p < n → base + p < length replay.steps
  place_in p below = omega (arith, range.within)

  block_task : (p : ℕ) → p < n → (task p).kind ≢ kinds.Pivots
  block_task p below = not-pivots replay t base n t_in range p below

  -- none that ran met a bad pivot
  pub good : NoneBad replay.job.modulus replay.b op n task did blocks
  good p place below ran bad =
      let v = ran-value (result_at replay (base + p)) ran in
      let h : IsResultAt replay (base + p) (Ran v.0) = subst (IsResultAt replay (base + p)) v.1 (replay.outcomes.each (base + p) (ran-done replay (base + p) v.0 v.1)) in
      let none = rw (range.each p below).0 at h.1 in
      none place (step-bad replay.job replay.b (blocks_at replay (base + p)) (own_statement replay t) (task p) place (task p).kind (block_task p below) bad)

  -- what one that ran or failed needs ran
  needed : (p r : ℕ) → p < n → r < n → result_at replay (base + p) ≢ Skipped → does_need op (task p) (task r) ≡ true → did r ≡ true
  needed p r p_in r_in active need =
      let v = need-ran replay (base + p) (base + r) (suc t) (place_in p p_in) (place_in r r_in) (range.each p p_in).0 (range.each r r_in).0
      (block_task p p_in) (block_task r r_in) need (unstopped replay (base + p) active) in
      rw v.1 refl

  ready : (f : ℕ) (place : Place) → result_at replay (base + f) ≡ Failed place → IsReady op n task did f
  ready f place failed p r p_in r_in (inl ran) need = (let v = ran-value (result_at replay (base + p)) ran in needed p r p_in r_in (ran-active (result_at replay (base + p)) v.0 v.1) need)
  ready f place failed p r p_in r_in (inr same) need =
      needed p r p_in r_in (failed-active (result_at replay (base + p)) place (ap (λ (x : ℕ). result_at replay (base + x)) same ∙ failed)) need

  -- one that failed
  pub block-fails : (f : ℕ) (place : Place) → f < n → result_at replay (base + f) ≡ Failed place
      → IsFirstBadPivot replay.job.modulus op (known_grids before bind) (nth_grid before bind.work) place
  block-fails f place below failed =
      let h : IsResultAt replay (base + f) (Failed place) = subst (IsResultAt replay (base + f)) failed (replay.outcomes.each (base + f) (failed-done replay (base + f) place failed)) in
      let bad : IsBadTask replay.job.modulus replay.b op (blocks f) (task f) place
      = task-bad replay.job replay.b (blocks_at replay (base + f)) (own_statement replay t) (task f) place (task f).kind (block_task f below) (rw (range.each f below).0 at h.1) in
      run-fails replay.job.modulus replay.b (two replay) replay.pos op (own_valid replay t t_in) before bind (kept_fits replay t t_in before kept) (own_counts replay t) (kept_counts replay t t_in before kept) n task did known blocks run (kept_residues replay t t_in before kept) good f below place (ready f place failed) bad

  -- all of them were gone through, and none failed so far
  module _ (ended : base + n ≤ replay.done) (none : (q : ℕ) (place : Place) → q < base + n → ¬ (result_at replay q ≡ Failed place)) where
    every-ran : (p : ℕ) → p < n → did p ≡ true
    every-ran p below = let v = all-ran replay (base + n) ended none (base + p) (omega arith) in rw v.1 refl

    -- a form that factors has no bad pivot
    pub factors-good : (op.form ≡ Lu) ⊎ (op.form ≡ Ldl) → (place : Place) → ¬ (IsFirstBadPivot replay.job.modulus op (known_grids before bind) (nth_grid before bind.work) place)
    factors-good form =
        none-first replay.job.modulus replay.b (two replay) replay.pos op (own_valid replay t t_in) before bind (kept_fits replay t t_in before kept) (own_counts replay t) (kept_counts replay t t_in before kept) n task did known blocks run (kept_residues replay t t_in before kept) good form every-ran

    work-is : nth_grid before bind.work ≡ matrix_at replay base bind.work
    work-is = nth-before replay t base n t_in range bind.work (cuts replay t t_in).work_in

    pub block-changes : ((place : Place) → ¬ (IsFirstBadPivot replay.job.modulus op (known_grids before bind) (nth_grid before bind.work) place))
        → Changes replay.job (own_statement replay t) (matrices_at replay base) (matrices_at replay (base + n))
    block-changes pivots = record {
      operation = op;
      found = own_found replay t t_in;
      pivots = pivots;
      solution = grid_of (gathered replay.b (blocks n)) (nth_grid before bind.work).rows (nth_grid before bind.work).cols;
      satisfies = run-satisfies replay.job.modulus replay.b (two replay) replay.pos op (own_valid replay t t_in) before bind (kept_fits replay t t_in before kept) (own_counts replay t) (kept_counts replay t t_in before kept) n task did known blocks run (kept_residues replay t t_in before kept) every-ran;
      others = after-statement replay t base n t_in range
          ∙ ap (λ (g : Grid). slice_set before bind.work (grid_of (gathered replay.b (blocks n)) g.rows g.cols)) (sym work-is);
    }
