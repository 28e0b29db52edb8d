-- What code reads of a run: a step, its statement, the statement's operation and its work matrix. Cited where a step is handed to its kernel.
use Rattle.std.proofs.Common.{◌≡◌, ℕ, ◌-◌, ◌<◌, List, length, get_or, ◌∙◌, ap₂, arith}
use Rattle.std.proofs.lemmas.List.{get_or_default}
use Rattle.std.proofs.lemmas.Option.{slice_get_within}
use Rattle.residue_sums.specs.Grids.{Grid}
use Rattle.operation_spec.specs.declared.operation.Operation.{Operation}
use Rattle.equation.specs.declared.job.Statement.{Statement}
use Rattle.equation.specs.Jobs.{nth_grid, no_grid}
use Rattle.step_replays.specs.declared.step.Step.{Step}
use Rattle.step_replays.specs.Accesses.{no_operation, no_statement, operation_of, statement_of}
use Rattle.step_replays.specs.Replays.{nth_step}
use Rattle.job_blocks.specs.BlockedJobs.{BlockedJob}
use Rattle.job_blocks.proofs.StatementFacts.{own_statement, sound}
use Rattle.task_values.specs.declared.run.Run.{Run}
use Rattle.task_values.specs.Progress.{IsRun}
use Rattle.task_values.proofs.StepUses.{blocked, has_s, step_read}

module _ (r : Run) (is : IsRun r) (n : ℕ) (within : n < length r.steps.now) (d : Step) where
  abbrev x : BlockedJob
  x = record { job = r.job.now; b = r.b }

  abbrev s : ℕ
  s = (nth_step r.steps.now n).statement

  pub step-is : get_or r.steps.now n d ≡ nth_step r.steps.now n
  step-is = step_read r is n within d

  module _ (all : List Statement) (e : Statement) (all_is : all ≡ r.job.now.statements) where
    pub statement-is : get_or all ((get_or r.steps.now n d).statement - 1) e ≡ statement_of r.job.now s
    statement-is =
        let has = has_s r is n within in
        ap₂ (λ (l : List Statement) (t : Step). get_or l (t.statement - 1) e) all_is step-is
        ∙ get_or_default r.job.now.statements (s - 1) e no_statement (omega (arith, has.from, has.within))

    pub operation-is : (ops : List Operation) (f : Operation) → ops ≡ r.job.now.operations
        → get_or ops (get_or all ((get_or r.steps.now n d).statement - 1) e).operation f ≡ operation_of r.job.now (statement_of r.job.now s)
    operation-is ops f ops_are =
        let own = own_statement x s (blocked r is n within) (has_s r is n within) in
        ap₂ (λ (l : List Operation) (t : Statement). get_or l t.operation f) ops_are statement-is
        ∙ get_or_default r.job.now.operations (statement_of r.job.now s).operation f no_operation
        (slice_get_within r.job.now.operations (statement_of r.job.now s).operation own.operation own.found)

    pub matrix-is : (grids : List Grid) (g : Grid) → grids ≡ r.job.now.matrices
        → get_or grids (get_or all ((get_or r.steps.now n d).statement - 1) e).bind.work g ≡ nth_grid r.job.now.matrices (statement_of r.job.now s).bind.work
    matrix-is grids g grids_are =
        ap₂ (λ (l : List Grid) (t : Statement). get_or l t.bind.work g) grids_are statement-is
        ∙ get_or_default r.job.now.matrices (statement_of r.job.now s).bind.work g no_grid (sound x s (blocked r is n within) (has_s r is n within)).fits.work_in
