-- The blocks that a step of a run uses: there are such blocks. Cited where a step is tested, marked and done.
use Rattle.std.proofs.Common.{◌≡◌, ℕ, ◌<◌, List, length, get_or, All, sym, subst, arith}
use Rattle.std.proofs.lemmas.List.{get_or_default}
use Rattle.step_replays.specs.declared.step.Step.{Step}
use Rattle.dependence_queue.specs.declared.access.Access.{Access}
use Rattle.step_replays.specs.Accesses.{access_of}
use Rattle.step_replays.specs.Replays.{StepResult, no_step, nth_access, nth_step}
use Rattle.job_blocks.specs.BlockedJobs.{BlockedJob, HasStatement, HasTask, IsBlockedJob, block_total}
use Rattle.job_blocks.proofs.AccessLaws.{reads-below, write-below}
use Rattle.task_values.specs.declared.run.Run.{Run}
use Rattle.task_values.specs.declared.store.Store.{Store}
use Rattle.task_values.specs.Progress.{IsHeldAfter, IsRun}

module _ (r : Run) (is : IsRun r) (n : ℕ) (within : n < length r.steps.now) where
  abbrev pub x : BlockedJob
  x = record { job = r.job.now; b = r.b }

  pub blocked : IsBlockedJob (record { job = r.job.now; b = r.b })
  blocked = record { job = is.job; size = is.size }

  pub has_s : HasStatement (record { job = r.job.now; b = r.b }) (nth_step r.steps.now n).statement
  has_s = let e = is.fit.exists n within in record { from = omega (arith, e.0.1); within = omega (arith, e.0.1, e.0.2) }

  pub own_task : HasTask (record { job = r.job.now; b = r.b }) (nth_step r.steps.now n).statement (nth_step r.steps.now n).task
  own_task = (is.fit.exists n within).1

  pub access : (nth_step r.steps.now n).access ≡ access_of r.job.now r.b (nth_step r.steps.now n).statement (nth_step r.steps.now n).task
  access = (is.fit.exists n within).2

  pub write_in : (nth_access r.steps.now n).write < block_total (record { job = r.job.now; b = r.b })
  write_in = subst (λ (a : Access). a.write < block_total x) (sym access) (write-below x (nth_step r.steps.now n).statement (nth_step r.steps.now n).task blocked has_s own_task)

  pub reads_in : All (λ y. y < block_total (record { job = r.job.now; b = r.b })) (nth_access r.steps.now n).reads
  reads_in = subst (λ (a : Access). All (λ y. y < block_total x) a.reads) (sym access) (reads-below x (nth_step r.steps.now n).statement (nth_step r.steps.now n).task blocked has_s own_task)

  -- what code reads as step n
  pub step_read : (d : Step) → get_or r.steps.now n d ≡ nth_step r.steps.now n
  step_read d = get_or_default r.steps.now n d no_step within

  -- in what is held before it
  module _ (results : List StepResult) (s : Store) (held : IsHeldAfter r results n s) where
    pub write_stored : (nth_access r.steps.now n).write < length s.blocks.items
    write_stored = omega (arith, write_in, held.count)

    pub reads_stored : All (λ y. y < length s.blocks.items) (nth_access r.steps.now n).reads
    reads_stored = subst (λ (k : ℕ). All (λ y. y < k) (nth_access r.steps.now n).reads) (sym held.count) reads_in

    pub write_marked : (nth_access r.steps.now n).write < length s.marks.written.items
    write_marked = omega (arith, write_stored, held.marks.written_count)

    pub write_in_reads : (nth_access r.steps.now n).write < length s.marks.read.items
    write_in_reads = omega (arith, write_stored, held.marks.read_count)

    pub reads_marked : All (λ y. y < length s.marks.written.items) (nth_access r.steps.now n).reads
    reads_marked = subst (λ (k : ℕ). All (λ y. y < k) (nth_access r.steps.now n).reads) (sym held.marks.written_count) reads_stored

    pub reads_in_reads : All (λ y. y < length s.marks.read.items) (nth_access r.steps.now n).reads
    reads_in_reads = subst (λ (k : ℕ). All (λ y. y < k) (nth_access r.steps.now n).reads) (sym held.marks.read_count) reads_stored
