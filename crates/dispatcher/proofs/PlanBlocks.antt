-- There are the blocks that the steps of a plan name. Cited where room for them is made.
use Rattle.std.proofs.Common.{◌≡◌, ℕ, ◌<◌, length, All, sym, ap₂, subst, arith}
use Rattle.dependence_queue.specs.declared.access.Access.{Access}
use Rattle.equation.specs.declared.job.Job.{Job}
use Rattle.step_replays.specs.declared.step.Step.{Step}
use Rattle.step_replays.specs.Replays.{nth_access, nth_step}
use Rattle.job_blocks.specs.BlockedJobs.{BlockedJob, HasStatement, IsBlockedJob, block_total}
use Rattle.job_blocks.proofs.AccessLaws.{reads-below, write-below}
use Rattle.block_store.specs.declared.seat.Board.{Board}
use Rattle.block_store.specs.Blocks.{block_count}
use Rattle.block_store.specs.Seats.{key_of}
use Rattle.dispatcher.specs.declared.plan.Plan.{Plan}
use Rattle.dispatcher.specs.Crews.{IsBoardOf}
use Rattle.dispatcher.specs.BufferSizes.{NamesBlocks}
use Rattle.dispatcher.specs.Plans.{IsPlan}

module _ (p : Plan) (board : Board) (is : IsPlan p) (of : IsBoardOf p board) where
  abbrev x : BlockedJob
  x = record { job = p.job.now; b = p.b }

  counted : block_count (key_of board) ≡ block_total (record { job = p.job.now; b = p.b })
  counted = ap₂ (λ (j : Job) (b : ℕ). block_total (record { job = j; b = b })) of.job_is of.size

  pub names-blocks : (n : ℕ) → n < length p.steps.now → NamesBlocks (key_of board) (nth_access p.steps.now n)
  names-blocks n within =
      let step : Step = nth_step p.steps.now n in
      let e = is.fit.exists n within in
      let blocked : IsBlockedJob x = record { job = is.job; size = is.size } in
      let has : HasStatement x step.statement = record { from = omega (arith, e.0.1); within = omega (arith, e.0.1, e.0.2) } in
      record {
        write = subst (λ (m : ℕ). (nth_access p.steps.now n).write < m) (sym counted)
            (subst (λ (a : Access). a.write < block_total x) (sym e.2) (write-below x step.statement step.task blocked has e.1));
        reads = subst (λ (m : ℕ). All (λ y. y < m) (nth_access p.steps.now n).reads) (sym counted)
            (subst (λ (a : Access). All (λ y. y < block_total x) a.reads) (sym e.2) (reads-below x step.statement step.task blocked has e.1));
      }
