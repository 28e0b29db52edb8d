-- Results that agree on the first steps leave the same blocks behind them, and stop the same step next. Cited where two replays of one list are
-- compared.
use Rattle.std.proofs.Common.{◌≡◌, ℕ, zero, suc, ◌<◌, if◌then◌else◌, List, refl, sym, subst, arith}
use Rattle.std.specs.Prelude.{◌==◌, ◌&&◌, nat_lt}
use Rattle.residue_sums.specs.Sums.{part_count}
use Rattle.residue_sums.specs.Grids.{Grid}
use Rattle.operation_spec.specs.declared.task.Task.{Task}
use Rattle.equation.specs.declared.job.Job.{Job}
use Rattle.equation.specs.declared.job.Place.{Place}
use Rattle.equation.specs.declared.job.Statement.{Statement}
use Rattle.equation.specs.Jobs.{nth_grid, no_grid}
use Rattle.flash_blocks.specs.Blocks.{Blocks}
use Rattle.step_replays.specs.declared.step.Step.{Step}
use Rattle.step_replays.specs.Accesses.{block_number, statement_of}
use Rattle.step_replays.specs.Replays.{StepResult, Ran, Skipped, Failed, nth_step, nth_result, written, block_after, blocks_after, IsStop, IsStopped, IsBadStep, IsStepValue, IsResult}

-- the first n results are the same
abbrev pub AgreeBelow : ℕ → List StepResult → List StepResult → Type 0
AgreeBelow n results others = (s : ℕ) → s < n → nth_result results s ≡ nth_result others s

module _ (job : Job) (b : ℕ) (steps : List Step) (results others : List StepResult) where
  pub same-block : (n x : ℕ) → AgreeBelow n results others → block_after job b steps results n x ≡ block_after job b steps others n x
  same-block zero x agree = refl
  same-block (suc n) x agree =
      let last = agree n (omega arith) in
      let block = same-block n x (λ s below. agree s (omega arith)) in
      λ z. if (nth_step steps n).access.write == x then written (last z) (block z) else block z

  pub same-blocks : (n : ℕ) → AgreeBelow n results others → blocks_after job b steps results n ≡ blocks_after job b steps others n
  same-blocks n agree = λ z. λ k i j. if nat_lt i (part_count (nth_grid job.matrices k).rows b) && nat_lt j (part_count (nth_grid job.matrices k).cols b)
      then same-block n (block_number b job.matrices k i j) agree z else no_grid

  pub same-stopped : (n : ℕ) → AgreeBelow n results others → IsStopped job b steps results n → IsStopped job b steps others n
  same-stopped n agree h = (h.0, h.1, subst IsStop (agree h.0 h.1) h.2, h.3)

-- what becomes of the next step by one of them becomes of it by the other
module _ (job : Job) (b : ℕ) (steps : List Step) (results others : List StepResult) (n : ℕ) (agree : AgreeBelow n results others) where
  abbrev own : Statement
  own = statement_of job (nth_step steps n).statement

  abbrev task : Task
  task = (nth_step steps n).task

  back : AgreeBelow n others results
  back s below = sym (agree s below)

  free : (IsStopped job b steps results n → ⊥) → IsStopped job b steps others n → ⊥
  free h stopped = h (same-stopped job b steps others results n back stopped)

  bad : (place : Place) → IsBadStep job b (blocks_after job b steps results n) own task place → IsBadStep job b (blocks_after job b steps others n) own task place
  bad place h = subst (λ (w : ℕ → Blocks). IsBadStep job b w own task place) (same-blocks job b steps results others n agree) h

  not-bad : (place : Place) → IsBadStep job b (blocks_after job b steps others n) own task place → IsBadStep job b (blocks_after job b steps results n) own task place
  not-bad place h = subst (λ (w : ℕ → Blocks). IsBadStep job b w own task place) (same-blocks job b steps others results n back) h

  pub same-outcome : (x : StepResult) → IsResult job b steps results n x → IsResult job b steps others n x
  same-outcome Skipped h = same-stopped job b steps results others n agree h
  same-outcome (Failed place) h = (free h.0, bad place h.1)
  same-outcome (Ran new) h = (
    free h.0,
    λ place is_bad. h.1 place (not-bad place is_bad),
    subst (λ (p : (ℕ → Blocks) × Grid). IsStepValue job b p.0 own task p.1 new)
        (λ z. (same-blocks job b steps results others n agree z, same-block job b steps results others n (nth_step steps n).access.write agree z)) h.2,
  )
