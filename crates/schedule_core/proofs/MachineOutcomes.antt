-- A machine whose steps have all ended: what it holds is what a run holds that went through the steps in their order. Cited where a machine
-- answers its outcome.
use Rattle.std.proofs.Common.{◌≡◌, ℕ, suc, ◌<◌, true, List, length, ◌∙◌, arith}
use Rattle.std.specs.Prelude.{None, Option, Some}
use Rattle.std.proofs.lemmas.Bool.{and_from}
use Rattle.dependence_queue.specs.declared.edge.Edge.{Edge}
use Rattle.step_replays.proofs.JobReplays.{whole-front}
use Rattle.step_replays.proofs.ReplayFailures.{one-failure}
use Rattle.job_blocks.specs.BlockedJobs.{block_total}
use Rattle.task_values.specs.declared.outcome.Failure.{Failure}
use Rattle.task_values.specs.declared.run.Run.{Run}
use Rattle.task_values.specs.Progress.{IsGone, IsNoted}
use Rattle.task_values.proofs.MarkLaws.{AreMarks-same}
use Rattle.task_values.proofs.RunFronts.{run_replay}
use Rattle.schedule_core.specs.declared.event.Event.TheVariants.{Finish}
use Rattle.schedule_core.specs.declared.held.Held.{Held}
use Rattle.schedule_core.specs.declared.turns.Turns.{Turns}
use Rattle.schedule_core.specs.EventBlocks.{step_access}
use Rattle.schedule_core.specs.HeldSteps.{IsHeldBy, IsLeastNoted, so_far}
use Rattle.schedule_core.specs.Machines.{IsMachine}
use Rattle.schedule_core.specs.Schedules.{all_over, has_event, is_begun}
use Rattle.schedule_core.specs.Turns.{logged}
use Rattle.schedule_core.proofs.EventBlocks.{block-whole}
use Rattle.schedule_core.proofs.FoundSteps.{so_far-stop, stop-so_far}
use Rattle.schedule_core.proofs.HeldUses.{replay_of}
use Rattle.schedule_core.proofs.ScheduleTests.{all-at}

module _ (r : Run) (edges : List Edge) (u : Turns) (h : Held) (inv : IsMachine r edges u h) where
  by : IsHeldBy r (replay_of r inv.run).0 (logged u) h
  by = inv.held (replay_of r inv.run).0 (replay_of r inv.run).1

  pub block-count : length h.store.blocks.items ≡ block_total (record { job = r.job.now; b = r.b })
  block-count = by.blocks.count

  module _ (over : all_over (logged u) (length r.steps.now) ≡ true) where
    ended : (q : ℕ) → q < length r.steps.now → has_event (logged u) (Finish (suc q)) ≡ true
    ended q below = all-at (step_access r.steps.now) (length r.steps.now) (logged u) (length r.steps.now) (suc q) over (omega arith) below

    -- the failure of the least statement is the first one, since a statement has one at most
    first-noted : (f : Option Failure) → IsLeastNoted r.steps.now (replay_of r inv.run).0 (logged u) f
        → IsNoted r.steps.now (replay_of r inv.run).0 (length r.steps.now) f
    first-noted None none = λ q place below failed. none q place below (ended q below) failed
    first-noted (Some f) noted = record {
      step = noted.step;
      within = noted.within;
      failed = noted.failed;
      of = noted.of;
      first = λ q place before failed.
          let below : q < length r.steps.now = omega (arith, before, noted.within) in
          let least = noted.least q place below (ended q below) failed in
          let order = inv.run.fit.sorted q noted.step before noted.within in
          let same : q ≡ noted.step
          = one-failure (run_replay r inv.run (replay_of r inv.run).0 (length r.steps.now) (whole-front r.job.now r.b r.steps.now (replay_of r inv.run).0 (replay_of r inv.run).1))
          q noted.step place (record { row = f.row; col = f.col }) failed noted.failed (omega (arith, least, order, noted.of)) in
          absurd (omega (arith, same, before));
    }

    pub machine-gone : IsGone r (length r.steps.now) h.store
    machine-gone = (
      (replay_of r inv.run).0,
      record {
        front = whole-front r.job.now r.b r.steps.now (replay_of r inv.run).0 (replay_of r inv.run).1;
        count = by.blocks.count;
        residues = by.blocks.residues;
        blocks = λ x below kept. by.blocks.each x below ∙ block-whole r.job.now r.b r.steps.now (replay_of r inv.run).0 (logged u)
            (and_from (is_begun (step_access r.steps.now) (length r.steps.now) (logged u)) (all_over (logged u) (length r.steps.now)) inv.begun over) x;
        marks = AreMarks-same r.steps.now (so_far (replay_of r inv.run).0 (length r.steps.now) (logged u)) (replay_of r inv.run).0
            (length r.steps.now) (length r.steps.now) (length h.store.blocks.items) h.store.marks.written.items h.store.marks.read.items by.marks
            (λ q s. (s.0, (so_far-stop (replay_of r inv.run).0 (length r.steps.now) (logged u) q s.0 s.1).1))
            (λ q s. (s.0, stop-so_far (replay_of r inv.run).0 (length r.steps.now) (logged u) q s.0 (ended q s.0) s.1));
        room = by.room;
        noted = first-noted h.store.failure by.noted;
      },
    )
