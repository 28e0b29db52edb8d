-- The blocks that a step uses which is about to end: there are such blocks, marks and room. Cited where a step ends.
use Rattle.std.proofs.Common.{◌≡◌, ℕ, ◌<◌, ◌≤◌, List, ◌++◌, length, get_or, take, drop, All, sym, ◌∙◌, ap, subst, arith}
use Rattle.std.specs.Prelude.{Some}
use Rattle.std.proofs.lemmas.List.{get_or_read}
use Rattle.std.proofs.Math.Seq.{take-append_seam}
use Rattle.residue_sums.specs.Grids.{Grid}
use Rattle.equation.specs.declared.job.Place.{Place}
use Rattle.equation.specs.Jobs.{nth_grid, no_grid}
use Rattle.step_replays.specs.declared.step.Step.{Step}
use Rattle.step_replays.specs.Replays.{StepResult, IsReplay, nth_access, nth_step}
use Rattle.step_replays.proofs.SomeReplay.{some-replay}
use Rattle.task_values.specs.declared.run.Run.{Run}
use Rattle.task_values.specs.Progress.{IsRun}
use Rattle.task_values.proofs.StepUses.{step_read}
use Rattle.schedule_core.specs.declared.held.Held.{Held}
use Rattle.schedule_core.specs.HeldSteps.{IsDue, IsHeldBy, kept_of}
use Rattle.schedule_core.proofs.FoundSteps.{reads_stored, w_in}

-- the replay of a run
pub replay_of : (r : Run) → IsRun r → (results : List StepResult) × IsReplay r.job.now r.b r.steps.now results
replay_of r is = some-replay r.job.now r.b r.steps.now is.size is.job is.fit

-- what code reads as its step is `get_or r.steps.now n d`
module _ (r : Run) (is : IsRun r) (n : ℕ) (within : n < length r.steps.now) (h : Held) (due : IsDue r n h) (d : Step) where
  by : IsHeldBy r (replay_of r is).0 due.0 h
  by = due.1.2 (replay_of r is).0 (replay_of r is).1

  step : get_or r.steps.now n d ≡ nth_step r.steps.now n
  step = step_read r is n within d

  own_stored : (nth_access r.steps.now n).write < length h.store.blocks.items
  own_stored = w_in r is n within due.0 h due.1 (replay_of r is).0 (replay_of r is).1

  own_reads : All (λ y. y < length h.store.blocks.items) (nth_access r.steps.now n).reads
  own_reads = reads_stored r is n within due.0 h due.1 (replay_of r is).0 (replay_of r is).1

  pub write_stored : (get_or r.steps.now n d).access.write < length h.store.blocks.items
  write_stored = subst (λ (t : Step). t.access.write < length h.store.blocks.items) (sym step) own_stored

  pub write_marked : (get_or r.steps.now n d).access.write < length h.store.marks.written.items
  write_marked = omega (arith, write_stored, by.marks.written_count)

  pub write_in_reads : (get_or r.steps.now n d).access.write < length h.store.marks.read.items
  write_in_reads = omega (arith, write_stored, by.marks.read_count)

  reads_below : (k : ℕ) → k ≡ length h.store.blocks.items → All (λ y. y < k) (get_or r.steps.now n d).access.reads
  reads_below k e = subst (λ (t : Step). All (λ y. y < k) t.access.reads) (sym step)
      (subst (λ (i : ℕ). All (λ y. y < i) (nth_access r.steps.now n).reads) (sym e) own_reads)

  pub reads_marked : All (λ y. y < length h.store.marks.written.items) (get_or r.steps.now n d).access.reads
  reads_marked = reads_below (length h.store.marks.written.items) by.marks.written_count

  pub reads_in_reads : All (λ y. y < length h.store.marks.read.items) (get_or r.steps.now n d).access.reads
  reads_in_reads = reads_below (length h.store.marks.read.items) by.marks.read_count

  pub row_room : r.b ≤ length h.store.room.items
  row_room = by.room

  -- the block that it writes, as code reads it, has room for its entries
  pub spare_enough : (g : Grid) → g ≡ get_or h.store.blocks.items (get_or r.steps.now n d).access.write g → length g.entries ≤ length h.spare.items
  spare_enough g e = subst (λ (x : Grid). length x.entries ≤ length h.spare.items) (sym e)
      (by.spare (get_or r.steps.now n d).access.write g write_stored)

  -- that block
  pub own_read : (g : Grid) → g ≡ get_or h.store.blocks.items (get_or r.steps.now n d).access.write g
      → g ≡ nth_grid h.store.blocks.items (nth_access r.steps.now n).write
  own_read g e = get_or_read h.store.blocks.items (nth_access r.steps.now n).write g own_stored
      (subst (λ (t : Step). g ≡ get_or h.store.blocks.items t.access.write g) step e) no_grid

-- numbers that were written over all of a room
pub refilled : (n : ℕ) (old new : List ℕ) → n ≡ length old → length new ≡ length old → take n (new ++ drop (length new) old) ≡ new
refilled n old new count same = rw (count, ← same) (take-append_seam new (drop (length new) old))

-- a block that a step left with its shape, with the entries that were kept, is as it was
pub kept-old : (place : Place) (left old : Grid) (found : List ℕ) → left.rows ≡ old.rows → left.cols ≡ old.cols → length left.entries ≡ length old.entries
    → take (length old.entries) found ≡ old.entries → kept_of (Some place) left found ≡ old
kept-old place left old found rows cols count saved =
    let entries : take (length left.entries) found ≡ old.entries = ap (λ (k : ℕ). take k found) count ∙ saved in
    λ k. record { rows = rows k; cols = cols k; entries = entries k }
