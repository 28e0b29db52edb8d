-- A run goes on by one step: what is held after it is what is held of one step more. Cited by the functions that skip a step, do it, or note
-- that it failed.
use Rattle.std.proofs.Common.{◌≡◌, ℕ, suc, ◌+◌, ◌<◌, ◌≤◌, List, [], ◌∷◌, ◌++◌, length, set, true, refl, subst, arith}
use Rattle.std.specs.Prelude.{None, Some, Option}
use Rattle.residue_sums.specs.Grids.{Grid, AreResidues}
use Rattle.equation.specs.declared.job.Place.{Place}
use Rattle.step_replays.specs.Replays.{StepResult, Ran, Skipped, Failed, IsResult, IsStopped, nth_access, nth_step}
use Rattle.step_replays.proofs.FrontLaws.{front-next}
use Rattle.task_values.specs.declared.outcome.Failure.{Failure}
use Rattle.task_values.specs.declared.run.Run.{Run}
use Rattle.task_values.specs.declared.store.Store.{Store}
use Rattle.task_values.specs.Marks.{all_marked}
use Rattle.task_values.specs.Progress.{IsGone, IsHeldAfter, IsNoted, IsRun, first_of}
use Rattle.task_values.proofs.RunFronts.{any-residues}
use Rattle.task_values.proofs.StepUses.{reads_in, write_in}
use Rattle.task_values.proofs.StoreSteps.{held-failed, held-ran, held-skipped, noted-first, noted-kept, own-block}

module _ (r : Run) (is : IsRun r) (n : ℕ) (within : n < length r.steps.now) (results : List StepResult) (s : Store) (held : IsHeldAfter r results n s) (after : Store) where
  more : IsGone r (suc n) after → IsGone r (n + 1) after
  more gone = let e : suc n ≡ n + 1 = omega arith in subst (λ (m : ℕ). IsGone r m after) e gone

  -- a step that is stopped
  pub gone-skipped : IsStopped r.job.now r.b r.steps.now results n → after.blocks.items ≡ s.blocks.items
      → after.marks.written.items ≡ set s.marks.written.items (nth_access r.steps.now n).write true
      → after.marks.read.items ≡ all_marked (nth_access r.steps.now n).reads s.marks.read.items
      → after.room.items ≡ s.room.items → after.failure ≡ s.failure → IsGone r (n + 1) after
  gone-skipped stopped blocks_are written_are read_are room_is failure_is =
      more (
        results ++ Skipped ∷ [],
        held-skipped r results n s held within Skipped stopped (write_in r is n within) (reads_in r is n within) after refl
            blocks_are written_are read_are (rw room_is held.room) failure_is,
      )

  -- one that left a block
  pub gone-ran : (new e : Grid) → IsResult r.job.now r.b r.steps.now results n (Ran new) → AreResidues r.job.now.modulus e
      → after.blocks.items ≡ set (set s.blocks.items (nth_access r.steps.now n).write e) (nth_access r.steps.now n).write new
      → after.marks.written.items ≡ s.marks.written.items → after.marks.read.items ≡ s.marks.read.items
      → r.b ≤ length after.room.items → after.failure ≡ s.failure → IsGone r (n + 1) after
  gone-ran new e ran empty blocks_are written_are read_are room failure_is =
      let front = front-next r.job.now r.b r.steps.now results (Ran new) n held.front within ran in
      let own = own-block r results n s held within (Ran new) ran (write_in r is n within) (reads_in r is n within) in
      let residues : AreResidues r.job.now.modulus new
      = subst (AreResidues r.job.now.modulus) own (any-residues r is (results ++ Ran new ∷ []) (suc n) front (nth_access r.steps.now n).write) in
      more (
        results ++ Ran new ∷ [],
        held-ran r results n s held within (Ran new) ran (write_in r is n within) (reads_in r is n within) new e after refl residues empty
            blocks_are written_are read_are room failure_is,
      )

  -- one that met a bad pivot
  pub gone-failed : (place : Place) (e : Grid) → IsResult r.job.now r.b r.steps.now results n (Failed place) → AreResidues r.job.now.modulus e
      → after.blocks.items ≡ set s.blocks.items (nth_access r.steps.now n).write e
      → after.marks.written.items ≡ set s.marks.written.items (nth_access r.steps.now n).write true
      → after.marks.read.items ≡ all_marked (nth_access r.steps.now n).reads s.marks.read.items
      → r.b ≤ length after.room.items
      → after.failure ≡ first_of s.failure (record { statement = (nth_step r.steps.now n).statement; row = place.row; col = place.col }) → IsGone r (n + 1) after
  gone-failed place e failed empty blocks_are written_are read_are room failure_is =
      more (
        results ++ Failed place ∷ [],
        held-failed r results n s held within (Failed place) failed (write_in r is n within) (reads_in r is n within) place e after refl empty
            blocks_are written_are read_are room (rw failure_is (noted s.failure held.noted)),
      )
    where
      noted : (f : Option Failure) → IsNoted r.steps.now results n f
          → IsNoted r.steps.now (results ++ Failed place ∷ []) (suc n) (first_of f (record { statement = (nth_step r.steps.now n).statement; row = place.row; col = place.col }))
      noted None none = noted-first r.steps.now results (Failed place) n held.front.count place refl none
      noted (Some f) first = noted-kept r.steps.now results (Failed place) n held.front.count f first
