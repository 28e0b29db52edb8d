-- What a shared run has of a step and its blocks: they are those of its run. Cited where a step's blocks are copied, and where it is done.
use Rattle.std.proofs.Common.{◌≡◌, ℕ, zero, suc, ◌+◌, ◌-◌, ◌<◌, ◌≤◌, true, List, [], ◌∷◌, length, map, take, get_or, All, refl, sym, ap, ap₂, ◌∙◌, subst, arith}
use Rattle.std.specs.Prelude.{◌==◌, Option, None, Some}
use Rattle.std.proofs.Math.ListN.{length-map}
use Rattle.std.proofs.lemmas.Bool.{eq-eqb, or_left, or_right}
use Rattle.std.proofs.lemmas.List.{get_or-map, get_or-take, length-take-le}
use Rattle.residue_sums.specs.Grids.{Grid}
use Rattle.dependence_queue.specs.declared.access.Access.{Access}
use Rattle.dependence_queue.specs.Conflicts.{has_number}
use Rattle.equation.specs.declared.job.Job.{Job}
use Rattle.equation.specs.Jobs.{IsJob, no_grid}
use Rattle.equation.specs.declared.job.Place.{Place}
use Rattle.step_replays.specs.declared.step.Step.{Step}
use Rattle.step_replays.specs.Fits.{FitsJob}
use Rattle.step_replays.specs.Replays.{StepResult, IsReplay, block_after, nth_access, nth_result, value, written, writes_before}
use Rattle.step_replays.specs.Replays as replays
use Rattle.step_replays.proofs.ValueLaws.{value-next}
use Rattle.job_blocks.specs.BlockedJobs.{block_total}
use Rattle.block_kernels.specs.declared.stored_blocks.Cut.{Cut}
use Rattle.block_kernels.specs.LaidBlocks.{cut_grid}
use Rattle.task_values.specs.FoundBlocks.{ComesTo, Finds, result_of}
use Rattle.task_values.proofs.StepUses.{write_in, reads_in}
use Rattle.block_store.specs.declared.key.BoardKey.{BoardKey}
use Rattle.block_store.specs.declared.outcome.StepOutcome.TheVariants.{Ran, Failed}
use Rattle.block_store.specs.declared.rect.Rect.{Rect}
use Rattle.block_store.specs.Blocks.{access_of, block_count, block_rows, block_cols, uses, writes_to, IsFound, IsLeft, KeepShapes}
use Rattle.block_store.specs.Keys.{outcome_at, outcome_of, IsOutcome, IsReplayOf, IsStep}
use Rattle.block_store.specs.Parts.{part_of}
use Rattle.block_store.specs.Seats.{key_of}
use Rattle.block_store.proofs.PartGrids.{whole-part}
use Rattle.block_store.proofs.Shapes.{keep-shapes}
use Rattle.block_store.proofs.Versions.{found-after, writes_before-step}
use Rattle.dispatcher.specs.declared.shared_run.SharedRun.{SharedRun}
use Rattle.dispatcher.specs.Copying.{AreCopied, IsActive, IsKeptOn}
use Rattle.dispatcher.specs.SharedRuns.{IsSharedRun}

-- each item of a list is among its numbers
read-has : (xs : List ℕ) (k d : ℕ) → k < length xs → has_number xs (get_or xs k d) ≡ true
read-has [] k d below = absurd (omega arith)
read-has (y ∷ ys) zero d below = or_left (y == y) (has_number ys y) (eq-eqb y y refl)
read-has (y ∷ ys) (suc k) d below = or_right (get_or ys k d == y) (has_number ys (get_or ys k d)) (read-has ys k d (omega arith))

-- all rows and columns of a block, as a step finds it, are that block
whole-is : (key : BoardKey) → KeepShapes key → (t x : ℕ) (g : Grid) (part : Rect) → IsFound key t x g
    → part ≡ record { row = 0; col = 0; rows = block_rows key x; cols = block_cols key x } → part_of g part ≡ g
whole-is key shapes t x g part found whole =
    let s = shapes x (writes_to key x t) g found in
    ap (part_of g) whole
    ∙ subst (λ (r : ℕ). part_of g (record { row = 0; col = 0; rows = r; cols = block_cols key x }) ≡ g) s.rows
    (subst (λ (k : ℕ). part_of g (record { row = 0; col = 0; rows = g.rows; cols = k }) ≡ g) s.cols (whole-part g s.full))

pub whole-found : (key : BoardKey) → KeepShapes key → (t x : ℕ) (g h : Grid) (part : Rect) → IsFound key t x g
    → part ≡ record { row = 0; col = 0; rows = block_rows key x; cols = block_cols key x } → h ≡ part_of g part → IsFound key t x h
whole-found key shapes t x g h part found whole e = subst (IsFound key t x) (sym (e ∙ whole-is key shapes t x g part found whole)) found

-- and where a seat took the block, it keeps that one
pub whole-kept : (key : BoardKey) → KeepShapes key → (t x : ℕ) (g h : Grid) (part : Rect) → IsFound key t x g
    → part ≡ record { row = 0; col = 0; rows = block_rows key x; cols = block_cols key x } → h ≡ part_of g part
    → (first before after : List (ℕ × Grid)) → before ≡ first → after ≡ (x, g) ∷ before → IsKeptOn key t x first after h
whole-kept key shapes t x g h part found whole e first before after same top =
    let is : h ≡ g = e ∙ whole-is key shapes t x g part found whole in record {
      top = top ∙ ap₂ (λ (k : Grid) (others : List (ℕ × Grid)). (x, k) ∷ others) (sym is) same;
      found = subst (IsFound key t x) (sym is) found;
    }

module _ (c : SharedRun) (is : IsSharedRun c) where
  abbrev key : BoardKey
  key = key_of c.board.now

  -- what holds of the key's job, block size and steps holds of the run's, and back
  as_run : (P : Job → ℕ → List Step → Type 0) → P (key_of c.board.now).job.value (key_of c.board.now).b (key_of c.board.now).steps.value → P c.run.job.now c.run.b c.run.steps.now
  as_run P h = subst (λ (j : Job). P j c.run.b c.run.steps.now) is.key.job_is
      (subst (λ (b : ℕ). P key.job.value b c.run.steps.now) is.key.size (subst (λ (s : List Step). P key.job.value key.b s) is.key.steps_are h))

  as_key : (P : Job → ℕ → List Step → Type 0) → P c.run.job.now c.run.b c.run.steps.now → P (key_of c.board.now).job.value (key_of c.board.now).b (key_of c.board.now).steps.value
  as_key P h = subst (λ (j : Job). P j key.b key.steps.value) (sym is.key.job_is)
      (subst (λ (b : ℕ). P c.run.job.now b key.steps.value) (sym is.key.size) (subst (λ (s : List Step). P c.run.job.now c.run.b s) (sym is.key.steps_are) h))

  pub keeps-shapes : KeepShapes (key_of c.board.now)
  keeps-shapes = keep-shapes key (as_key (λ j b s. IsJob j) is.run.job) (as_key (λ j b s. 1 ≤ b) is.run.size) (as_key FitsJob is.run.fit)

  module _ (t : ℕ) (step : IsStep (key_of c.board.now) t) where
    pub step-within : t - 1 < length c.run.steps.now
    step-within = as_run (λ j b s. t - 1 < length s) (omega (arith, step))

    pub access-is : access_of (key_of c.board.now) t ≡ nth_access c.run.steps.now (t - 1)
    access-is = ap (λ (s : List Step). nth_access s (t - 1)) is.key.steps_are

    -- ---- blocks that there are

    pub write-there : (access_of (key_of c.board.now) t).write < block_count (key_of c.board.now)
    write-there = as_key (λ j b s. (nth_access s (t - 1)).write < block_total (record { job = j; b = b })) (write_in c.run is.run (t - 1) step-within)

    pub reads-there : All (λ x. x < block_count (key_of c.board.now)) (access_of (key_of c.board.now) t).reads
    reads-there = as_key (λ j b s. All (λ x. x < block_total (record { job = j; b = b })) (nth_access s (t - 1)).reads) (reads_in c.run is.run (t - 1) step-within)

    pub read-used : (k d : ℕ) → k < length (access_of (key_of c.board.now) t).reads → uses (key_of c.board.now) t (get_or (access_of (key_of c.board.now) t).reads k d) ≡ true
    read-used k d below = or_left _ _ (read-has (access_of key t).reads k d below)

    pub write-written : ((access_of (key_of c.board.now) t).write == (access_of (key_of c.board.now) t).write) ≡ true
    write-written = eq-eqb (access_of key t).write (access_of key t).write refl

    pub write-used : uses (key_of c.board.now) t (access_of (key_of c.board.now) t).write ≡ true
    write-used = or_right (has_number (access_of key t).reads (access_of key t).write) _ write-written

    -- ---- what the step finds

    -- behind the copies of its reads, and with the block that it writes
    pub finds : (count place : ℕ) (room : List ℕ) (cuts : List Cut) (old : Grid) → IsActive (key_of c.board.now) t → count ≡ length (access_of (key_of c.board.now) t).reads
        → count ≤ length cuts → AreCopied (key_of c.board.now) t count room cuts place → IsFound (key_of c.board.now) t (access_of (key_of c.board.now) t).write old
        → Finds c.run (t - 1) (map (cut_grid room) (take count cuts)) old
    unfolding outcome_at
    finds count place room cuts old active counted within copied found results replay = record {
      active = λ e. active results (own_replay replay) (ap outcome_of e);
      count = long ∙ (counted ∙ ap (λ (a : Access). length a.reads) access-is);
      reads_are = λ k below. read k (omega (arith, long));
      write_is = as_run (λ j b s. old ≡ block_after j b s results (t - 1) (nth_access s (t - 1)).write) (found-after key results (own_replay replay) t (access_of key t).write old step found);
    }
      where
        own_replay : IsReplay c.run.job.now c.run.b c.run.steps.now results → IsReplayOf (key_of c.board.now) results
        own_replay r = as_key (λ j b s. IsReplay j b s results) r

        long : length (map (cut_grid room) (take count cuts)) ≡ count
        long = length-map (take count cuts) (cut_grid room) ∙ length-take-le count cuts within

        read : (k : ℕ) → k < count → get_or (map (cut_grid room) (take count cuts)) k no_grid ≡ block_after c.run.job.now c.run.b c.run.steps.now results (t - 1) (get_or (nth_access c.run.steps.now (t - 1)).reads k 0)
        read k below =
            let none : Cut = record { at = 0; rows = 0; cols = 0 } in
            get_or-map (cut_grid room) (take count cuts) k none no_grid (omega (arith, length-take-le count cuts within)) ∙ ap (cut_grid room) (get_or-take count cuts k none below)
            ∙ as_run (λ j b s. cut_grid room (get_or cuts k none) ≡ block_after j b s results (t - 1) (get_or (nth_access s (t - 1)).reads k 0))
            (found-after key results (own_replay replay) t (get_or (access_of key t).reads k 0) _ step (copied k none below).found)

    -- ---- what becomes of it

    pub left : (g : Grid) → ComesTo c.run (t - 1) (replays.Ran g) → IsLeft (key_of c.board.now) t (access_of (key_of c.board.now) t).write g
    left g comes results replay =
        let job = key.job.value in
        let steps = key.steps.value in
        let x : ℕ = (access_of key t).write in
        let ran : nth_result results (t - 1) ≡ replays.Ran g = comes results (as_run (λ j b s. IsReplay j b s results) replay) in
        let more : suc (writes_before job key.b steps results (t - 1) x) ≡ writes_to key x t + 1 = omega (arith, writes_before-step key results x t step.0) in
        sym (ap (λ (r : StepResult). written r (value job key.b steps results x (writes_before job key.b steps results (t - 1) x))) ran)
        ∙ (sym (value-next job key.b steps results (t - 1) (omega (arith, step))) ∙ ap (λ (v : ℕ). value job key.b steps results x v) more)

    pub comes-out : (r : StepResult) → ComesTo c.run (t - 1) r → IsOutcome (key_of c.board.now) t (outcome_of r)
    unfolding outcome_at
    comes-out r comes results replay = sym (ap outcome_of (comes results (as_run (λ j b s. IsReplay j b s results) replay)))

    -- a step that wasn't skipped left a block, or met a bad pivot
    pub left-none : (x : ℕ) (bad : Option Place) (g h : Grid) → x ≡ (access_of (key_of c.board.now) t).write → bad ≡ None → ComesTo c.run (t - 1) (result_of bad g) → h ≡ g
        → IsLeft (key_of c.board.now) t x h
    left-none x bad g h writes none comes same =
        let own : ComesTo c.run (t - 1) (replays.Ran g) = subst (λ (b : Option Place). ComesTo c.run (t - 1) (result_of b g)) none comes in
        subst (λ (y : ℕ). IsLeft key t y h) (sym writes) (subst (IsLeft key t (access_of key t).write) (sym same) (left g own))

    pub outcome-none : (bad : Option Place) (g : Grid) → bad ≡ None → ComesTo c.run (t - 1) (result_of bad g) → IsOutcome (key_of c.board.now) t Ran
    outcome-none bad g none comes = comes-out (replays.Ran g) (subst (λ (b : Option Place). ComesTo c.run (t - 1) (result_of b g)) none comes)

    pub outcome-some : (bad : Option Place) (g : Grid) (place : Place) → bad ≡ Some place → ComesTo c.run (t - 1) (result_of bad g)
        → IsOutcome (key_of c.board.now) t (Failed place.row place.col)
    outcome-some bad g place some comes = comes-out (replays.Failed place) (subst (λ (b : Option Place). ComesTo c.run (t - 1) (result_of b g)) some comes)
