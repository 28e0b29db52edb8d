-- One step of a run by the blocks alone that it uses: what it finds in the replay of all steps, and what becomes of it there.
use Rattle.std.specs.Prelude.{◌≡◌, ◌≢◌, ℕ, ◌<◌, List, length, slice_index, Option, None, Some}
use Rattle.residue_sums.specs.Grids.{Grid}
use Rattle.equation.specs.Jobs.{nth_grid}
use Rattle.equation.specs.declared.job.Place.{Place}
use Rattle.step_replays.specs.Replays.{StepResult, Ran, Skipped, Failed, IsReplay, block_after, nth_access, nth_result}
use Rattle.task_values.specs.declared.run.Run.{Run}

-- these are the outcomes of the steps of the run, gone through in their order
abbrev pub IsReplayOf : Run → List StepResult → Type 0
IsReplayOf r results = IsReplay r.job.now r.b r.steps.now results

-- ---- what a step finds

-- the k-th block of those that step n reads, as the steps before it leave it
abbrev pub reads_found : Run → List StepResult → ℕ → ℕ → Grid
reads_found r results n k = block_after r.job.now r.b r.steps.now results n (slice_index (nth_access r.steps.now n).reads k)

-- the block that it writes, as the steps before it leave it
abbrev pub write_found : Run → List StepResult → ℕ → Grid
write_found r results n = block_after r.job.now r.b r.steps.now results n (nth_access r.steps.now n).write

-- by these outcomes step n isn't skipped and finds these blocks: those that it reads, in the order of its access, and the one that it
-- writes
pub record IsFoundBy (r : Run) (results : List StepResult) (n : ℕ) (reads : List Grid) (old : Grid) : Type 0 where
  pub active : nth_result results n ≢ Skipped
  pub count : length reads ≡ length (nth_access r.steps.now n).reads
  pub reads_are : (k : ℕ) → k < length reads → nth_grid reads k ≡ reads_found r results n k
  pub write_is : old ≡ write_found r results n

-- so it is in the replay
abbrev pub Finds : Run → ℕ → List Grid → Grid → Type 0
Finds r n reads old = (results : List StepResult) → IsReplayOf r results → IsFoundBy r results n reads old

-- the numbers below a count, in their order
pub record AreFirstNumbers (numbers : List ℕ) (count : ℕ) : Type 0 where
  pub length_is : length numbers ≡ count
  pub each : (k : ℕ) → k < count → slice_index numbers k ≡ k

-- ---- what becomes of it

-- a step that wasn't skipped has left a block, or has met a bad pivot
abbrev pub result_of : Option Place → Grid → StepResult
result_of None new = Ran new
result_of (Some place) new = Failed place

-- in the replay this becomes of step n
abbrev pub ComesTo : Run → ℕ → StepResult → Type 0
ComesTo r n result = (results : List StepResult) → IsReplayOf r results → nth_result results n ≡ result
