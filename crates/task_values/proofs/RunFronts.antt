-- The front of a run, as the replay that it is the beginning of: the shapes of its blocks, and that they hold residues. Cited where a step is
-- handed to its kernel, where its block is put back, and where the matrices are gathered.
use Rattle.std.proofs.Common.{ℕ, ◌≤◌, List, length}
use Rattle.residue_sums.specs.Sums.{part_length}
use Rattle.residue_sums.specs.Grids.{AreResidues}
use Rattle.equation.specs.Jobs.{nth_grid}
use Rattle.step_replays.specs.Replays.{StepResult, IsFront, block_after}
use Rattle.step_replays.proofs.JobReplays.{JobReplay}
use Rattle.step_replays.specs.Fronts.{IsResidueBlock}
use Rattle.step_replays.proofs.ReplayBlocks.{like}
use Rattle.step_replays.proofs.FrontShapes as fronts
use Rattle.job_blocks.specs.BlockedJobs.{HasBlock, number_at}
use Rattle.task_values.specs.declared.run.Run.{Run}
use Rattle.task_values.specs.Progress.{IsRun}

module _ (r : Run) (is : IsRun r) (results : List StepResult) (done : ℕ) (front : IsFront r.job.now r.b r.steps.now results done) where
  abbrev pub run_replay : JobReplay
  run_replay = record {
    job = r.job.now;
    b = r.b;
    steps = r.steps.now;
    results = results;
    pos = is.size;
    valid = is.job;
    fits = is.fit;
    done = done;
    outcomes = front;
  }

  -- after any number of steps
  pub residues-after : (n y : ℕ) → n ≤ length r.steps.now → AreResidues r.job.now.modulus (block_after r.job.now r.b r.steps.now results n y)
  residues-after n y le = (like run_replay n y le).residues

  pub shape-after : (n k i j : ℕ) → n ≤ length r.steps.now → HasBlock (record { job = r.job.now; b = r.b }) k i j
      → IsResidueBlock r.job.now.modulus (part_length (nth_grid r.job.now.matrices k).rows r.b i) (part_length (nth_grid r.job.now.matrices k).cols r.b j)
      (block_after r.job.now r.b r.steps.now results n (number_at (record { job = r.job.now; b = r.b }) k i j))
  shape-after n k i j le there = fronts.block-shape run_replay n le k i j (there.matrix, there.row, there.col)

  -- after those that were gone through
  pub any-residues : (y : ℕ) → AreResidues r.job.now.modulus (block_after r.job.now r.b r.steps.now results done y)
  any-residues y = residues-after done y front.within

  pub block-shape : (k i j : ℕ) → HasBlock (record { job = r.job.now; b = r.b }) k i j
      → IsResidueBlock r.job.now.modulus (part_length (nth_grid r.job.now.matrices k).rows r.b i) (part_length (nth_grid r.job.now.matrices k).cols r.b j)
      (block_after r.job.now r.b r.steps.now results done (number_at (record { job = r.job.now; b = r.b }) k i j))
  block-shape k i j there = shape-after done k i j front.within there
