-- The matrices at any step keep what statements keep: their sizes, and residues. Cited where the block tasks of a statement are a run, or its pivots are tested.
use Rattle.std.proofs.Common.{◌≡◌, ℕ, ◌/◌, ◌%◌, ◌<◌, ◌≤◌, inl, inr, length, get_or, sym, ◌∙◌, ap, arith}
use Rattle.std.proofs.lemmas.Bool.{cases_lt}
use Rattle.std.proofs.lemmas.List.{get_or_past}
use Rattle.std.proofs.lemmas.List.FromFn.{get_or-map-range_with_len, length-map-range_with_len}
use Rattle.residue_sums.specs.Grids.{Grid}
use Rattle.equation.specs.Jobs.{nth_grid, no_grid}
use Rattle.equation.specs.Pivots.{HasResidues}
use Rattle.equation.proofs.AssignedGrids.{AreResidues-grid_of, HasResidues-entry}
use Rattle.equation.proofs.JobMeanings.{AreKept}
use Rattle.flash_blocks.specs.Blocks.{gathered}
use Rattle.step_replays.proofs.ReplayBlocks.{residues-at}
use Rattle.step_replays.proofs.JobReplays.{JobReplay, two, blocks_at, matrix_at, matrices_at}

module _ (replay : JobReplay) (s : ℕ) (le : s ≤ length replay.steps) where
  count : length (matrices_at replay s) ≡ length replay.job.matrices
  count = length-map-range_with_len (matrix_at replay s) 0 (length replay.job.matrices)

  nth-at : (k : ℕ) (d : Grid) → k < length replay.job.matrices → get_or (matrices_at replay s) k d ≡ matrix_at replay s k
  nth-at k d below = get_or-map-range_with_len (matrix_at replay s) 0 (length replay.job.matrices) k k d below (omega arith)

  past-both : (k : ℕ) → length replay.job.matrices ≤ k → nth_grid (matrices_at replay s) k ≡ nth_grid replay.job.matrices k
  past-both k past = get_or_past (matrices_at replay s) k no_grid (omega (arith, count)) ∙ sym (get_or_past replay.job.matrices k no_grid past)

  residues-gathered : (k : ℕ) → k < length replay.job.matrices → HasResidues replay.job.modulus (gathered replay.b (blocks_at replay s k))
  residues-gathered k below i j =
      HasResidues-entry replay.job.modulus (blocks_at replay s k (i / replay.b) (j / replay.b)) (omega (arith, two replay)) (residues-at replay s k (i / replay.b) (j / replay.b) le below) (i % replay.b) (j % replay.b)

  pub kept-at : AreKept replay.job (matrices_at replay s)
  kept-at = record {
    sizes = record {
      count = count;
      rows = λ k. elim (cases_lt k (length replay.job.matrices)) [
        | inl below ↦ ap (λ (g : Grid). g.rows) (nth-at k no_grid below)
        | inr past ↦ ap (λ (g : Grid). g.rows) (past-both k past)
      ];
      cols = λ k. elim (cases_lt k (length replay.job.matrices)) [
        | inl below ↦ ap (λ (g : Grid). g.cols) (nth-at k no_grid below)
        | inr past ↦ ap (λ (g : Grid). g.cols) (past-both k past)
      ];
    };
    residues = λ k d below.
        let k_in : k < length replay.job.matrices = rw count at below in
        rw (nth-at k d k_in) (AreResidues-grid_of (gathered replay.b (blocks_at replay s k)) (nth_grid replay.job.matrices k).rows (nth_grid replay.job.matrices k).cols replay.job.modulus (residues-gathered k k_in));
  }
