-- The matrices after a statement's block tasks are those before it, with the work matrix replaced. Cited by the meaning of a job.
use Rattle.std.proofs.Common.{◌≡◌, ◌≢◌, ℕ, zero, suc, ◌+◌, ◌*◌, ◌/◌, ◌%◌, ◌<◌, ◌≤◌, ◌⊎◌, inl, inr, Bool, true, List, length, map, get_or, set, All, refl, sym, ◌∙◌, ap, subst, arith, length-set, get_or-set_same, get_or-set_other}
use Rattle.std.specs.List.{range_with_len}
use Rattle.std.proofs.lemmas.Bool.{cases_eq}
use Rattle.std.proofs.lemmas.List.{ext_get_or}
use Rattle.std.proofs.lemmas.List.FromFn.{get_or-map-range_with_len, length-map-range_with_len}
use Rattle.residue_sums.specs.Sums.{part_count}
use Rattle.residue_sums.specs.Grids.{Grid, entry}
use Rattle.task_graph.specs.Tasks.{parts_of}
use Rattle.equation.specs.declared.job.Job.{Job}
use Rattle.equation.specs.Jobs.{nth_grid, no_grid}
use Rattle.step_replays.specs.declared.step.Step.{Step}
use Rattle.flash_blocks.specs.Blocks.{Blocks, gathered, grid_of}
use Rattle.step_replays.specs.Accesses.{operation_of, statement_of}
use Rattle.step_replays.specs.Replays.{StepResult, blocks_after, matrix_after, matrices_after, IsReplay}
use Rattle.step_replays.proofs.StatementCuts.{HasWorkMatrix}
use Rattle.step_replays.specs.Fits.{counts_of, FitsJob}
use Rattle.step_replays.proofs.ReplayRuns.{IsRange, others-stay}
use Rattle.step_replays.proofs.JobReplays.{JobReplay, two, cuts, step_at, result_at, access_at, block_at, blocks_at, matrix_at, matrices_at, IsResultAt, IsStoppedAt, own_statement, own_operation, own_binding, own_counts}

module _ (replay : JobReplay)
    (t base n : ℕ) (t_in : t < length replay.job.statements) (range : IsRange replay.job replay.b replay.steps t base n) where
  abbrev work : ℕ
  work = (own_binding replay t).work

  nth-after : (s k : ℕ) → k < length replay.job.matrices → get_or (matrices_at replay s) k no_grid ≡ matrix_at replay s k
  nth-after s k below = get_or-map-range_with_len (matrix_at replay s) 0 (length replay.job.matrices) k k no_grid below (omega arith)

  lengths : (s : ℕ) → length (matrices_at replay s) ≡ length replay.job.matrices
  lengths s = length-map-range_with_len (matrix_at replay s) 0 (length replay.job.matrices)

  -- the other matrices
  other-matrix : (k : ℕ) → k ≢ work → matrix_at replay (base + n) k ≡ matrix_at replay base k
  other-matrix k other =
      let same : blocks_at replay (base + n) k ≡ blocks_at replay base k
      = λ z. λ i. λ j. others-stay replay t base n t_in range n k i j (omega arith) other z in
      ap (λ (w : Blocks). grid_of (gathered replay.b w) (nth_grid replay.job.matrices k).rows (nth_grid replay.job.matrices k).cols) same

  pub after-statement : matrices_at replay (base + n) ≡ set (matrices_at replay base) (own_binding replay t).work
      (matrix_at replay (base + n) (own_binding replay t).work)
  after-statement = ext_get_or no_grid (matrices_at replay (base + n)) (set (matrices_at replay base) work (matrix_at replay (base + n) work))
      (lengths (base + n) ∙ sym (length-set (matrices_at replay base) work (matrix_at replay (base + n) work) ∙ lengths base))
      (λ k below. each k (rw (lengths (base + n)) at below) (cases_eq k work))
    where
      each : (k : ℕ) → k < length replay.job.matrices → (k ≡ work) ⊎ (k ≢ work)
          → get_or (matrices_at replay (base + n)) k no_grid ≡ get_or (set (matrices_at replay base) work (matrix_at replay (base + n) work)) k no_grid
      each k below (inl same) =
          nth-after (base + n) k below ∙ ap (λ (x : ℕ). matrix_at replay (base + n) x) same
          ∙ sym (get_or-set_same (matrices_at replay base) work (matrix_at replay (base + n) work) no_grid (rw (lengths base) (cuts replay t t_in).work_in))
          ∙ ap (λ (x : ℕ). get_or (set (matrices_at replay base) work (matrix_at replay (base + n) work)) x no_grid) (sym same)
      each k below (inr other) =
          nth-after (base + n) k below ∙ other-matrix k other ∙ sym (nth-after base k below)
          ∙ sym (get_or-set_other (matrices_at replay base) work k (matrix_at replay (base + n) work) no_grid other)
