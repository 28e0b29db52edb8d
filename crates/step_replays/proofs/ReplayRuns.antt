-- The block tasks of one statement, in a replay of a job, are a run of the statement on the blocks of its work matrix. Cited where a
-- replay's outcome is what the job means.
use Rattle.std.proofs.Common.{◌≡◌, ◌≢◌, ℕ, zero, suc, ◌+◌, ◌-◌, ◌*◌, ◌<◌, ◌≤◌, ◌⊎◌, inl, inr, Bool, true, false, List, length, get_or, refl, sym, ◌∙◌, ap, arith}
use Rattle.std.proofs.Math.Nat.{div-mul-le_self, mul-le-mul_right}
use Rattle.std.proofs.lemmas.Bool.{cases_eq, cases_lt, false≢true}
use Rattle.std.proofs.lemmas.List.{get_or-map, get_or_past, length-map}
use Rattle.std.proofs.lemmas.List.Elements.{All-get_or}
use Rattle.std.proofs.lemmas.List.FromFn.{get_or-map-range_with_len}
use Rattle.residue_sums.specs.Sums.{part_count}
use Rattle.residue_sums.specs.Grids.{Grid}
use Rattle.operation_spec.specs.declared.operation.Operation.{Operation}
use Rattle.operation_spec.specs.declared.operation.Binding.{Binding}
use Rattle.operation_spec.specs.declared.task.Kind.TheVariants as kinds
use Rattle.operation_spec.specs.declared.task.Task.{Task}
use Rattle.task_graph.specs.Tasks.{has}
use Rattle.equation.specs.declared.job.Job.{Job}
use Rattle.equation.specs.Equations.{known_grid}
use Rattle.equation.specs.Jobs.{nth_grid, no_grid, known_grids}
use Rattle.block_tasks.specs.Effects.{AreKnown}
use Rattle.step_replays.specs.declared.step.Step.{Step}
use Rattle.flash_blocks.specs.Blocks.{Blocks, block_of}
use Rattle.step_replays.specs.Accesses.{block_number, operation_of, statement_of}
use Rattle.step_replays.specs.Replays.{StepResult, Ran, Skipped, Failed, nth_step, written, known_blocks}
use Rattle.step_replays.specs.Fits.{counts_of}
use Rattle.statement_runs.specs.StatementRuns.{IsStatementRun}
use Rattle.step_replays.proofs.Numbers.{IsBlock, same-number}
use Rattle.step_replays.proofs.ReplayBlocks.{cut-gathered, write-is, task-block, other-block, written-block, no-block, ran-effect, shape, block-kind}
use Rattle.step_replays.proofs.JobReplays.{JobReplay, own_fits, cuts, step_at, result_at, blocks_at, matrix_at, matrices_at, own_operation, own_binding, own_counts}

-- the step ran
abbrev pub is_ran : StepResult → Bool
is_ran (Ran v) = true
is_ran Skipped = false
is_ran (Failed place) = false

pub not-ran : (x : StepResult) (g : Grid) → is_ran x ≡ false → written x g ≡ g
not-ran (Ran v) g h = absurd (false≢true (sym h))
not-ran Skipped g h = refl
not-ran (Failed place) g h = refl

pub ran-value : (x : StepResult) → is_ran x ≡ true → (v : Grid) × (x ≡ Ran v)
ran-value (Ran v) h = (v, refl)
ran-value Skipped h = absurd (false≢true h)
ran-value (Failed place) h = absurd (false≢true h)

-- a matrix of no rows or columns has no parts there
pub no-parts : (b : ℕ) → 0 < b → part_count 0 b ≡ 0
no-parts b pos = elim (cases_eq (part_count 0 b) 0) [
  | inl e ↦ e
  | inr ne ↦ (let h : part_count 0 b * b ≤ 0 + b - 1 = div-mul-le_self (0 + b - 1) b in
      let one : 1 * b ≤ part_count 0 b * b = mul-le-mul_right {m = 1} {n = part_count 0 b} b (omega arith) in absurd (omega arith))
]

-- n steps from step `base` on have the block tasks of statement t + 1
pub record IsRange (job : Job) (b : ℕ) (steps : List Step) (t base n : ℕ) : Type 0 where
  pub within : base + n ≤ length steps
  pub each : (p : ℕ) → p < n → ((nth_step steps (base + p)).statement ≡ suc t) × (has (operation_of job (statement_of job (suc t))) (counts_of job b (suc t)) (nth_step steps (base + p)).task ≡ true)
  pub all : (q : ℕ) → q < length steps → (nth_step steps q).statement ≡ suc t → has (operation_of job (statement_of job (suc t))) (counts_of job b (suc t)) (nth_step steps q).task ≡ true
      → (p : ℕ) × (p < n) × (q ≡ base + p)

module _ (replay : JobReplay)
    (t base n : ℕ) (t_in : t < length replay.job.statements) (range : IsRange replay.job replay.b replay.steps t base n) where
  abbrev pub op : Operation
  op = own_operation replay t

  abbrev pub bind : Binding
  bind = (own_binding replay t)

  abbrev pub task : ℕ → Task
  task p = (step_at replay (base + p)).task

  abbrev pub did : ℕ → Bool
  did p = is_ran (result_at replay (base + p))

  abbrev pub w : ℕ → Blocks
  w p = blocks_at replay (base + p) bind.work

  abbrev pub known_at : ℕ → ℕ → Blocks
  known_at p = known_blocks (blocks_at replay (base + p)) bind

  abbrev before : List Grid
  before = matrices_at replay base

  abbrev Is : ℕ → ℕ → ℕ → Type 0
  Is k i j = IsBlock replay.b replay.job.matrices k i j

  pub nth-before : (k : ℕ) → k < length replay.job.matrices → nth_grid (matrices_at replay base) k ≡ matrix_at replay base k
  nth-before k below = get_or-map-range_with_len (matrix_at replay base) 0 (length replay.job.matrices) k k no_grid below (omega arith)

  pub step-in : (p : ℕ) → p < n → base + p < length replay.steps
  step-in p below = omega (arith, range.within)

  pub next : (p : ℕ) → base + suc p ≡ suc (base + p)
  next p = omega arith

  pub not-pivots : (p : ℕ) → p < n → (task p).kind ≢ kinds.Pivots
  not-pivots p below = block-kind op (own_counts replay t) (task p) (range.each p below).1

  pub writes : (p : ℕ) → p < n → (step_at replay (base + p)).access.write ≡ block_number replay.b replay.job.matrices bind.work (task p).i (task p).j
  writes p below = write-is replay (base + p) t (step-in p below) (range.each p below).0 t_in (not-pivots p below)

  task-is : (p : ℕ) → p < n → Is bind.work (task p).i (task p).j
  task-is p below = task-block replay t (task p) t_in (range.each p below).1

  -- a block that the step doesn't write
  kept : (p k i j : ℕ) → p < n → (k ≢ bind.work) ⊎ ((task p).i ≢ i) ⊎ ((task p).j ≢ j) → blocks_at replay (suc (base + p)) k i j ≡ blocks_at replay (base + p) k i j
  kept p k i j below other = elim (cases_lt i (part_count (nth_grid replay.job.matrices k).rows replay.b)) [
    | inr past ↦ no-block replay (suc (base + p)) k i j (inl past) ∙ sym (no-block replay (base + p) k i j (inl past))
    | inl row ↦ elim (cases_lt j (part_count (nth_grid replay.job.matrices k).cols replay.b)) [
      | inr past ↦ no-block replay (suc (base + p)) k i j (inr past) ∙ sym (no-block replay (base + p) k i j (inr past))
      | inl col ↦ elim (cases_lt k (length replay.job.matrices)) [
        | inl k_in ↦ other-block replay (base + p) k i j (k_in, row, col) (λ e.
            differ other (same-number replay.b replay.job.matrices bind.work (task p).i (task p).j k i j (task-is p below) (k_in, row, col) (sym (writes p below) ∙ e)))
        | inr past ↦ absurd (omega (arith, no-parts replay.b replay.pos, rw (get_or_past replay.job.matrices k no_grid past) at row))
      ]
    ]
  ]
    where
      differ : (k ≢ bind.work) ⊎ ((task p).i ≢ i) ⊎ ((task p).j ≢ j) → (bind.work ≡ k) × ((task p).i ≡ i) × ((task p).j ≡ j) → ⊥
      differ (inl x) h = x (sym h.0)
      differ (inr (inl x)) h = x h.1
      differ (inr (inr x)) h = x h.2

  -- the blocks of the other matrices stay while the statement is done
  pub others-stay : (p k i j : ℕ) → p ≤ n → k ≢ bind.work → blocks_at replay (base + p) k i j ≡ blocks_at replay base k i j
  others-stay zero k i j le other = let e : base + 0 ≡ base = omega arith in rw e refl
  others-stay (suc p) k i j le other = rw (next p) (kept p k i j (omega arith) (inl other) ∙ others-stay p k i j (omega arith) other)

  known_are : (p : ℕ) → p < n → AreKnown replay.b (known_grids (matrices_at replay base) bind) (known_at p)
  known_are p below k i j row col = elim (cases_lt k (length bind.knowns)) [
    | inl known ↦ here known
    | inr past ↦ absurd (omega (arith, no-parts replay.b replay.pos, rw (get_or_past (known_grids (matrices_at replay base) bind) k no_grid (omega (arith, length-map bind.knowns (nth_grid (matrices_at replay base))))) at row))
  ]
    where
      number : ℕ
      number = get_or bind.knowns k 0

      here : k < length bind.knowns → known_at p k i j ≡ block_of replay.b (known_grid (known_grids (matrices_at replay base) bind) k) i j
      here known =
          let k_in : number < length replay.job.matrices = All-get_or (λ k. k < length replay.job.matrices) bind.knowns k 0 known (own_fits replay t t_in).knowns_in in
          let other : number ≢ bind.work = All-get_or (λ k. k ≢ bind.work) bind.knowns k 0 known (own_fits replay t t_in).apart in
          let is : known_grid (known_grids (matrices_at replay base) bind) k ≡ matrix_at replay base number
          = get_or-map (nth_grid (matrices_at replay base)) bind.knowns k 0 no_grid known ∙ nth-before number k_in in
          let s = shape replay base number i j (omega (arith, range.within)) (k_in, rw is at row, rw is at col) in
          others-stay p number i j (omega arith) other
          ∙ sym (cut-gathered replay.b (blocks_at replay base number) (nth_grid replay.job.matrices number).rows (nth_grid replay.job.matrices number).cols i j s.full s.rows s.cols)
          ∙ ap (λ (g : Grid). block_of replay.b g i j) (sym is)

  -- the block tasks of the statement are a run on the blocks of its work matrix
  pub IsStatementRun-replay : IsStatementRun replay.job.modulus replay.b op (known_grids (matrices_at replay base) bind) (nth_grid (matrices_at replay base) bind.work)
      (own_counts replay t) n task did known_at w
  IsStatementRun-replay = record {
    suits = (cuts replay t t_in).suits;
    start = λ i j row col.
        let is = nth-before bind.work (cuts replay t t_in).work_in in
        let s = shape replay base bind.work i j (omega (arith, range.within)) ((cuts replay t t_in).work_in, rw is at row, rw is at col) in
        let e : base + 0 ≡ base = omega arith in
        rw e (sym (cut-gathered replay.b (blocks_at replay base bind.work) (nth_grid replay.job.matrices bind.work).rows (nth_grid replay.job.matrices bind.work).cols i j s.full s.rows s.cols)
        ∙ ap (λ (g : Grid). block_of replay.b g i j) (sym is));
    exists = λ p below. (range.each p below).1;
    once = λ p q p_in q_in e.
        let h : base + p ≡ base + q = replay.fits.once (base + p) (base + q) (suc t) (task p)
        (step-in p p_in, (range.each p p_in).0, refl) (step-in q q_in, (range.each q q_in).0, sym e) in omega arith;
    all = λ u exists.
        let q = replay.fits.all t u t_in (inr exists) in
        let p = range.all q.0 q.1.0 q.1.1 (rw q.1.2 exists) in
        (p.0, p.1, ap (λ (k : ℕ). (step_at replay k).task) (sym p.2) ∙ q.1.2);
    needs_before = λ p q p_in q_in need.
        let h : base + q < base + p = replay.fits.needs_before (base + p) (base + q) (suc t) (task p) (task q) (step-in p p_in, (range.each p p_in).0, refl) (step-in q q_in, (range.each q q_in).0, refl) need in omega arith;
    known_are = known_are;
    ran = λ p below ran.
        let v = ran-value (result_at replay (base + p)) ran in
        let effect = ran-effect replay (base + p) t v.0 (range.each p below).0 (not-pivots p below) v.1 in
        let block : blocks_at replay (base + suc p) bind.work (task p).i (task p).j ≡ v.0
        = ap (λ (s : ℕ). blocks_at replay s bind.work (task p).i (task p).j) (next p)
        ∙ written-block replay (base + p) bind.work (task p).i (task p).j (task-is p below) (writes p below)
        ∙ ap (λ (x : StepResult). written x (blocks_at replay (base + p) bind.work (task p).i (task p).j)) v.1 in
        rw block effect;
    idle = λ p below idle i j. ap (λ (s : ℕ). blocks_at replay s bind.work i j) (next p) ∙ idle-block p below idle i j (cases_eq (task p).i i) (cases_eq (task p).j j);
    elsewhere = λ p below i j other. ap (λ (s : ℕ). blocks_at replay s bind.work i j) (next p) ∙ kept p bind.work i j below (inr other);
  }
    where
      idle-block : (p : ℕ) → p < n → did p ≡ false → (i j : ℕ) → ((task p).i ≡ i) ⊎ ((task p).i ≢ i) → ((task p).j ≡ j) ⊎ ((task p).j ≢ j)
          → blocks_at replay (suc (base + p)) bind.work i j ≡ blocks_at replay (base + p) bind.work i j
      idle-block p below idle i j (inr x) y = kept p bind.work i j below (inr (inl x))
      idle-block p below idle i j (inl x) (inr y) = kept p bind.work i j below (inr (inr y))
      idle-block p below idle i j (inl x) (inl y) =
          rw (← x, ← y) (written-block replay (base + p) bind.work (task p).i (task p).j (task-is p below) (writes p below)
          ∙ not-ran (result_at replay (base + p)) (blocks_at replay (base + p) bind.work (task p).i (task p).j) idle)
