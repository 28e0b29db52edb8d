-- Steps that fit a valid job have a replay: each step has an outcome, by what the steps before it left. Cited by the law that says so.
use Rattle.std.proofs.Common.{◌≡◌, ◌≢◌, ℕ, zero, suc, ◌<◌, ◌≤◌, inl, inr, true, List, [], ◌∷◌, ◌++◌, length, refl, sym, ◌∙◌, ap, subst, arith}
use Rattle.std.proofs.lemmas.Bool.{and_parts}
use Rattle.residue_sums.specs.Grids.{Grid}
use Rattle.operation_spec.specs.declared.operation.Operation.{Operation}
use Rattle.operation_spec.specs.declared.task.Kind.{Kind}
use Rattle.operation_spec.specs.declared.task.Kind.TheVariants as kinds
use Rattle.operation_spec.specs.declared.task.Task.{Task}
use Rattle.task_graph.specs.Tasks.{has, has_task, is_work_block}
use Rattle.equation.specs.declared.job.Job.{Job}
use Rattle.equation.specs.declared.job.Place.{Place}
use Rattle.equation.specs.Jobs.{IsJob, nth_grid}
use Rattle.flash_blocks.specs.Blocks.{Blocks}
use Rattle.dependence_queue.specs.declared.access.Access.{Access}
use Rattle.block_tasks.specs.Effects.{bad_by, effect_by}
use Rattle.block_tasks.specs.Inverses.{HasPivotsBy}
use Rattle.step_replays.specs.declared.step.Step.{Step}
use Rattle.step_replays.specs.Accesses.{has_pivots, pivot_number}
use Rattle.step_replays.specs.Replays.{StepResult, Ran, Skipped, Failed, known_blocks, pivots_task, bad_step_by, step_value_by, IsBadStep, IsFront, IsReplay, IsStepValue}
use Rattle.step_replays.specs.Fits.{FitsJob, IsTaskOf}
use Rattle.step_replays.proofs.BadOrNone.{bad-or_none, stopped-or_not}
use Rattle.step_replays.proofs.FoundPivots.{pivots-found}
use Rattle.step_replays.proofs.FrontLaws.{front-first, front-next, front-whole}
use Rattle.step_replays.proofs.FrontShapes.{list-shape}
use Rattle.step_replays.proofs.OneOutcome.{solvable}
use Rattle.step_replays.proofs.ReplayBlocks.{block-kind, residues-at}
use Rattle.step_replays.proofs.SomeEffect.{some-effect, some-pivots}
use Rattle.step_replays.proofs.JobReplays.{JobReplay, own_valid, own_fits, two, cuts, step_at, block_at, blocks_at, IsResultAt, IsStoppedAt, own_statement, own_operation, own_binding, own_counts}

-- ---- the value of a step that isn't stopped and meets no bad pivot

module _ (replay : JobReplay) (s t : ℕ) (s_in : s < length replay.steps) (own : (step_at replay s).statement ≡ suc t) (t_in : t < length replay.job.statements) where
  abbrev m : ℕ
  m = replay.job.modulus

  abbrev op : Operation
  op = own_operation replay t

  abbrev task : Task
  task = (step_at replay s).task

  abbrev knowns : ℕ → Blocks
  knowns = known_blocks (blocks_at replay s) (own_binding replay t)

  abbrev work : Blocks
  work = blocks_at replay s (own_binding replay t).work

  abbrev list : Grid
  list = block_at replay s (pivot_number replay.job replay.b (suc t))

  abbrev old : Grid
  old = block_at replay s (step_at replay s).access.write

  le : s ≤ length replay.steps
  le = omega (arith, s_in)

  abbrev IsBadHere : Place → Type 0
  IsBadHere place = IsBadStep replay.job replay.b (blocks_at replay s) (own_statement replay t) (step_at replay s).task place

  abbrev IsValueHere : Grid → Type 0
  IsValueHere v = IsStepValue replay.job replay.b (blocks_at replay s) (own_statement replay t) (step_at replay s).task (block_at replay s (step_at replay s).access.write) v

  module _ (free : ¬ (IsStoppedAt replay s)) (good : (place : Place) → ¬ (IsBadHere place)) where
    block-effect : has op (own_counts replay t) task ≡ true → (kind : Kind) → HasPivotsBy m replay.b op (own_fits replay t t_in).lengths knowns work list kind task.i task.j
        → ((place : Place) → ¬ (bad_by m replay.b op.form work kind task.i task.j place)) → has_task op (own_counts replay t) kind task.term task.i task.j task.k ≡ true
        → (v : Grid) × effect_by m op knowns work kind task.term task.i task.j task.k v
    block-effect block kind finds none h =
        some-effect m replay.b replay.valid.modulus op (own_valid replay t t_in) knowns work (own_counts replay t) task.i task.j
        (residues-at replay s (own_binding replay t).work task.i task.j le (cuts replay t t_in).work_in) (own_fits replay t t_in).lengths list (solvable replay s t s_in own t_in block)
        kind task.term task.k h finds none

    block-value : has op (own_counts replay t) task ≡ true → (v : Grid) × IsValueHere v
    block-value block =
        by_kind task.kind (block-kind op (own_counts replay t) task block) (pivots-found replay t t_in s s_in own free (own_fits replay t t_in)) good
        (and_parts (is_work_block op (own_counts replay t) task.i task.j) (has_task op (own_counts replay t) task.kind task.term task.i task.j task.k) block).1
      where
        by_kind : (kind : Kind) → kind ≢ kinds.Pivots
            → HasPivotsBy m replay.b op (own_fits replay t t_in).lengths knowns work list kind task.i task.j
            → ((place : Place) → ¬ (bad_step_by replay.job replay.b (blocks_at replay s) (own_statement replay t) kind task place))
            → has_task op (own_counts replay t) kind task.term task.i task.j task.k ≡ true
            → (v : Grid) × step_value_by replay.job replay.b (blocks_at replay s) (own_statement replay t) kind task old v
        by_kind kinds.Pivots other finds none h = absurd (other refl)
        by_kind kinds.Term other finds none h = block-effect block kinds.Term finds none h
        by_kind kinds.Left other finds none h = block-effect block kinds.Left finds none h
        by_kind kinds.Right other finds none h = block-effect block kinds.Right finds none h
        by_kind kinds.Solve other finds none h = block-effect block kinds.Solve finds none h

    -- the test of the pivots
    list-value : task ≡ pivots_task → has_pivots op ≡ true → (v : Grid) × IsValueHere v
    list-value pivots some =
        let shape = list-shape replay s le (suc t) (omega arith) t_in some in
        let write : (step_at replay s).access.write ≡ pivot_number replay.job replay.b (suc t)
        = ap (λ (a : Access). a.write) (replay.fits.exists s s_in).2 ∙ rw (own, pivots) refl in
        let found = some-pivots m replay.b (two replay) op knowns (nth_grid replay.job.matrices (own_binding replay t).work) list op.form some shape.0.rows shape.0.cols
        (subst (λ (u : Task). (place : Place) → ¬ (IsBadStep replay.job replay.b (blocks_at replay s) (own_statement replay t) u place)) pivots good) in (
          found.0,
          subst (λ (u : Task). IsStepValue replay.job replay.b (blocks_at replay s) (own_statement replay t) u old found.0) (sym pivots)
              (subst (λ (x : ℕ). IsStepValue replay.job replay.b (blocks_at replay s) (own_statement replay t) pivots_task (block_at replay s x) found.0) (sym write) found.1),
        )

    some-value : IsTaskOf op (own_counts replay t) task → (v : Grid) × IsValueHere v
    some-value (inl pivots) = list-value pivots.0 pivots.1
    some-value (inr block) = block-value block

  -- ---- its outcome

  own-outcome : IsTaskOf op (own_counts replay t) task → (x : StepResult) × IsResultAt replay s x
  own-outcome is = elim (stopped-or_not replay.job replay.b replay.steps replay.results s) [
    | inl stopped ↦ (Skipped, stopped)
    | inr free ↦ elim (bad-or_none replay.job replay.b (two replay) (blocks_at replay s) (own_statement replay t) task
        (residues-at replay s (own_binding replay t).work task.i task.j le (cuts replay t t_in).work_in)) [
          | inl bad ↦ (Failed bad.0, (free, rw own bad.1))
          | inr good ↦ (let value = some-value free good is in (Ran value.0, (free, rw own good, rw own value.1)))
        ]
  ]

pub some-outcome : (replay : JobReplay) (s : ℕ) → s < length replay.steps → (x : StepResult) × IsResultAt replay s x
some-outcome replay s s_in =
    let fits = replay.fits.exists s s_in in
    let own = fits.0 in own-outcome replay s own.0 s_in own.1 own.2 (rw own.1 at fits.1)

-- ---- the replay, from front to front

module _ (job : Job) (b : ℕ) (steps : List Step) (pos : 0 < b) (valid : IsJob job) (fits : FitsJob job b steps) where
  some-front : (n : ℕ) → n ≤ length steps → (results : List StepResult) × IsFront job b steps results n
  some-front zero le = ([], front-first job b steps)
  some-front (suc n) le =
      let so_far = some-front n (omega arith) in
      let next = some-outcome (record { job = job; b = b; steps = steps; results = so_far.0; pos = pos; valid = valid; fits = fits; done = n; outcomes = so_far.1 }) n (omega arith) in
      (so_far.0 ++ next.0 ∷ [], front-next job b steps so_far.0 next.0 n so_far.1 (omega arith) next.1)

  pub some-replay : (results : List StepResult) × IsReplay job b steps results
  some-replay = let front = some-front (length steps) (omega arith) in (front.0, front-whole job b steps front.0 front.1)
