-- A step of a run that isn't stopped, as its kernel takes it: the blocks that it finds are those that its task names, and what the kernel answers
-- is what becomes of the step. Cited where a step is handed to its kernel.
use Rattle.std.proofs.Common.{◌≡◌, ◌≢◌, ℕ, ◌^◌, ◌<◌, ◌≤◌, inl, inr, true, List, length, map, get_or, refl, sym, ◌∙◌, ap, subst, arith}
use Rattle.std.specs.Prelude.{None, Some}
use Rattle.std.proofs.lemmas.Bool.{false≢true}
use Rattle.residue_sums.specs.Sums.{part_length}
use Rattle.residue_sums.specs.Grids.{Grid}
use Rattle.operation_spec.specs.declared.operation.Operation.{Operation}
use Rattle.operation_spec.specs.declared.operation.Binding.{Binding}
use Rattle.operation_spec.specs.declared.operation.Form.{Form}
use Rattle.operation_spec.specs.declared.operation.Form.TheVariants.{Assign, Left, Right, Sylvester, Lu, Ldl}
use Rattle.operation_spec.specs.declared.task.Kind.{Kind}
use Rattle.operation_spec.specs.declared.task.Kind.TheVariants as kinds
use Rattle.operation_spec.specs.declared.task.Task.{Task}
use Rattle.task_graph.specs.Factors.{known}
use Rattle.task_graph.specs.Tasks.{has}
use Rattle.equation.specs.declared.job.Job.{Job}
use Rattle.equation.specs.declared.job.Place.{Place}
use Rattle.equation.specs.declared.job.Statement.{Statement}
use Rattle.equation.specs.Jobs.{known_grids, nth_grid}
use Rattle.equation.proofs.FactorSizes.{matrix-is}
use Rattle.flash_blocks.specs.Blocks.{Blocks}
use Rattle.dependence_queue.specs.declared.access.Access.{Access}
use Rattle.block_tasks.specs.Effects.{bad_by, bad_pivots, effect_by}
use Rattle.step_replays.specs.declared.step.Step.{Step}
use Rattle.step_replays.specs.Accesses.{access_of, has_pivots, has_pivots_by, operation_of, pivot_number, statement_of, zero_list_by}
use Rattle.step_replays.specs.Replays.{StepResult, Ran, Failed, IsBadStep, IsFront, IsResult, IsStopped, block_after, blocks_after, known_blocks, nth_access, nth_step, pivots_task, bad_step_by, step_value_by}
use Rattle.job_blocks.specs.BlockedJobs.{BlockedJob, HasBlock, HasStatement, HasTask, IsBlockedJob, binding_at, counts_at, number_at, operation_at}
use Rattle.job_blocks.proofs.ReadSteps.{has-task, own-block, writes-work}
use Rattle.job_blocks.proofs.StatementFacts.{IsSound, sound}
use Rattle.block_kernels.specs.declared.block_task.BlockTask.{BlockTask}
use Rattle.block_kernels.specs.Ready.{HasKnowns, HaveParts, IsReady, IsStored, grids_of}
use Rattle.block_kernels.specs.ReadGrids.{blocks_read}
use Rattle.block_kernels.specs.Outcomes.{IsOutcome}
use Rattle.block_kernels.specs.PivotLists.{AreInverted, ArePivots, HasList}
use Rattle.task_values.specs.declared.run.Run.{Run}
use Rattle.task_values.specs.Progress.{IsRun, work_at}
use Rattle.step_replays.proofs.FoundPivots.{step-finds}
use Rattle.step_replays.proofs.FrontShapes.{list-shape}
use Rattle.step_replays.proofs.ReplayBlocks.{block-kind}
use Rattle.task_values.proofs.RunFronts.{residues-after, run_replay, shape-after}
use Rattle.task_values.proofs.StepUses.{access, blocked, has_s, own_task}
use Rattle.task_values.proofs.ReadGrids.{block-there, knowns_there, pivots-there, reads-there, work_there}

-- ---- what becomes of a step that is no Pivots

value-of : (job : Job) (b : ℕ) (blocks : ℕ → Blocks) (s : Statement) (kind : Kind) (u : Task) (old new : Grid) → kind ≢ kinds.Pivots
    → effect_by job.modulus (operation_of job s) (known_blocks blocks s.bind) (blocks s.bind.work) kind u.term u.i u.j u.k new → step_value_by job b blocks s kind u old new
value-of job b blocks s kinds.Pivots u old new apart h = absurd (apart refl)
value-of job b blocks s kinds.Term u old new apart h = h
value-of job b blocks s kinds.Left u old new apart h = h
value-of job b blocks s kinds.Right u old new apart h = h
value-of job b blocks s kinds.Solve u old new apart h = h

bad-of : (job : Job) (b : ℕ) (blocks : ℕ → Blocks) (s : Statement) (kind : Kind) (u : Task) (place : Place) → kind ≢ kinds.Pivots
    → bad_by job.modulus b (operation_of job s).form (blocks s.bind.work) kind u.i u.j place → bad_step_by job b blocks s kind u place
bad-of job b blocks s kinds.Pivots u place apart h = absurd (apart refl)
bad-of job b blocks s kinds.Term u place apart h = h
bad-of job b blocks s kinds.Left u place apart h = h
bad-of job b blocks s kinds.Right u place apart h = h
bad-of job b blocks s kinds.Solve u place apart h = h

of-bad : (job : Job) (b : ℕ) (blocks : ℕ → Blocks) (s : Statement) (kind : Kind) (u : Task) (place : Place) → kind ≢ kinds.Pivots
    → bad_step_by job b blocks s kind u place → bad_by job.modulus b (operation_of job s).form (blocks s.bind.work) kind u.i u.j place
of-bad job b blocks s kinds.Pivots u place apart h = absurd (apart refl)
of-bad job b blocks s kinds.Term u place apart h = h
of-bad job b blocks s kinds.Left u place apart h = h
of-bad job b blocks s kinds.Right u place apart h = h
of-bad job b blocks s kinds.Solve u place apart h = h

-- ---- a step

-- step n isn't stopped and finds this block to write, where at least the steps before it were gone through
pub record IsTurn (r : Run) (results : List StepResult) (n : ℕ) (old : Grid) : Type 0 where
  pub within : n < length r.steps.now
  pub done : ℕ
  pub front : IsFront r.job.now r.b r.steps.now results done
  pub active : IsStopped r.job.now r.b r.steps.now results n → ⊥
  pub block : old ≡ block_after r.job.now r.b r.steps.now results n (nth_access r.steps.now n).write

-- this is its task, but for the blocks that it reads
pub record IsTaskAt (r : Run) (n : ℕ) (t : BlockTask) : Type 0 where
  pub modulus : t.m ≡ r.job.now.modulus
  pub size : t.b ≡ r.b
  pub operation : t.op.now ≡ operation_of r.job.now (statement_of r.job.now (nth_step r.steps.now n).statement)
  pub task : t.task ≡ (nth_step r.steps.now n).task
  pub few : (work_at r n).rows < 2 ^ 32

module _ (r : Run) (is : IsRun r) (results : List StepResult) (n : ℕ) (block : Grid) (turn : IsTurn r results n block) where
  abbrev x : BlockedJob
  x = record { job = r.job.now; b = r.b }

  abbrev valid : IsBlockedJob x
  valid = blocked r is n turn.within

  abbrev pub step : Step
  step = nth_step r.steps.now n

  abbrev pub s : ℕ
  s = (nth_step r.steps.now n).statement

  abbrev pub u : Task
  u = (nth_step r.steps.now n).task

  -- the blocks that it finds, by number
  abbrev pub found : ℕ → Grid
  found y = block_after r.job.now r.b r.steps.now results n y

  abbrev stands : HasStatement x s
  stands = has_s r is n turn.within

  so : IsSound x s
  so = sound x s (blocked r is n turn.within) (has_s r is n turn.within)

  le : n ≤ length r.steps.now
  le = let w = turn.within in omega (arith, w)

  abbrev op : Operation
  op = operation_at x s

  abbrev bind : Binding
  bind = binding_at x s

  -- a block of W, and of a known matrix
  work-found : (i j : ℕ) → HasBlock x (binding_at x s).work i j → found (number_at x (binding_at x s).work i j) ≡ work_there x s valid stands found i j
  work-found i j there = block-there x s valid stands found (binding_at x s).work i j there

  work-parts : HaveParts r.b (so.fits.lengths op.work.rows) (so.fits.lengths op.work.cols) (work_there x s valid stands found)
  work-parts i j row col =
      let there : HasBlock x (binding_at x s).work i j = record { matrix = so.fits.work_in; row = rw so.fits.work.rows row; col = rw so.fits.work.cols col } in
      let shape = (shape-after r is results turn.done turn.front n (binding_at x s).work i j le there).0 in (
        ap (λ (g : Grid). g.rows) (sym (work-found i j there)) ∙ shape.rows ∙ ap (λ (l : ℕ). part_length l r.b i) so.fits.work.rows,
        ap (λ (g : Grid). g.cols) (sym (work-found i j there)) ∙ shape.cols ∙ ap (λ (l : ℕ). part_length l r.b j) so.fits.work.cols,
      )

  known-parts : (k : ℕ) → k < length op.knowns → HaveParts r.b (so.fits.lengths (known op k).rows) (so.fits.lengths (known op k).cols) (knowns_there x s valid stands found k)
  known-parts k below i j row col =
      let number : ℕ = get_or bind.knowns k 0 in
      let matrix : nth_grid (known_grids r.job.now.matrices bind) k ≡ nth_grid r.job.now.matrices number = matrix-is op r.job.now.matrices bind so.valid so.fits k below in
      let rows : (nth_grid r.job.now.matrices number).rows ≡ so.fits.lengths (known op k).rows = ap (λ (g : Grid). g.rows) (sym matrix) ∙ (so.fits.knowns k below).rows in
      let cols : (nth_grid r.job.now.matrices number).cols ≡ so.fits.lengths (known op k).cols = ap (λ (g : Grid). g.cols) (sym matrix) ∙ (so.fits.knowns k below).cols in
      let bound : k < length bind.knowns = omega (arith, below, so.fits.count) in
      let there : HasBlock x number i j = record { matrix = so.fits.knowns_in k 0 bound; row = rw rows row; col = rw cols col } in
      let shape = (shape-after r is results turn.done turn.front n number i j le there).0 in
      let same = block-there x s valid stands found number i j there in (
        ap (λ (g : Grid). g.rows) (sym same) ∙ shape.rows ∙ ap (λ (l : ℕ). part_length l r.b i) rows,
        ap (λ (g : Grid). g.cols) (sym same) ∙ shape.cols ∙ ap (λ (l : ℕ). part_length l r.b j) cols,
      )

  -- ---- the task as its kernel takes it

  module _ (t : BlockTask) (own_is : IsTaskAt r n t) (stored : IsStored t) (grids-are : grids_of t ≡ map found (nth_access r.steps.now n).reads) where
    m_is : t.m ≡ r.job.now.modulus
    m_is = own_is.modulus

    b_is : t.b ≡ r.b
    b_is = own_is.size

    op_is : t.op.now ≡ operation_at x s
    op_is = own_is.operation

    task_is : t.task ≡ u
    task_is = own_is.task

    has-knowns : HasKnowns t.b t.op.now so.fits.lengths (knowns_there x s valid stands found)
    has-knowns = rw (b_is, op_is) (record {
      valid = so.valid;
      positive = is.size;
      few = rw (← so.fits.work.rows) own_is.few;
      parts = known-parts;
    })

    -- ---- a block task

    module _ (apart : (nth_step r.steps.now n).task.kind ≢ kinds.Pivots) where
      h : has (operation_at x s) (counts_at x s) u ≡ true
      h = has-task x s u (own_task r is n turn.within) apart

      own : HasBlock x (binding_at x s).work u.i u.j
      own = own-block x s valid stands u h

      writes : (nth_access r.steps.now n).write ≡ number_at x (binding_at x s).work u.i u.j
      writes = ap (λ (a : Access). a.write) (access r is n turn.within)
          ∙ writes-work r.b r.job.now.matrices (binding_at x s) (pivot_number r.job.now r.b s) u.kind u.i u.j apart

      block-is : block ≡ work_there x s valid stands found u.i u.j
      block-is = turn.block ∙ ap found writes ∙ work-found u.i u.j own

      reads-are : map found (nth_access r.steps.now n).reads ≡ blocks_read op (knowns_there x s valid stands found) (work_there x s valid stands found) (found (pivot_number r.job.now r.b s)) u
      reads-are =
          ap (λ (a : Access). map found a.reads) (access r is n turn.within)
          ∙ reads-there x s valid stands found u h (pivot_number r.job.now r.b s) apart

      pub is-ready : IsReady t (knowns_there x s valid stands found) (work_there x s valid stands found) block
      is-ready = record {
        lengths = so.fits.lengths;
        has_knowns = has-knowns;
        work_parts = rw (b_is, op_is) work-parts;
        counts = counts_at x s;
        counts_are = rw (op_is, b_is) so.counts;
        exists = rw (op_is, task_is) h;
        block = rw task_is block-is;
        residues = rw (m_is, turn.block) (residues-after r is results turn.done turn.front n (nth_access r.steps.now n).write le);
        stored = stored;
        list = found (pivot_number r.job.now r.b s);
        reads = grids-are ∙ rw (op_is, task_is) reads-are;
        pivots = rw (m_is, b_is, op_is, task_is) (step-finds (run_replay r is results turn.done turn.front) n turn.within turn.active so.fits);
      }

      -- what the kernel leaves is what becomes of the step
      pub leaves : (new : Grid) → IsOutcome t block new None → IsResult r.job.now r.b r.steps.now results n (Ran new)
      leaves new outcome =
          let o = outcome (knowns_there x s valid stands found) (work_there x s valid stands found) is-ready in (
            turn.active,
            λ place bad. o.1 place (rw (m_is, b_is, op_is, task_is)
                (of-bad r.job.now r.b (blocks_after r.job.now r.b r.steps.now results n) (statement_of r.job.now s) u.kind u place apart bad)),
            value-of r.job.now r.b (blocks_after r.job.now r.b r.steps.now results n) (statement_of r.job.now s) u.kind u
                (block_after r.job.now r.b r.steps.now results n (nth_access r.steps.now n).write) new apart (rw (m_is, op_is, task_is) at o.0),
          )

      -- and so is the bad pivot that it meets
      pub fails : (old : Grid) (place : Place) → IsOutcome t block old (Some place) → IsResult r.job.now r.b r.steps.now results n (Failed place)
      fails old place outcome =
          let o = outcome (knowns_there x s valid stands found) (work_there x s valid stands found) is-ready in (
            turn.active,
            bad-of r.job.now r.b (blocks_after r.job.now r.b r.steps.now results n) (statement_of r.job.now s) u.kind u place apart (rw (m_is, b_is, op_is, task_is) at o),
          )

    -- ---- the test of the pivots

    module _ (kind : (nth_step r.steps.now n).task.kind ≡ kinds.Pivots) where
      abbrev rows : ℕ
      rows = (nth_grid r.job.now.matrices (binding_at x s).work).rows

      abbrev cols : ℕ
      cols = (nth_grid r.job.now.matrices (binding_at x s).work).cols

      is-pivots : (u ≡ pivots_task) × (has_pivots (operation_at x s) ≡ true)
      is-pivots = go (own_task r is n turn.within)
        where
          go : HasTask x s u → (u ≡ pivots_task) × (has_pivots (operation_at x s) ≡ true)
          go (inl pivots) = pivots
          go (inr h) = absurd (block-kind (operation_at x s) (counts_at x s) u h kind)

      own-access : (nth_step r.steps.now n).access ≡ access_of r.job.now r.b s pivots_task
      own-access = access r is n turn.within ∙ ap (access_of r.job.now r.b s) is-pivots.0

      list-is : block ≡ found (pivot_number r.job.now r.b s)
      list-is = turn.block ∙ ap (λ (a : Access). found a.write) own-access

      has-list : HasList op.form (nth_grid r.job.now.matrices (binding_at x s).work).rows (nth_grid r.job.now.matrices (binding_at x s).work).cols block
      has-list = rw list-is (go op.form (list-shape (run_replay r is results turn.done turn.front) n le s stands.from stands.within is-pivots.1).0.rows
          (list-shape (run_replay r is results turn.done turn.front) n le s stands.from stands.within is-pivots.1).0.cols is-pivots.1)
        where
          work : Grid
          work = nth_grid r.job.now.matrices (binding_at x s).work

          go : (form : Form) → (found (pivot_number r.job.now r.b s)).rows ≡ (zero_list_by form (nth_grid r.job.now.matrices (binding_at x s).work)).rows
              → (found (pivot_number r.job.now r.b s)).cols ≡ (zero_list_by form (nth_grid r.job.now.matrices (binding_at x s).work)).cols
              → has_pivots_by (operation_at x s) form ≡ true
              → HasList form (nth_grid r.job.now.matrices (binding_at x s).work).rows (nth_grid r.job.now.matrices (binding_at x s).work).cols (found (pivot_number r.job.now r.b s))
          go (Left t) row col some = (row, col)
          go (Right v) row col some = (row, col)
          go (Sylvester t v minus) row col some = (row, col)
          go Assign row col some = absurd (false≢true some)
          go Lu row col some = absurd (false≢true some)
          go Ldl row col some = absurd (false≢true some)

      pub are-pivots : ArePivots t (knowns_there x s valid stands found) (nth_grid r.job.now.matrices (binding_at x s).work).rows (nth_grid r.job.now.matrices (binding_at x s).work).cols block
      are-pivots = record {
        lengths = so.fits.lengths;
        has_knowns = has-knowns;
        rows_are = rw op_is so.fits.work.rows;
        cols_are = rw op_is so.fits.work.cols;
        list_is = rw op_is has-list;
        stored = stored;
        reads = grids-are ∙ ap (λ (a : Access). map found a.reads) own-access ∙ rw (b_is, op_is) (pivots-there x s valid stands found);
      }

      pub list-leaves : (new : Grid) → AreInverted t block new None → IsResult r.job.now r.b r.steps.now results n (Ran new)
      list-leaves new outcome =
          let o = outcome (knowns_there x s valid stands found) rows cols are-pivots in (
            turn.active,
            λ place bad. o.1 place (rw (m_is, b_is, op_is) (pivots-bad place bad)),
            subst (λ (k : Kind). step_value_by r.job.now r.b (blocks_after r.job.now r.b r.steps.now results n) (statement_of r.job.now s) k u
                (block_after r.job.now r.b r.steps.now results n (nth_access r.steps.now n).write) new) (sym kind) (rw (m_is, b_is, op_is, turn.block) at o.0),
          )
        where
          pivots-bad : (place : Place) → IsBadStep r.job.now r.b (blocks_after r.job.now r.b r.steps.now results n) (statement_of r.job.now s) u place
              → bad_pivots r.job.now.modulus r.b (operation_at x s) (knowns_there x s valid stands found) rows cols (operation_at x s).form place
          pivots-bad place bad = subst (λ (k : Kind). bad_step_by r.job.now r.b (blocks_after r.job.now r.b r.steps.now results n) (statement_of r.job.now s) k u place) kind bad

      pub list-fails : (old : Grid) (place : Place) → AreInverted t block old (Some place) → IsResult r.job.now r.b r.steps.now results n (Failed place)
      list-fails old place outcome =
          let o = outcome (knowns_there x s valid stands found) rows cols are-pivots in (
            turn.active,
            subst (λ (k : Kind). bad_step_by r.job.now r.b (blocks_after r.job.now r.b r.steps.now results n) (statement_of r.job.now s) k u place) (sym kind)
                (rw (m_is, b_is, op_is) at o),
          )
