-- What steps that were gone through come to: none failed, or the first that failed is of the least statement, and no other step of a
-- statement fails. Cited by the laws on outcomes, and where two lists of steps are compared.
use Rattle.std.proofs.Common.{◌≡◌, ◌≢◌, ℕ, zero, suc, ◌<◌, ◌⊎◌, inl, inr, Bool, true, false, List, length, refl, sym, ◌∙◌, ap, subst, arith}
use Rattle.std.specs.Prelude.{nat_lt, min}
use Rattle.std.proofs.lemmas.Bool.{cases_eq, cases_order, and_parts, lt-ltb, false≢true}
use Rattle.std.proofs.lemmas.Bool.Decides.{nat_tests}
use Rattle.residue_sums.specs.Grids.{Grid}
use Rattle.structure_rules.specs.declared.Structure.TheVariants as structures
use Rattle.operation_spec.specs.declared.operation.Operation.{Operation}
use Rattle.operation_spec.specs.declared.operation.Form.{Form}
use Rattle.operation_spec.specs.declared.operation.Form.TheVariants.{Assign, Left, Right, Sylvester, Lu, Ldl}
use Rattle.operation_spec.specs.declared.task.Kind.{Kind}
use Rattle.operation_spec.specs.declared.task.Kind.TheVariants as kinds
use Rattle.operation_spec.specs.declared.task.Task.{Task}
use Rattle.task_graph.specs.Tasks.{has, has_task, is_work_block, parts_of}
use Rattle.task_graph.specs.Needs.{does_need, factors_diagonal}
use Rattle.task_graph.specs.Order.{task_of}
use Rattle.task_graph.proofs.WorkBlocks.{work-block}
use Rattle.equation.specs.declared.job.Job.{Job}
use Rattle.equation.specs.declared.job.Place.{Place}
use Rattle.equation.specs.declared.job.Statement.{Statement}
use Rattle.flash_blocks.specs.Blocks.{Blocks}
use Rattle.block_tasks.specs.Effects.{bad_factor}
use Rattle.block_tasks.proofs.SolveTasks.{solve_of, solve-is, solve-needs}
use Rattle.step_replays.specs.declared.step.Step.{Step}
use Rattle.step_replays.specs.Accesses.{has_pivots, has_pivots_by, operation_of}
use Rattle.step_replays.specs.Replays.{StepResult, Ran, Skipped, Failed, nth_step, nth_result, bad_step_by, IsBadStep, IsDone, IsFailure, pivots_task}
use Rattle.step_replays.specs.Fits.{FitsJob, IsAt, IsTaskOf}
use Rattle.step_replays.proofs.ReplayBlocks.{block-kind}
use Rattle.step_replays.proofs.Stops.{unstopped, need-ran}
use Rattle.step_replays.proofs.JobReplays.{JobReplay, ran-active, failed-active, failed-done, cuts, step_at, result_at, blocks_at, IsResultAt, own_statement, own_operation, own_counts}

-- ---- outcomes of one step

abbrev is_failed : StepResult → Bool
is_failed (Ran v) = false
is_failed Skipped = false
is_failed (Failed place) = true

failed-or_not : (x : StepResult) → ((place : Place) × (x ≡ Failed place)) ⊎ ((place : Place) → x ≡ Failed place → ⊥)
failed-or_not (Ran v) = inr (λ place e. false≢true (ap is_failed e))
failed-or_not Skipped = inr (λ place e. false≢true (ap is_failed e))
failed-or_not (Failed place) = inl (place, refl)

pub ran-not_failed : (x : StepResult) (v : Grid) (place : Place) → x ≡ Ran v → x ≡ Failed place → ⊥
ran-not_failed x v place ran failed = false≢true (ap is_failed (sym ran ∙ failed))

-- ---- none failed, or a first one did

module _ (job : Job) (b : ℕ) (steps : List Step) (fits : FitsJob job b steps) (results : List StepResult) where
  -- none of the first n steps failed
  abbrev NoneOf : ℕ → Type 0
  NoneOf n = (s : ℕ) (place : Place) → s < n → nth_result results s ≡ Failed place → ⊥

  first-failure : (n : ℕ) → NoneOf n ⊎ ((s : ℕ) × (place : Place) × (s < n) × (nth_result results s ≡ Failed place) × NoneOf s)
  first-failure zero = inl (λ s place below failed. absurd (omega arith))
  first-failure (suc n) = elim (first-failure n) [
    | inr found ↦ inr (found.0, found.1, omega (arith, found.2), found.3, found.4)
    | inl none ↦ elim (failed-or_not (nth_result results n)) [
      | inl failed ↦ inr (n, failed.0, omega arith, failed.1, none)
      | inr ran ↦ inl (λ s place below failed. elim (cases_eq s n) [
        | inl last ↦ ran place (rw last at failed)
        | inr other ↦ none s place (omega arith) failed
      ])
    ]
  ]

  -- since steps stand statement after statement, the first that failed is of the least statement
  pub done-or_failure : IsDone steps results ⊎ ((number : ℕ) × (place : Place) × IsFailure steps results number place)
  done-or_failure = elim (first-failure (length steps)) [
    | inl none ↦ inl none
    | inr found ↦ inr (
      (nth_step steps found.0).statement,
      found.1,
      record {
        step = found.0;
        within = found.2;
        failed = found.3;
        of = refl;
        least = λ s other below failed. elim (cases_order s found.0) [
          | inl same ↦ rw same (omega arith)
          | inr (inl less) ↦ absurd (found.4 s other less failed)
          | inr (inr more) ↦ fits.sorted found.0 s more below
        ];
      },
    )
  ]

-- ---- which tasks fail

-- a block task that meets a bad pivot solves a diagonal block of a factorisation
module _ (job : Job) (b : ℕ) (blocks : ℕ → Blocks) (s : Statement) (counts : List ℕ) (u : Task) (place : Place) (exists : has (operation_of job s) counts u ≡ true) where
  bad-diagonal : IsBadStep job b blocks s u place → (factors_diagonal (operation_of job s).form ≡ true) × (u ≡ solve_of u.i u.i)
  bad-diagonal bad = by_kind u.kind refl bad
    where
      by_form : (form : Form) → bad_factor job.modulus b form (blocks s.bind.work) u.i u.j place → (factors_diagonal form ≡ true) × (u.i ≡ u.j)
      by_form Assign h = absurd h
      by_form (Left t) h = absurd h
      by_form (Right t) h = absurd h
      by_form (Sylvester t v negative) h = absurd h
      by_form Lu h = (refl, h.0)
      by_form Ldl h = (refl, h.0)

      by_kind : (kind : Kind) → u.kind ≡ kind → bad_step_by job b blocks s kind u place → (factors_diagonal (operation_of job s).form ≡ true) × (u ≡ solve_of u.i u.i)
      by_kind kinds.Pivots e h = absurd (block-kind (operation_of job s) counts u exists e)
      by_kind kinds.Term e h = absurd h
      by_kind kinds.Left e h = absurd h
      by_kind kinds.Right e h = absurd h
      by_kind kinds.Solve e h =
          let f = by_form (operation_of job s).form h in
          (f.0, solve-is (operation_of job s) counts u exists (rw e refl) ∙ ap (λ (j : ℕ). solve_of u.i j) (sym f.1))

-- no form both tests its pivots first and factors
never-both : (op : Operation) (form : Form) → has_pivots_by op form ≡ true → factors_diagonal form ≡ true → ⊥
never-both op Assign h f = false≢true h
never-both op (Left t) h f = false≢true f
never-both op (Right t) h f = false≢true f
never-both op (Sylvester t u negative) h f = false≢true f
never-both op Lu h f = false≢true h
never-both op Ldl h f = false≢true h

-- ---- no two steps of a statement fail

module _ (replay : JobReplay) (t : ℕ) (t_in : t < length replay.job.statements) where
  abbrev op : Operation
  op = own_operation replay t

  abbrev Has : Task → Type 0
  Has u = has op (own_counts replay t) u ≡ true

  abbrev At : ℕ → Task → Type 0
  At p u = IsAt replay.steps p (suc t) u

  -- a task that ran, at its step
  abbrev RanTask : Task → Type 0
  RanTask u = (r : ℕ) × At r u × ((g : Grid) × (result_at replay r ≡ Ran g))

  -- what a step that wasn't skipped needs ran
  needed : (p : ℕ) (u v : Task) → At p u → Has u → Has v → does_need op u v ≡ true → result_at replay p ≢ Skipped → RanTask v
  needed p u v at u_has v_has need active =
      let r = replay.fits.all t v t_in (inr v_has) in
      let u_block : (step_at replay p).task.kind ≢ kinds.Pivots = rw at.2 (block-kind op (own_counts replay t) u u_has) in
      let v_block : (step_at replay r.0).task.kind ≢ kinds.Pivots = rw r.1.2 (block-kind op (own_counts replay t) v v_has) in
      let ran = need-ran replay p r.0 (suc t) at.0 r.1.0 at.1 r.1.1 u_block v_block (rw (at.2, r.1.2) need) (unstopped replay p active) in
      (r.0, r.1, ran)

  next : (u v : Task) → RanTask u → Has u → Has v → does_need op u v ≡ true → RanTask v
  next u v ran u_has v_has need = needed ran.0 u v ran.1 u_has v_has need (ran-active (result_at replay ran.0) ran.2.0 ran.2.1)

  -- a factorisation solves the diagonal blocks one behind the other
  module _ (q i k : ℕ) (before : i < k) (at : At q (solve_of k k)) (i_has : Has (solve_of i i)) (k_has : Has (solve_of k k)) (active : result_at replay q ≢ Skipped) where
    block-of : (j : ℕ) → Has (solve_of j j) → is_work_block op (own_counts replay t) j j ≡ true
    block-of j h = (and_parts (is_work_block op (own_counts replay t) j j) (has_task op (own_counts replay t) kinds.Solve 0 j j 0) h).0

    -- the block below the diagonal that an LU reads
    below-block : op.form ≡ Lu → is_work_block op (own_counts replay t) k i ≡ true
    below-block form =
        let row = work-block op (own_counts replay t) k k (block-of k k_has) in
        let col = work-block op (own_counts replay t) i i (block-of i i_has) in
        let general : op.work.structure ≡ structures.General = rw form at (cuts replay t t_in).suits in
        rw (lt-ltb k (parts_of (own_counts replay t) op.work.rows) row.0, lt-ltb i (parts_of (own_counts replay t) op.work.cols) col.1, general) refl

    update-has : (factors_diagonal op.form ≡ true) → Has (task_of kinds.Left 0 k k i)
    update-has factors = by_form op.form refl factors
      where
        by_form : (form : Form) → op.form ≡ form → factors_diagonal form ≡ true → Has (task_of kinds.Left 0 k k i)
        by_form Assign e h = absurd (false≢true h)
        by_form (Left f) e h = absurd (false≢true h)
        by_form (Right f) e h = absurd (false≢true h)
        by_form (Sylvester f g negative) e h = absurd (false≢true h)
        by_form Lu e h = let inner : nat_lt i (min k k) ≡ true = lt-ltb i (min k k) (omega arith) in rw (block-of k k_has, e) (rw inner refl)
        by_form Ldl e h = let inner : nat_lt i k ≡ true = lt-ltb i k before in rw (block-of k k_has, e) (rw inner refl)

    diagonal-ran : (factors_diagonal op.form ≡ true) → RanTask (solve_of i i)
    diagonal-ran factors = by_form op.form refl factors
      where
        updated : RanTask (task_of kinds.Left 0 k k i)
        updated = needed q (solve_of k k) (task_of kinds.Left 0 k k i) at k_has (update-has factors)
            (solve-needs op (solve_of k k) (task_of kinds.Left 0 k k i) refl refl refl refl) active

        by_form : (form : Form) → op.form ≡ form → factors_diagonal form ≡ true → RanTask (solve_of i i)
        by_form Assign e h = absurd (false≢true h)
        by_form (Left f) e h = absurd (false≢true h)
        by_form (Right f) e h = absurd (false≢true h)
        by_form (Sylvester f g negative) e h = absurd (false≢true h)
        by_form Ldl e h = next (task_of kinds.Left 0 k k i) (solve_of i i) updated (update-has factors) i_has (rw e (grind (arith, nat_tests)))
        by_form Lu e h =
            let side_has : Has (solve_of k i) = rw (below-block e, e) refl in
            let side = next (task_of kinds.Left 0 k k i) (solve_of k i) updated (update-has factors) side_has (rw e (grind (arith, nat_tests))) in
            let least : min k i ≡ i = omega arith in
            next (solve_of k i) (solve_of i i) side side_has i_has (rw e (rw least (grind (arith, nat_tests))))

  -- the step of a statement that failed: it tests the pivots, or solves a diagonal block of a factorisation
  abbrev FailedTask : ℕ → Type 0
  FailedTask p = (At p pivots_task × (has_pivots op ≡ true)) ⊎ ((i : ℕ) × At p (solve_of i i) × Has (solve_of i i) × (factors_diagonal op.form ≡ true))

  failed-task : (p : ℕ) (place : Place) → p < length replay.steps → (step_at replay p).statement ≡ suc t → result_at replay p ≡ Failed place → FailedTask p
  failed-task p place below own failed =
      let is : IsResultAt replay p (Failed place) = subst (IsResultAt replay p) failed (replay.outcomes.each p (failed-done replay p place failed)) in
      by_task (rw own at (replay.fits.exists p below).1) (rw own at is.1)
    where
      by_task : IsTaskOf op (own_counts replay t) (step_at replay p).task
          → IsBadStep replay.job replay.b (blocks_at replay p) (own_statement replay t) (step_at replay p).task place → FailedTask p
      by_task (inl pivots) bad = inl ((below, own, pivots.0), pivots.1)
      by_task (inr block) bad =
          let is = bad-diagonal replay.job replay.b (blocks_at replay p) (own_statement replay t) (own_counts replay t) (step_at replay p).task place block bad in
          inr ((step_at replay p).task.i, (below, own, is.1), subst (λ (u : Task). Has u) is.1 block, is.0)

  -- the earlier of two diagonal blocks ran where the later one wasn't skipped
  apart : (p q i k : ℕ) (place : Place) → i < k → At p (solve_of i i) → Has (solve_of i i) → result_at replay p ≡ Failed place
      → At q (solve_of k k) → Has (solve_of k k) → factors_diagonal op.form ≡ true → result_at replay q ≢ Skipped → ⊥
  apart p q i k place before p_at i_has failed q_at k_has factors active =
      let ran = diagonal-ran q i k before q_at i_has k_has active factors in
      let same : ran.0 ≡ p = replay.fits.once ran.0 p (suc t) (solve_of i i) ran.1 p_at in
      ran-not_failed (result_at replay p) ran.2.0 place (ap (λ (r : ℕ). result_at replay r) (sym same) ∙ ran.2.1) failed

  one-failed : (p q : ℕ) (x y : Place) → FailedTask p → FailedTask q → result_at replay p ≡ Failed x → result_at replay q ≡ Failed y → p ≡ q
  one-failed p q x y (inl u) (inl v) p_failed q_failed = replay.fits.once p q (suc t) pivots_task u.0 v.0
  one-failed p q x y (inl u) (inr v) p_failed q_failed = absurd (never-both op op.form u.1 v.3)
  one-failed p q x y (inr u) (inl v) p_failed q_failed = absurd (never-both op op.form v.1 u.3)
  one-failed p q x y (inr u) (inr v) p_failed q_failed = elim (cases_order u.0 v.0) [
    | inl same ↦ replay.fits.once p q (suc t) (solve_of u.0 u.0) u.1 (rw same v.1)
    | inr (inl less) ↦ absurd (apart p q u.0 v.0 x less u.1 u.2 p_failed v.1 v.2 v.3 (failed-active (result_at replay q) y q_failed))
    | inr (inr more) ↦ absurd (apart q p v.0 u.0 y more v.1 v.2 q_failed u.1 u.2 u.3 (failed-active (result_at replay p) x p_failed))
  ]

-- two steps of one statement that failed are one
pub one-failure : (replay : JobReplay) (p q : ℕ) (x y : Place) → result_at replay p ≡ Failed x → result_at replay q ≡ Failed y
    → (step_at replay p).statement ≡ (step_at replay q).statement → p ≡ q
one-failure replay p q x y p_failed q_failed same =
    let p_in : p < length replay.steps = omega (arith, failed-done replay p x p_failed, replay.outcomes.within) in
    let q_in : q < length replay.steps = omega (arith, failed-done replay q y q_failed, replay.outcomes.within) in
    let own = (replay.fits.exists p p_in).0 in
    one-failed replay own.0 own.2 p q x y
    (failed-task replay own.0 own.2 p x p_in own.1 p_failed)
    (failed-task replay own.0 own.2 q y q_in (sym same ∙ own.1) q_failed) p_failed q_failed
