-- Which steps run: where none of those gone through failed, all; and what a step that isn't stopped needs ran before it, whether it was gone through
-- or is the next one.
use Rattle.std.proofs.Common.{◌≡◌, ◌≢◌, ℕ, zero, suc, min, ◌<◌, ◌≤◌, ◌⊎◌, inl, inr, Bool, true, false, not, List, [], ◌∷◌, length, refl, sym, ◌∙◌, ap, ap₂, subst, arith}
use Rattle.std.specs.Prelude.{◌==◌, ◌&&◌, ◌||◌, IsTrue}
use Rattle.std.proofs.lemmas.Bool.{cases_Bool, and_parts, or_cases, eqb-true, false≢true}
use Rattle.std.proofs.lemmas.Bool.Decides.{nat_tests}
use Rattle.residue_sums.specs.Grids.{Grid}
use Rattle.operation_spec.specs.declared.operation.Operation.{Operation}
use Rattle.operation_spec.specs.declared.operation.Binding.{Binding}
use Rattle.operation_spec.specs.declared.operation.Form.{Form}
use Rattle.operation_spec.specs.declared.operation.Form.TheVariants.{Assign, Left, Right, Sylvester, Lu, Ldl}
use Rattle.operation_spec.specs.declared.task.Kind.{Kind}
use Rattle.operation_spec.specs.declared.task.Kind.TheVariants as kinds
use Rattle.operation_spec.specs.declared.task.Task.{Task}
use Rattle.task_graph.specs.Needs.{is_solve, solves, does_need, needs_by, left_needs, right_needs, solve_needs, factors_diagonal}
use Rattle.equation.specs.declared.job.Job.{Job}
use Rattle.equation.specs.declared.job.Place.{Place}
use Rattle.dependence_queue.specs.declared.access.Access.{Access}
use Rattle.step_replays.specs.Accesses.{work_number, factor_number, reads_of, left_reads, right_reads, solve_reads, access_of, operation_of, statement_of, pivot_number}
use Rattle.dependence_queue.specs.Conflicts.{has_number, conflicts}
use Rattle.step_replays.specs.Replays.{StepResult, Ran, Skipped, Failed, IsStop}
use Rattle.step_replays.proofs.ReplayBlocks.{write_of-block}
use Rattle.step_replays.proofs.JobReplays.{JobReplay, active-done, step_at, result_at, IsResultAt, IsStoppedAt}

-- ---- what is needed is in conflict

pub has-here : (x : ℕ) (ys : List ℕ) → has_number (x ∷ ys) x ≡ true
has-here x ys = let e : (x == x) ≡ true = grind (arith, nat_tests) in rw e refl

pub has-later : (x y : ℕ) (ys : List ℕ) → has_number ys x ≡ true → has_number (y ∷ ys) x ≡ true
has-later x y ys h = elim (cases_Bool (x == y)) [ inl e ↦ rw e refl | inr e ↦ rw (e, h) refl ]

solves-block : (v : Task) (i j : ℕ) → solves v i j ≡ true → (v.i ≡ i) × (v.j ≡ j)
solves-block v i j h = let p = and_parts (is_solve v.kind && v.i == i) (v.j == j) h in
    (eqb-true v.i i (and_parts (is_solve v.kind) (v.i == i) p.0).1, eqb-true v.j j p.1)

module _ (b : ℕ) (grids : List Grid) (op : Operation) (bind : Binding) (x : ℕ) (v : Task) where
  abbrev number : ℕ
  number = work_number b grids bind v.i v.j

  at-block : (i j : ℕ) (ys : List ℕ) → solves v i j ≡ true → has_number (work_number b grids bind i j ∷ ys) number ≡ true
  at-block i j ys h = let p = solves-block v i j h in rw (p.0, p.1) (has-here (work_number b grids bind i j) ys)

  left-read : (form : Form) (i j k : ℕ) → left_needs form i j k v ≡ true → has_number (left_reads b grids op bind form i j k) number ≡ true
  left-read Assign i j k h = absurd (false≢true h)
  left-read (Right t) i j k h = absurd (false≢true h)
  left-read (Left t) i j k h = has-later number (factor_number b grids op bind t i k) (work_number b grids bind k j ∷ []) (at-block k j [] h)
  left-read (Sylvester t u minus) i j k h = has-later number (factor_number b grids op bind t i k) (work_number b grids bind k j ∷ []) (at-block k j [] h)
  left-read Lu i j k h = elim (or_cases (solves v i k) (solves v k j) h) [
    | inl e ↦ at-block i k (work_number b grids bind k j ∷ []) e
    | inr e ↦ has-later number (work_number b grids bind i k) (work_number b grids bind k j ∷ []) (at-block k j [] e)
  ]
  left-read Ldl i j k h = elim (or_cases (solves v i k || solves v k k) (solves v j k) h) [
    | inl e ↦ elim (or_cases (solves v i k) (solves v k k) e) [
      | inl f ↦ at-block i k (work_number b grids bind k k ∷ work_number b grids bind j k ∷ []) f
      | inr f ↦ has-later number (work_number b grids bind i k) (work_number b grids bind k k ∷ work_number b grids bind j k ∷ []) (at-block k k (work_number b grids bind j k ∷ []) f)
    ]
    | inr e ↦ has-later number (work_number b grids bind i k) (work_number b grids bind k k ∷ work_number b grids bind j k ∷ [])
        (has-later number (work_number b grids bind k k) (work_number b grids bind j k ∷ []) (at-block j k [] e))
  ]

  right-read : (form : Form) (i j k : ℕ) → right_needs form i j k v ≡ true → has_number (right_reads b grids op bind form i j k) number ≡ true
  right-read (Right t) i j k h = at-block i k (factor_number b grids op bind t k j ∷ []) h
  right-read (Sylvester t u minus) i j k h = at-block i k (factor_number b grids op bind u k j ∷ []) h
  right-read Assign i j k h = absurd (false≢true h)
  right-read (Left t) i j k h = absurd (false≢true h)
  right-read Lu i j k h = absurd (false≢true h)
  right-read Ldl i j k h = absurd (false≢true h)

  -- a solve reads the diagonal block that it needs, or what it needs is of its own block
  solve-read : (form : Form) (i j : ℕ) → solve_needs form i j v ≡ true → (has_number (solve_reads b grids op bind x form i j) number ≡ true) ⊎ ((v.i ≡ i) × (v.j ≡ j))
  solve-read form i j h = elim (or_cases (not (is_solve v.kind) && v.i == i && v.j == j) (factors_diagonal form && not (i == j) && solves v (min i j) (min i j)) h) [
    | inl e ↦ (let p = and_parts (not (is_solve v.kind) && v.i == i) (v.j == j) e in
        inr (eqb-true v.i i (and_parts (not (is_solve v.kind)) (v.i == i) p.0).1, eqb-true v.j j p.1))
    | inr e ↦ (let p = and_parts (factors_diagonal form && not (i == j)) (solves v (min i j) (min i j)) e in
        let q = and_parts (factors_diagonal form) (not (i == j)) p.0 in inl (diagonal form q.0 q.1 p.1))
  ]
    where
      diagonal : (form : Form) → factors_diagonal form ≡ true → not (i == j) ≡ true → solves v (min i j) (min i j) ≡ true → has_number (solve_reads b grids op bind x form i j) number ≡ true
      diagonal Lu a apart s = let e : (i == j) ≡ false = grind (arith, nat_tests) in rw e (at-block (min i j) (min i j) [] s)
      diagonal Ldl a apart s = let e : (i == j) ≡ false = grind (arith, nat_tests) in rw e (at-block (min i j) (min i j) [] s)
      diagonal Assign a apart s = absurd (false≢true a)
      diagonal (Left t) a apart s = absurd (false≢true a)
      diagonal (Right t) a apart s = absurd (false≢true a)
      diagonal (Sylvester t u minus) a apart s = absurd (false≢true a)

  pub need-read : (kind : Kind) (t i j k : ℕ) → needs_by op.form kind i j k v ≡ true → (has_number (reads_of b grids op bind x kind t i j k) number ≡ true) ⊎ ((v.i ≡ i) × (v.j ≡ j))
  need-read kinds.Pivots t i j k h = absurd (false≢true h)
  need-read kinds.Term t i j k h = absurd (false≢true h)
  need-read kinds.Left t i j k h = inl (left-read op.form i j k h)
  need-read kinds.Right t i j k h = inl (right-read op.form i j k h)
  need-read kinds.Solve t i j k h = solve-read op.form i j h

-- two block tasks of one statement, of which one needs the other
pub need-conflicts : (job : Job) (b s : ℕ) (u v : Task) → u.kind ≢ kinds.Pivots → v.kind ≢ kinds.Pivots → does_need (operation_of job (statement_of job s)) u v ≡ true
    → conflicts (access_of job b s v) (access_of job b s u) ≡ true
need-conflicts job b s u v u_block v_block need =
    let bind : Binding = (statement_of job s).bind in
    let op : Operation = operation_of job (statement_of job s) in
    let v_write : (access_of job b s v).write ≡ work_number b job.matrices bind v.i v.j = write_of-block b job.matrices bind (pivot_number job b s) v.kind v.i v.j v_block in
    let u_write : (access_of job b s u).write ≡ work_number b job.matrices bind u.i u.j = write_of-block b job.matrices bind (pivot_number job b s) u.kind u.i u.j u_block in
    elim (need-read b job.matrices op bind (pivot_number job b s) v u.kind u.term u.i u.j u.k need) [
      | inl read ↦ first (has_number (access_of job b s u).reads (access_of job b s v).write) (has_number (access_of job b s v).reads (access_of job b s u).write)
          ((access_of job b s v).write == (access_of job b s u).write) (ap (λ (x : ℕ). has_number (access_of job b s u).reads x) v_write ∙ read)
      | inr same ↦ last (has_number (access_of job b s u).reads (access_of job b s v).write) (has_number (access_of job b s v).reads (access_of job b s u).write) _ _ (v_write ∙ (λ x. work_number b job.matrices bind (same.0 x) (same.1 x)) ∙ sym u_write)
    ]
  where
    first : (p q r : Bool) → p ≡ true → (p || q || r) ≡ true
    first p q r h = rw h refl

    last : (p q : Bool) (x y : ℕ) → x ≡ y → (p || q || x == y) ≡ true
    last true q x y h = refl
    last false true x y h = refl
    last false false x y h = grind (arith, nat_tests)

-- ---- steps that run

module _ (replay : JobReplay) where
  abbrev result : ℕ → StepResult
  result s = result_at replay s

  abbrev HasFailed : ℕ → Type 0
  HasFailed s = (place : Place) × (result_at replay s ≡ Failed place)

  -- a step that was stopped comes after one that failed
  failed-before : (N s : ℕ) → s < N → s < replay.done → IsStop (result_at replay s) → (q : ℕ) × (q ≤ s) × HasFailed q
  failed-before zero s below s_in stop = absurd (omega arith)
  failed-before (suc N) s below s_in stop = go (result_at replay s) refl stop (replay.outcomes.each s s_in) (λ q q_in q_stop. failed-before N q (omega arith) (omega arith) q_stop)
    where
      go : (x : StepResult) → result_at replay s ≡ x → IsStop x → IsResultAt replay s (result_at replay s) → ((q : ℕ) → q < s → IsStop (result_at replay q) → (r : ℕ) × (r ≤ q) × HasFailed r)
          → (q : ℕ) × (q ≤ s) × HasFailed q
      go (Ran v) e stop is earlier = absurd stop
      go (Failed place) e stop is earlier = (s, omega arith, (place, e))
      go Skipped e stop is earlier =
          let h : IsStoppedAt replay s = subst (IsResultAt replay s) e is in
          let r = earlier h.0 h.1 h.2 in (r.0, omega (arith, r.1, h.1), r.2)

  ran-or_stop : (x : StepResult) → ((v : Grid) × (x ≡ Ran v)) ⊎ IsStop x
  ran-or_stop (Ran v) = inl (v, refl)
  ran-or_stop Skipped = inr tt
  ran-or_stop (Failed place) = inr tt

  -- where none of the first steps failed, all of them ran
  pub all-ran : (N : ℕ) → N ≤ replay.done → ((q : ℕ) (place : Place) → q < N → ¬ (result_at replay q ≡ Failed place)) → (s : ℕ) → s < N → (v : Grid) × (result_at replay s ≡ Ran v)
  all-ran N le none s below = elim (ran-or_stop (result_at replay s)) [
    | inl ran ↦ ran
    | inr stop ↦ (let f = failed-before (suc s) s (omega arith) (omega arith) stop in absurd (none f.0 f.2.0 (omega (arith, f.1)) f.2.1))
  ]

  -- a step that wasn't skipped isn't stopped
  pub unstopped : (p : ℕ) → result_at replay p ≢ Skipped → ¬ (IsStoppedAt replay p)
  unstopped p active = go (result_at replay p) refl (replay.outcomes.each p (active-done replay p active))
    where
      go : (x : StepResult) → result_at replay p ≡ x → IsResultAt replay p (result_at replay p) → IsStoppedAt replay p → ⊥
      go (Ran v) e is stopped = let h : IsResultAt replay p (Ran v) = subst (IsResultAt replay p) e is in h.0 stopped
      go (Failed place) e is stopped = let h : IsResultAt replay p (Failed place) = subst (IsResultAt replay p) e is in h.0 stopped
      go Skipped e is stopped = active e

  -- what a step that isn't stopped is in conflict with ran, if it comes before
  pub conflict-ran : (r p : ℕ) → r < p → IsTrue (conflicts (step_at replay r).access (step_at replay p).access) → ¬ (IsStoppedAt replay p) → (v : Grid) × (result_at replay r ≡ Ran v)
  conflict-ran r p before conflict free = elim (ran-or_stop (result_at replay r)) [
    | inl ran ↦ ran
    | inr stop ↦ absurd (free (r, before, stop, conflict))
  ]

  -- what a block task that isn't stopped needs ran
  pub need-ran : (p r s : ℕ) → p < length replay.steps → r < length replay.steps → (step_at replay p).statement ≡ s → (step_at replay r).statement ≡ s
      → (step_at replay p).task.kind ≢ kinds.Pivots → (step_at replay r).task.kind ≢ kinds.Pivots
      → does_need (operation_of replay.job (statement_of replay.job s)) (step_at replay p).task (step_at replay r).task ≡ true → ¬ (IsStoppedAt replay p) → (v : Grid) × (result_at replay r ≡ Ran v)
  need-ran p r s p_in r_in p_is r_is p_block r_block need free =
      let before : r < p = replay.fits.needs_before p r s (step_at replay p).task (step_at replay r).task (p_in, p_is, refl) (r_in, r_is, refl) need in
      let p_access : (step_at replay p).access ≡ access_of replay.job replay.b s (step_at replay p).task = (replay.fits.exists p p_in).2 ∙ ap (λ (x : ℕ). access_of replay.job replay.b x (step_at replay p).task) p_is in
      let r_access : (step_at replay r).access ≡ access_of replay.job replay.b s (step_at replay r).task = (replay.fits.exists r r_in).2 ∙ ap (λ (x : ℕ). access_of replay.job replay.b x (step_at replay r).task) r_is in
      let conflict : IsTrue (conflicts (step_at replay r).access (step_at replay p).access)
      = ap₂ (λ (x y : Access). conflicts x y) r_access p_access ∙ need-conflicts replay.job replay.b s (step_at replay p).task (step_at replay r).task p_block r_block need in
      conflict-ran r p before conflict free
