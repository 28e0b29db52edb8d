-- Replays of small rows that were worked by hand.
use Rattle.std.proofs.Common.{◌≡◌, ℕ, zero, suc, ◌+◌, ◌*◌, ◌%◌, ◌<◌, ◌≤◌, List, [], ◌∷◌, All, map, true, false, inl, inr, refl, sym, ◌∙◌, ap, subst, arith, codes}
use Rattle.residue_sums.specs.Residues.{IsUnit}
use Rattle.residue_sums.specs.Grids.{Grid, entry}
use Rattle.residue_sums.specs.Tables.{Table, times}
use Rattle.structure_rules.specs.declared.Structure.TheVariants.{General, UnitLower, Upper}
use Rattle.structure_rules.specs.Structures.{view, IsInside}
use Rattle.operation_spec.specs.declared.task.Task.{Task}
use Rattle.operation_spec.specs.declared.task.Kind.TheVariants as kinds
use Rattle.operation_spec.proofs.WorkedOperations.{lu, mul}
use Rattle.task_graph.specs.Order.{task_of, tasks_of, rank}
use Rattle.task_graph.specs.Needs.{does_need}
use Rattle.task_graph.proofs.TasksExist.{listed-has}
use Rattle.task_graph.specs.Tasks.{has}
use Rattle.std.specs.Prelude.{Contains, IsTrue, slice_index_or, ◌==◌, if◌then◌else◌}
use Rattle.std.proofs.lemmas.Bool.{false≢true}
use Rattle.equation.specs.declared.job.Job.{Job}
use Rattle.equation.specs.declared.job.Place.{Place}
use Rattle.equation.specs.declared.job.Statement.{Statement}
use Rattle.equation.specs.Pivots.{IsBadForLu}
use Rattle.dependence_queue.specs.declared.access.Access.{Access}
use Rattle.step_replays.specs.declared.step.Step.{Step}
use Rattle.equation.specs.Kernels.{IsValue}
use Rattle.block_tasks.specs.Effects.{IsEffect}
use Rattle.step_replays.specs.Accesses.{access_of, operation_of, statement_of}
use Rattle.dependence_queue.specs.Conflicts.{conflicts}
use Rattle.step_replays.specs.Replays.{IsFailure, StepResult, Ran, Skipped, Failed, nth_result, nth_step, IsStop, IsResult, IsReplay, block_after, value}
use Rattle.step_replays.specs.Fits.{counts_of, IsTaskOf, IsAt, FitsJob}

abbrev pub grid : ℕ → ℕ → List ℕ → Grid
grid rows cols entries = record { rows = rows; cols = cols; entries = entries }

abbrev pub place : ℕ → ℕ → Place
place row col = record { row = row; col = col }

abbrev pub lu_job : ℕ → Grid → Job
lu_job m g = record {
  modulus = m;
  operations = lu ∷ [];
  names = codes "A" ∷ [];
  matrices = g ∷ [];
  statements = record { operation = 0; bind = record { work = 0; knowns = [] } } ∷ [];
  prints = [];
}

abbrev pub step : Job → ℕ → Task → Step
step job b task = record { statement = 1; task = task; access = access_of job b 1 task }

abbrev pub five : List Task
five = task_of kinds.Solve 0 0 0 0 ∷ task_of kinds.Solve 0 0 1 0 ∷ task_of kinds.Solve 0 1 0 0 ∷ task_of kinds.Left 0 1 1 0 ∷ task_of kinds.Solve 0 1 1 0 ∷ []

-- ---- the 4 by 4 identity in blocks of size 2, and the 3 by 3 identity, whose last part has length 1
module _ where
  abbrev identity_job : Job
  identity_job = lu_job 101 (grid 4 4 (1 ∷ 0 ∷ 0 ∷ 0 ∷ 0 ∷ 1 ∷ 0 ∷ 0 ∷ 0 ∷ 0 ∷ 1 ∷ 0 ∷ 0 ∷ 0 ∷ 0 ∷ 1 ∷ []))

  accesses : map (λ t. access_of identity_job 2 1 t) five ≡ record { write = 0; reads = [] } ∷ record { write = 1; reads = 0 ∷ [] } ∷ record { write = 2; reads = 0 ∷ [] }
      ∷ record { write = 3; reads = 2 ∷ 1 ∷ [] } ∷ record { write = 3; reads = [] } ∷ []
  unfolding lu
  accesses = refl

  -- the five direct edges are all conflicts
  all_conflicts : map (λ t. map (λ u. conflicts (access_of identity_job 2 1 t) (access_of identity_job 2 1 u)) five) five
      ≡ (true ∷ true ∷ true ∷ false ∷ false ∷ []) ∷ (true ∷ true ∷ false ∷ true ∷ false ∷ []) ∷ (true ∷ false ∷ true ∷ true ∷ false ∷ [])
      ∷ (false ∷ true ∷ true ∷ true ∷ true ∷ []) ∷ (false ∷ false ∷ false ∷ true ∷ true ∷ []) ∷ []
  unfolding lu
  all_conflicts = refl

  abbrev identity_steps : List Step
  identity_steps = map (λ t. step identity_job 2 t) five

  abbrev identity_results : List StepResult
  identity_results = Ran (grid 2 2 (1 ∷ 0 ∷ 0 ∷ 1 ∷ [])) ∷ Ran (grid 2 2 (0 ∷ 0 ∷ 0 ∷ 0 ∷ [])) ∷ Ran (grid 2 2 (0 ∷ 0 ∷ 0 ∷ 0 ∷ [])) ∷ Ran (grid 2 2 (1 ∷ 0 ∷ 0 ∷ 1 ∷ [])) ∷ Ran (grid 2 2 (1 ∷ 0 ∷ 0 ∷ 1 ∷ [])) ∷ []

  -- block 3 as it is given, after its update, and after its solve
  values : map (λ v. value identity_job 2 identity_steps identity_results 3 v) (0 ∷ 1 ∷ 2 ∷ []) ≡ grid 2 2 (1 ∷ 0 ∷ 0 ∷ 1 ∷ []) ∷ grid 2 2 (1 ∷ 0 ∷ 0 ∷ 1 ∷ []) ∷ grid 2 2 (1 ∷ 0 ∷ 0 ∷ 1 ∷ []) ∷ []
  unfolding lu
  values = refl

  small : map (λ x. block_after (lu_job 101 (grid 3 3 (1 ∷ 0 ∷ 0 ∷ 0 ∷ 1 ∷ 0 ∷ 0 ∷ 0 ∷ 1 ∷ []))) 2 [] [] 0 x) (0 ∷ 1 ∷ 2 ∷ 3 ∷ [])
      ≡ grid 2 2 (1 ∷ 0 ∷ 0 ∷ 1 ∷ []) ∷ grid 2 1 (0 ∷ 0 ∷ []) ∷ grid 1 2 (0 ∷ 0 ∷ []) ∷ grid 1 1 (1 ∷ []) ∷ []
  unfolding lu
  small = refl

-- ---- 1 1 / 1 1 modulo 7 in blocks of size 1: the last pivot is 0
module _ where
  abbrev pub one : ℕ → Grid
  one a = grid 1 1 (a ∷ [])

  abbrev pub bad_job : Job
  bad_job = lu_job 7 (grid 2 2 (1 ∷ 1 ∷ 1 ∷ 1 ∷ []))

  abbrev pub bad_steps : List Step
  bad_steps = map (λ t. step bad_job 1 t) five

  abbrev pub bad_results : List StepResult
  bad_results = Ran (one 1) ∷ Ran (one 1) ∷ Ran (one 1) ∷ Ran (one 0) ∷ Failed (place 1 1) ∷ []

  not_stopped : (q : ℕ) → q < 4 → IsStop (nth_result bad_results q) → ⊥
  not_stopped zero l h = h
  not_stopped (suc zero) l h = h
  not_stopped (suc (suc zero)) l h = h
  not_stopped (suc (suc (suc zero))) l h = h
  not_stopped (suc (suc (suc (suc q)))) l h = absurd (omega arith)

  -- a block of one entry, which is a unit
  good : (q : ℕ) → q < 1 → IsBadForLu 7 (entry (one 1)) q → ⊥
  good zero l bad =
      let u : ℕ = bad.u 0 0 in
      let e : (0 + 1 * u) % 7 ≡ 1 = bad.product 0 0 (omega arith) (omega arith) in
      let below : u < 7 = bad.u_residues 0 0 in
      let same : u ≡ 1 = omega arith in
      bad.bad (1, omega arith, rw same refl)
  good (suc q) l bad = absurd (omega arith)

  -- one equation of one entry
  pub one_value : (left : Table → Table) (right : Table) (old new : ℕ) → new < 7 → left (entry (one new)) 0 0 ≡ right 0 0 → IsValue 7 General left right (one old) (one new)
  one_value left right old new below e = record {
    rows = refl;
    cols = refl;
    full = refl;
    residues = below_all;
    equation = each;
    others = λ r c row col none. absurd none;
  }
    where
      below_all : All (λ x. x < 7) (new ∷ [])
      below_all zero d l = below
      below_all (suc k) d l = absurd (omega arith)

      each : (r c : ℕ) → r < 1 → c < 1 → IsInside General r c → left (entry (one new)) r c ≡ right r c
      each zero zero row col inside = e
      each zero (suc c) row col inside = absurd (omega arith)
      each (suc r) c row col inside = absurd (omega arith)

  last_pivot : IsBadForLu 7 (entry (one 0)) 0
  last_pivot = record {
    l = λ i j. 0;
    u = λ i j. 0;
    l_residues = λ i j. omega arith;
    u_residues = λ i j. omega arith;
    product = products;
    units = λ i less. absurd (omega arith);
    bad = λ unit. let e : (0 * unit.0) % 7 ≡ 1 = unit.2 in omega arith;
  }
    where
      products : (i j : ℕ) → i ≤ 0 → j ≤ 0 → times 7 1 (view UnitLower (λ i j. 0)) (view Upper (λ i j. 0)) i j ≡ entry (one 0) i j
      products zero zero row col = refl
      products zero (suc j) row col = absurd (omega arith)
      products (suc i) j row col = absurd (omega arith)

  zero-no : (let n : ℕ = 0 in n ≡ 1) → ⊥
  zero-no e = omega arith

  each : (s : ℕ) → s < 5 → IsResult bad_job 1 bad_steps bad_results s (nth_result bad_results s)
  unfolding lu
  each zero l = (λ h. absurd (omega (arith, h.1)), λ p h. good h.2.0 h.2.2 h.2.3, one_value _ _ 1 1 (omega arith) refl)
  each (suc zero) l = (λ h. not_stopped h.0 (omega (arith, h.1)) h.2, λ p h. absurd (zero-no (h.0)), one_value _ _ 1 1 (omega arith) refl)
  each (suc (suc zero)) l = (λ h. not_stopped h.0 (omega (arith, h.1)) h.2, λ p h. absurd (zero-no (sym h.0)), one_value _ _ 1 1 (omega arith) refl)
  each (suc (suc (suc zero))) l = (λ h. not_stopped h.0 (omega (arith, h.1)) h.2, λ p h. h, one_value _ _ 1 0 (omega arith) refl)
  each (suc (suc (suc (suc zero)))) l = (λ h. not_stopped h.0 (omega (arith, h.1)) h.2, (refl, refl, (0, refl, omega arith, last_pivot)))
  each (suc (suc (suc (suc (suc s))))) l = absurd (omega arith)

  pub bad_replay : IsReplay bad_job 1 bad_steps bad_results
  bad_replay = record { count = refl; each = each }

  -- ---- the five steps fit the job

  pub one-statement : (p : ℕ) → p < 5 → (nth_step bad_steps p).statement ≡ 1
  one-statement zero l = refl
  one-statement (suc zero) l = refl
  one-statement (suc (suc zero)) l = refl
  one-statement (suc (suc (suc zero))) l = refl
  one-statement (suc (suc (suc (suc zero)))) l = refl
  one-statement (suc (suc (suc (suc (suc p))))) l = absurd (omega arith)

  pub exist : (p : ℕ) → p < 5 → ((s : ℕ) × ((nth_step bad_steps p).statement ≡ suc s) × (s < 1))
      × IsTaskOf (operation_of bad_job (statement_of bad_job (nth_step bad_steps p).statement)) (counts_of bad_job 1 (nth_step bad_steps p).statement) (nth_step bad_steps p).task
      × ((nth_step bad_steps p).access ≡ access_of bad_job 1 (nth_step bad_steps p).statement (nth_step bad_steps p).task)
  unfolding lu
  exist zero l = ((0, refl, omega arith), inr refl, refl)
  exist (suc zero) l = ((0, refl, omega arith), inr refl, refl)
  exist (suc (suc zero)) l = ((0, refl, omega arith), inr refl, refl)
  exist (suc (suc (suc zero))) l = ((0, refl, omega arith), inr refl, refl)
  exist (suc (suc (suc (suc zero)))) l = ((0, refl, omega arith), inr refl, refl)
  exist (suc (suc (suc (suc (suc p))))) l = absurd (omega arith)

  -- the last step is the one that failed
  pub bad_failure : IsFailure bad_steps bad_results 1 (place 1 1)
  bad_failure = record {
    step = 4;
    within = omega arith;
    failed = refl;
    of = refl;
    least = λ s other below failed. let is : (nth_step bad_steps s).statement ≡ 1 = one-statement s below in omega arith;
  }

  abbrev index : Task → ℕ
  index u = if rank u.kind == 4 then (if u.i * 2 + u.j == 3 then 4 else u.i * 2 + u.j) else 3

  index-is : (p : ℕ) → p < 5 → index (nth_step bad_steps p).task ≡ p
  index-is zero l = refl
  index-is (suc zero) l = refl
  index-is (suc (suc zero)) l = refl
  index-is (suc (suc (suc zero))) l = refl
  index-is (suc (suc (suc (suc zero)))) l = refl
  index-is (suc (suc (suc (suc (suc p))))) l = absurd (omega arith)

  kind-is : (p : ℕ) → p < 5 → 0 < rank (nth_step bad_steps p).task.kind
  kind-is zero l = omega arith
  kind-is (suc zero) l = omega arith
  kind-is (suc (suc zero)) l = omega arith
  kind-is (suc (suc (suc zero))) l = omega arith
  kind-is (suc (suc (suc (suc zero)))) l = omega arith
  kind-is (suc (suc (suc (suc (suc p))))) l = absurd (omega arith)

  need-earlier : (p q : ℕ) → p < 5 → q < 5 → does_need lu (nth_step bad_steps p).task (nth_step bad_steps q).task ≡ true → q < p
  unfolding lu
  need-earlier zero zero l k h = absurd (false≢true h)
  need-earlier zero (suc zero) l k h = absurd (false≢true h)
  need-earlier zero (suc (suc zero)) l k h = absurd (false≢true h)
  need-earlier zero (suc (suc (suc zero))) l k h = absurd (false≢true h)
  need-earlier zero (suc (suc (suc (suc zero)))) l k h = absurd (false≢true h)
  need-earlier zero (suc (suc (suc (suc (suc q))))) l k h = absurd (omega arith)
  need-earlier (suc zero) zero l k h = omega arith
  need-earlier (suc zero) (suc zero) l k h = absurd (false≢true h)
  need-earlier (suc zero) (suc (suc zero)) l k h = absurd (false≢true h)
  need-earlier (suc zero) (suc (suc (suc zero))) l k h = absurd (false≢true h)
  need-earlier (suc zero) (suc (suc (suc (suc zero)))) l k h = absurd (false≢true h)
  need-earlier (suc zero) (suc (suc (suc (suc (suc q))))) l k h = absurd (omega arith)
  need-earlier (suc (suc zero)) zero l k h = omega arith
  need-earlier (suc (suc zero)) (suc zero) l k h = absurd (false≢true h)
  need-earlier (suc (suc zero)) (suc (suc zero)) l k h = absurd (false≢true h)
  need-earlier (suc (suc zero)) (suc (suc (suc zero))) l k h = absurd (false≢true h)
  need-earlier (suc (suc zero)) (suc (suc (suc (suc zero)))) l k h = absurd (false≢true h)
  need-earlier (suc (suc zero)) (suc (suc (suc (suc (suc q))))) l k h = absurd (omega arith)
  need-earlier (suc (suc (suc zero))) zero l k h = absurd (false≢true h)
  need-earlier (suc (suc (suc zero))) (suc zero) l k h = omega arith
  need-earlier (suc (suc (suc zero))) (suc (suc zero)) l k h = omega arith
  need-earlier (suc (suc (suc zero))) (suc (suc (suc zero))) l k h = absurd (false≢true h)
  need-earlier (suc (suc (suc zero))) (suc (suc (suc (suc zero)))) l k h = absurd (false≢true h)
  need-earlier (suc (suc (suc zero))) (suc (suc (suc (suc (suc q))))) l k h = absurd (omega arith)
  need-earlier (suc (suc (suc (suc zero)))) zero l k h = absurd (false≢true h)
  need-earlier (suc (suc (suc (suc zero)))) (suc zero) l k h = absurd (false≢true h)
  need-earlier (suc (suc (suc (suc zero)))) (suc (suc zero)) l k h = absurd (false≢true h)
  need-earlier (suc (suc (suc (suc zero)))) (suc (suc (suc zero))) l k h = omega arith
  need-earlier (suc (suc (suc (suc zero)))) (suc (suc (suc (suc zero)))) l k h = absurd (false≢true h)
  need-earlier (suc (suc (suc (suc zero)))) (suc (suc (suc (suc (suc q))))) l k h = absurd (omega arith)
  need-earlier (suc (suc (suc (suc (suc p))))) q l k h = absurd (omega arith)

  found : (u : Task) → Contains five u → (p : ℕ) × IsAt bad_steps p 1 u
  found u h = (h.0, (h.1, one-statement h.0 h.1, at h.0 h.1 ∙ h.2))
    where
      at : (p : ℕ) → p < 5 → (nth_step bad_steps p).task ≡ slice_index_or five p u
      at zero l = refl
      at (suc zero) l = refl
      at (suc (suc zero)) l = refl
      at (suc (suc (suc zero))) l = refl
      at (suc (suc (suc (suc zero)))) l = refl
      at (suc (suc (suc (suc (suc p))))) l = absurd (omega arith)

  pub bad_fits : FitsJob bad_job 1 bad_steps
  unfolding lu
  bad_fits = record {
    sorted = λ p q less below. let a : (nth_step bad_steps p).statement ≡ 1 = one-statement p (omega arith) in let b : (nth_step bad_steps q).statement ≡ 1 = one-statement q (omega arith) in omega arith;
    exists = exist;
    all = λ s u below is. let e : s ≡ 0 = omega arith in rw e (listed s u e is);
    once = λ p q s u x y. sym (index-is p x.0) ∙ ap index (x.2 ∙ sym y.2) ∙ index-is q y.0;
    pivots_first = λ p q s u x y. absurd (let k : 0 < rank (nth_step bad_steps p).task.kind = kind-is p x.0 in let e : rank (nth_step bad_steps p).task.kind ≡ 0 = ap (λ (t : Task). rank t.kind) x.2 in omega arith);
    needs_before = λ p q s u v x y need. ordered p q s u v x y need;
  }
    where
      listed : (s : ℕ) (u : Task) → s ≡ 0 → IsTaskOf (operation_of bad_job (statement_of bad_job (suc s))) (counts_of bad_job 1 (suc s)) u → (p : ℕ) × IsAt bad_steps p 1 u
      listed s u e (inl pivots) = absurd (false≢true (rw e at pivots.1))
      listed s u e (inr h) = found u (listed-has lu (2 ∷ []) u (λ f. absurd (cc)) (rw e at h))

      ordered : (p q s : ℕ) (u v : Task) → IsAt bad_steps p s u → IsAt bad_steps q s v → IsTrue (does_need (operation_of bad_job (statement_of bad_job s)) u v) → q < p
      ordered p q s u v x y need =
          let e : s ≡ 1 = sym x.1 ∙ one-statement p x.0 in
          let n : does_need lu u v ≡ true = rw e at need in
          need-earlier p q x.0 y.0 (rw (x.2, y.2) n)
