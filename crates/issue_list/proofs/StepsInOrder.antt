-- Lists of steps fit their job, where the list of each statement has its tasks in an order that its needs keep. Cited by the laws that say so of
-- the canonical list and of those by variants.
use Rattle.std.proofs.Common.{◌≡◌, ℕ, suc, ◌+◌, ◌-◌, ◌<◌, ◌≤◌, ◌⊎◌, inl, inr, List, length, map, All, Contains, true, refl, sym, ◌∙◌, ap, subst, arith}
use Rattle.std.specs.Prelude.{AllPairs}
use Rattle.std.specs.List.{flat_map, range_with_len}
use Rattle.std.proofs.lemmas.Bool.{cases_lt}
use Rattle.std.proofs.lemmas.List.{get_or_default}
use Rattle.std.proofs.lemmas.List.Elements.{All-map, All-weaker}
use Rattle.operation_spec.specs.declared.operation.Operation.{Operation}
use Rattle.operation_spec.specs.declared.task.Task.{Task}
use Rattle.operation_spec.specs.ValidOperations.{IsValid}
use Rattle.task_graph.specs.Needs.{does_need}
use Rattle.invariant_family.proofs.FlatMaps.{All-flat_map, AllPairs-flat_map, AllPairs-map, Contains-flat_map, Contains-map}
use Rattle.equation.specs.declared.job.Job.{Job}
use Rattle.equation.specs.Jobs.{IsJob}
use Rattle.step_replays.specs.declared.step.Step.{Step}
use Rattle.step_replays.specs.Accesses.{access_of, operation_of, statement_of}
use Rattle.step_replays.specs.Fits.{FitsJob, IsAt, IsTaskOf, counts_of}
use Rattle.step_replays.specs.Replays.{no_step, nth_step, pivots_task}
use Rattle.step_replays.proofs.StatementCuts.{operation-valid}
use Rattle.issue_list.specs.CanonicalSteps.{canonical_steps, statement_steps, statement_tasks, step_of}
use Rattle.issue_list.proofs.NumbersInOrder.{number-found, numbers-sorted, numbers-within}
use Rattle.issue_list.proofs.TasksOfStatements.{IsBehind, IsEarlier, IsListing, canonical-listing, needed-not_behind, needs-other, not-behind_itself}

abbrev pub op_of : Job → ℕ → Operation
op_of job s = operation_of job (statement_of job s)

pub valid-of : (job : Job) → IsJob job → (s : ℕ) → 1 ≤ s → s ≤ length job.statements → IsValid (op_of job s)
valid-of job is s from within =
    let before : s - 1 < length job.statements = omega arith in
    let same : suc (s - 1) ≡ s = omega arith in
    subst (λ (n : ℕ). IsValid (op_of job n)) same (operation-valid job is (s - 1) before)

module _ (job : Job) (b : ℕ) (listed : ℕ → List Task) (R : ℕ → Task → Task → Type 0) (is : IsJob job)
    (fit : (s : ℕ) → 1 ≤ s → s ≤ length job.statements → IsListing (op_of job s) (counts_of job b s) (listed s) (R s)) where
  abbrev op_at : ℕ → Operation
  op_at s = op_of job s

  abbrev count : ℕ
  count = length job.statements

  abbrev steps_at : ℕ → List Step
  steps_at s = map (step_of job b s) (listed s)

  -- step x comes before y: its statement does, or its task within their statement
  abbrev IsBefore : Step → Step → Type 0
  IsBefore x y = (x.statement < y.statement) ⊎ ((x.statement ≡ y.statement) × IsBehind (R x.statement) x.task y.task)

  -- a step has a task of its statement, with its accesses
  abbrev IsStep : Step → Type 0
  IsStep x = ((s : ℕ) × (x.statement ≡ suc s) × (s < count))
      × IsTaskOf (op_at x.statement) (counts_of job b x.statement) x.task
      × (x.access ≡ access_of job b x.statement x.task)

  -- ---- the steps of a statement

  All-own : (s : ℕ) → All (λ x. x.statement ≡ s) (steps_at s)
  All-own s = All-map (λ (x : Step). x.statement ≡ s) (step_of job b s) (listed s) (λ k d below. refl)

  All-steps : (s : ℕ) → (1 ≤ s) × (s ≤ count) → All IsStep (steps_at s)
  All-steps s within = All-map IsStep (step_of job b s) (listed s)
      (λ k d below. ((s - 1, omega arith, omega arith), (fit s within.0 within.1).own k d below, refl))

  AllPairs-steps : (s : ℕ) → (1 ≤ s) × (s ≤ count) → AllPairs IsBefore (steps_at s)
  AllPairs-steps s within = AllPairs-map IsBefore (step_of job b s) (listed s)
      (λ i j d before below. inr (refl, (fit s within.0 within.1).pairs i j d before below))

  -- ---- all steps

  abbrev steps : List Step
  steps = flat_map steps_at (range_with_len 1 count)

  each : All IsStep steps
  each = All-flat_map IsStep steps_at (range_with_len 1 count)
      (All-weaker (λ s. (1 ≤ s) × (s ≤ count)) (λ s. All IsStep (steps_at s)) All-steps (range_with_len 1 count) (numbers-within count))

  pairs : AllPairs IsBefore steps
  pairs = AllPairs-flat_map IsBefore steps_at (λ s x. x.statement ≡ s) (λ s t. s < t)
      (λ s t x y before own other. inl (omega (arith, own, other))) (range_with_len 1 count)
      (λ k d below. All-own _)
      (All-weaker (λ s. (1 ≤ s) × (s ≤ count)) (λ s. AllPairs IsBefore (steps_at s)) AllPairs-steps (range_with_len 1 count) (numbers-within count))
      (numbers-sorted 1 count)

  found : (t : ℕ) (u : Task) → t < count → IsTaskOf (op_at (suc t)) (counts_of job b (suc t)) u → Contains steps (step_of job b (suc t) u)
  found t u below own =
      let number : 1 + t ≡ suc t = omega arith in
      Contains-flat_map steps_at (range_with_len 1 count) (suc t) (step_of job b (suc t) u) (subst (Contains (range_with_len 1 count)) number (number-found 1 count t below))
      (Contains-map (step_of job b (suc t)) (listed (suc t)) u ((fit (suc t) (omega arith) (omega arith)).all u own))

  -- ---- two places of the list

  moved : (x y : Step) (s : ℕ) (u v : Task) → x.statement ≡ s → x.task ≡ u → y.statement ≡ s → y.task ≡ v → IsBefore x y → IsBehind (R s) u v
  moved x y s u v first own second other (inl less) = absurd (omega (arith, first, second, less))
  moved x y s u v first own second other (inr (same, behind)) =
      subst (λ (n : ℕ). IsBehind (R n) u v) first
      (subst (λ (t : Task). IsBehind (R x.statement) t v) own (subst (λ (t : Task). IsBehind (R x.statement) x.task t) other behind))

  behind : (p q s : ℕ) (u v : Task) → p < q → IsAt steps p s u → IsAt steps q s v → IsBehind (R s) u v
  behind p q s u v before at_p at_q = moved (nth_step steps p) (nth_step steps q) s u v at_p.1 at_p.2 at_q.1 at_q.2 (pairs p q no_step before at_q.0)

  ordered : (x y : Step) → IsBefore x y → x.statement ≤ y.statement
  ordered x y (inl less) = omega arith
  ordered x y (inr (same, behind)) = omega arith

  -- the task at a place is one of its statement, which is one of the job
  own-task : (p s : ℕ) (u : Task) → IsAt steps p s u → IsTaskOf (op_at s) (counts_of job b s) u
  own-task p s u at_p =
      subst (λ (n : ℕ). IsTaskOf (op_at n) (counts_of job b n) u) at_p.1
      (subst (IsTaskOf (op_at (nth_step steps p).statement) (counts_of job b (nth_step steps p).statement)) at_p.2 (each p no_step at_p.0).1)

  -- whose number is one of the statements'
  stands-at : (p s : ℕ) (u : Task) → IsAt steps p s u → (1 ≤ s) × (s ≤ count)
  stands-at p s u at_p = let own = (each p no_step at_p.0).0 in (omega (arith, own.1, at_p.1), omega (arith, own.1, own.2, at_p.1))

  fit-at : (p s : ℕ) (u : Task) → IsAt steps p s u → IsListing (op_at s) (counts_of job b s) (listed s) (R s)
  fit-at p s u at_p = let within = stands-at p s u at_p in fit s within.0 within.1

  valid-at : (p s : ℕ) (u : Task) → IsAt steps p s u → IsValid (op_at s)
  valid-at p s u at_p = let within = stands-at p s u at_p in valid-of job is s within.0 within.1

  not-twice : (p q s : ℕ) (u : Task) → p < q → IsAt steps p s u → IsAt steps q s u → ⊥
  not-twice p q s u before at_p at_q =
      not-behind_itself (op_at s) (counts_of job b s) (listed s) (R s) (fit-at p s u at_p) u (behind p q s u u before at_p at_q)

  -- ---- what fitting says

  at-found : (t : ℕ) (u : Task) → Contains steps (step_of job b (suc t) u) → (p : ℕ) × IsAt steps p (suc t) u
  at-found t u (p, below, at) =
      let e = get_or_default steps p no_step (step_of job b (suc t) u) below ∙ at in
      (p, (below, ap (λ (x : Step). x.statement) e, ap (λ (x : Step). x.task) e))

  one-place : (p q s : ℕ) (u : Task) → IsAt steps p s u → IsAt steps q s u → p ≡ q
  one-place p q s u at_p at_q = elim (cases_lt p q) [
    | inl before ↦ absurd (not-twice p q s u before at_p at_q)
    | inr up_to ↦ elim (cases_lt q p) [
      | inl before ↦ absurd (not-twice q p s u before at_q at_p)
      | inr same ↦ omega arith
    ]
  ]

  pivots-before : (p q s : ℕ) (u : Task) → IsAt steps p s pivots_task → IsAt steps q s u → p ≤ q
  pivots-before p q s u at_p at_q = elim (cases_lt q p) [
    | inl before ↦ absurd ((behind q p s u pivots_task before at_q at_p).0 refl)
    | inr up_to ↦ up_to
  ]

  need-before : (p q s : ℕ) (u v : Task) → IsAt steps p s u → IsAt steps q s v → does_need (op_at s) u v ≡ true → q < p
  need-before p q s u v at_p at_q need =
      let own = own-task p s u at_p in
      elim (cases_lt q p) [
        | inl before ↦ before
        | inr up_to ↦ elim (cases_lt p q) [
          | inl before ↦ absurd (needed-not_behind (op_at s) (counts_of job b s) (listed s) (R s) (fit-at p s u at_p) u v own (own-task q s v at_q) need (behind p q s u v before at_p at_q))
          | inr back ↦ (let same : p ≡ q = omega arith in
              absurd (needs-other (op_at s) (counts_of job b s) (valid-at p s u at_p) u v own need (sym at_p.2 ∙ ap (λ (n : ℕ). (nth_step steps n).task) same ∙ at_q.2)))
        ]
      ]

  pub steps-fit : FitsJob job b steps
  steps-fit = record {
    sorted = λ p q before below. ordered (nth_step steps p) (nth_step steps q) (pairs p q no_step before below);
    exists = λ p below. each p no_step below;
    all = λ t u below own. at-found t u (found t u below own);
    once = one-place;
    pivots_first = pivots-before;
    needs_before = need-before;
  }

-- ---- the canonical list

pub canonical-fits : (job : Job) (b : ℕ) → IsJob job → FitsJob job b (canonical_steps job b)
unfolding canonical_steps statement_steps
canonical-fits job b is = steps-fit job b (statement_tasks job b) (λ s. IsEarlier (op_of job s)) is
    (λ s from within. canonical-listing (op_of job s) (counts_of job b s) (valid-of job is s from within))
