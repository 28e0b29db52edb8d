-- How many steps by variants there are: as many as in canonical order. Cited by the law that says so.
use Rattle.std.proofs.Common.{◌≡◌, ℕ, zero, suc, ◌+◌, ◌<◌, ◌≤◌, Bool, true, false, cond, ◌&&◌, not, Option, List, [], ◌∷◌, ◌++◌, length, map, All, refl, sym, ap, ◌∙◌, subst, arith, length-append}
use Rattle.std.specs.List.{filter, flat_map, range_with_len}
use Rattle.std.proofs.lemmas.Bool.{false≢true}
use Rattle.std.proofs.lemmas.List.{flat_map_more, length-map}
use Rattle.std.proofs.lemmas.List.Elements.{All-head, All-tail, All-weaker}
use Rattle.operation_spec.specs.declared.operation.Operation.{Operation}
use Rattle.operation_spec.specs.declared.task.Task.{Task}
use Rattle.operation_spec.specs.ValidOperations.{IsValid}
use Rattle.task_graph.specs.Order.{tasks_of}
use Rattle.task_graph.specs.Tasks.{has}
use Rattle.invariant_family.specs.declared.variant.Variant.{Variant}
use Rattle.equation.specs.declared.job.Job.{Job}
use Rattle.equation.specs.Jobs.{IsJob}
use Rattle.step_replays.specs.declared.step.Step.{Step}
use Rattle.step_replays.specs.Fits.{counts_of}
use Rattle.issue_list.specs.CanonicalSteps.{canonical_steps, pivots_tasks, statement_steps, statement_tasks, step_of}
use Rattle.issue_list.specs.IssuedSteps.{HaveVariants, is_done, issued_statement_steps, issued_steps, issued_tasks, iterations, number_for, tasks_by, tasks_in, variant_of}
use Rattle.issue_list.proofs.IssuedTasks.{variant-found}
use Rattle.issue_list.proofs.LoopsDone.{IsVariant, done-all, done-next, done-none}
use Rattle.issue_list.proofs.NumbersInOrder.{numbers-within, range-more}
use Rattle.issue_list.proofs.StepsInOrder.{op_of, valid-of}
use Rattle.issue_list.proofs.TasksOfStatements.{All-block_tasks}

-- ---- tests of the items of a list

-- what passes a wider test passes the narrower one, or the wider one alone
pub filter-wider : {X : Type 0} (p q : X → Bool) (xs : List X) → All (λ x. p x ≡ true → q x ≡ true) xs
    → length (filter q xs) ≡ length (filter p xs) + length (filter (λ x. not (p x) && q x) xs)
filter-wider p q [] wider = refl
filter-wider {X} p q (x ∷ xs) wider =
    go (p x) (q x) (All-head (λ x. p x ≡ true → q x ≡ true) x xs wider) (filter q xs) (filter p xs) (filter (λ y. not (p y) && q y) xs) (filter-wider p q xs (All-tail (λ x. p x ≡ true → q x ≡ true) x xs wider))
  where
    go : (a b : Bool) → (a ≡ true → b ≡ true) → (fs gs hs : List X) → length fs ≡ length gs + length hs
        → length (cond b (x ∷ fs) fs) ≡ length (cond a (x ∷ gs) gs) + length (cond (not a && b) (x ∷ hs) hs)
    go true true h fs gs hs e = omega (arith, e)
    go true false h fs gs hs e = absurd (false≢true (h refl))
    go false true h fs gs hs e = omega (arith, e)
    go false false h fs gs hs e = e

pub filter-none : {X : Type 0} (p : X → Bool) (xs : List X) → All (λ x. p x ≡ false) xs → length (filter p xs) ≡ 0
filter-none p [] none = refl
filter-none p (x ∷ xs) none = rw (All-head (λ x. p x ≡ false) x xs none) (filter-none p xs (All-tail (λ x. p x ≡ false) x xs none))

pub filter-all : {X : Type 0} (p : X → Bool) (xs : List X) → All (λ x. p x ≡ true) xs → length (filter p xs) ≡ length xs
filter-all p [] all = refl
filter-all p (x ∷ xs) all = rw (All-head (λ x. p x ≡ true) x xs all) (ap (λ n. suc n) (filter-all p xs (All-tail (λ x. p x ≡ true) x xs all)))

-- ---- one statement

module _ (op : Operation) (counts : List ℕ) (valid : IsValid op) (v : Variant) (is : IsVariant op v) where
  abbrev done : ℕ → Task → Bool
  done t u = is_done op counts v t u

  abbrev tasks : List Task
  tasks = tasks_of op counts

  each : (P : Task → Type 0) → ((u : Task) → has op counts u ≡ true → P u) → All P tasks
  each P h = All-weaker (λ u. has op counts u ≡ true) P h tasks (All-block_tasks op counts)

  -- the first iterations do what is done behind them
  so_far : (n : ℕ) → length (flat_map (tasks_in op counts v) (range_with_len 0 n)) ≡ length (filter (done n) tasks)
  so_far zero = sym (filter-none (done 0) tasks (each (λ u. done 0 u ≡ false) (done-none op valid counts v is)))
  so_far (suc n) =
      let more : range_with_len 0 (n + 1) ≡ range_with_len 0 n ++ n ∷ [] = range-more 0 n n (omega arith) in
      let next : n + 1 ≡ suc n = omega arith in
      let e : length (flat_map (tasks_in op counts v) (range_with_len 0 (n + 1))) ≡ length (filter (done (n + 1)) tasks) =
      ap (λ (ns : List ℕ). length (flat_map (tasks_in op counts v) ns)) more
      ∙ ap (λ (us : List Task). length us) (sym (flat_map_more (tasks_in op counts v) [] (range_with_len 0 n) n))
      ∙ length-append (flat_map (tasks_in op counts v) (range_with_len 0 n)) (tasks_in op counts v n)
      ∙ ap (λ (k : ℕ). k + length (tasks_in op counts v n)) (so_far n)
      ∙ sym (filter-wider (done n) (done (n + 1)) tasks (each (λ u. done n u ≡ true → done (n + 1) u ≡ true) (λ u h kept. done-next op valid counts v is n u h kept))) in
      subst (λ (m : ℕ). length (flat_map (tasks_in op counts v) (range_with_len 0 m)) ≡ length (filter (done m) tasks)) next e

  pub length-issued_tasks : length (issued_tasks op counts v) ≡ length (pivots_tasks op ++ tasks)
  length-issued_tasks =
      length-append (pivots_tasks op) (flat_map (tasks_in op counts v) (range_with_len 0 (iterations counts v.split)))
      ∙ ap (λ (k : ℕ). length (pivots_tasks op) + k) (so_far (iterations counts v.split)
      ∙ filter-all (done (iterations counts v.split)) tasks
      (each (λ u. done (iterations counts v.split) u ≡ true) (λ u h. done-all op valid counts v is (iterations counts v.split) u (omega arith) h)))
      ∙ sym (length-append (pivots_tasks op) tasks)

  -- more than a limit, where the block tasks alone are
  pub issued-many : (limit : ℕ) → limit < length tasks → limit < length (issued_tasks op counts v)
  issued-many limit many = omega (arith, many, length-issued_tasks, length-append (pivots_tasks op) tasks)

-- ---- all statements

-- lists that are as long are so when they are joined
length-joined : (f g : ℕ → List Step) (ns : List ℕ) → All (λ s. length (f s) ≡ length (g s)) ns → length (flat_map f ns) ≡ length (flat_map g ns)
length-joined f g [] same = refl
length-joined f g (n ∷ ns) same =
    let first = All-head (λ s. length (f s) ≡ length (g s)) n ns same in
    let rest = length-joined f g ns (All-tail (λ s. length (f s) ≡ length (g s)) n ns same) in
    omega (arith, first, rest, length-append (f n) (flat_map f ns), length-append (g n) (flat_map g ns))

pub issued-counted : (job : Job) (b : ℕ) (numbers : List ℕ) → IsJob job → HaveVariants job numbers → length (issued_steps job b numbers) ≡ length (canonical_steps job b)
unfolding canonical_steps statement_steps issued_steps issued_statement_steps
issued-counted job b numbers is have = length-joined (λ s. map (step_of job b s) (tasks_by (op_of job s) (counts_of job b s) (found s))) (λ s. map (step_of job b s) (statement_tasks job b s))
    (range_with_len 1 (length job.statements))
    (All-weaker (λ s. (1 ≤ s) × (s ≤ length job.statements)) (λ s. length (map (step_of job b s) (tasks_by (op_of job s) (counts_of job b s) (found s))) ≡ length (map (step_of job b s) (statement_tasks job b s)))
    (λ s within. own s within.0 within.1) (range_with_len 1 (length job.statements)) (numbers-within (length job.statements)))
  where
    found : ℕ → Option Variant
    found s = variant_of job s (number_for numbers s)

    own : (s : ℕ) → 1 ≤ s → s ≤ length job.statements → length (map (step_of job b s) (tasks_by (op_of job s) (counts_of job b s) (found s))) ≡ length (map (step_of job b s) (statement_tasks job b s))
    own s from within =
        let v = have s from within in
        length-map (tasks_by (op_of job s) (counts_of job b s) (found s)) (step_of job b s)
        ∙ ap (λ (w : Option Variant). length (tasks_by (op_of job s) (counts_of job b s) w)) v.1
        ∙ length-issued_tasks (op_of job s) (counts_of job b s) (valid-of job is s from within) v.0 (variant-found (op_of job s) (number_for numbers s) v.0 v.1)
        ∙ sym (length-map (statement_tasks job b s) (step_of job b s))
