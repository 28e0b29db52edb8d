-- Lists of steps that are made statement by statement, and how long they are. Cited by the loops that make them, and by the law that counts.
use Rattle.std.proofs.Common.{◌≡◌, ℕ, ◌+◌, ◌<◌, ◌≤◌, Bool, true, false, if◌then◌else◌, List, [], ◌∷◌, ◌++◌, length, take, get_or, refl, sym, ◌∙◌, ap, arith}
use Rattle.std.specs.Prelude.{sum_by}
use Rattle.std.specs.List.{flat_map, range_with_len}
use Rattle.std.proofs.lemmas.List.{flat_map_more, length-map, take_all, take_more}
use Rattle.std.proofs.lemmas.List.Concat.{length-flat_map}
use Rattle.std.proofs.lemmas.List.Folds.{length-flat_map-take}
use Rattle.std.proofs.lemmas.List.FromFn.{get_or-range_with_len, length-range_with_len}
use Rattle.operation_spec.specs.declared.task.Task.{Task}
use Rattle.task_graph.specs.Order.{tasks_of}
use Rattle.equation.specs.declared.job.Job.{Job}
use Rattle.step_replays.specs.declared.step.Step.{Step}
use Rattle.step_replays.specs.Accesses.{has_pivots, operation_of, statement_of}
use Rattle.step_replays.specs.Fits.{counts_of}
use Rattle.step_replays.specs.Replays.{pivots_task}
use Rattle.issue_list.specs.CanonicalSteps.{canonical_steps, statement_steps, statement_tasks, step_count, step_of}

-- ---- the parts of statements 1 to n, one behind the other

module _ (f : ℕ → List Step) (n k : ℕ) where
  abbrev numbers : List ℕ
  numbers = range_with_len 1 n

  inside : k < n → k < length numbers
  inside below = omega (arith, length-range_with_len 1 n)

  number : k < n → get_or numbers k 0 ≡ k + 1
  number below = get_or-range_with_len 1 n k 0 below ∙ omega arith

  -- one statement more
  pub listed-more : {so_far more : List Step} → k < n → so_far ≡ flat_map f (take k numbers) → more ≡ so_far ++ f (k + 1) → more ≡ flat_map f (take (k + 1) numbers)
  listed-more {so_far} {more} below listed e =
      e ∙ ap (λ (xs : List Step). xs ++ f (k + 1)) listed
      ∙ flat_map_more f [] (take k numbers) (k + 1)
      ∙ ap (λ (m : ℕ). flat_map f (take k numbers ++ m ∷ [])) (sym (number below))
      ∙ ap (flat_map f) (sym (take_more numbers k 0 (inside below)))

  -- where one statement more is too much, all are
  pub listed-past : {so_far : List Step} (limit : ℕ) → k < n → so_far ≡ flat_map f (take k numbers) → limit < length so_far + length (f (k + 1)) → limit < length (flat_map f numbers)
  listed-past {so_far} limit below listed over =
      omega (arith, over, ap (λ (xs : List Step). length xs) listed, ap (λ (m : ℕ). length (f m)) (number below), length-flat_map-take f numbers k 0 (inside below))

  -- all statements
  pub listed-all : {so_far : List Step} → n ≤ k → so_far ≡ flat_map f (take k numbers) → so_far ≡ flat_map f numbers
  listed-all {so_far} last listed = listed ∙ ap (flat_map f) (take_all k numbers (omega (arith, length-range_with_len 1 n)))

-- ---- how many

pub length-statement_steps : (job : Job) (b s : ℕ) → length (statement_steps job b s) ≡ length (statement_tasks job b s)
unfolding statement_steps
length-statement_steps job b s = length-map (statement_tasks job b s) (step_of job b s)

-- Pivots is one more
with_pivots : (tested : Bool) (tasks : List Task) → length ((if tested then pivots_task ∷ [] else []) ++ tasks) ≡ (if tested then 1 else 0) + length tasks
with_pivots true tasks = omega arith
with_pivots false tasks = omega arith

statement-counted : (job : Job) (b s : ℕ) → length (statement_steps job b s) ≡ step_count job b s
statement-counted job b s = length-statement_steps job b s
    ∙ with_pivots (has_pivots (operation_of job (statement_of job s))) (tasks_of (operation_of job (statement_of job s)) (counts_of job b s))

pub steps-counted : (job : Job) (b : ℕ) → length (canonical_steps job b) ≡ sum_by (step_count job b) (range_with_len 1 (length job.statements))
unfolding canonical_steps
steps-counted job b = length-flat_map (statement_steps job b) (range_with_len 1 (length job.statements))
    ∙ λ z. sum_by (λ s. statement-counted job b s z) (range_with_len 1 (length job.statements))

pub no-steps : (job : Job) (b : ℕ) → length job.statements ≡ 0 → canonical_steps job b ≡ []
unfolding canonical_steps
no-steps job b none = rw none refl
