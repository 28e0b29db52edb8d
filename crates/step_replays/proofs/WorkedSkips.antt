-- The replay of a job in which two statements fail, one is skipped behind the first, and one runs between them.
use Rattle.std.proofs.Common.{◌≡◌, ℕ, zero, suc, ◌*◌, ◌%◌, ◌<◌, ◌≤◌, List, [], ◌∷◌, map, refl, arith}
use Rattle.std.specs.Prelude.{IsTrue}
use Rattle.std.proofs.lemmas.Bool.{false≢true}
use Rattle.operation_spec.specs.declared.task.Task.{Task}
use Rattle.operation_spec.specs.declared.task.Kind.TheVariants as kinds
use Rattle.operation_spec.proofs.WorkedOperations.{mul, low}
use Rattle.task_graph.specs.Order.{task_of}
use Rattle.equation.specs.declared.job.Job.{Job}
use Rattle.equation.specs.declared.job.Statement.{Statement}
use Rattle.equation.specs.Pivots.{IsFirstOnDiagonal}
use Rattle.dependence_queue.specs.Conflicts.{conflicts}
use Rattle.step_replays.specs.declared.step.Step.{Step}
use Rattle.step_replays.specs.Accesses.{access_of}
use Rattle.step_replays.specs.Replays.{StepResult, Ran, Skipped, Failed, IsFailure, IsReplay, IsResult, IsStop, nth_access, nth_result, nth_step, value}
use Rattle.step_replays.proofs.WorkedReplays.{one, one_value, place}

abbrev statement : ℕ → ℕ → List ℕ → Statement
statement operation work knowns = record { operation = operation; bind = record { work = work; knowns = knowns } }

-- modulo 7, blocks of one entry: A * X = B with A 0, which has no inverse; C + D * E; D + B * E, which reads what the first didn't leave;
-- and A * X = F
abbrev job : Job
job = record {
  modulus = 7;
  operations = low ∷ mul ∷ [];
  names = [];
  matrices = one 0 ∷ one 1 ∷ one 2 ∷ one 3 ∷ one 4 ∷ one 5 ∷ [];
  statements = statement 0 1 (0 ∷ []) ∷ statement 1 2 (3 ∷ 4 ∷ []) ∷ statement 1 3 (1 ∷ 4 ∷ []) ∷ statement 0 5 (0 ∷ []) ∷ [];
  prints = [];
}

abbrev step : ℕ → Task → Step
step s task = record { statement = s; task = task; access = access_of job 1 s task }

abbrev pivots : Task
pivots = task_of kinds.Pivots 0 0 0 0

abbrev solve : Task
solve = task_of kinds.Solve 0 0 0 0

abbrev product : Task
product = task_of kinds.Term 1 0 0 0

abbrev steps : List Step
steps = step 1 pivots ∷ step 1 solve ∷ step 2 product ∷ step 3 product ∷ step 4 pivots ∷ step 4 solve ∷ []

abbrev results : List StepResult
results = Failed (place 0 0) ∷ Skipped ∷ Ran (one 0) ∷ Skipped ∷ Failed (place 0 0) ∷ Skipped ∷ []

-- the two lists come behind the six blocks
accesses : map (λ (s : Step). s.access) steps ≡ record { write = 6; reads = 0 ∷ [] } ∷ record { write = 1; reads = 0 ∷ 6 ∷ [] } ∷ record { write = 2; reads = 3 ∷ 4 ∷ [] }
    ∷ record { write = 3; reads = 1 ∷ 4 ∷ [] } ∷ record { write = 7; reads = 0 ∷ [] } ∷ record { write = 5; reads = 0 ∷ 7 ∷ [] } ∷ []
unfolding low mul
accesses = refl

-- the blocks that were to be written are as they were, but for C
values : map (λ x. value job 1 steps results x 1) (1 ∷ 2 ∷ 3 ∷ 5 ∷ []) ≡ one 1 ∷ one 0 ∷ one 3 ∷ one 5 ∷ []
unfolding low mul
values = refl

AreApart : ℕ → ℕ → Type 0
AreApart q s = IsStop (nth_result results q) → IsTrue (conflicts (nth_access steps q) (nth_access steps s)) → ⊥

-- no step that failed or was skipped conflicts with the third, or the fifth
third : (q : ℕ) → q < 2 → AreApart q 2
unfolding low mul AreApart
third zero l stop conflict = false≢true conflict
third (suc zero) l stop conflict = false≢true conflict
third (suc (suc q)) l stop conflict = absurd (omega arith)

fifth : (q : ℕ) → q < 4 → AreApart q 4
unfolding low mul AreApart
fifth zero l stop conflict = false≢true conflict
fifth (suc zero) l stop conflict = false≢true conflict
fifth (suc (suc zero)) l stop conflict = stop
fifth (suc (suc (suc zero))) l stop conflict = false≢true conflict
fifth (suc (suc (suc (suc q)))) l stop conflict = absurd (omega arith)

-- 0 has no inverse
no_inverse : (pivot : ℕ → ℕ) → pivot 0 ≡ 0 → IsFirstOnDiagonal 7 1 pivot (place 0 0)
no_inverse pivot is = record {
  diagonal = refl;
  within = omega arith;
  bad = λ unit. let e : (pivot 0 * unit.0) % 7 ≡ 1 = unit.2 in let f : (0 * unit.0) % 7 ≡ 1 = rw is at e in omega arith;
  first = λ i less. absurd (omega arith);
}

each : (s : ℕ) → s < 6 → IsResult job 1 steps results s (nth_result results s)
unfolding low mul AreApart
each zero l = (λ h. absurd (omega (arith, h.1)), no_inverse _ refl)
each (suc zero) l = (0, omega arith, tt, refl)
each (suc (suc zero)) l = (λ h. third h.0 h.1 h.2 h.3, λ p h. h, one_value _ _ 2 0 (omega arith) refl)
each (suc (suc (suc zero))) l = (1, omega arith, tt, refl)
each (suc (suc (suc (suc zero)))) l = (λ h. fifth h.0 h.1 h.2 h.3, no_inverse _ refl)
each (suc (suc (suc (suc (suc zero))))) l = (4, omega arith, tt, refl)
each (suc (suc (suc (suc (suc (suc s)))))) l = absurd (omega arith)

replay : IsReplay job 1 steps results
replay = record { count = refl; each = each }

from_one : (s : ℕ) → s < 6 → 1 ≤ (nth_step steps s).statement
from_one zero l = omega arith
from_one (suc zero) l = omega arith
from_one (suc (suc zero)) l = omega arith
from_one (suc (suc (suc zero))) l = omega arith
from_one (suc (suc (suc (suc zero)))) l = omega arith
from_one (suc (suc (suc (suc (suc zero))))) l = omega arith
from_one (suc (suc (suc (suc (suc (suc s)))))) l = absurd (omega arith)

-- the first statement is the one that fails, and not the last
failure : IsFailure steps results 1 (place 0 0)
failure = record {
  step = 0;
  within = omega arith;
  failed = refl;
  of = refl;
  least = λ s other below failed. from_one s below;
}

not_the_last : IsFailure steps results 4 (place 0 0) → ⊥
not_the_last h = let e : 4 ≤ 1 = h.least 0 (place 0 0) (omega arith) refl in omega arith
