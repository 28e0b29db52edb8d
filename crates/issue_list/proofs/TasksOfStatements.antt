-- The tasks of a statement in an order, with Pivots before the block tasks: which there are, and which comes behind which. Cited by the laws that
-- a list of steps fits its job, and by the functions that make the steps of a statement.
use Rattle.std.proofs.Common.{◌≡◌, ◌≢◌, ℕ, zero, ◌⊎◌, inl, inr, Bool, true, false, if◌then◌else◌, List, [], ◌∷◌, ◌++◌, All, Contains, refl, sym, subst, arith}
use Rattle.std.specs.Prelude.{AllPairs}
use Rattle.std.proofs.lemmas.Bool.{and_parts, both_ways, false≢true}
use Rattle.std.proofs.lemmas.List.Elements.{All-append, All-cons, All-contains_itself, All-nil, All-weaker, Contains-append_left, Contains-append_right}
use Rattle.operation_spec.specs.declared.operation.Operation.{Operation}
use Rattle.operation_spec.specs.declared.task.Task.{Task}
use Rattle.operation_spec.specs.ValidOperations.{IsValid}
use Rattle.task_graph.specs.Needs.{does_need}
use Rattle.task_graph.specs.Order.{is_earlier, tasks_of}
use Rattle.task_graph.specs.Tasks.{has, is_work_block}
use Rattle.task_graph.proofs.EarlierTasks.{is_earlier-same, is_earlier-trans}
use Rattle.task_graph.proofs.NeedsFirst.{does_need-earlier}
use Rattle.task_graph.proofs.TasksExist.{has-listed, listed-has}
use Rattle.task_graph.proofs.TasksSorted.{AllPairs-append, tasks_of-sorted}
use Rattle.task_graph.proofs.ValidFactors.{AreTriangular-valid, lower-valid}
use Rattle.step_replays.specs.Accesses.{has_pivots}
use Rattle.step_replays.specs.Fits.{IsTaskOf}
use Rattle.step_replays.specs.Replays.{pivots_task}
use Rattle.issue_list.specs.CanonicalSteps.{pivots_tasks}

-- task v comes behind u by an order of block tasks, where Pivots is the first
abbrev pub IsBehind : (Task → Task → Type 0) → Task → Task → Type 0
IsBehind R u v = (v ≢ pivots_task) × ((u ≡ pivots_task) ⊎ R u v)

-- a list has each task of an operation, in an order by which no task comes before one that it needs
pub record IsListing (op : Operation) (counts : List ℕ) (listed : List Task) (R : Task → Task → Type 0) : Type 0 where
  pub own : All (IsTaskOf op counts) listed
  pub all : (u : Task) → IsTaskOf op counts u → Contains listed u
  pub pairs : AllPairs (IsBehind R) listed
  pub other : (u : Task) → R u u → ⊥
  pub needs : (u v : Task) → has op counts u ≡ true → has op counts v ≡ true → does_need op u v ≡ true → R u v → ⊥

-- Pivots is no block task
no-pivots : (op : Operation) (counts : List ℕ) (u : Task) → has op counts u ≡ true → u ≢ pivots_task
no-pivots op counts u h e =
    let p : has op counts pivots_task ≡ true = subst (λ (t : Task). has op counts t ≡ true) e h in
    false≢true (and_parts (is_work_block op counts 0 0) false p).1

-- ---- block tasks, and Pivots before them

module _ (op : Operation) (counts : List ℕ) (tasks : List Task) (own : All (λ u. has op counts u ≡ true) tasks) where
  abbrev listed : List Task
  listed = pivots_tasks op ++ tasks

  -- each is a task of the operation
  pub All-listed : All (IsTaskOf op counts) listed
  All-listed = All-append (IsTaskOf op counts) (pivots_tasks op) tasks (first (has_pivots op) refl)
      (All-weaker (λ u. has op counts u ≡ true) (IsTaskOf op counts) (λ u h. inr h) tasks own)
    where
      first : (b : Bool) → has_pivots op ≡ b → All (IsTaskOf op counts) (if b then pivots_task ∷ [] else [])
      first true e = All-cons (IsTaskOf op counts) pivots_task [] (inl (refl, e)) (All-nil (IsTaskOf op counts))
      first false e = All-nil (IsTaskOf op counts)

  -- and each task of the operation is there
  Contains-listed : ((u : Task) → has op counts u ≡ true → Contains tasks u) → (u : Task) → IsTaskOf op counts u → Contains listed u
  Contains-listed all u (inl (e, tested)) = Contains-append_left (pivots_tasks op) tasks u (first (has_pivots op) tested)
    where
      first : (b : Bool) → b ≡ true → Contains (if b then pivots_task ∷ [] else []) u
      first true h = (zero, omega arith, sym e)
      first false h = absurd (false≢true h)
  Contains-listed all u (inr h) = Contains-append_right (pivots_tasks op) tasks u (all u h)

  -- each comes behind those before it
  AllPairs-listed : (R : Task → Task → Type 0) → AllPairs R tasks → AllPairs (IsBehind R) listed
  AllPairs-listed R pairs = AllPairs-append (IsBehind R) (λ u. u ≡ pivots_task) (λ u. has op counts u ≡ true) (pivots_tasks op) tasks
      (alone (has_pivots op)) (λ i j d before below. (no-pivots op counts _ (own j d below), inr (pairs i j d before below)))
      (first (has_pivots op)) own (λ u v e h. (no-pivots op counts v h, inl e))
    where
      alone : (b : Bool) → AllPairs (IsBehind R) (if b then pivots_task ∷ [] else [])
      alone true i j d before below = absurd (omega arith)
      alone false i j d before below = absurd (omega arith)

      first : (b : Bool) → All (λ u. u ≡ pivots_task) (if b then pivots_task ∷ [] else [])
      first true = All-cons (λ u. u ≡ pivots_task) pivots_task [] refl (All-nil (λ u. u ≡ pivots_task))
      first false = All-nil (λ u. u ≡ pivots_task)

  pub listing : (R : Task → Task → Type 0) → ((u : Task) → has op counts u ≡ true → Contains tasks u) → AllPairs R tasks → ((u : Task) → R u u → ⊥)
      → ((u v : Task) → has op counts u ≡ true → has op counts v ≡ true → does_need op u v ≡ true → R u v → ⊥) → IsListing op counts listed R
  listing R all pairs other needs = record { own = All-listed; all = Contains-listed all; pairs = AllPairs-listed R pairs; other = other; needs = needs }

-- ---- what an order says

module _ (op : Operation) (counts : List ℕ) (listed : List Task) (R : Task → Task → Type 0) (is : IsListing op counts listed R) where
  pub not-behind_itself : (u : Task) → IsBehind R u u → ⊥
  not-behind_itself u (other, inl e) = other e
  not-behind_itself u (other, inr h) = is.other u h

  pub needed-not_behind : (u v : Task) → IsTaskOf op counts u → IsTaskOf op counts v → does_need op u v ≡ true → IsBehind R u v → ⊥
  needed-not_behind u v (inl (e, tested)) there need behind = false≢true (subst (λ (t : Task). does_need op t v ≡ true) e need)
  needed-not_behind u v (inr hu) (inl (e, tested)) need behind = behind.0 e
  needed-not_behind u v (inr hu) (inr hv) need (other, inl e) = no-pivots op counts u hu e
  needed-not_behind u v (inr hu) (inr hv) need (other, inr h) = is.needs u v hu hv need h

-- a task of a valid operation doesn't need itself
pub needs-other : (op : Operation) (counts : List ℕ) → IsValid op → (u v : Task) → IsTaskOf op counts u → does_need op u v ≡ true → u ≢ v
needs-other op counts valid u v (inl (e, tested)) need same = false≢true (subst (λ (t : Task). does_need op t v ≡ true) e need)
needs-other op counts valid u v (inr h) need same =
    both_ways (is_earlier op u u) (is_earlier-same op u)
    (subst (λ (t : Task). is_earlier op t u ≡ true) (sym same) (does_need-earlier op counts u v (AreTriangular-valid op valid) h need))

-- ---- the canonical order

abbrev pub IsEarlier : Operation → Task → Task → Type 0
IsEarlier op u v = is_earlier op u v ≡ true

pub All-block_tasks : (op : Operation) (counts : List ℕ) → All (λ u. has op counts u ≡ true) (tasks_of op counts)
All-block_tasks op counts = All-weaker (Contains (tasks_of op counts)) (λ u. has op counts u ≡ true) (λ u there. has-listed op counts u there)
    (tasks_of op counts) (All-contains_itself (tasks_of op counts))

pub earlier-other : (op : Operation) (u : Task) → IsEarlier op u u → ⊥
earlier-other op u h = both_ways (is_earlier op u u) (is_earlier-same op u) h

pub earlier-needs : (op : Operation) (counts : List ℕ) → IsValid op → (u v : Task) → has op counts u ≡ true → does_need op u v ≡ true → IsEarlier op u v → ⊥
earlier-needs op counts valid u v hu need h =
    earlier-other op u (is_earlier-trans op u v u h (does_need-earlier op counts u v (AreTriangular-valid op valid) hu need))

pub canonical-listing : (op : Operation) (counts : List ℕ) → IsValid op → IsListing op counts (pivots_tasks op ++ tasks_of op counts) (IsEarlier op)
canonical-listing op counts valid = listing op counts (tasks_of op counts) (All-block_tasks op counts) (IsEarlier op)
    (λ u h. listed-has op counts u (lower-valid op valid) h) (tasks_of-sorted op counts) (earlier-other op)
    (λ u v hu hv need h. earlier-needs op counts valid u v hu need h)
