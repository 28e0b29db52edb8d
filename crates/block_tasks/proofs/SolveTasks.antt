-- The solve of a block, and what a task depends on. Cited by the sums of all forms and by the runs of a statement.
use Rattle.std.proofs.Common.{◌≡◌, ◌≢◌, ℕ, zero, suc, ◌+◌, ◌*◌, ◌/◌, ◌%◌, ◌<◌, ◌≤◌, ◌⊎◌, inl, inr, Bool, true, false, not, if◌then◌else◌, List, refl, sym, ◌∙◌, ap, subst, arith}
use Rattle.std.specs.Prelude.{◌==◌, ◌&&◌, ◌||◌, nat_lt}
use Rattle.std.proofs.lemmas.Bool.{cases_Bool, cases_eq, cases_lt, and_parts, or_cases, eqb-true, false≢true}
use Rattle.std.proofs.lemmas.Bool.Decides.{nat_tests}
use Rattle.operation_spec.specs.declared.operation.Operation.{Operation}
use Rattle.operation_spec.specs.declared.operation.Form.{Form}
use Rattle.operation_spec.specs.declared.operation.Form.TheVariants.{Assign, Left, Right, Sylvester, Lu, Ldl}
use Rattle.operation_spec.specs.declared.task.Kind.{Kind}
use Rattle.operation_spec.specs.declared.task.Kind.TheVariants as kinds
use Rattle.operation_spec.specs.declared.task.Task.{Task}
use Rattle.task_graph.specs.Tasks.{has, has_task, has_solve, is_work_block, parts_of}
use Rattle.task_graph.specs.Needs.{is_solve, does_need, needs_by, left_needs, right_needs, solve_needs}
use Rattle.task_graph.specs.Order.{task_of}
use Rattle.task_sums.specs.SharedSums.{Tasks}
use Rattle.block_tasks.proofs.TaskTests.{is_task, is_task-self, is_task-or}

abbrev pub solve_of : ℕ → ℕ → Task
solve_of i j = task_of kinds.Solve 0 i j 0

abbrev pub IsSolveTask : Task → Type 0
IsSolveTask u = is_solve u.kind ≡ true

-- a task's products depend on block (i, j) of W: it needs its solve, or is its solve
abbrev pub DependsOn : Operation → Task → ℕ → ℕ → Type 0
DependsOn op u i j = (IsSolveTask u × (u.i ≡ i) × (u.j ≡ j)) ⊎ (does_need op u (solve_of i j) ≡ true)

-- ---- tasks that are needed

-- where a solve is needed there are solves
pub solve-needed : (op : Operation) (u : Task) (i j : ℕ) → does_need op u (solve_of i j) ≡ true → has_solve op.form ≡ true
solve-needed op u i j h = go op.form u.kind h
  where
    go : (form : Form) (kind : Kind) → needs_by form kind u.i u.j u.k (solve_of i j) ≡ true → has_solve form ≡ true
    go (Left t) kind h = refl
    go (Right t) kind h = refl
    go (Sylvester t s negative) kind h = refl
    go Lu kind h = refl
    go Ldl kind h = refl
    go Assign kinds.Pivots h = absurd (false≢true h)
    go Assign kinds.Term h = absurd (false≢true h)
    go Assign kinds.Left h = absurd (false≢true h)
    go Assign kinds.Right h = absurd (false≢true h)
    go Assign kinds.Solve h = absurd (false≢true h)

-- a solve needs each other task of its block
pub solve-needs : (op : Operation) (u v : Task) → IsSolveTask u → is_solve v.kind ≡ false → v.i ≡ u.i → v.j ≡ u.j → does_need op u v ≡ true
solve-needs op u v solve other row col = go u.kind solve
  where
    go : (kind : Kind) → is_solve kind ≡ true → needs_by op.form kind u.i u.j u.k v ≡ true
    go kinds.Pivots h = absurd (false≢true h)
    go kinds.Term h = absurd (false≢true h)
    go kinds.Left h = absurd (false≢true h)
    go kinds.Right h = absurd (false≢true h)
    go kinds.Solve h = rw (other, row, col) (let e : (u.i == u.i) ≡ true = grind (arith, nat_tests) in let f : (u.j == u.j) ≡ true = grind (arith, nat_tests) in rw (e, f) refl)

-- the solve of a block where there is another task
pub has-solve : (op : Operation) (counts : List ℕ) (u : Task) → has op counts u ≡ true → has_solve op.form ≡ true → has op counts (solve_of u.i u.j) ≡ true
has-solve op counts u h solve = let p = and_parts (is_work_block op counts u.i u.j) (has_task op counts u.kind u.term u.i u.j u.k) h in rw (p.0, solve) refl

-- the one solve of a block
pub solve-is : (op : Operation) (counts : List ℕ) (u : Task) → has op counts u ≡ true → IsSolveTask u → u ≡ solve_of u.i u.j
solve-is op counts u h solve =
    let p = and_parts (is_work_block op counts u.i u.j) (has_task op counts u.kind u.term u.i u.j u.k) h in go u.kind refl solve p.1
  where
    go : (kind : Kind) → u.kind ≡ kind → is_solve kind ≡ true → has_task op counts kind u.term u.i u.j u.k ≡ true → u ≡ solve_of u.i u.j
    go kinds.Pivots e h t = absurd (false≢true h)
    go kinds.Term e h t = absurd (false≢true h)
    go kinds.Left e h t = absurd (false≢true h)
    go kinds.Right e h t = absurd (false≢true h)
    go kinds.Solve e h t =
        let p = and_parts (u.term == 0 && u.k == 0) (has_solve op.form) t in
        let q = and_parts (u.term == 0) (u.k == 0) p.0 in
        let term : u.term ≡ 0 = eqb-true u.term 0 q.0 in
        let inner : u.k ≡ 0 = eqb-true u.k 0 q.1 in
        λ x. record { kind = e x; term = term x; i = u.i; j = u.j; k = inner x }

-- ---- the block tasks of an operation, for sums and runs

abbrev pub operation_tasks : Operation → List ℕ → Tasks
operation_tasks op counts = record {
  Task = Task;
  row = λ u. u.i;
  col = λ u. u.j;
  Exists = λ u. has op counts u ≡ true;
  IsSolve = IsSolveTask;
  Reads = DependsOn op;
  is = is_task;
  is_self = is_task-self;
  is_or = is_task-or;
}
