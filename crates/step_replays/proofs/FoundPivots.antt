-- A step that isn't stopped finds what it divides by: in the pivot list of its statement, or in the factored block of the diagonal. Cited by the law
-- that says so.
use Rattle.std.proofs.Common.{◌≡◌, ℕ, suc, ◌+◌, ◌-◌, ◌*◌, ◌<◌, ◌≤◌, inl, inr, true, false, length, refl, sym, ◌∙◌, ap, subst, arith}
use Rattle.std.proofs.lemmas.Bool.{cases_Bool}
use Rattle.residue_sums.specs.Sums.{part_length}
use Rattle.residue_sums.specs.Grids.{Grid}
use Rattle.residue_sums.proofs.Parts.{index_below}
use Rattle.operation_spec.specs.declared.operation.Operation.{Operation}
use Rattle.operation_spec.specs.declared.operation.Form.{Form}
use Rattle.operation_spec.specs.declared.operation.Form.TheVariants.{Assign, Left, Right, Sylvester, Lu, Ldl}
use Rattle.operation_spec.specs.declared.task.Kind.{Kind}
use Rattle.operation_spec.specs.declared.task.Kind.TheVariants as kinds
use Rattle.operation_spec.specs.declared.task.Task.{Task}
use Rattle.task_graph.specs.Factors.{known}
use Rattle.task_graph.specs.Tasks.{has}
use Rattle.equation.specs.Jobs.{Fits, nth_grid}
use Rattle.flash_blocks.specs.Blocks.{Blocks}
use Rattle.flash_blocks.specs.Flashes.{HasShape}
use Rattle.block_tasks.specs.Effects.{factor_block}
use Rattle.block_tasks.specs.Inverses.{is_unit_triangle, HasRowInverses, HasPairInverses, HasUnits, HasPivots, HasPivotsBy}
use Rattle.step_replays.specs.Accesses.{has_pivots, operation_of, statement_of, pivot_number}
use Rattle.step_replays.specs.Replays.{known_blocks}
use Rattle.step_replays.specs.Fits.{IsTaskOf}
use Rattle.step_replays.specs.Fronts.{FindsPivots, TaskFindsPivots, statement_at}
use Rattle.step_replays.proofs.JobReplays.{JobReplay, step_at, block_at, blocks_at, IsStoppedAt, own_operation, own_binding, own_counts}
use Rattle.step_replays.proofs.ReplayBlocks.{task-block, shape}
use Rattle.step_replays.proofs.StatementSteps.{steps_until, own-place, range-plain}
use Rattle.step_replays.proofs.ListPivots.{left-found, right-found, pairs-found}
use Rattle.step_replays.proofs.FactoredBlocks.{lu-found, ldl-found}

module _ (replay : JobReplay) (t : ℕ) (t_in : t < length replay.job.statements)
    (p : ℕ) (p_in : p < length replay.steps) (own : (step_at replay p).statement ≡ suc t) (free : ¬ (IsStoppedAt replay p))
    (fits : Fits (own_operation replay t) replay.job.matrices (own_binding replay t)) where
  abbrev op : Operation
  op = own_operation replay t

  abbrev whole : Grid
  whole = nth_grid replay.job.matrices (own_binding replay t).work

  abbrev work : Blocks
  work = blocks_at replay p (own_binding replay t).work

  abbrev found : ℕ → Blocks
  found = known_blocks (blocks_at replay p) (own_binding replay t)

  abbrev list : Grid
  list = block_at replay p (pivot_number replay.job replay.b (suc t))

  abbrev i : ℕ
  i = (step_at replay p).task.i

  abbrev j : ℕ
  j = (step_at replay p).task.j

  module _ (solve : (step_at replay p).task.kind ≡ kinds.Solve) where
    exists : has op (own_counts replay t) (step_at replay p).task ≡ true
    exists = go (rw own at (replay.fits.exists p p_in).1)
      where
        go : IsTaskOf op (own_counts replay t) (step_at replay p).task → has op (own_counts replay t) (step_at replay p).task ≡ true
        go (inl pivots) = let kind : kinds.Pivots ≡ kinds.Solve = sym (ap (λ (u : Task). u.kind) pivots.0) ∙ solve in absurd (cc)
        go (inr block) = block

    size : HasShape (part_length whole.rows replay.b i) (part_length whole.cols replay.b j) (work i j)
    size = shape replay p (own_binding replay t).work i j (omega (arith, p_in)) (task-block replay t (step_at replay p).task t_in exists)

    row_in : (r : ℕ) → r < (work i j).rows → (r < replay.b) × (i * replay.b + r < whole.rows)
    row_in r below = let inside : r < part_length whole.rows replay.b i = rw size.rows at below in (omega (arith, inside), index_below whole.rows replay.b i r inside)

    col_in : (c : ℕ) → c < (work i j).cols → (c < replay.b) × (j * replay.b + c < whole.cols)
    col_in c below = let inside : c < part_length whole.cols replay.b j = rw size.cols at below in (omega (arith, inside), index_below whole.cols replay.b j c inside)

    -- a form that factors has no test, so its solves stand in the range of the whole statement
    module _ (none : has_pivots op ≡ false) where
      abbrev start : ℕ
      start = steps_until replay t

      place : (start ≤ p) × (p < steps_until replay (suc t))
      place = own-place replay t t_in p p_in own

      here : start + (p - start) ≡ p
      here = omega (arith, place)

      -- what holds of the step by its place in the statement
      by-place : (P : ℕ → Type 0) → P (start + (p - start)) → P p
      by-place P h = subst P here h

      factored : ((f : ℕ) → f < steps_until replay (suc t) - start → (step_at replay (start + f)).task.kind ≡ kinds.Solve → (step_at replay (start + f)).task.j < (step_at replay (start + f)).task.i
          → ¬ (IsStoppedAt replay (start + f))
          → HasUnits replay.job.modulus (blocks_at replay (start + f) (own_binding replay t).work (step_at replay (start + f)).task.j (step_at replay (start + f)).task.j))
          → j < i → HasUnits replay.job.modulus (work j j)
      factored units less =
          by-place (λ (q : ℕ). HasUnits replay.job.modulus (blocks_at replay q (own_binding replay t).work (step_at replay q).task.j (step_at replay q).task.j))
          (units (p - start) (omega (arith, place)) (subst (λ (q : ℕ). (step_at replay q).task.kind ≡ kinds.Solve) (sym here) solve)
          (subst (λ (q : ℕ). (step_at replay q).task.j < (step_at replay q).task.i) (sym here) less)
          (subst (λ (q : ℕ). ¬ (IsStoppedAt replay q)) (sym here) free))

    rows-are : whole.rows ≡ fits.lengths op.work.rows
    rows-are = fits.work.rows

    cols-are : whole.cols ≡ fits.lengths op.work.cols
    cols-are = fits.work.cols

    by-form : (form : Form) → op.form ≡ form → HasPivots replay.job.modulus replay.b op fits.lengths found work list form i j
    by-form Assign e = tt
    by-form (Left f) e = elim (cases_Bool (is_unit_triangle (known op f.known).structure)) [
      | inl unit ↦ inl unit
      | inr other ↦ inr (subst (λ (n : ℕ). HasRowInverses replay.job.modulus (i * replay.b) (work i j).rows n (factor_block op found f i i) list) rows-are
          (left-found replay t t_in (rw (e, other) refl) p p_in own solve free i (work i j).rows f e row_in))
    ]
    by-form (Right f) e = elim (cases_Bool (is_unit_triangle (known op f.known).structure)) [
      | inl unit ↦ inl unit
      | inr other ↦ inr (subst (λ (n : ℕ). HasRowInverses replay.job.modulus (j * replay.b) (work i j).cols n (factor_block op found f j j) list) cols-are
          (right-found replay t t_in (rw (e, other) refl) p p_in own solve free j (work i j).cols f e col_in))
    ]
    by-form (Sylvester f g negative) e =
        subst (λ (n : ℕ × ℕ). HasPairInverses replay.job.modulus negative (i * replay.b) (j * replay.b) (work i j) n.0 n.1 (factor_block op found f i i) (factor_block op found g j j) list)
        (λ z. (rows-are z, cols-are z))
        (pairs-found replay t t_in (rw e refl) p p_in own solve free f g negative i j (work i j) e row_in col_in)
    by-form Lu e = factored (rw e refl) (λ f f_in solve below free. lu-found replay t (steps_until replay t) (steps_until replay (suc t) - steps_until replay t) t_in (range-plain replay t t_in (rw e refl)) f f_in solve below free e)
    by-form Ldl e = factored (rw e refl) (λ f f_in solve below free. ldl-found replay t (steps_until replay t) (steps_until replay (suc t) - steps_until replay t) t_in (range-plain replay t t_in (rw e refl)) f f_in solve below free e)

  by-kind : (kind : Kind) → (step_at replay p).task.kind ≡ kind → HasPivotsBy replay.job.modulus replay.b op fits.lengths found work list kind i j
  by-kind kinds.Solve e = by-form e op.form refl
  by-kind kinds.Pivots e = tt
  by-kind kinds.Term e = tt
  by-kind kinds.Left e = tt
  by-kind kinds.Right e = tt

  pub pivots-found : HasPivotsBy replay.job.modulus replay.b (own_operation replay t) fits.lengths (known_blocks (blocks_at replay p) (own_binding replay t)) (blocks_at replay p (own_binding replay t).work)
      (block_at replay p (pivot_number replay.job replay.b (suc t))) (step_at replay p).task.kind (step_at replay p).task.i (step_at replay p).task.j
  pivots-found = by-kind (step_at replay p).task.kind refl

-- whatever statement the step belongs to
pub step-finds : (replay : JobReplay) (p : ℕ) → p < length replay.steps → ¬ (IsStoppedAt replay p)
    → (fits : Fits (operation_of replay.job (statement_at replay.job replay.steps p)) replay.job.matrices (statement_at replay.job replay.steps p).bind)
    → FindsPivots replay.job replay.b replay.steps replay.results p fits.lengths
step-finds replay p p_in free = let own = (replay.fits.exists p p_in).0 in go own.0 own.2 own.1
  where
    go : (t : ℕ) → t < length replay.job.statements → (step_at replay p).statement ≡ suc t
        → (fits : Fits (operation_of replay.job (statement_at replay.job replay.steps p)) replay.job.matrices (statement_at replay.job replay.steps p).bind)
        → FindsPivots replay.job replay.b replay.steps replay.results p fits.lengths
    go t t_in own = subst (λ (s : ℕ). (fits : Fits (operation_of replay.job (statement_of replay.job s)) replay.job.matrices (statement_of replay.job s).bind)
        → TaskFindsPivots replay.job replay.b replay.steps replay.results p fits.lengths s (step_at replay p).task) (sym own) (λ fits. pivots-found replay t t_in p p_in own free fits)
