-- One statement of a valid job in a replay of steps that fit it, in any form: where no step failed so far it changes the matrices before it as
-- it means to, and where one of its steps fails the statement fails, at that place. Cited where the outcome of a replay is what the job means.
use Rattle.std.proofs.Common.{◌≡◌, ℕ, suc, ◌+◌, ◌-◌, ◌<◌, ◌≤◌, ◌⊎◌, inl, inr, true, false, not, List, length, refl, sym, ◌∙◌, ap, subst, arith}
use Rattle.std.proofs.lemmas.Bool.{cases_Bool, cases_eq, false≢true}
use Rattle.residue_sums.specs.Grids.{Grid}
use Rattle.structure_rules.specs.declared.Structure.{Structure}
use Rattle.structure_rules.specs.declared.Structure.TheVariants as structures
use Rattle.operation_spec.specs.declared.operation.Operation.{Operation}
use Rattle.operation_spec.specs.declared.operation.Binding.{Binding}
use Rattle.operation_spec.specs.declared.operation.Factor.{Factor}
use Rattle.operation_spec.specs.declared.operation.Form.{Form}
use Rattle.operation_spec.specs.declared.operation.Form.TheVariants.{Assign, Left, Right, Sylvester, Lu, Ldl}
use Rattle.task_graph.specs.Factors.{known}
use Rattle.equation.specs.declared.job.Place.{Place}
use Rattle.equation.specs.declared.job.Statement.{Statement}
use Rattle.equation.specs.Jobs.{nth_grid, known_grids}
use Rattle.equation.specs.Meanings.{Changes, Fails}
use Rattle.equation.specs.Pivots.{IsFirstBadPivot}
use Rattle.equation.proofs.Assignments.{no_bad_pivot}
use Rattle.equation.proofs.FirstPivots.{no_unit_is_bad}
use Rattle.block_tasks.specs.Inverses.{is_unit_triangle}
use Rattle.step_replays.specs.Accesses.{has_pivots}
use Rattle.step_replays.specs.Replays.{Failed, pivots_task}
use Rattle.step_replays.specs.Fits.{IsAt}
use Rattle.step_replays.proofs.StatementSteps.{steps_until, until-more, range-plain, pivots-step, range-behind}
use Rattle.step_replays.proofs.FirstMatrices.{matrices-kept}
use Rattle.step_replays.proofs.PivotOutcomes.{pivots-fail, pivots-ran}
use Rattle.step_replays.proofs.BlockOutcomes.{block-fails, block-changes, factors-good}
use Rattle.step_replays.proofs.Stops.{all-ran}
use Rattle.step_replays.proofs.ReplayRuns.{IsRange}
use Rattle.step_replays.proofs.JobReplays.{JobReplay, own_found, result_at, matrices_at, own_statement, own_operation, own_binding}

-- a unit structure
unit-structure : (s : Structure) → not (is_unit_triangle s) ≡ false → (s ≡ structures.UnitLower) ⊎ (s ≡ structures.UnitUpper)
unit-structure structures.UnitLower h = inl refl
unit-structure structures.UnitUpper h = inr refl
unit-structure structures.General h = absurd (false≢true (sym h))
unit-structure structures.Lower h = absurd (false≢true (sym h))
unit-structure structures.Upper h = absurd (false≢true (sym h))
unit-structure structures.Diagonal h = absurd (false≢true (sym h))
unit-structure structures.Symmetric h = absurd (false≢true (sym h))

module _ (replay : JobReplay) where
  -- the first s steps were gone through, and none failed
  abbrev pub NoneFailed : ℕ → Type 0
  NoneFailed s = (s ≤ replay.done) × ((q : ℕ) (place : Place) → q < s → ¬ (result_at replay q ≡ Failed place))

  abbrev pub start : ℕ → ℕ
  start t = steps_until replay t

  abbrev pub matrices : ℕ → List Grid
  matrices s = matrices_at replay s

  module _ (t : ℕ) (t_in : t < length replay.job.statements) where
    abbrev statement : Statement
    statement = own_statement replay t

    abbrev op : Operation
    op = own_operation replay t

    abbrev bind : Binding
    bind = (own_binding replay t)

    -- the steps from `base` on are the block tasks of the statement
    module _ (base n : ℕ) (range : IsRange replay.job replay.b replay.steps t base n) where
      tasks-change : NoneFailed (base + n)
          → ((place : Place) → ¬ (IsFirstBadPivot replay.job.modulus op (known_grids (matrices base) bind) (nth_grid (matrices base) bind.work) place))
          → Changes replay.job statement (matrices base) (matrices (base + n))
      tasks-change none good = block-changes replay t base n t_in range none.0 none.1 good

      tasks-good : (op.form ≡ Lu) ⊎ (op.form ≡ Ldl) → NoneFailed (base + n)
          → (place : Place) → ¬ (IsFirstBadPivot replay.job.modulus op (known_grids (matrices base) bind) (nth_grid (matrices base) bind.work) place)
      tasks-good form none = factors-good replay t base n t_in range none.0 none.1 form

      tasks-fail : (f : ℕ) (place : Place) → f < n → result_at replay (base + f) ≡ Failed place → Fails replay.job statement (matrices base) place
      tasks-fail f place below failed = record {
        operation = op;
        found = own_found replay t t_in;
        pivot = block-fails replay t base n t_in range f place below failed;
      }

    -- ---- the whole statement

    abbrev length-of : ℕ
    length-of = start (suc t) - start t

    -- without Pivots
    module _ (none : has_pivots (own_operation replay t) ≡ false) where
      range : IsRange replay.job replay.b replay.steps t (start t) (start (suc t) - start t)
      range = range-plain replay t t_in none

      unit-good : (f : Factor) → (op.form ≡ Left f) ⊎ (op.form ≡ Right f) → not (is_unit_triangle (known op f.known).structure) ≡ false
          → (place : Place) → ¬ (IsFirstBadPivot replay.job.modulus op (known_grids (matrices (start t)) bind) (nth_grid (matrices (start t)) bind.work) place)
      unit-good f form unit place = no_unit_is_bad replay.job.modulus op (known_grids (matrices (start t)) bind) (nth_grid (matrices (start t)) bind.work) place f replay.valid.modulus form
          (unit-structure (known op f.known).structure unit)

      -- the form has no bad pivot by its structure, or its tasks found none
      untested-good : (form : Form) → op.form ≡ form → NoneFailed (start t + length-of)
          → (place : Place) → ¬ (IsFirstBadPivot replay.job.modulus op (known_grids (matrices (start t)) bind) (nth_grid (matrices (start t)) bind.work) place)
      untested-good Assign e good place = no_bad_pivot replay.job.modulus op (known_grids (matrices (start t)) bind) (nth_grid (matrices (start t)) bind.work) place e
      untested-good (Left f) e good place = unit-good f (inl e) (rw e at none) place
      untested-good (Right f) e good place = unit-good f (inr e) (rw e at none) place
      untested-good (Sylvester f g negative) e good place = absurd (false≢true (sym (rw e at none)))
      untested-good Lu e good place = tasks-good (start t) length-of range (inl e) good place
      untested-good Ldl e good place = tasks-good (start t) length-of range (inr e) good place

      untested-changes : NoneFailed (start t + length-of) → Changes replay.job statement (matrices (start t)) (matrices (start t + length-of))
      untested-changes good = tasks-change (start t) length-of range good (untested-good op.form refl good)

      untested-fails : (f : ℕ) (place : Place) → f < length-of → result_at replay (start t + f) ≡ Failed place → Fails replay.job statement (matrices (start t)) place
      untested-fails f place below failed = tasks-fail (start t) length-of range f place below failed

    -- with Pivots in front
    module _ (some : has_pivots (own_operation replay t) ≡ true) where
      abbrev behind : ℕ
      behind = start (suc t) - suc (start t)

      at : IsAt replay.steps (steps_until replay t) (suc t) pivots_task
      at = (pivots-step replay t t_in some).1

      same : matrices_at replay (suc (steps_until replay t)) ≡ matrices_at replay (steps_until replay t)
      same = matrices-kept replay.job replay.b replay.steps replay.results replay.fits (start t) t at

      tested-changes : NoneFailed (suc (start t) + behind) → Changes replay.job statement (matrices (start t)) (matrices (suc (start t) + behind))
      tested-changes good =
          let ran = all-ran replay (suc (start t)) (omega (arith, good.0)) (λ q place below. good.1 q place (omega arith)) (start t) (omega arith) in
          let none = pivots-ran replay t (start t) t_in at some ran.0 ran.1 in
          let change : Changes replay.job statement (matrices (suc (start t))) (matrices (suc (start t) + behind))
          = tasks-change (suc (start t)) behind (range-behind replay t t_in some) good (rw same none) in
          subst (λ (before : List Grid). Changes replay.job statement before (matrices (suc (start t) + behind))) same change

      tested-fails : (f : ℕ) (place : Place) → start t ≤ f → f < start (suc t) → result_at replay f ≡ Failed place → Fails replay.job statement (matrices (start t)) place
      tested-fails f place from below failed = elim (cases_eq f (start t)) [
        | inl first ↦ record {
          operation = op;
          found = own_found replay t t_in;
          pivot = pivots-fail replay t (start t) t_in at some place (rw first at failed);
        }
        | inr later ↦ (let place_of : suc (start t) + (f - suc (start t)) ≡ f = omega arith in
            let fails : Fails replay.job statement (matrices (suc (start t))) place
            = tasks-fail (suc (start t)) behind (range-behind replay t t_in some) (f - suc (start t)) place (omega arith) (ap (λ (q : ℕ). result_at replay q) place_of ∙ failed) in
            subst (λ (before : List Grid). Fails replay.job statement before place) same fails)
      ]

    -- where no step failed up to its end
    pub statement-changes : NoneFailed (start (suc t)) → Changes replay.job (own_statement replay t) (matrices (start t)) (matrices (start (suc t)))
    statement-changes good = elim (cases_Bool (has_pivots op)) [
      | inl some ↦ (let ends : suc (start t) + (start (suc t) - suc (start t)) ≡ start (suc t) = (let inside = (pivots-step replay t t_in some).0 in omega arith) in
          subst (λ (s : ℕ). Changes replay.job statement (matrices (start t)) (matrices s)) ends (tested-changes some (rw ends good)))
      | inr none ↦ (let ends : start t + (start (suc t) - start t) ≡ start (suc t) = (let le = until-more replay t in omega arith) in
          subst (λ (s : ℕ). Changes replay.job statement (matrices (start t)) (matrices s)) ends (untested-changes none (rw ends good)))
    ]

    -- where one of its steps failed
    pub statement-fails : (f : ℕ) (place : Place) → start t ≤ f → f < start (suc t) → result_at replay f ≡ Failed place → Fails replay.job (own_statement replay t) (matrices (start t)) place
    statement-fails f place from below failed = elim (cases_Bool (has_pivots op)) [
      | inl some ↦ tested-fails some f place from below failed
      | inr none ↦ (let place_of : start t + (f - start t) ≡ f = omega arith in
          untested-fails none (f - start t) place (omega arith) (ap (λ (q : ℕ). result_at replay q) place_of ∙ failed))
    ]
