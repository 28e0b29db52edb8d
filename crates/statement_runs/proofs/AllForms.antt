-- A run of the block tasks of a statement, in any of the six forms: where all ran the work matrix satisfies the equation; a task that meets a
-- bad pivot meets the statement's first; and where all ran there is none in the forms that factor. Cited by the laws of runs, and where a
-- replay of a job is what the job means.
use Rattle.std.proofs.Common.{◌≡◌, ◌≢◌, ℕ, zero, suc, ◌+◌, ◌*◌, ◌<◌, ◌≤◌, ◌⊎◌, inl, inr, Bool, true, false, List, length, refl, sym, ◌∙◌, ap, subst, arith}
use Rattle.std.proofs.lemmas.Bool.{and_parts}
use Rattle.residue_sums.specs.Sums.{part_count, part_length}
use Rattle.residue_sums.specs.Tables.{Table}
use Rattle.residue_sums.specs.Grids.{Grid, AreResidues, entry}
use Rattle.operation_spec.specs.declared.operation.Operation.{Operation}
use Rattle.operation_spec.specs.declared.operation.Binding.{Binding}
use Rattle.operation_spec.specs.declared.operation.Form.{Form}
use Rattle.operation_spec.specs.declared.operation.Form.TheVariants.{Assign, Left, Right, Sylvester, Lu, Ldl}
use Rattle.operation_spec.specs.declared.task.Kind.{Kind}
use Rattle.operation_spec.specs.declared.task.Kind.TheVariants as kinds
use Rattle.operation_spec.specs.declared.task.Task.{Task}
use Rattle.operation_spec.specs.ValidOperations.{IsValid}
use Rattle.task_graph.specs.Tasks.{has, has_task, is_work_block, parts_of}
use Rattle.task_graph.proofs.WorkBlocks.{work-block}
use Rattle.equation.specs.declared.job.Place.{Place}
use Rattle.equation.specs.Equations.{Satisfies}
use Rattle.equation.specs.Jobs.{Fits, nth_grid, known_grids}
use Rattle.equation.specs.Pivots.{IsFirstBadPivot, IsBadForLu, IsBadForLdl}
use Rattle.equation.proofs.ValidForms.{work-valid, lu-general, lu-square, ldl-lower, ldl-square}
use Rattle.flash_blocks.specs.Blocks.{Blocks, gathered, grid_of}
use Rattle.block_tasks.specs.Counts.{AreCounts}
use Rattle.block_tasks.specs.Effects.{IsBadDiagonal, bad_factor, bad_by, IsBadTask}
use Rattle.block_tasks.proofs.SolveTasks.{solve_of, solve-is}
use Rattle.block_tasks.proofs.TermSums.{HasTerms}
use Rattle.block_tasks.proofs.StatementSizes.{rows_are, cols_are, left-factor, right-factor, sylvester-factors, terms-have}
use Rattle.statement_runs.specs.StatementRuns.{IsStatementRun, NoneBad, IsReady}
use Rattle.statement_runs.proofs.StatementRuns.{sizes}
use Rattle.statement_runs.proofs.AssignRuns.{Satisfies-assign}
use Rattle.statement_runs.proofs.LeftRuns.{Satisfies-left}
use Rattle.statement_runs.proofs.RightRuns.{Satisfies-right}
use Rattle.statement_runs.proofs.SylvesterRuns.{Satisfies-sylvester}
use Rattle.statement_runs.proofs.LuRuns.{Satisfies-lu}
use Rattle.statement_runs.proofs.LuPivots as lu
use Rattle.statement_runs.proofs.LdlRuns.{Satisfies-ldl}
use Rattle.statement_runs.proofs.LdlPivots as ldl

-- a place is its row and its column
same_place : (p q : Place) → p.row ≡ q.row → p.col ≡ q.col → p ≡ q
same_place p q row col = λ x. record { row = row x; col = col x }

module _ (m b : ℕ) (two : 2 ≤ m) (pos : 0 < b) (op : Operation) (valid : IsValid op) (grids : List Grid) (bind : Binding) (fits : Fits op grids bind)
    (counts : List ℕ) (are : AreCounts b (length op.dims) fits.lengths counts) (n : ℕ) (task : ℕ → Task) (did : ℕ → Bool) (known_at : ℕ → ℕ → Blocks) (w : ℕ → Blocks)
    (run : IsStatementRun m b op (known_grids grids bind) (nth_grid grids bind.work) counts n task did known_at w) (given : AreResidues m (nth_grid grids bind.work)) where
  abbrev knowns : List Grid
  knowns = known_grids grids bind

  abbrev work : Grid
  work = nth_grid grids bind.work

  abbrev rows : parts_of counts op.work.rows ≡ part_count (nth_grid grids bind.work).rows b
  rows = rows_are m b two pos op valid grids bind fits counts are

  abbrev cols : parts_of counts op.work.cols ≡ part_count (nth_grid grids bind.work).cols b
  cols = cols_are m b two pos op valid grids bind fits counts are

  abbrev terms : HasTerms m b two pos op knowns work counts rows cols op.terms
  terms = terms-have m b two pos op valid grids bind fits counts are

  lu_square : op.form ≡ Lu → work.rows ≡ work.cols
  lu_square = lu-square op valid fits.lengths work fits.work

  ldl_square : op.form ≡ Ldl → work.rows ≡ work.cols
  ldl_square = ldl-square op valid fits.lengths work fits.work

  -- ---- the equation

  module _ (all_ran : (p : ℕ) → p < n → did p ≡ true) where
    satisfies_by : (form : Form) → op.form ≡ form → Satisfies m op knowns work (grid_of (gathered b (w n)) work.rows work.cols)
    satisfies_by Assign e = Satisfies-assign m b two pos op knowns work counts n task did known_at w run rows cols terms e all_ran given
    satisfies_by (Left t) e = Satisfies-left m b two pos op knowns work counts n task did known_at w run rows cols (work-valid op valid) t
        (left-factor m b two pos op valid grids bind fits counts are t e) e terms all_ran given
    satisfies_by (Right t) e = Satisfies-right m b two pos op knowns work counts n task did known_at w run rows cols (work-valid op valid) t
        (right-factor m b two pos op valid grids bind fits counts are t e) e terms all_ran given
    satisfies_by (Sylvester t u negative) e =
        let factors = sylvester-factors m b two pos op valid grids bind fits counts are t u negative e in
        Satisfies-sylvester m b two pos op knowns work counts n task did known_at w run rows cols (work-valid op valid) t u negative factors.0 factors.1 e terms all_ran given
    satisfies_by Lu e = Satisfies-lu m b two pos op knowns work counts n task did known_at w run rows cols e (lu_square e) terms all_ran given
    satisfies_by Ldl e = Satisfies-ldl m b two pos op knowns work counts n task did known_at w run rows cols e (ldl-lower op valid e) (ldl_square e) terms all_ran given

    pub run-satisfies : Satisfies m op knowns work (grid_of (gathered b (w n)) work.rows work.cols)
    run-satisfies = satisfies_by op.form refl

  -- ---- bad pivots

  module _ (good : NoneBad m b op n task did w) where
    -- a factorisation that ran met no bad pivot
    lu-good : op.form ≡ Lu → (p a q : ℕ) → p < n → did p ≡ true → task p ≡ solve_of a a → q < (w p a a).rows → ¬ (IsBadForLu m (entry (w p a a)) q)
    lu-good form p a q below ran is inner bad =
        let here : Place = record { row = a * b + q; col = a * b + q } in
        good p here below ran (rw (is, form) (refl, refl, (q, refl, inner, bad)))

    ldl-good : op.form ≡ Ldl → (p a q : ℕ) → p < n → did p ≡ true → task p ≡ solve_of a a → q < (w p a a).rows → ¬ (IsBadForLdl m (entry (w p a a)) q)
    ldl-good form p a q below ran is inner bad =
        let here : Place = record { row = a * b + q; col = a * b + q } in
        good p here below ran (rw (is, form) (refl, refl, (q, refl, inner, bad)))

    -- where all ran a form that factors has no bad pivot
    pub none-first : (op.form ≡ Lu) ⊎ (op.form ≡ Ldl) → ((p : ℕ) → p < n → did p ≡ true) → (place : Place) → ¬ (IsFirstBadPivot m op knowns work place)
    none-first (inl e) all_ran = lu.none-bad m b two pos op knowns work counts n task did known_at w run rows cols e (lu_square e) (lu-general op valid e).0 terms given (lu-good e) all_ran
    none-first (inr e) all_ran = ldl.none-bad m b two pos op knowns work counts n task did known_at w run rows cols e (ldl-lower op valid e) (ldl_square e) terms given (ldl-good e) all_ran

    -- a task that meets a bad pivot, where what it needs ran
    module _ (f : ℕ) (f_in : f < n) (place : Place) (ready : IsReady op n task did f) where
      -- the first bad pivot that a diagonal block gives
      module _ (IsBad : Table → ℕ → Type 0) (kind : (task f).kind ≡ kinds.Solve)
          (first : (i q : ℕ) → i < part_count (nth_grid grids bind.work).rows b → task f ≡ solve_of i i → q < part_length (nth_grid grids bind.work).rows b i → IsBad (entry (w f i i)) q
          → IsFirstBadPivot m op (known_grids grids bind) (nth_grid grids bind.work) (record { row = i * b + q; col = i * b + q })) where
        first-of_diagonal : IsBadDiagonal IsBad b (w f) (task f).i (task f).j place → IsFirstBadPivot m op knowns work place
        first-of_diagonal bad =
            let is : task f ≡ solve_of (task f).i (task f).i
            = solve-is op counts (task f) (run.exists f f_in) (rw kind refl) ∙ ap (λ (x : ℕ). solve_of (task f).i x) (sym bad.0) in
            let block : IsBad (entry (w f (task f).i (task f).i)) bad.2.0 = rw (← bad.0) at bad.2.3 in
            let exists = and_parts (is_work_block op counts (task f).i (task f).j) (has_task op counts (task f).kind (task f).term (task f).i (task f).j (task f).k) (run.exists f f_in) in
            let in_parts = work-block op counts (task f).i (task f).j exists.0 in
            let i_in : (task f).i < part_count work.rows b = rw rows at in_parts.0 in
            let size = sizes m b op knowns work counts n task did known_at w run f (omega arith) (task f).i (task f).j i_in (rw cols at in_parts.1) in
            let inner : bad.2.0 < part_length work.rows b (task f).i = rw size.0 at bad.2.2 in
            let here : Place = record { row = (task f).i * b + bad.2.0; col = (task f).i * b + bad.2.0 } in
            subst (IsFirstBadPivot m op knowns work) (same_place here place (sym bad.2.1) (sym bad.2.1 ∙ sym bad.1)) (first (task f).i bad.2.0 i_in is inner block)

      by_form : (form : Form) → op.form ≡ form → (task f).kind ≡ kinds.Solve → bad_factor m b form (w f) (task f).i (task f).j place → IsFirstBadPivot m op knowns work place
      by_form Assign e kind bad = absurd bad
      by_form (Left t) e kind bad = absurd bad
      by_form (Right t) e kind bad = absurd bad
      by_form (Sylvester t u negative) e kind bad = absurd bad
      by_form Lu e kind bad = first-of_diagonal (IsBadForLu m) kind (λ i q i_in is inner block.
          lu.fails-at-first m b two pos op knowns work counts n task did known_at w run rows cols e (lu_square e) (lu-general op valid e).0 terms given (lu-good e) f i q f_in i_in is inner block ready) bad
      by_form Ldl e kind bad = first-of_diagonal (IsBadForLdl m) kind (λ i q i_in is inner block.
          ldl.fails-at-first m b two pos op knowns work counts n task did known_at w run rows cols e (ldl-lower op valid e) (ldl_square e) terms given (ldl-good e) f i q f_in i_in is inner block ready) bad

      by_kind : (kind : Kind) → (task f).kind ≡ kind → bad_by m b op.form (w f) kind (task f).i (task f).j place → IsFirstBadPivot m op knowns work place
      by_kind kinds.Solve e bad = by_form op.form refl e bad
      by_kind kinds.Pivots e bad = absurd bad
      by_kind kinds.Term e bad = absurd bad
      by_kind kinds.Left e bad = absurd bad
      by_kind kinds.Right e bad = absurd bad

      pub run-fails : IsBadTask m b op (w f) (task f) place → IsFirstBadPivot m op knowns work place
      run-fails bad = by_kind (task f).kind refl bad
