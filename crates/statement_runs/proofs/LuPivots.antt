-- The step of `lu X = R` that fails does so at the first bad pivot of the statement, whatever the order of the steps. The run is cut
-- after that step, and the factors of its block up to the bad pivot are put in the block's place: on the entries up to the bad pivot
-- the step is then a solve like the others, and the induction over the steps gives the factors of the leading block of R.
use Rattle.std.proofs.Common.{◌≡◌, ◌≢◌, ℕ, zero, suc, min, ◌+◌, ◌-◌, ◌*◌, ◌/◌, ◌%◌, ◌<◌, ◌≤◌, ◌⊎◌, inl, inr, Bool, true, false, not, if◌then◌else◌, List, refl, sym, ◌∙◌, ap, ap₂, subst, arith}
use Rattle.std.specs.Prelude.{◌==◌, ◌&&◌, nat_lt}
use Rattle.std.proofs.Math.Nat.{mod-lt, div-mul-le_self}
use Rattle.std.proofs.lemmas.Nat.{div-add-mod', div-mul-add, mod-mul-add}
use Rattle.std.proofs.lemmas.Bool.{and_parts, false≢true, cases_Bool, cases_eq, cases_lt, cases_order, ltb-true, lt-ltb}
use Rattle.std.proofs.lemmas.Bool.Decides.{nat_tests}
use Rattle.residue_sums.specs.Residues.{Cong, IsUnit}
use Rattle.residue_sums.specs.Sums.{sum_below, part_count, part_length}
use Rattle.residue_sums.specs.Tables.{Table, product, times}
use Rattle.residue_sums.specs.Grids.{Grid, AreResidues, entry}
use Rattle.residue_sums.proofs.Congruence.{Cong-by, Cong-add, Cong-sym, Cong-trans, Cong-from_same, Cong-from_mod}
use Rattle.residue_sums.proofs.Sums.{sum_below-same, sum_below-shrink}
use Rattle.residue_sums.proofs.Parts.{part_below_count, index_from_place, index_below, part_of_index}
use Rattle.structure_rules.specs.declared.Structure.{Structure}
use Rattle.structure_rules.specs.declared.Structure.TheVariants.{General, UnitLower, Upper, Symmetric}
use Rattle.structure_rules.specs.Structures.{IsEntry, IsInside, view}
use Rattle.matrix_algebra.specs.Factors.{IsLu, IsLuBadPivot}
use Rattle.matrix_algebra.proofs.Packed.{packed, IsUnitLower-view, IsUpper-view, view-unit_lower_above}
use Rattle.matrix_algebra.proofs.LuFactors.{lu_units, no_lu_bad_pivot}
use Rattle.operation_spec.specs.declared.operation.Operation.{Operation}
use Rattle.operation_spec.specs.declared.operation.Form.TheVariants.{Lu}
use Rattle.operation_spec.specs.declared.task.Kind.{Kind}
use Rattle.operation_spec.specs.declared.task.Kind.TheVariants as kinds
use Rattle.operation_spec.specs.declared.task.Task.{Task}
use Rattle.task_graph.specs.Tasks.{has, has_task, has_solve, is_work_block, parts_of}
use Rattle.task_graph.specs.Needs.{is_solve, does_need}
use Rattle.task_graph.specs.Order.{task_of}
use Rattle.equation.specs.declared.job.Place.{Place}
use Rattle.equation.specs.Equations.{right_side}
use Rattle.equation.specs.Pivots.{IsBadForLu, IsFirstBadPivot}
use Rattle.equation.proofs.FactorPivots.{lu_bad_pivot}
use Rattle.equation.proofs.ReducedFactors.{bad_for_lu, no_bad_lu}
use Rattle.equation.proofs.SolvedGrids.{HasResidues-right_side}
use Rattle.task_sums.specs.SharedSums.{IsOfBlock, IsShared}
use Rattle.task_sums.specs.TaskRuns.{IsRun}
use Rattle.task_sums.proofs.CutRuns.{cut_did, cut_did-last, cut_did-earlier, whole-cut}
use Rattle.flash_blocks.specs.Blocks.{Blocks, gathered}
use Rattle.block_tasks.specs.Effects.{AreKnown, block_structure}
use Rattle.block_tasks.proofs.EffectValues.{solved_left}
use Rattle.block_tasks.proofs.TaskTests.{is_task, is_task-self, is_task-or}
use Rattle.statement_runs.specs.StatementRuns.{IsStatementRun}
use Rattle.statement_runs.proofs.StatementRuns.{settled, update_own, sizes, solved_stays, DoneBefore, needed_ran, needed_by_done}
use Rattle.block_tasks.proofs.SolveTasks.{operation_tasks, IsSolveTask, DependsOn, solve_of, solve-is, solve-needs, has-solve}
use Rattle.block_tasks.proofs.TermSums.{HasTerms, terms_sum, terms-whole, terms-other, IsSharedSum, work_block-inside}
use Rattle.statement_runs.proofs.StepValues.{value-of, table-first}
use Rattle.statement_runs.proofs.FormRuns.{both, both-shared, form-run}
use Rattle.structure_rules.proofs.Views.{view-diagonal_block}
use Rattle.block_tasks.proofs.WorkViews.{straight-reads}
use Rattle.block_tasks.proofs.LuSums.{lu_sum, lu_part, IsShared-lu, lu-none, lu-solve_share, lu-whole, part-le}
use Rattle.statement_runs.proofs.LuRuns.{lu, lu-updated, lu-solved, lu-equation}

general_inside : (t : Bool) (r c : ℕ) → IsInside (if t then General else General) r c
general_inside true r c = λ z. z
general_inside false r c = λ z. z

lower-packed : (l u : Table) (i j : ℕ) → view UnitLower (packed l u) i j ≡ view UnitLower l i j
lower-packed l u i j = grind (arith, nat_tests)

upper-packed : (l u : Table) (i j : ℕ) → view Upper (packed l u) i j ≡ view Upper u i j
upper-packed l u i j = grind (arith, nat_tests)

upper-diagonal : (u : Table) (i : ℕ) → view Upper u i i ≡ u i i
upper-diagonal u i = grind (arith, nat_tests)

module _ (m b : ℕ) (two : 2 ≤ m) (pos : 0 < b) (op : Operation) (knowns : List Grid) (work : Grid) (counts : List ℕ) (n : ℕ) (task : ℕ → Task) (did : ℕ → Bool) (known_at : ℕ → ℕ → Blocks) (w : ℕ → Blocks)
    (run : IsStatementRun m b op knowns work counts n task did known_at w)
    (rows_are : parts_of counts op.work.rows ≡ part_count work.rows b) (cols_are : parts_of counts op.work.cols ≡ part_count work.cols b)
    (form : op.form ≡ Lu) (square : work.rows ≡ work.cols) (general : op.work.structure ≡ General)
    (have : HasTerms m b two pos op knowns work counts rows_are cols_are op.terms) (given : AreResidues m work)
    -- a factorisation that ran met no bad pivot
    (good : (p a q : ℕ) → p < n → did p ≡ true → task p ≡ solve_of a a → q < (w p a a).rows → ¬ (IsBadForLu m (entry (w p a a)) q)) where
  size : (p : ℕ) → p ≤ n → (i j : ℕ) → i < part_count work.rows b → j < part_count work.rows b → ((w p i j).rows ≡ part_length work.rows b i) × ((w p i j).cols ≡ part_length work.rows b j)
  size p le i j row col = let h = sizes m b op knowns work counts n task did known_at w run p le i j row (rw (← square) col) in (h.0, h.1 ∙ rw square refl)

  -- ---- the pivots of a block that was factored

  pub units : (s a : ℕ) → s < n → did s ≡ true → task s ≡ solve_of a a → a < part_count work.rows b → (q : ℕ) → q < part_length work.rows b a → IsUnit m (entry (w (suc s) a a) q q)
  units s a below ran is a_in q inner =
      subst (λ x. IsUnit m x) (upper-diagonal (entry (w (suc s) a a)) q)
      (lu_units m (part_length work.rows b a) two (entry (w s a a)) (view UnitLower (entry (w (suc s) a a))) (view Upper (entry (w (suc s) a a))) factors
      (no_bad_lu m (part_length work.rows b a) two (entry (w s a a)) (λ i j row col. residue i j row col) (λ k h. good s a k below ran is (rw length.0 h))) q inner)
    where
      length : ((w s a a).rows ≡ part_length work.rows b a) × ((w s a a).cols ≡ part_length work.rows b a)
      length = size s (omega arith) a a a_in a_in

      product_is : (i j : ℕ) → i < part_length work.rows b a → j < part_length work.rows b a
          → product (part_length work.rows b a) (view UnitLower (entry (w (suc s) a a))) (view Upper (entry (w (suc s) a a))) i j % m ≡ entry (w s a a) i j
      product_is i j row col =
          let v = value-of m b two pos op knowns work counts n task did known_at w run s a a below ran (rw is refl) (rw is refl) in
          let kind : (task s).kind ≡ kinds.Solve = rw is refl in
          let e = v.equation i j (rw length.0 row) (rw length.1 col) (rw general (general_inside (a == a) i j)) in
          let x : nat_lt a a ≡ false = grind (arith, nat_tests) in
          rw length.0 at (rw x at (rw form at (rw kind at e)))

      residue : (i j : ℕ) → i < part_length work.rows b a → j < part_length work.rows b a → entry (w s a a) i j < m
      residue i j row col = subst (λ x. x < m) (product_is i j row col) (mod-lt _ (omega arith))

      factors : IsLu m (part_length work.rows b a) (entry (w s a a)) (view UnitLower (entry (w (suc s) a a))) (view Upper (entry (w (suc s) a a)))
      factors = record {
        lower = IsUnitLower-view (part_length work.rows b a) (entry (w (suc s) a a));
        upper = IsUpper-view (part_length work.rows b a) (entry (w (suc s) a a));
        equation = λ i j row col. Cong-sym (Cong-from_mod (sym (product_is i j row col)));
      }

  -- a block that was solved stays
  stays : (s a f t : ℕ) → s < t → t ≤ f → f ≤ n → did s ≡ true → task s ≡ solve_of a a → w t a a ≡ w (suc s) a a
  stays = solved_stays m b op knowns work counts n task did known_at w run

  -- ---- a step that failed

  module _ (f i q : ℕ) (f_in : f < n) (i_in : i < part_count work.rows b) (is_f : task f ≡ solve_of i i) (q_in : q < part_length work.rows b i)
      (bad : IsBadForLu m (entry (w f i i)) q)
      -- what a step that ran, or this one, needs ran
      (ready : (p r : ℕ) → p < n → r < n → (did p ≡ true) ⊎ (p ≡ f) → does_need op (task p) (task r) ≡ true → did r ≡ true) where
    abbrev place_of_bad : ℕ
    place_of_bad = i * b + q

    in_size : place_of_bad < work.rows
    in_size = index_below work.rows b i q q_in

    -- a task that ran before the step
    abbrev Done : Task → Type 0
    Done = DoneBefore m b op knowns work counts n task did known_at w run f f_in ready

    needed : (p : ℕ) (v : Task) → p < n → p ≤ f → (did p ≡ true) ⊎ (p ≡ f) → does_need op (task p) v ≡ true → has op counts v ≡ true → Done v
    needed = needed_ran m b op knowns work counts n task did known_at w run f f_in ready

    needed_by : (u v : Task) → Done u → does_need op u v ≡ true → has op counts v ≡ true → Done v
    needed_by = needed_by_done m b op knowns work counts n task did known_at w run f f_in ready

    block_has : (a d : ℕ) → a ≤ i → d ≤ i → is_work_block op counts a d ≡ true
    block_has a d x y =
        let row : nat_lt a (parts_of counts op.work.rows) ≡ true = lt-ltb a (parts_of counts op.work.rows) (rw rows_are (omega arith)) in
        let col : nat_lt d (parts_of counts op.work.cols) ≡ true = lt-ltb d (parts_of counts op.work.cols) (rw (cols_are, ← square) (omega arith)) in
        rw (row, col, general) refl

    solve-exists : (a d : ℕ) → a ≤ i → d ≤ i → has op counts (solve_of a d) ≡ true
    solve-exists a d x y = rw (block_has a d x y, form) refl

    left-exists : (a d k : ℕ) → a ≤ i → d ≤ i → k < min a d → has op counts (task_of kinds.Left 0 a d k) ≡ true
    left-exists a d k x y h = let e : nat_lt k (min a d) ≡ true = lt-ltb k (min a d) h in rw (block_has a d x y, form) (rw e refl)

    need-diagonal : (k : ℕ) → does_need op (solve_of i i) (task_of kinds.Left 0 i i k) ≡ true
    need-diagonal k = solve-needs op (solve_of i i) (task_of kinds.Left 0 i i k) refl refl refl refl

    -- the updates of the diagonal block
    updates_done : (k : ℕ) → k < i → Done (task_of kinds.Left 0 i i k)
    updates_done k h = needed f (task_of kinds.Left 0 i i k) f_in (omega arith) (inr refl) (rw is_f (need-diagonal k)) (left-exists i i k (omega arith) (omega arith) (omega arith))

    -- the two blocks that an update of a diagonal block reads
    column_solved : (d k : ℕ) → d ≤ i → k < d → Done (task_of kinds.Left 0 d d k) → Done (solve_of d k)
    column_solved d k x h done = needed_by (task_of kinds.Left 0 d d k) (solve_of d k) done (rw form (grind (arith, nat_tests))) (solve-exists d k x (omega arith))

    row_solved : (d k : ℕ) → d ≤ i → k < d → Done (task_of kinds.Left 0 d d k) → Done (solve_of k d)
    row_solved d k x h done = needed_by (task_of kinds.Left 0 d d k) (solve_of k d) done (rw form (grind (arith, nat_tests))) (solve-exists k d (omega arith) x)

    diagonal_solved : (k : ℕ) → k < i → Done (solve_of k k)
    diagonal_solved k h =
        let e : min i k ≡ k = omega arith in
        needed_by (solve_of i k) (solve_of k k) (column_solved i k (omega arith) h (updates_done k h)) (rw form (rw e (grind (arith, nat_tests)))) (solve-exists k k (omega arith) (omega arith))

    diagonal_updated : (d k : ℕ) → d ≤ i → k < d → Done (task_of kinds.Left 0 d d k)
    diagonal_updated d k x h = elim (cases_eq d i) [
      | inl last ↦ rw last (updates_done k (omega arith))
      | inr other ↦ needed_by (solve_of d d) (task_of kinds.Left 0 d d k) (diagonal_solved d (omega arith))
          (solve-needs op (solve_of d d) (task_of kinds.Left 0 d d k) refl refl refl refl) (left-exists d d k x x (omega arith))
    ]

    all_solved : (a d : ℕ) → a ≤ i → d ≤ i → ¬ ((a ≡ i) × (d ≡ i)) → Done (solve_of a d)
    all_solved a d x y other = elim (cases_order a d) [
      | inl same ↦ rw (← same) (diagonal_solved a (elim (cases_eq a i) [ inl last ↦ absurd (other (last, sym same ∙ last)) | inr not ↦ omega arith ]))
      | inr (inl less) ↦ row_solved d a y less (diagonal_updated d a y less)
      | inr (inr more) ↦ column_solved a d x more (diagonal_updated a d x more)
    ]

    -- ---- the run that ends with the step, and the factors of its block in place

    patched : Table
    patched r c = if r / b == i && c / b == i then packed bad.l bad.u (r % b) (c % b) else gathered b (w f) r c

    patched-here : (r c : ℕ) → r / b ≡ i → c / b ≡ i → patched r c ≡ packed bad.l bad.u (r % b) (c % b)
    unfolding patched
    patched-here r c x y = let e : (r / b == i) ≡ true = grind (arith, nat_tests) in let g : (c / b == i) ≡ true = grind (arith, nat_tests) in rw (e, g) refl

    patched-else : (r c : ℕ) → (r / b ≢ i) ⊎ (c / b ≢ i) → patched r c ≡ gathered b (w f) r c
    unfolding patched
    patched-else r c (inl x) = let e : (r / b == i) ≡ false = grind (arith, nat_tests) in rw e refl
    patched-else r c (inr y) = let e : (c / b == i) ≡ false = grind (arith, nat_tests) in elim (cases_Bool (r / b == i)) [ inl h ↦ rw (h, e) refl | inr h ↦ rw h refl ]

    abbrev Leading : ℕ → ℕ → Type 0
    Leading r c = (r ≤ place_of_bad) × (c ≤ place_of_bad)

    leading-entry : (r c : ℕ) → Leading r c → IsEntry work.rows work.cols op.work.structure r c
    leading-entry r c h = record { row = omega (arith, h, in_size); col = rw (← square) (omega (arith, h, in_size)); inside = rw general (λ z. z) }

    abbrev sums : (Task → ℕ) → Table → ℕ → ℕ → ℕ
    sums g v r c = terms_sum m b two pos op knowns work counts rows_are cols_are op.terms 0 g v r c
        + lu m b two pos op knowns work counts n task did known_at w run rows_are cols_are form square have g v r c

    no_term : (t : Task) (v : Table) (r c : ℕ) → t.kind ≡ kinds.Term → lu m b two pos op knowns work counts n task did known_at w run rows_are cols_are form square have (is_task t) v r c ≡ 0
    no_term t v r c kind = lu-none m b two pos op knowns work counts rows_are cols_are form t v r c (rw kind (λ e. absurd (cc))) (rw kind (λ e. absurd (cc)))

    full-shared : IsSharedSum m b two pos op knowns work counts rows_are cols_are sums
    full-shared = both-shared m b two pos op knowns work counts n task did known_at w run rows_are cols_are have
        (lu m b two pos op knowns work counts n task did known_at w run rows_are cols_are form square have)
        (IsShared-lu m b two pos op knowns work counts rows_are cols_are form) no_term
        (lu-updated m b two pos op knowns work counts n task did known_at w run rows_are cols_are form square have)
        (lu-solved m b two pos op knowns work counts n task did known_at w run rows_are cols_are form square have)

    -- an entry of the diagonal block
    in_place : (x y : ℕ) → x < b → y < b → patched (i * b + x) (i * b + y) ≡ packed bad.l bad.u x y
    in_place x y row col = patched-here (i * b + x) (i * b + y) (div-mul-add i b x row) (div-mul-add i b y col) ∙ ap₂ (λ (s t : ℕ). packed bad.l bad.u s t) (mod-mul-add i b x row) (mod-mul-add i b y col)

    -- the product of the factors that are put in place, at an entry of the diagonal block
    patched_part : (r c : ℕ) → Leading r c → r / b ≡ i → c / b ≡ i → Cong m (lu_part m b two pos op knowns work counts rows_are cols_are form patched r c i) (gathered b (w f) r c)
    patched_part r c h x y =
        Cong-trans (Cong-from_same (sum_below-same
        (λ k. view UnitLower patched r (i * b + k) * view Upper patched (i * b + k) c) (λ k. view UnitLower bad.l (r % b) k * view Upper bad.u k (c % b)) (part_length work.rows b i) each
        ∙ sum_below-shrink (λ k. view UnitLower bad.l (r % b) k * view Upper bad.u k (c % b)) (part_length work.rows b i) (q + 1) (omega arith) past))
        (Cong-trans (Cong-sym (Cong-from_mod (sym (bad.product (r % b) (c % b) r_in c_in)))) (Cong-from_same whole))
      where
        r_at : i * b + r % b ≡ r
        r_at = let e : r / b * b + r % b ≡ r = div-add-mod' r b in rw x at e

        c_at : i * b + c % b ≡ c
        c_at = let e : c / b * b + c % b ≡ c = div-add-mod' c b in rw y at e

        r_in : r % b ≤ q
        r_in = omega (arith, h, r_at)

        c_in : c % b ≤ q
        c_in = omega (arith, h, c_at)

        whole : entry (w f i i) (r % b) (c % b) ≡ gathered b (w f) r c
        whole = rw (x, y) refl

        past : (k : ℕ) → q + 1 ≤ k → k < part_length work.rows b i → view UnitLower bad.l (r % b) k * view Upper bad.u k (c % b) ≡ 0
        past k le inner = let less : r % b < k = omega (arith, r_in) in let e : view UnitLower bad.l (r % b) k ≡ 0 = grind (arith, nat_tests) in rw e (omega arith)

        each : (k : ℕ) → k < part_length work.rows b i → view UnitLower patched r (i * b + k) * view Upper patched (i * b + k) c ≡ view UnitLower bad.l (r % b) k * view Upper bad.u k (c % b)
        each k inner = ap₂ (λ (s t : ℕ). s * t)
            (ap (λ (z : ℕ). view UnitLower patched z (i * b + k)) (sym r_at) ∙ view-diagonal_block UnitLower patched (i * b) (r % b) k
            ∙ straight-reads UnitLower (λ x y. patched (i * b + x) (i * b + y)) (packed bad.l bad.u) (r % b) k (λ e. absurd (cc)) (in_place (r % b) k (mod-lt r pos) (omega (arith, inner)))
            ∙ lower-packed bad.l bad.u (r % b) k)
            (ap (λ (z : ℕ). view Upper patched (i * b + k) z) (sym c_at) ∙ view-diagonal_block Upper patched (i * b) k (c % b)
            ∙ straight-reads Upper (λ x y. patched (i * b + x) (i * b + y)) (packed bad.l bad.u) k (c % b) (λ e. absurd (cc)) (in_place k (c % b) (omega (arith, inner)) (mod-lt c pos))
            ∙ upper-packed bad.l bad.u k (c % b))

    -- the step as a solve, on the entries up to the bad pivot
    last-solved : (r c : ℕ) → Leading r c → i ≡ r / b → i ≡ c / b → Cong m (sums (is_task (task f)) patched r c) (gathered b (w f) r c)
    last-solved r c h x y =
        let e : min (r / b) (c / b) ≡ i = omega arith in
        let is : task f ≡ solve_of (r / b) (c / b) = is_f ∙ (λ t. solve_of (x t) (y t)) in
        let none : terms_sum m b two pos op knowns work counts rows_are cols_are op.terms 0 (is_task (task f)) patched r c ≡ 0
        = terms-other m b two pos op knowns work counts rows_are cols_are op.terms 0 (task f) patched r c (rw is_f (λ e. absurd (cc))) in
        let share : lu m b two pos op knowns work counts n task did known_at w run rows_are cols_are form square have (is_task (task f)) patched r c
        ≡ lu_part m b two pos op knowns work counts rows_are cols_are form patched r c i
        = rw is (lu-solve_share m b two pos op knowns work counts rows_are cols_are form patched r c (rw e i_in)
        ∙ ap (λ (p : ℕ). lu_part m b two pos op knowns work counts rows_are cols_are form patched r c p) e) in
        Cong-by (patched_part r c h (sym x) (sym y)) (omega (arith, none, share))

    -- the run that ends with it
    full-run : IsRun m b (operation_tasks op counts) (IsEntry work.rows work.cols op.work.structure) sums n task did (λ p. gathered b (w p))
    full-run = form-run m b two pos op knowns work counts n task did known_at w run rows_are cols_are have
        (lu m b two pos op knowns work counts n task did known_at w run rows_are cols_are form square have)
        (IsShared-lu m b two pos op knowns work counts rows_are cols_are form) no_term
        (lu-updated m b two pos op knowns work counts n task did known_at w run rows_are cols_are form square have)
        (lu-solved m b two pos op knowns work counts n task did known_at w run rows_are cols_are form square have)

    solve_f : IsSolveTask (task f)
    solve_f = rw is_f refl

    -- no step that ran before it reads its block
    unread : (p : ℕ) → p < f → did p ≡ true → ¬ (DependsOn op (task p) (task f).i (task f).j)
    unread p before ran depends = let late : f ≤ p = settled m b op knowns work counts n task did known_at w run f p f_in (omega arith) depends in omega arith

    patched-apart : (r c : ℕ) → ((task f).i ≢ r / b) ⊎ ((task f).j ≢ c / b) → patched r c ≡ gathered b (w f) r c
    patched-apart r c (inl x) = patched-else r c (inl (λ e. x (rw is_f (sym e))))
    patched-apart r c (inr y) = patched-else r c (inr (λ e. y (rw is_f (sym e))))

    patched-solved : (r c : ℕ) → Leading r c → (task f).i ≡ r / b → (task f).j ≡ c / b → Cong m (sums (is_task (task f)) patched r c) (gathered b (w f) r c)
    patched-solved r c h x y = last-solved r c h (rw is_f at x) (rw is_f at y)

    abbrev cut_ran : ℕ → Bool
    cut_ran = cut_did m b (operation_tasks op counts) (IsEntry work.rows work.cols op.work.structure) sums full-shared n task did
        (λ p. gathered b (w p)) full-run f f_in solve_f unread Leading leading-entry patched patched-apart patched-solved

    cut_ran-last : cut_ran f ≡ true
    cut_ran-last = cut_did-last m b (operation_tasks op counts) (IsEntry work.rows work.cols op.work.structure) sums full-shared n task did
        (λ p. gathered b (w p)) full-run f f_in solve_f unread Leading leading-entry patched patched-apart patched-solved

    cut_ran-earlier : (p : ℕ) → p ≢ f → cut_ran p ≡ did p
    cut_ran-earlier p other = cut_did-earlier m b (operation_tasks op counts) (IsEntry work.rows work.cols op.work.structure) sums full-shared n task did
        (λ p. gathered b (w p)) full-run f f_in solve_f unread Leading leading-entry patched patched-apart patched-solved p other

    -- each task of a block up to the diagonal block is in the cut run
    in-cut : (u : Task) → has op counts u ≡ true → u.i ≤ i → u.j ≤ i → (k : ℕ) × (k < suc f) × (cut_ran k ≡ true) × (task k ≡ u)
    in-cut u exists x y = elim (cases_eq u.i i) [
      | inl row ↦ elim (cases_eq u.j i) [
        | inl col ↦ here row col (cases_Bool (is_solve u.kind))
        | inr other ↦ there (all_solved u.i u.j x y (λ h. other h.1)) (cases_Bool (is_solve u.kind))
      ]
      | inr other ↦ there (all_solved u.i u.j x y (λ h. other h.0)) (cases_Bool (is_solve u.kind))
    ]
      where
        from_done : Done u → (k : ℕ) × (k < suc f) × (cut_ran k ≡ true) × (task k ≡ u)
        from_done h = (h.0, omega (arith, h.1), cut_ran-earlier h.0 (λ e. absurd (omega (arith, h.1))) ∙ h.2, h.3)

        there : Done (solve_of u.i u.j) → (is_solve u.kind ≡ true) ⊎ (is_solve u.kind ≡ false) → (k : ℕ) × (k < suc f) × (cut_ran k ≡ true) × (task k ≡ u)
        there done (inl solve) = let h : Done u = (done.0, done.1, done.2, done.3 ∙ sym (solve-is op counts u exists solve)) in from_done h
        there done (inr update) = from_done (needed_by (solve_of u.i u.j) u done (solve-needs op (solve_of u.i u.j) u refl update refl refl) exists)

        here : u.i ≡ i → u.j ≡ i → (is_solve u.kind ≡ true) ⊎ (is_solve u.kind ≡ false) → (k : ℕ) × (k < suc f) × (cut_ran k ≡ true) × (task k ≡ u)
        here row col (inl solve) = (f, omega arith, cut_ran-last, is_f ∙ sym (solve-is op counts u exists solve ∙ (λ t. solve_of (row t) (col t))))
        here row col (inr update) = from_done (needed f u f_in (omega arith) (inr refl) (rw is_f (solve-needs op (solve_of i i) u refl update row col)) exists)

    -- the factors of the leading block
    leading-product : (r c : ℕ) → Leading r c → Cong m (product work.rows (view UnitLower patched) (view Upper patched) r c) (right_side m op knowns work r c)
    leading-product r c h =
        let within : IsEntry work.rows work.cols op.work.structure r c = leading-entry r c h in
        let row : r / b ≤ i = rw (div-mul-add i b q (omega arith)) at (part-le b r place_of_bad h.0) in
        let col : c / b ≤ i = rw (div-mul-add i b q (omega arith)) at (part-le b c place_of_bad h.1) in
        let s = in-cut (solve_of (r / b) (c / b)) (solve-exists (r / b) (c / b) row col) row col in
        let whole : Cong m (sums (λ u. 1) patched r c) (gathered b (w 0) r c)
        = whole-cut m b (operation_tasks op counts) (IsEntry work.rows work.cols op.work.structure) sums full-shared n task did
        (λ p. gathered b (w p)) full-run f f_in solve_f unread Leading leading-entry patched patched-apart patched-solved r c h
        (λ u block. each u block.0 (rw block.1 row) (rw block.2 col)) s.0 s.1 s.2 (rw s.3 refl) (rw s.3 refl) (rw s.3 refl) in
        let first : gathered b (w 0) r c ≡ entry work r c = table-first m b two pos op knowns work counts n task did known_at w run r c within.row within.col in
        Cong-by (Cong-add whole (Cong-sym (terms-whole m b two pos op knowns work counts rows_are cols_are op.terms 0 (entry work) patched r c)))
        (omega (arith, first, lu-whole m b two pos op knowns work counts rows_are cols_are form patched r c))
      where
        each : (u : Task) → has op counts u ≡ true → u.i ≤ i → u.j ≤ i → (k : ℕ) × (k < suc f) × (cut_ran k ≡ true) × (task k ≡ u) × ((t : ℕ) → t < suc f → task t ≡ u → t ≡ k)
        each u exists x y = let k = in-cut u exists x y in (k.0, k.1, k.2, k.3, λ t below e. run.once t k.0 (omega arith) (omega (arith, k.1)) (e ∙ sym k.3))

    -- the pivots of the leading block
    leading-units : (k : ℕ) → k < place_of_bad → IsUnit m (patched k k)
    leading-units k below = elim (cases_lt (k / b) i) [
      | inl early ↦ (let s = diagonal_solved (k / b) early in
          let inner : k % b < part_length work.rows b (k / b) = (index_from_place work.rows b k pos (omega (arith, in_size))).1 in
          let kept : w f (k / b) (k / b) ≡ w (suc s.0) (k / b) (k / b) = stays s.0 (k / b) f f s.1 (omega arith) (omega arith) s.2 s.3 in
          rw (patched-else k k (inl (λ e. absurd (omega arith)))) (rw kept (units s.0 (k / b) (omega (arith, s.1)) s.2 s.3 (omega arith) (k % b) inner)))
      | inr late ↦ (let e : k / b ≤ i = rw (div-mul-add i b q (omega arith)) at (part-le b k place_of_bad (omega arith)) in
          let here : k / b ≡ i = omega arith in
          let at : k / b * b + k % b ≡ k = div-add-mod' k b in
          let at' : i * b + k % b ≡ k = rw here at at in
          rw (patched-here k k here here, packed-diagonal (k % b)) (bad.units (k % b) (omega (arith, at'))))
    ]
      where
        packed-diagonal : (x : ℕ) → packed bad.l bad.u x x ≡ bad.u x x
        packed-diagonal x = grind (arith, nat_tests)

    -- the step fails at the first bad pivot of the statement
    leading-bad : IsBadForLu m (right_side m op knowns work) place_of_bad
    leading-bad = bad_for_lu m work.rows two (right_side m op knowns work) place_of_bad (λ i j row col. HasResidues-right_side m op knowns work (omega arith) given i j) (record {
      within = in_size;
      l = view UnitLower patched;
      u = view Upper patched;
      factors = record {
        lower = IsUnitLower-view (place_of_bad + 1) patched;
        upper = IsUpper-view (place_of_bad + 1) patched;
        equation = λ r c row col. Cong-trans (Cong-from_same (sym (sum_below-shrink (λ k. view UnitLower patched r k * view Upper patched k c) work.rows (place_of_bad + 1) (omega (arith, in_size))
            (λ k past below. beyond r k c row past)))) (leading-product r c (omega arith, omega arith));
      };
      units = λ k below. subst (λ x. IsUnit m x) (sym (upper-diagonal patched k)) (leading-units k below);
      bad = λ unit. bad.bad (subst (λ x. IsUnit m x) (upper-diagonal patched place_of_bad ∙ in_place q q (omega (arith, q_in)) (omega (arith, q_in)) ∙ packed-last) unit);
    })
      where
        beyond : (r k c : ℕ) → r < place_of_bad + 1 → place_of_bad + 1 ≤ k → view UnitLower patched r k * view Upper patched k c ≡ 0
        beyond r k c row past = let less : r < k = omega arith in rw (view-unit_lower_above patched r k less) (omega arith)

        packed-last : packed bad.l bad.u q q ≡ bad.u q q
        packed-last = grind (arith, nat_tests)

    pub fails-at-first : IsFirstBadPivot m op knowns work (record { row = place_of_bad; col = place_of_bad })
    fails-at-first = rw form (refl, in_size, leading-bad)

  -- ---- where all ran there is no bad pivot

  module _ (all_ran : (p : ℕ) → p < n → did p ≡ true) where
    final-units : (k : ℕ) → k < work.rows → IsUnit m (gathered b (w n) k k)
    final-units k below =
        let part : k / b < part_count work.rows b = part_below_count work.rows b k pos below in
        let block : is_work_block op counts (k / b) (k / b) ≡ true = work_block-inside op counts b k k work.rows work.cols pos rows_are cols_are
        (record { row = below; col = rw (← square) below; inside = rw general (λ z. z) }) in
        let s = run.all (solve_of (k / b) (k / b)) (rw (block, form) refl) in
        let kept : w n (k / b) (k / b) ≡ w (suc s.0) (k / b) (k / b) = stays s.0 (k / b) n n s.1 (omega arith) (omega arith) (all_ran s.0 s.1) s.2 in
        rw kept (units s.0 (k / b) s.1 (all_ran s.0 s.1) s.2 part (k % b) (index_from_place work.rows b k pos below).1)

    pub none-bad : (place : Place) → ¬ (IsFirstBadPivot m op knowns work place)
    none-bad place first =
        let bad : (place.col ≡ place.row) × (place.row < work.rows) × IsBadForLu m (right_side m op knowns work) place.row = rw form at first in
        no_lu_bad_pivot m work.rows two (right_side m op knowns work) (view UnitLower (gathered b (w n))) (view Upper (gathered b (w n)))
        (record {
          lower = IsUnitLower-view work.rows (gathered b (w n));
          upper = IsUpper-view work.rows (gathered b (w n));
          equation = λ r c row col. Cong-trans (Cong-from_same (sym (lu-whole m b two pos op knowns work counts rows_are cols_are form (gathered b (w n)) r c)))
              (lu-equation m b two pos op knowns work counts n task did known_at w run rows_are cols_are form square have all_ran given r c
              (record { row = row; col = rw (← square) col; inside = rw general (λ z. z) }));
        })
        (λ k below. subst (λ x. IsUnit m x) (sym (upper-diagonal (gathered b (w n)) k)) (final-units k below)) place.row
        (lu_bad_pivot m work.rows (right_side m op knowns work) place.row bad.1 bad.2)
