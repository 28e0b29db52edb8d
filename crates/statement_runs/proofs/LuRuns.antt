-- Operations of the form `lu X = R`, in any order of their block tasks: what each step leaves, and the whole where all ran.
use Rattle.std.proofs.Common.{◌≡◌, ◌≢◌, ℕ, zero, suc, min, ◌+◌, ◌-◌, ◌*◌, ◌/◌, ◌%◌, ◌<◌, ◌≤◌, ◌⊎◌, inl, inr, Bool, true, false, not, if◌then◌else◌, List, refl, sym, ◌∙◌, ap, arith}
use Rattle.std.specs.Prelude.{◌==◌, ◌&&◌, nat_lt}
use Rattle.std.proofs.lemmas.Bool.{and_parts, false≢true, eqb-true, cases_order, cases_eq, ltb-true, lt-ltb}
use Rattle.std.proofs.lemmas.Bool.Decides.{nat_tests}
use Rattle.residue_sums.specs.Residues.{Cong}
use Rattle.residue_sums.specs.Sums.{part_count, part_length}
use Rattle.residue_sums.specs.Tables.{Table, product, times}
use Rattle.residue_sums.specs.Grids.{Grid, AreResidues, entry}
use Rattle.residue_sums.proofs.Congruence.{Cong-by, Cong-sym, Cong-from_mod, mod_from_Cong}
use Rattle.residue_sums.proofs.Parts.{part_below_count}
use Rattle.structure_rules.specs.declared.Structure.TheVariants.{General, UnitLower, Upper}
use Rattle.structure_rules.specs.Structures.{IsEntry, view}
use Rattle.operation_spec.specs.declared.operation.Operation.{Operation}
use Rattle.operation_spec.specs.declared.operation.Form.{Form}
use Rattle.operation_spec.specs.declared.operation.Form.TheVariants.{Lu}
use Rattle.operation_spec.specs.declared.task.Kind.{Kind}
use Rattle.operation_spec.specs.declared.task.Kind.TheVariants as kinds
use Rattle.operation_spec.specs.declared.task.Task.{Task}
use Rattle.task_graph.specs.Tasks.{has, has_task, has_left, has_right, has_solve, is_work_block, parts_of}
use Rattle.task_graph.specs.Needs.{is_solve}
use Rattle.task_graph.proofs.WorkBlocks.{work-block}
use Rattle.equation.specs.Equations.{Satisfies, left_side, right_side, minus}
use Rattle.equation.proofs.FactorLeftSides.{left_side-lu}
use Rattle.equation.proofs.SolvedGrids.{HasResidues-right_side}
use Rattle.flash_blocks.specs.Blocks.{Blocks, gathered}
use Rattle.block_tasks.specs.Effects.{AreKnown, block_structure}
use Rattle.block_tasks.proofs.EffectValues.{with_left, solved_left}
use Rattle.block_tasks.proofs.TaskTests.{is_task}
use Rattle.statement_runs.specs.StatementRuns.{IsStatementRun}
use Rattle.statement_runs.proofs.StatementRuns.{sizes}
use Rattle.block_tasks.proofs.SolveTasks.{IsSolveTask, DependsOn, solve_of, solve-is}
use Rattle.block_tasks.proofs.TermSums.{HasTerms, combined-Cong}
use Rattle.statement_runs.proofs.StepValues.{value-at}
use Rattle.statement_runs.proofs.FormRuns.{form-solved}
use Rattle.statement_runs.proofs.GatheredGrids.{gathered_grid, gathered-has, Satisfies-gathered}
use Rattle.block_tasks.proofs.LuSums.{lu_sum, lu_part, IsShared-lu, lu-none, lu-update_share, lu-solve_share, lu-product, lu-whole}

-- an update multiplies two blocks off the diagonal, which are read as they are stored
lu_update-is : (m : ℕ) (blocks : Blocks) (i j k r c length : ℕ) → k < min i j
    → times m length (entry (blocks i k)) (entry (blocks k j)) r c ≡ times m length (view (block_structure UnitLower i k) (entry (blocks i k))) (view (block_structure Upper k j) (entry (blocks k j))) r c
lu_update-is m blocks i j k r c length below =
    let e : (i == k) ≡ false = grind (arith, nat_tests) in
    let f : (k == j) ≡ false = grind (arith, nat_tests) in
    rw (e, f) refl

-- a solve multiplies a block of L and one of U, of which one or both are what it finds
lu_solve-is : (m : ℕ) (op : Operation) (knowns : ℕ → Blocks) (blocks blocks' : Blocks) (i j r c length : ℕ)
    → (i ≢ j → blocks' (min i j) (min i j) ≡ blocks (min i j) (min i j)) → (i ≤ j → (blocks i j).rows ≡ length) → (j < i → (blocks i j).cols ≡ length)
    → solved_left m op knowns blocks Lu i j (entry (blocks' i j)) r c
    ≡ times m length (view (block_structure UnitLower i (min i j)) (entry (blocks' i (min i j)))) (view (block_structure Upper (min i j) j) (entry (blocks' (min i j) j))) r c
lu_solve-is m op knowns blocks blocks' i j r c length kept rows cols = elim (cases_order i j) [
  | inl same ↦ (let a : min i j ≡ i = omega arith in let x : nat_lt i j ≡ false = grind (arith, nat_tests) in let y : nat_lt j i ≡ false = grind (arith, nat_tests) in
      let e : (i == i) ≡ true = grind (arith, nat_tests) in
      let f : (i == j) ≡ true = grind (arith, nat_tests) in
      let s : (blocks i j).rows ≡ length = rows (omega arith) in
      rw (a, x, y, e, f) (rw s (diagonal same)))
  | inr (inl less) ↦ (let a : min i j ≡ i = omega arith in let x : nat_lt i j ≡ true = lt-ltb i j less in
      let e : (i == i) ≡ true = grind (arith, nat_tests) in let f : (i == j) ≡ false = grind (arith, nat_tests) in
      let h : blocks' i i ≡ blocks i i = rw a at (kept (λ q. absurd (omega arith))) in
      let s : (blocks i j).rows ≡ length = rows (omega arith) in
      rw (a, x, e, f) (rw (h, s) refl))
  | inr (inr more) ↦ (let a : min i j ≡ j = omega arith in let x : nat_lt i j ≡ false = grind (arith, nat_tests) in let y : nat_lt j i ≡ true = lt-ltb j i more in
      let e : (j == j) ≡ true = grind (arith, nat_tests) in let f : (i == j) ≡ false = grind (arith, nat_tests) in
      let h : blocks' j j ≡ blocks j j = rw a at (kept (λ q. absurd (omega arith))) in
      let s : (blocks i j).cols ≡ length = cols (omega arith) in
      rw (a, x, y, e, f) (rw (h, s) refl))
]
  where
    diagonal : i ≡ j → times m length (view UnitLower (entry (blocks' i j))) (view Upper (entry (blocks' i j))) r c ≡ times m length (view UnitLower (entry (blocks' i i))) (view Upper (entry (blocks' i j))) r c
    diagonal same = ap (λ (x : ℕ). times m length (view UnitLower (entry (blocks' i x))) (view Upper (entry (blocks' i j))) r c) (sym same)

-- a task that is neither a solve nor one of a term is an update on the left
lu_kinds : (op : Operation) (counts : _) (kind : Kind) (term i j k : ℕ) → op.form ≡ Lu → has_task op counts kind term i j k ≡ true → ¬ (is_solve kind ≡ true) → kind ≢ kinds.Term → kind ≡ kinds.Left
lu_kinds op counts kinds.Left term i j k form h not_solve apart = refl
lu_kinds op counts kinds.Term term i j k form h not_solve apart = absurd (apart refl)
lu_kinds op counts kinds.Pivots term i j k form h not_solve apart = absurd (false≢true h)
lu_kinds op counts kinds.Solve term i j k form h not_solve apart = absurd (not_solve refl)
lu_kinds op counts kinds.Right term i j k form h not_solve apart = absurd (false≢true (rw form at (and_parts (term == 0) (has_right op counts op.form i j k) h).1))

module _ (m b : ℕ) (two : 2 ≤ m) (pos : 0 < b) (op : Operation) (knowns : List Grid) (work : Grid) (counts : List ℕ) (n : ℕ) (task : ℕ → Task) (did : ℕ → Bool) (known_at : ℕ → ℕ → Blocks) (w : ℕ → Blocks)
    (run : IsStatementRun m b op knowns work counts n task did known_at w)
    (rows_are : parts_of counts op.work.rows ≡ part_count work.rows b) (cols_are : parts_of counts op.work.cols ≡ part_count work.cols b)
    (form : op.form ≡ Lu) (square : work.rows ≡ work.cols)
    (have : HasTerms m b two pos op knowns work counts rows_are cols_are op.terms) where
  abbrev pub lu : (Task → ℕ) → Table → ℕ → ℕ → ℕ
  lu = lu_sum m b two pos op knowns work counts rows_are cols_are form

  abbrev Inside : ℕ → ℕ → Type 0
  Inside = IsEntry work.rows work.cols op.work.structure

  size : (p : ℕ) → p ≤ n → (i j : ℕ) → i < part_count work.rows b → j < part_count work.cols b → ((w p i j).rows ≡ part_length work.rows b i) × ((w p i j).cols ≡ part_length work.cols b j)
  size = sizes m b op knowns work counts n task did known_at w run

  pub lu-updated : (p : ℕ) → p < n → did p ≡ true → ¬ (IsSolveTask (task p)) → (task p).kind ≢ kinds.Term → (r c : ℕ) → Inside r c → (task p).i ≡ r / b → (task p).j ≡ c / b
      → Cong m (gathered b (w (suc p)) r c + lu (is_task (task p)) (gathered b (w p)) r c) (gathered b (w p) r c)
  lu-updated p below ran update apart r c within row col =
      let u : Task = task p in
      let h = and_parts (is_work_block op counts u.i u.j) (has_task op counts u.kind u.term u.i u.j u.k) (run.exists p below) in
      let kind : u.kind ≡ kinds.Left = lu_kinds op counts u.kind u.term u.i u.j u.k form h.1 update apart in
      let h_left = and_parts (u.term == 0) (has_left op counts op.form (r / b) (c / b) u.k) (rw (kind, row, col) at h.1) in
      let early : u.k < min (r / b) (c / b) = ltb-true u.k (min (r / b) (c / b)) (rw form at h_left.1) in
      let row_part : r / b < part_count work.rows b = part_below_count work.rows b r pos within.row in
      let inner : u.k < part_count work.rows b = omega arith in
      let length : (w p (r / b) u.k).cols ≡ part_length work.rows b u.k = (size p (omega arith) (r / b) u.k row_part (rw (← square) inner)).1 ∙ rw square refl in
      let value : gathered b (w (suc p)) r c ≡ with_left m op (known_at p) (w p) op.form (r / b) (c / b) u.k (entry (w p (r / b) (c / b))) (r % b) (c % b)
      = rw kind at (value-at m b two pos op knowns work counts n task did known_at w run p below ran r c within row col) in
      Cong-by (combined-Cong m two true (entry (w p (r / b) (c / b)))
      (times m (w p (r / b) u.k).cols (entry (w p (r / b) u.k)) (entry (w p u.k (c / b)))) (r % b) (c % b)
      (gathered b (w (suc p)) r c) (lu_part m b two pos op knowns work counts rows_are cols_are form (gathered b (w p)) r c u.k)
      (lu_update-is m (w p) (r / b) (c / b) u.k (r % b) (c % b) (w p (r / b) u.k).cols early
      ∙ lu-product m b two pos op knowns work counts rows_are cols_are form (w p) r c u.k (w p (r / b) u.k).cols length (omega arith) (omega arith))
      (rw form at value))
      (omega (arith, lu-update_share m b two pos op knowns work counts rows_are cols_are form u (gathered b (w p)) r c kind (eqb-true u.term 0 h_left.0) row col early inner))

  pub lu-solved : (p : ℕ) → p < n → did p ≡ true → (task p).kind ≡ kinds.Solve → (r c : ℕ) → Inside r c → (task p).i ≡ r / b → (task p).j ≡ c / b
      → Cong m (lu (is_task (task p)) (gathered b (w (suc p))) r c) (gathered b (w p) r c)
  lu-solved p below ran kind r c within row col =
      let is : task p ≡ solve_of (r / b) (c / b) = solve-is op counts (task p) (run.exists p below) (rw kind refl) ∙ (λ x. solve_of (row x) (col x)) in
      let row_part : r / b < part_count work.rows b = part_below_count work.rows b r pos within.row in
      let part : min (r / b) (c / b) < part_count work.rows b = omega arith in
      let own = size p (omega arith) (r / b) (c / b) row_part (part_below_count work.cols b c pos within.col) in
      let rows_length : r / b ≤ c / b → (w p (r / b) (c / b)).rows ≡ part_length work.rows b (min (r / b) (c / b))
      = λ le. own.0 ∙ (let e : min (r / b) (c / b) ≡ r / b = omega arith in rw e refl) in
      let cols_length : c / b < r / b → (w p (r / b) (c / b)).cols ≡ part_length work.rows b (min (r / b) (c / b))
      = λ less. own.1 ∙ rw square (let e : min (r / b) (c / b) ≡ c / b = omega arith in rw e refl) in
      let kept : r / b ≢ c / b → w (suc p) (min (r / b) (c / b)) (min (r / b) (c / b)) ≡ w p (min (r / b) (c / b)) (min (r / b) (c / b))
      = λ apart. run.elsewhere p below (min (r / b) (c / b)) (min (r / b) (c / b)) (other (task p).i (task p).j (r / b) (c / b) row col apart) in
      let value : solved_left m op (known_at p) (w p) op.form (r / b) (c / b) (entry (w (suc p) (r / b) (c / b))) (r % b) (c % b) ≡ gathered b (w p) r c
      = rw kind at (value-at m b two pos op knowns work counts n task did known_at w run p below ran r c within row col) in
      rw is (Cong-sym (Cong-from_mod (sym (rw form at value)
      ∙ lu_solve-is m op (known_at p) (w p) (w (suc p)) (r / b) (c / b) (r % b) (c % b) (part_length work.rows b (min (r / b) (c / b))) kept rows_length cols_length
      ∙ lu-product m b two pos op knowns work counts rows_are cols_are form (w (suc p)) r c (min (r / b) (c / b)) (part_length work.rows b (min (r / b) (c / b))) refl (omega arith) (omega arith)
      ∙ ap (λ (x : ℕ). x % m) (sym (lu-solve_share m b two pos op knowns work counts rows_are cols_are form (gathered b (w (suc p))) r c part)))))
    where
      other : (i j a d : ℕ) → i ≡ a → j ≡ d → a ≢ d → (i ≢ min a d) ⊎ (j ≢ min a d)
      other i j a d e f apart = elim (cases_eq i (min a d)) [
        | inr x ↦ inl x
        | inl x ↦ inr (λ y. apart (omega arith))
      ]

  -- where all ran
  module _ (all_ran : (p : ℕ) → p < n → did p ≡ true) (given : AreResidues m work) where
    pub lu-equation : (r c : ℕ) → Inside r c → Cong m (lu (λ u. 1) (gathered b (w n)) r c) (right_side m op knowns work r c)
    lu-equation r c within = form-solved m b two pos op knowns work counts n task did known_at w run rows_are cols_are have lu
        (IsShared-lu m b two pos op knowns work counts rows_are cols_are form)
        (λ u v r c kind. lu-none m b two pos op knowns work counts rows_are cols_are form u v r c (rw kind (λ e. absurd (cc))) (rw kind (λ e. absurd (cc))))
        lu-updated lu-solved all_ran r c within (rw form refl)

    pub Satisfies-lu : Satisfies m op knowns work (gathered_grid m b two pos op knowns work counts n task did known_at w run)
    Satisfies-lu = Satisfies-gathered m b two pos op knowns work counts n task did known_at w run given (λ r c within.
        left_side-lu m op knowns work.rows (gathered_grid m b two pos op knowns work counts n task did known_at w run) (gathered b (w n)) refl (sym square)
        (gathered-has m b two pos op knowns work counts n task did known_at w run) r c within.row (rw square within.col) form
        ∙ ap (λ (x : ℕ). x % m) (sym (lu-whole m b two pos op knowns work counts rows_are cols_are form (gathered b (w n)) r c))
        ∙ sym (mod_from_Cong (HasResidues-right_side m op knowns work (omega arith) given r c) (Cong-sym (lu-equation r c within))))
