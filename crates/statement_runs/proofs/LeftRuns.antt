-- Operations of the form `op(T) * X = R`, in any order of their block tasks.
use Rattle.std.proofs.Common.{◌≡◌, ◌≢◌, ℕ, zero, suc, ◌+◌, ◌-◌, ◌*◌, ◌/◌, ◌%◌, ◌<◌, ◌≤◌, Bool, true, false, not, if◌then◌else◌, List, refl, sym, ◌∙◌, ap, arith}
use Rattle.std.specs.Prelude.{◌==◌, ◌&&◌, nat_lt}
use Rattle.std.proofs.lemmas.Bool.{and_parts, false≢true, eqb-true, eqb-false, not-true, ltb-true}
use Rattle.std.proofs.lemmas.Bool.Decides.{nat_tests}
use Rattle.residue_sums.specs.Residues.{Cong}
use Rattle.residue_sums.specs.Sums.{part_count, part_length}
use Rattle.residue_sums.specs.Tables.{Table, product, times}
use Rattle.residue_sums.specs.Grids.{Grid, AreResidues, entry}
use Rattle.residue_sums.proofs.Congruence.{Cong-by, Cong-sym, Cong-trans, Cong-from_same, Cong-from_mod, mod_from_Cong}
use Rattle.residue_sums.proofs.Parts.{part_below_count}
use Rattle.structure_rules.specs.Structures.{IsEntry, IsWorkStructure, is_zero, view}
use Rattle.operation_spec.specs.declared.operation.Operation.{Operation}
use Rattle.operation_spec.specs.declared.operation.Factor.{Factor}
use Rattle.operation_spec.specs.declared.operation.Form.{Form}
use Rattle.operation_spec.specs.declared.operation.Form.TheVariants.{Left}
use Rattle.operation_spec.specs.declared.task.Kind.{Kind}
use Rattle.operation_spec.specs.declared.task.Kind.TheVariants as kinds
use Rattle.operation_spec.specs.declared.task.Task.{Task}
use Rattle.task_graph.specs.Tasks.{has, has_task, has_left, has_right, has_solve, reads_left, is_work_block, is_inside, parts_of}
use Rattle.task_graph.specs.Needs.{is_solve, left_needs}
use Rattle.task_graph.proofs.WorkBlocks.{work-block}
use Rattle.equation.specs.Equations.{Satisfies, left_side, right_side, minus, factor_table}
use Rattle.equation.proofs.LeftSides.{left_side-left}
use Rattle.equation.proofs.SolvedGrids.{HasResidues-right_side}
use Rattle.flash_blocks.specs.Blocks.{Blocks, gathered}
use Rattle.block_tasks.specs.Effects.{AreKnown, factor_block, view_block, block_structure}
use Rattle.block_tasks.proofs.EffectValues.{with_left, solved_left}
use Rattle.block_tasks.proofs.TaskTests.{is_task}
use Rattle.statement_runs.specs.StatementRuns.{IsStatementRun}
use Rattle.statement_runs.proofs.StatementRuns.{sizes}
use Rattle.block_tasks.proofs.SolveTasks.{IsSolveTask, DependsOn, solve_of, solve-is}
use Rattle.block_tasks.proofs.TermSums.{HasTerms, HasFactor, combined-Cong}
use Rattle.statement_runs.proofs.StepValues.{value-at}
use Rattle.statement_runs.proofs.FormRuns.{form-solved}
use Rattle.statement_runs.proofs.GatheredGrids.{gathered_grid, gathered-has, Satisfies-gathered}
use Rattle.block_tasks.proofs.LeftSums.{left_sum, IsShared-left, left-none, left_part, left-update_share, left-solve_share, left-product, left-whole, is_inside-diagonal, work_block-zero}

module _ (m b : ℕ) (two : 2 ≤ m) (pos : 0 < b) (op : Operation) (knowns : List Grid) (work : Grid) (counts : List ℕ) (n : ℕ) (task : ℕ → Task) (did : ℕ → Bool) (known_at : ℕ → ℕ → Blocks) (w : ℕ → Blocks)
    (run : IsStatementRun m b op knowns work counts n task did known_at w)
    (rows_are : parts_of counts op.work.rows ≡ part_count work.rows b) (cols_are : parts_of counts op.work.cols ≡ part_count work.cols b)
    (work_structure : IsWorkStructure op.work.structure) (solves : has_solve op.form ≡ true)
    (t : Factor) (factor_sizes : HasFactor op b knowns pos t work.rows work.rows)
    (has_left_is : (i j k : ℕ) → has_left op counts op.form i j k ≡ reads_left op counts t i j k)
    (needs_is : (i j k : ℕ) → left_needs op.form i j k (solve_of k j) ≡ true)
    (with_left_is : (known : ℕ → Blocks) (blocks : Blocks) (i j k : ℕ) (a : Table) → with_left m op known blocks op.form i j k a
    ≡ minus m a (times m (blocks k j).rows (factor_block op known t i k) (view (block_structure op.work.structure k j) (entry (blocks k j))))) where
  abbrev pub left : (Task → ℕ) → Table → ℕ → ℕ → ℕ
  left = left_sum m b two pos op knowns work counts rows_are cols_are work_structure solves t factor_sizes has_left_is needs_is

  -- what an update on the left leaves
  pub left-updated : (p : ℕ) → p < n → did p ≡ true → (task p).kind ≡ kinds.Left → (r c : ℕ) → IsEntry work.rows work.cols op.work.structure r c
      → (task p).i ≡ r / b → (task p).j ≡ c / b → Cong m (gathered b (w (suc p)) r c + left (is_task (task p)) (gathered b (w p)) r c) (gathered b (w p) r c)
  left-updated p below ran kind r c within row col =
      let u : Task = task p in
      let h = and_parts (is_work_block op counts u.i u.j) (has_task op counts u.kind u.term u.i u.j u.k) (run.exists p below) in
      let h_left = and_parts (u.term == 0) (has_left op counts op.form (r / b) (c / b) u.k) (rw (kind, row, col) at h.1) in
      let reads : reads_left op counts t (r / b) (c / b) u.k ≡ true = sym (has_left_is (r / b) (c / b) u.k) ∙ h_left.1 in
      let x = and_parts (is_inside op t (r / b) u.k && not (r / b == u.k)) (is_work_block op counts u.k (c / b)) reads in
      let y = and_parts (is_inside op t (r / b) u.k) (not (r / b == u.k)) x.0 in
      let apart : u.k ≢ r / b = λ e. eqb-false (r / b) u.k (not-true (r / b == u.k) y.1) (sym e) in
      let inner : u.k < part_count work.rows b = rw rows_are at (work-block op counts u.k (c / b) x.1).0 in
      let size = sizes m b op knowns work counts n task did known_at w run p (omega arith) u.k (c / b) inner (part_below_count work.cols b c pos within.col) in
      let value : gathered b (w (suc p)) r c ≡ with_left m op (known_at p) (w p) op.form (r / b) (c / b) u.k (entry (w p (r / b) (c / b))) (r % b) (c % b)
      = rw kind at (value-at m b two pos op knowns work counts n task did known_at w run p below ran r c within row col) in
      Cong-by (combined-Cong m two true (entry (w p (r / b) (c / b)))
      (times m (w p u.k (c / b)).rows (factor_block op (known_at p) t (r / b) u.k) (view (block_structure op.work.structure u.k (c / b)) (entry (w p u.k (c / b))))) (r % b) (c % b)
      (gathered b (w (suc p)) r c)
      (left_part m b two pos op knowns work counts rows_are cols_are work_structure solves t factor_sizes has_left_is needs_is (gathered b (w p)) r c u.k)
      (left-product m b two pos op knowns work counts rows_are cols_are work_structure solves t factor_sizes has_left_is needs_is (known_at p) (run.known_are p below) (w p) r c within.row u.k (w p u.k (c / b)).rows size.0 y.0
      (work_block-zero op counts u.k (c / b) x.1))
      (value ∙ ap (λ (a : Table). a (r % b) (c % b)) (with_left_is (known_at p) (w p) (r / b) (c / b) u.k (entry (w p (r / b) (c / b))))))
      (omega (
        arith,
        left-update_share m b two pos op knowns work counts rows_are cols_are work_structure solves t factor_sizes has_left_is needs_is u (gathered b (w p)) r c kind
            (eqb-true u.term 0 h_left.0) row col apart inner,
      ))

  -- the product that a solve with T makes, and its share
  pub left-solve_product : (known : ℕ → Blocks) → AreKnown b knowns known → (blocks : Blocks) (r c : ℕ) → IsEntry work.rows work.cols op.work.structure r c → is_work_block op counts (r / b) (c / b) ≡ true → (length : ℕ) → length ≡ part_length work.rows b (r / b)
      → times m length (factor_block op known t (r / b) (r / b)) (view (block_structure op.work.structure (r / b) (c / b)) (entry (blocks (r / b) (c / b)))) (r % b) (c % b)
      ≡ left (is_task (solve_of (r / b) (c / b))) (gathered b blocks) r c % m
  left-solve_product known are blocks r c within block length length_is =
      left-product m b two pos op knowns work counts rows_are cols_are work_structure solves t factor_sizes has_left_is needs_is known are blocks r c within.row (r / b) length length_is
      (is_inside-diagonal op t (r / b)) (work_block-zero op counts (r / b) (c / b) block)
      ∙ ap (λ (x : ℕ). x % m) (sym (left-solve_share m b two pos op knowns work counts rows_are cols_are work_structure solves t factor_sizes has_left_is needs_is
      (solve_of (r / b) (c / b)) (gathered b blocks) r c refl within.row))

-- ---- T * X = R

left_needs-solve : (t : Factor) (i j k : ℕ) → left_needs (Left t) i j k (solve_of k j) ≡ true
left_needs-solve t i j k = let e : (k == k) ≡ true = grind (arith, nat_tests) in let f : (j == j) ≡ true = grind (arith, nat_tests) in rw (e, f) refl

-- a task that is neither an update on the left nor one of a term is a solve
left_kinds : (op : Operation) (counts : List ℕ) (t : Factor) (kind : Kind) (term i j k : ℕ) → op.form ≡ Left t → has_task op counts kind term i j k ≡ true → ¬ (is_solve kind ≡ true) → kind ≢ kinds.Term → kind ≡ kinds.Left
left_kinds op counts t kinds.Left term i j k form h not_solve apart = refl
left_kinds op counts t kinds.Term term i j k form h not_solve apart = absurd (apart refl)
left_kinds op counts t kinds.Pivots term i j k form h not_solve apart = absurd (false≢true h)
left_kinds op counts t kinds.Solve term i j k form h not_solve apart = absurd (not_solve refl)
left_kinds op counts t kinds.Right term i j k form h not_solve apart = absurd (false≢true (rw form at (and_parts (term == 0) (has_right op counts op.form i j k) h).1))

module _ (m b : ℕ) (two : 2 ≤ m) (pos : 0 < b) (op : Operation) (knowns : List Grid) (work : Grid) (counts : List ℕ) (n : ℕ) (task : ℕ → Task) (did : ℕ → Bool) (known_at : ℕ → ℕ → Blocks) (w : ℕ → Blocks)
    (run : IsStatementRun m b op knowns work counts n task did known_at w)
    (rows_are : parts_of counts op.work.rows ≡ part_count work.rows b) (cols_are : parts_of counts op.work.cols ≡ part_count work.cols b)
    (work_structure : IsWorkStructure op.work.structure)
    (t : Factor) (factor_sizes : HasFactor op b knowns pos t work.rows work.rows) (form : op.form ≡ Left t)
    (have : HasTerms m b two pos op knowns work counts rows_are cols_are op.terms)
    (all_ran : (p : ℕ) → p < n → did p ≡ true) (given : AreResidues m work) where
  solves : has_solve op.form ≡ true
  solves = rw form refl

  has_left_is : (i j k : ℕ) → has_left op counts op.form i j k ≡ reads_left op counts t i j k
  has_left_is i j k = rw form refl

  needs_is : (i j k : ℕ) → left_needs op.form i j k (solve_of k j) ≡ true
  needs_is i j k = rw form (left_needs-solve t i j k)

  with_left_is : (known : ℕ → Blocks) (blocks : Blocks) (i j k : ℕ) (a : Table) → with_left m op known blocks op.form i j k a
      ≡ minus m a (times m (blocks k j).rows (factor_block op known t i k) (view (block_structure op.work.structure k j) (entry (blocks k j))))
  with_left_is known blocks i j k a = rw form refl

  abbrev product_sum : (Task → ℕ) → Table → ℕ → ℕ → ℕ
  product_sum = left m b two pos op knowns work counts n task did known_at w run rows_are cols_are work_structure solves t factor_sizes has_left_is needs_is with_left_is

  abbrev Inside : ℕ → ℕ → Type 0
  Inside = IsEntry work.rows work.cols op.work.structure

  updated : (p : ℕ) → p < n → did p ≡ true → ¬ (IsSolveTask (task p)) → (task p).kind ≢ kinds.Term → (r c : ℕ) → Inside r c → (task p).i ≡ r / b → (task p).j ≡ c / b
      → Cong m (gathered b (w (suc p)) r c + product_sum (is_task (task p)) (gathered b (w p)) r c) (gathered b (w p) r c)
  updated p below ran update apart r c within row col =
      left-updated m b two pos op knowns work counts n task did known_at w run rows_are cols_are work_structure solves t factor_sizes has_left_is needs_is with_left_is p below ran
      (left_kinds op counts t (task p).kind (task p).term (task p).i (task p).j (task p).k form
      (and_parts (is_work_block op counts (task p).i (task p).j) (has_task op counts (task p).kind (task p).term (task p).i (task p).j (task p).k) (run.exists p below)).1 update apart)
      r c within row col

  solved : (p : ℕ) → p < n → did p ≡ true → (task p).kind ≡ kinds.Solve → (r c : ℕ) → Inside r c → (task p).i ≡ r / b → (task p).j ≡ c / b
      → Cong m (product_sum (is_task (task p)) (gathered b (w (suc p))) r c) (gathered b (w p) r c)
  solved p below ran kind r c within row col =
      let is : task p ≡ solve_of (r / b) (c / b) = solve-is op counts (task p) (run.exists p below) (rw kind refl) ∙ (λ x. solve_of (row x) (col x)) in
      let block : is_work_block op counts (r / b) (c / b) ≡ true
      = rw (row, col) at (and_parts (is_work_block op counts (task p).i (task p).j) (has_task op counts (task p).kind (task p).term (task p).i (task p).j (task p).k) (run.exists p below)).0 in
      let size = sizes m b op knowns work counts n task did known_at w run p (omega arith) (r / b) (c / b) (part_below_count work.rows b r pos within.row) (part_below_count work.cols b c pos within.col) in
      let value : solved_left m op (known_at p) (w p) op.form (r / b) (c / b) (entry (w (suc p) (r / b) (c / b))) (r % b) (c % b) ≡ gathered b (w p) r c
      = rw kind at (value-at m b two pos op knowns work counts n task did known_at w run p below ran r c within row col) in
      rw is (Cong-sym (Cong-from_mod (sym (rw form at value) ∙
      left-solve_product m b two pos op knowns work counts n task did known_at w run rows_are cols_are work_structure solves t factor_sizes has_left_is needs_is with_left_is (known_at p) (run.known_are p below) (w (suc p)) r c within block
      (w p (r / b) (c / b)).rows size.0)))

  whole : (r c : ℕ) → Inside r c → Cong m (product_sum (λ u. 1) (gathered b (w n)) r c) (right_side m op knowns work r c)
  whole r c within = form-solved m b two pos op knowns work counts n task did known_at w run rows_are cols_are have product_sum
      (IsShared-left m b two pos op knowns work counts rows_are cols_are work_structure solves t factor_sizes has_left_is needs_is)
      (λ u v r c kind. left-none m b two pos op knowns work counts rows_are cols_are work_structure solves t factor_sizes has_left_is needs_is u v r c
      (rw kind (λ e. absurd (cc))) (rw kind (λ e. absurd (cc))))
      updated solved all_ran r c within solves

  pub Satisfies-left : Satisfies m op knowns work (gathered_grid m b two pos op knowns work counts n task did known_at w run)
  Satisfies-left = Satisfies-gathered m b two pos op knowns work counts n task did known_at w run given (λ r c within.
      left_side-left m op knowns work_structure work.rows work.cols (gathered_grid m b two pos op knowns work counts n task did known_at w run) (gathered b (w n)) refl refl
      (gathered-has m b two pos op knowns work counts n task did known_at w run) r c within.row within.col t form
      ∙ ap (λ (x : ℕ). x % m) (sym (left-whole m b two pos op knowns work counts rows_are cols_are work_structure solves t factor_sizes has_left_is needs_is (gathered b (w n)) r c))
      ∙ sym (mod_from_Cong (HasResidues-right_side m op knowns work (omega arith) given r c) (Cong-sym (whole r c within))))
