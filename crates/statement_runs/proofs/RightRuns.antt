-- Operations of the form `X * op(T) = R`, in any order of their block tasks.
use Rattle.std.proofs.Common.{◌≡◌, ◌≢◌, ℕ, zero, suc, ◌+◌, ◌-◌, ◌*◌, ◌/◌, ◌%◌, ◌<◌, ◌≤◌, Bool, true, false, not, if◌then◌else◌, List, refl, sym, ◌∙◌, ap, arith}
use Rattle.std.specs.Prelude.{◌==◌, ◌&&◌, nat_lt}
use Rattle.std.proofs.lemmas.Bool.{and_parts, false≢true, eqb-true, eqb-false, not-true, ltb-true}
use Rattle.std.proofs.lemmas.Bool.Decides.{nat_tests}
use Rattle.residue_sums.specs.Residues.{Cong}
use Rattle.residue_sums.specs.Sums.{part_count, part_length}
use Rattle.residue_sums.specs.Tables.{Table, product, times}
use Rattle.residue_sums.specs.Grids.{Grid, AreResidues, entry}
use Rattle.residue_sums.proofs.Congruence.{Cong-by, Cong-sym, Cong-trans, Cong-from_same, Cong-from_mod, mod_from_Cong}
use Rattle.residue_sums.proofs.Parts.{part_below_count}
use Rattle.structure_rules.specs.Structures.{IsEntry, IsWorkStructure, is_zero, view}
use Rattle.operation_spec.specs.declared.operation.Operation.{Operation}
use Rattle.operation_spec.specs.declared.operation.Factor.{Factor}
use Rattle.operation_spec.specs.declared.operation.Form.{Form}
use Rattle.operation_spec.specs.declared.operation.Form.TheVariants.{Right}
use Rattle.operation_spec.specs.declared.task.Kind.{Kind}
use Rattle.operation_spec.specs.declared.task.Kind.TheVariants as kinds
use Rattle.operation_spec.specs.declared.task.Task.{Task}
use Rattle.task_graph.specs.Tasks.{has, has_task, has_left, has_right, has_solve, reads_right, is_work_block, is_inside, parts_of}
use Rattle.task_graph.specs.Needs.{is_solve, right_needs}
use Rattle.task_graph.proofs.WorkBlocks.{work-block}
use Rattle.equation.specs.Equations.{Satisfies, left_side, right_side, minus, factor_table}
use Rattle.equation.proofs.LeftSides.{left_side-right}
use Rattle.equation.proofs.SolvedGrids.{HasResidues-right_side}
use Rattle.flash_blocks.specs.Blocks.{Blocks, gathered}
use Rattle.block_tasks.specs.Effects.{AreKnown, factor_block, view_block, block_structure}
use Rattle.equation.specs.Kernels.{combined}
use Rattle.block_tasks.proofs.EffectValues.{with_right, solved_left}
use Rattle.block_tasks.proofs.TaskTests.{is_task}
use Rattle.statement_runs.specs.StatementRuns.{IsStatementRun}
use Rattle.statement_runs.proofs.StatementRuns.{sizes}
use Rattle.block_tasks.proofs.SolveTasks.{IsSolveTask, DependsOn, solve_of, solve-is}
use Rattle.block_tasks.proofs.TermSums.{HasTerms, HasFactor, sign, combined-Cong}
use Rattle.statement_runs.proofs.StepValues.{value-at}
use Rattle.statement_runs.proofs.FormRuns.{form-solved}
use Rattle.statement_runs.proofs.GatheredGrids.{gathered_grid, gathered-has, Satisfies-gathered}
use Rattle.task_sums.proofs.Shares.{IsShared-scale}
use Rattle.block_tasks.proofs.LeftSums.{is_inside-diagonal, work_block-zero}
use Rattle.block_tasks.proofs.RightSums.{right_sum, IsShared-right, right-none, right_part, right-update_share, right-solve_share, right-product, right-whole}

module _ (m b : ℕ) (two : 2 ≤ m) (pos : 0 < b) (op : Operation) (knowns : List Grid) (work : Grid) (counts : List ℕ) (n : ℕ) (task : ℕ → Task) (did : ℕ → Bool) (known_at : ℕ → ℕ → Blocks) (w : ℕ → Blocks)
    (run : IsStatementRun m b op knowns work counts n task did known_at w)
    (rows_are : parts_of counts op.work.rows ≡ part_count work.rows b) (cols_are : parts_of counts op.work.cols ≡ part_count work.cols b)
    (work_structure : IsWorkStructure op.work.structure) (solves : has_solve op.form ≡ true)
    (t : Factor) (factor_sizes : HasFactor op b knowns pos t work.cols work.cols)
    (has_right_is : (i j k : ℕ) → has_right op counts op.form i j k ≡ reads_right op counts t i j k)
    (needs_is : (i j k : ℕ) → right_needs op.form i j k (solve_of i k) ≡ true)
    (negative : Bool)
    (with_right_is : (known : ℕ → Blocks) (blocks : Blocks) (i j k : ℕ) (a : Table) → with_right m op known blocks op.form i j k a
    ≡ combined m negative a (times m (blocks i k).cols (view (block_structure op.work.structure i k) (entry (blocks i k))) (factor_block op known t k j))) where
  abbrev pub right : (Task → ℕ) → Table → ℕ → ℕ → ℕ
  right = right_sum m b two pos op knowns work counts rows_are cols_are work_structure solves t factor_sizes has_right_is needs_is

  -- what an update on the left leaves
  pub right-updated : (p : ℕ) → p < n → did p ≡ true → (task p).kind ≡ kinds.Right → (r c : ℕ) → IsEntry work.rows work.cols op.work.structure r c
      → (task p).i ≡ r / b → (task p).j ≡ c / b → Cong m (gathered b (w (suc p)) r c + sign m negative * right (is_task (task p)) (gathered b (w p)) r c) (gathered b (w p) r c)
  right-updated p below ran kind r c within row col =
      let u : Task = task p in
      let h = and_parts (is_work_block op counts u.i u.j) (has_task op counts u.kind u.term u.i u.j u.k) (run.exists p below) in
      let h_right = and_parts (u.term == 0) (has_right op counts op.form (r / b) (c / b) u.k) (rw (kind, row, col) at h.1) in
      let reads : reads_right op counts t (r / b) (c / b) u.k ≡ true = sym (has_right_is (r / b) (c / b) u.k) ∙ h_right.1 in
      let x = and_parts (is_inside op t u.k (c / b) && not (u.k == c / b)) (is_work_block op counts (r / b) u.k) reads in
      let y = and_parts (is_inside op t u.k (c / b)) (not (u.k == c / b)) x.0 in
      let apart : u.k ≢ c / b = eqb-false u.k (c / b) (not-true (u.k == c / b) y.1) in
      let inner : u.k < part_count work.cols b = rw cols_are at (work-block op counts (r / b) u.k x.1).1 in
      let size = sizes m b op knowns work counts n task did known_at w run p (omega arith) (r / b) u.k (part_below_count work.rows b r pos within.row) inner in
      let value : gathered b (w (suc p)) r c ≡ with_right m op (known_at p) (w p) op.form (r / b) (c / b) u.k (entry (w p (r / b) (c / b))) (r % b) (c % b)
      = rw kind at (value-at m b two pos op knowns work counts n task did known_at w run p below ran r c within row col) in
      Cong-by (combined-Cong m two negative (entry (w p (r / b) (c / b)))
      (times m (w p (r / b) u.k).cols (view (block_structure op.work.structure (r / b) u.k) (entry (w p (r / b) u.k))) (factor_block op (known_at p) t u.k (c / b))) (r % b) (c % b)
      (gathered b (w (suc p)) r c)
      (right_part m b two pos op knowns work counts rows_are cols_are work_structure solves t factor_sizes has_right_is needs_is (gathered b (w p)) r c u.k)
      (right-product m b two pos op knowns work counts rows_are cols_are work_structure solves t factor_sizes has_right_is needs_is (known_at p) (run.known_are p below) (w p) r c within.col u.k (w p (r / b) u.k).cols size.1 y.0
      (work_block-zero op counts (r / b) u.k x.1))
      (value ∙ ap (λ (a : Table). a (r % b) (c % b)) (with_right_is (known_at p) (w p) (r / b) (c / b) u.k (entry (w p (r / b) (c / b))))))
      (ap (λ (x : ℕ). gathered b (w (suc p)) r c + sign m negative * x + gathered b (w p) r c) (right-update_share m b two pos op knowns work counts rows_are cols_are work_structure solves t factor_sizes has_right_is needs_is u (gathered b (w p)) r c kind
      (eqb-true u.term 0 h_right.0) row col apart inner) ∙ omega arith)

  -- the product that a solve with T makes, and its share
  pub right-solve_product : (known : ℕ → Blocks) → AreKnown b knowns known → (blocks : Blocks) (r c : ℕ) → IsEntry work.rows work.cols op.work.structure r c → is_work_block op counts (r / b) (c / b) ≡ true → (length : ℕ) → length ≡ part_length work.cols b (c / b)
      → times m length (view (block_structure op.work.structure (r / b) (c / b)) (entry (blocks (r / b) (c / b)))) (factor_block op known t (c / b) (c / b)) (r % b) (c % b)
      ≡ right (is_task (solve_of (r / b) (c / b))) (gathered b blocks) r c % m
  right-solve_product known are blocks r c within block length length_is =
      right-product m b two pos op knowns work counts rows_are cols_are work_structure solves t factor_sizes has_right_is needs_is known are blocks r c within.col (c / b) length length_is
      (is_inside-diagonal op t (c / b)) (work_block-zero op counts (r / b) (c / b) block)
      ∙ ap (λ (x : ℕ). x % m) (sym (right-solve_share m b two pos op knowns work counts rows_are cols_are work_structure solves t factor_sizes has_right_is needs_is
      (solve_of (r / b) (c / b)) (gathered b blocks) r c refl within.col))

-- ---- X * T = R

right_needs-solve : (t : Factor) (i j k : ℕ) → right_needs (Right t) i j k (solve_of i k) ≡ true
right_needs-solve t i j k = let e : (i == i) ≡ true = grind (arith, nat_tests) in let f : (k == k) ≡ true = grind (arith, nat_tests) in rw (e, f) refl

-- a task that is neither an update on the left nor one of a term is a solve
right_kinds : (op : Operation) (counts : List ℕ) (t : Factor) (kind : Kind) (term i j k : ℕ) → op.form ≡ Right t → has_task op counts kind term i j k ≡ true → ¬ (is_solve kind ≡ true) → kind ≢ kinds.Term → kind ≡ kinds.Right
right_kinds op counts t kinds.Right term i j k form h not_solve apart = refl
right_kinds op counts t kinds.Term term i j k form h not_solve apart = absurd (apart refl)
right_kinds op counts t kinds.Pivots term i j k form h not_solve apart = absurd (false≢true h)
right_kinds op counts t kinds.Solve term i j k form h not_solve apart = absurd (not_solve refl)
right_kinds op counts t kinds.Left term i j k form h not_solve apart = absurd (false≢true (rw form at (and_parts (term == 0) (has_left op counts op.form i j k) h).1))

module _ (m b : ℕ) (two : 2 ≤ m) (pos : 0 < b) (op : Operation) (knowns : List Grid) (work : Grid) (counts : List ℕ) (n : ℕ) (task : ℕ → Task) (did : ℕ → Bool) (known_at : ℕ → ℕ → Blocks) (w : ℕ → Blocks)
    (run : IsStatementRun m b op knowns work counts n task did known_at w)
    (rows_are : parts_of counts op.work.rows ≡ part_count work.rows b) (cols_are : parts_of counts op.work.cols ≡ part_count work.cols b)
    (work_structure : IsWorkStructure op.work.structure)
    (t : Factor) (factor_sizes : HasFactor op b knowns pos t work.cols work.cols) (form : op.form ≡ Right t)
    (have : HasTerms m b two pos op knowns work counts rows_are cols_are op.terms)
    (all_ran : (p : ℕ) → p < n → did p ≡ true) (given : AreResidues m work) where
  solves : has_solve op.form ≡ true
  solves = rw form refl

  has_right_is : (i j k : ℕ) → has_right op counts op.form i j k ≡ reads_right op counts t i j k
  has_right_is i j k = rw form refl

  needs_is : (i j k : ℕ) → right_needs op.form i j k (solve_of i k) ≡ true
  needs_is i j k = rw form (right_needs-solve t i j k)

  with_right_is : (known : ℕ → Blocks) (blocks : Blocks) (i j k : ℕ) (a : Table) → with_right m op known blocks op.form i j k a
      ≡ combined m true a (times m (blocks i k).cols (view (block_structure op.work.structure i k) (entry (blocks i k))) (factor_block op known t k j))
  with_right_is known blocks i j k a = rw form refl

  abbrev product_sum : (Task → ℕ) → Table → ℕ → ℕ → ℕ
  product_sum = right m b two pos op knowns work counts n task did known_at w run rows_are cols_are work_structure solves t factor_sizes has_right_is needs_is true with_right_is

  abbrev Inside : ℕ → ℕ → Type 0
  Inside = IsEntry work.rows work.cols op.work.structure

  updated : (p : ℕ) → p < n → did p ≡ true → ¬ (IsSolveTask (task p)) → (task p).kind ≢ kinds.Term → (r c : ℕ) → Inside r c → (task p).i ≡ r / b → (task p).j ≡ c / b
      → Cong m (gathered b (w (suc p)) r c + product_sum (is_task (task p)) (gathered b (w p)) r c) (gathered b (w p) r c)
  updated p below ran update apart r c within row col = Cong-by
      (right-updated m b two pos op knowns work counts n task did known_at w run rows_are cols_are work_structure solves t factor_sizes has_right_is needs_is true with_right_is p below ran
      (right_kinds op counts t (task p).kind (task p).term (task p).i (task p).j (task p).k form
      (and_parts (is_work_block op counts (task p).i (task p).j) (has_task op counts (task p).kind (task p).term (task p).i (task p).j (task p).k) (run.exists p below)).1 update apart)
      r c within row col) (omega arith)

  solved : (p : ℕ) → p < n → did p ≡ true → (task p).kind ≡ kinds.Solve → (r c : ℕ) → Inside r c → (task p).i ≡ r / b → (task p).j ≡ c / b
      → Cong m (product_sum (is_task (task p)) (gathered b (w (suc p))) r c) (gathered b (w p) r c)
  solved p below ran kind r c within row col =
      let is : task p ≡ solve_of (r / b) (c / b) = solve-is op counts (task p) (run.exists p below) (rw kind refl) ∙ (λ x. solve_of (row x) (col x)) in
      let block : is_work_block op counts (r / b) (c / b) ≡ true
      = rw (row, col) at (and_parts (is_work_block op counts (task p).i (task p).j) (has_task op counts (task p).kind (task p).term (task p).i (task p).j (task p).k) (run.exists p below)).0 in
      let size = sizes m b op knowns work counts n task did known_at w run p (omega arith) (r / b) (c / b) (part_below_count work.rows b r pos within.row) (part_below_count work.cols b c pos within.col) in
      let value : solved_left m op (known_at p) (w p) op.form (r / b) (c / b) (entry (w (suc p) (r / b) (c / b))) (r % b) (c % b) ≡ gathered b (w p) r c
      = rw kind at (value-at m b two pos op knowns work counts n task did known_at w run p below ran r c within row col) in
      rw is (Cong-sym (Cong-from_mod (sym (rw form at value) ∙
      right-solve_product m b two pos op knowns work counts n task did known_at w run rows_are cols_are work_structure solves t factor_sizes has_right_is needs_is true with_right_is (known_at p) (run.known_are p below) (w (suc p)) r c within block
      (w p (r / b) (c / b)).cols size.1)))

  whole : (r c : ℕ) → Inside r c → Cong m (product_sum (λ u. 1) (gathered b (w n)) r c) (right_side m op knowns work r c)
  whole r c within = form-solved m b two pos op knowns work counts n task did known_at w run rows_are cols_are have product_sum
      (IsShared-right m b two pos op knowns work counts rows_are cols_are work_structure solves t factor_sizes has_right_is needs_is)
      (λ u v r c kind. right-none m b two pos op knowns work counts rows_are cols_are work_structure solves t factor_sizes has_right_is needs_is u v r c
      (rw kind (λ e. absurd (cc))) (rw kind (λ e. absurd (cc))))
      updated solved all_ran r c within solves

  pub Satisfies-right : Satisfies m op knowns work (gathered_grid m b two pos op knowns work counts n task did known_at w run)
  Satisfies-right = Satisfies-gathered m b two pos op knowns work counts n task did known_at w run given (λ r c within.
      left_side-right m op knowns work_structure work.rows work.cols (gathered_grid m b two pos op knowns work counts n task did known_at w run) (gathered b (w n)) refl refl
      (gathered-has m b two pos op knowns work counts n task did known_at w run) r c within.row within.col t form
      ∙ ap (λ (x : ℕ). x % m) (sym (right-whole m b two pos op knowns work counts rows_are cols_are work_structure solves t factor_sizes has_right_is needs_is (gathered b (w n)) r c))
      ∙ sym (mod_from_Cong (HasResidues-right_side m op knowns work (omega arith) given r c) (Cong-sym (whole r c within))))
