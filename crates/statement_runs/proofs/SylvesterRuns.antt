-- Operations of the form `op(T) * X + X * op(U) = R`, or with `-`, in any order of their block tasks.
use Rattle.std.proofs.Common.{◌≡◌, ◌≢◌, ℕ, zero, suc, ◌+◌, ◌-◌, ◌*◌, ◌/◌, ◌%◌, ◌<◌, ◌≤◌, ◌⊎◌, inl, inr, Bool, true, false, not, if◌then◌else◌, List, refl, sym, ◌∙◌, ap, ap₂, arith}
use Rattle.std.specs.Prelude.{◌==◌, ◌&&◌, nat_lt}
use Rattle.std.proofs.Math.Nat.{mod-lt}
use Rattle.std.proofs.lemmas.Bool.{and_parts, false≢true}
use Rattle.std.proofs.lemmas.Bool.Decides.{nat_tests}
use Rattle.residue_sums.specs.Residues.{Cong}
use Rattle.residue_sums.specs.Sums.{part_count, part_length}
use Rattle.residue_sums.specs.Tables.{Table, plus, product, times}
use Rattle.residue_sums.specs.Grids.{Grid, AreResidues, entry}
use Rattle.residue_sums.proofs.Congruence.{Cong-by, Cong-add, Cong-sym, Cong-trans, Cong-from_same, Cong-from_mod, Cong-mod, Cong-from_difference, same_from_Cong}
use Rattle.residue_sums.proofs.Parts.{part_below_count}
use Rattle.structure_rules.specs.declared.Structure.{Structure}
use Rattle.structure_rules.specs.declared.Structure.TheVariants.{General}
use Rattle.structure_rules.specs.Structures.{IsEntry, IsWorkStructure, view}
use Rattle.matrix_algebra.proofs.Systems.{Cong-to_negative, Cong-from_negative}
use Rattle.operation_spec.specs.declared.operation.Operation.{Operation}
use Rattle.operation_spec.specs.declared.operation.Factor.{Factor}
use Rattle.operation_spec.specs.declared.operation.Form.{Form}
use Rattle.operation_spec.specs.declared.operation.Form.TheVariants.{Sylvester}
use Rattle.operation_spec.specs.declared.task.Kind.{Kind}
use Rattle.operation_spec.specs.declared.task.Kind.TheVariants as kinds
use Rattle.operation_spec.specs.declared.task.Task.{Task}
use Rattle.task_graph.specs.Tasks.{has, has_task, has_left, has_right, has_solve, reads_left, reads_right, is_work_block, parts_of}
use Rattle.task_graph.specs.Needs.{is_solve, left_needs, right_needs}
use Rattle.equation.specs.Equations.{Satisfies, left_side, right_side, minus, factor_table}
use Rattle.equation.proofs.LeftSides.{left_side-plus, left_side-minus}
use Rattle.equation.proofs.SolvedGrids.{HasResidues-right_side}
use Rattle.task_sums.proofs.Shares.{IsShared-sum, IsShared-scale}
use Rattle.flash_blocks.specs.Blocks.{Blocks, gathered}
use Rattle.block_tasks.specs.Effects.{AreKnown, factor_block, view_block, block_structure}
use Rattle.equation.specs.Kernels.{combined}
use Rattle.block_tasks.proofs.EffectValues.{general-block, with_left, with_right, solved_left}
use Rattle.block_tasks.proofs.TaskTests.{is_task}
use Rattle.statement_runs.specs.StatementRuns.{IsStatementRun}
use Rattle.statement_runs.proofs.StatementRuns.{sizes}
use Rattle.block_tasks.proofs.SolveTasks.{operation_tasks, IsSolveTask, DependsOn, solve_of, solve-is}
use Rattle.block_tasks.proofs.TermSums.{HasTerms, HasFactor, IsSharedSum, sign}
use Rattle.statement_runs.proofs.StepValues.{value-at}
use Rattle.statement_runs.proofs.FormRuns.{form-solved}
use Rattle.statement_runs.proofs.GatheredGrids.{gathered_grid, gathered-has, Satisfies-gathered}
use Rattle.block_tasks.proofs.LeftSums.{left_sum, IsShared-left, left-none, left-whole}
use Rattle.block_tasks.proofs.RightSums.{right_sum, IsShared-right, right-none, right-whole}
use Rattle.statement_runs.proofs.LeftRuns.{left, left-updated, left-solve_product}
use Rattle.statement_runs.proofs.RightRuns.{right, right-updated, right-solve_product}

left_needs-solve : (t u : Factor) (negative : Bool) (i j k : ℕ) → left_needs (Sylvester t u negative) i j k (solve_of k j) ≡ true
left_needs-solve t u negative i j k = let e : (k == k) ≡ true = grind (arith, nat_tests) in let f : (j == j) ≡ true = grind (arith, nat_tests) in rw (e, f) refl

right_needs-solve : (t u : Factor) (negative : Bool) (i j k : ℕ) → right_needs (Sylvester t u negative) i j k (solve_of i k) ≡ true
right_needs-solve t u negative i j k = let e : (i == i) ≡ true = grind (arith, nat_tests) in let f : (k == k) ≡ true = grind (arith, nat_tests) in rw (e, f) refl

-- a task that is neither a solve nor one of a term
sylvester_kinds : (kind : Kind) → kind ≢ kinds.Pivots → ¬ (is_solve kind ≡ true) → kind ≢ kinds.Term → (kind ≡ kinds.Left) ⊎ (kind ≡ kinds.Right)
sylvester_kinds kinds.Left no_pivots not_solve apart = inl refl
sylvester_kinds kinds.Right no_pivots not_solve apart = inr refl
sylvester_kinds kinds.Term no_pivots not_solve apart = absurd (apart refl)
sylvester_kinds kinds.Pivots no_pivots not_solve apart = absurd (no_pivots refl)
sylvester_kinds kinds.Solve no_pivots not_solve apart = absurd (not_solve refl)

no_pivots : (op : Operation) (counts : List ℕ) (kind : Kind) (t i j k : ℕ) → has_task op counts kind t i j k ≡ true → kind ≢ kinds.Pivots
no_pivots op counts kinds.Pivots t i j k h = absurd (false≢true h)
no_pivots op counts kinds.Left t i j k h = λ e. absurd (cc)
no_pivots op counts kinds.Right t i j k h = λ e. absurd (cc)
no_pivots op counts kinds.Term t i j k h = λ e. absurd (cc)
no_pivots op counts kinds.Solve t i j k h = λ e. absurd (cc)

-- a block of a general W is read as it is
general-view : (s : Structure) (i j : ℕ) (x : Table) → s ≡ General → view (block_structure s i j) x ≡ x
general-view s i j x general = ap (λ (k : Structure). view k x) (ap (λ (k : Structure). block_structure k i j) general ∙ general-block i j)

-- the two sides of a sum or a difference of reduced products
sides : (m a p x exact_p exact_q q : ℕ) (negative : Bool) → 2 ≤ m → p ≡ exact_p % m → q ≡ exact_q % m → (if negative then (p + (m - q)) % m else (p + q) % m) ≡ x
    → Cong m (exact_p + sign m (not negative) * exact_q) x
sides m a p x exact_p exact_q q true two e f h =
    let below : q < m = rw f (mod-lt exact_q (omega arith)) in
    let moved : Cong m (x + q) p = Cong-from_difference q (p + (m - q)) (sym h) (omega arith) in
    Cong-to_negative m exact_p exact_q x two (Cong-by (Cong-add (Cong-sym moved) (Cong-add (Cong-sym (Cong-from_mod e)) (Cong-from_mod f))) (omega arith))
sides m a p x exact_p exact_q q false two e f h =
    Cong-by (Cong-add (Cong-add (Cong-sym (Cong-from_mod e)) (Cong-sym (Cong-from_mod f))) (Cong-sym (Cong-from_mod (sym h)))) (omega arith)

module _ (m b : ℕ) (two : 2 ≤ m) (pos : 0 < b) (op : Operation) (knowns : List Grid) (work : Grid) (counts : List ℕ) (n : ℕ) (task : ℕ → Task) (did : ℕ → Bool) (known_at : ℕ → ℕ → Blocks) (w : ℕ → Blocks)
    (run : IsStatementRun m b op knowns work counts n task did known_at w)
    (rows_are : parts_of counts op.work.rows ≡ part_count work.rows b) (cols_are : parts_of counts op.work.cols ≡ part_count work.cols b)
    (work_structure : IsWorkStructure op.work.structure)
    (t u : Factor) (negative : Bool) (t_sizes : HasFactor op b knowns pos t work.rows work.rows) (u_sizes : HasFactor op b knowns pos u work.cols work.cols)
    (form : op.form ≡ Sylvester t u negative)
    (have : HasTerms m b two pos op knowns work counts rows_are cols_are op.terms)
    (all_ran : (p : ℕ) → p < n → did p ≡ true) (given : AreResidues m work) where
  solves : has_solve op.form ≡ true
  solves = rw form refl

  has_left_is : (i j k : ℕ) → has_left op counts op.form i j k ≡ reads_left op counts t i j k
  has_left_is i j k = rw form refl

  left_needs_is : (i j k : ℕ) → left_needs op.form i j k (solve_of k j) ≡ true
  left_needs_is i j k = rw form (left_needs-solve t u negative i j k)

  with_left_is : (known : ℕ → Blocks) (blocks : Blocks) (i j k : ℕ) (a : Table) → with_left m op known blocks op.form i j k a
      ≡ minus m a (times m (blocks k j).rows (factor_block op known t i k) (view (block_structure op.work.structure k j) (entry (blocks k j))))
  with_left_is known blocks i j k a = rw form refl

  has_right_is : (i j k : ℕ) → has_right op counts op.form i j k ≡ reads_right op counts u i j k
  has_right_is i j k = rw form refl

  right_needs_is : (i j k : ℕ) → right_needs op.form i j k (solve_of i k) ≡ true
  right_needs_is i j k = rw form (right_needs-solve t u negative i j k)

  with_right_is : (known : ℕ → Blocks) (blocks : Blocks) (i j k : ℕ) (a : Table) → with_right m op known blocks op.form i j k a
      ≡ combined m (not negative) a (times m (blocks i k).cols (view (block_structure op.work.structure i k) (entry (blocks i k))) (factor_block op known u k j))
  with_right_is known blocks i j k a = rw form refl

  abbrev first : (Task → ℕ) → Table → ℕ → ℕ → ℕ
  first = left m b two pos op knowns work counts n task did known_at w run rows_are cols_are work_structure solves t t_sizes has_left_is left_needs_is with_left_is

  abbrev second : (Task → ℕ) → Table → ℕ → ℕ → ℕ
  second = right m b two pos op knowns work counts n task did known_at w run rows_are cols_are work_structure solves u u_sizes has_right_is right_needs_is (not negative) with_right_is

  abbrev both_sums : (Task → ℕ) → Table → ℕ → ℕ → ℕ
  both_sums f v r c = first f v r c + sign m (not negative) * second f v r c

  abbrev Inside : ℕ → ℕ → Type 0
  Inside = IsEntry work.rows work.cols op.work.structure

  shared : IsSharedSum m b two pos op knowns work counts rows_are cols_are both_sums
  shared = IsShared-sum b (operation_tasks op counts) Inside first (λ f v r c. sign m (not negative) * second f v r c)
      (IsShared-left m b two pos op knowns work counts rows_are cols_are work_structure solves t t_sizes has_left_is left_needs_is)
      (IsShared-scale b (operation_tasks op counts) Inside (sign m (not negative)) second
      (IsShared-right m b two pos op knowns work counts rows_are cols_are work_structure solves u u_sizes has_right_is right_needs_is))

  first-none : (v : Task) (a : Table) (r c : ℕ) → v.kind ≢ kinds.Left → v.kind ≢ kinds.Solve → first (is_task v) a r c ≡ 0
  first-none v a r c x y = left-none m b two pos op knowns work counts rows_are cols_are work_structure solves t t_sizes has_left_is left_needs_is v a r c x y

  second-none : (v : Task) (a : Table) (r c : ℕ) → v.kind ≢ kinds.Right → v.kind ≢ kinds.Solve → second (is_task v) a r c ≡ 0
  second-none v a r c x y = right-none m b two pos op knowns work counts rows_are cols_are work_structure solves u u_sizes has_right_is right_needs_is v a r c x y

  scaled-none : (g x : ℕ) → x ≡ 0 → g * x ≡ 0
  scaled-none g x e = rw e (omega arith)

  updated : (p : ℕ) → p < n → did p ≡ true → ¬ (IsSolveTask (task p)) → (task p).kind ≢ kinds.Term → (r c : ℕ) → Inside r c → (task p).i ≡ r / b → (task p).j ≡ c / b
      → Cong m (gathered b (w (suc p)) r c + both_sums (is_task (task p)) (gathered b (w p)) r c) (gathered b (w p) r c)
  updated p below ran update apart r c within row col = elim (sylvester_kinds (task p).kind
      (no_pivots op counts (task p).kind (task p).term (task p).i (task p).j (task p).k
      (and_parts (is_work_block op counts (task p).i (task p).j) (has_task op counts (task p).kind (task p).term (task p).i (task p).j (task p).k) (run.exists p below)).1) update apart) [
        | inl kind ↦ Cong-by (left-updated m b two pos op knowns work counts n task did known_at w run rows_are cols_are work_structure solves t t_sizes has_left_is left_needs_is with_left_is p below ran kind r c within row col)
            (omega (arith, scaled-none (sign m (not negative)) (second (is_task (task p)) (gathered b (w p)) r c) (second-none (task p) (gathered b (w p)) r c (rw kind (λ e. absurd (cc))) (rw kind (λ e. absurd (cc))))))
        | inr kind ↦ Cong-by (right-updated m b two pos op knowns work counts n task did known_at w run rows_are cols_are work_structure solves u u_sizes has_right_is right_needs_is (not negative) with_right_is p below ran kind r c within row col)
            (omega (arith, first-none (task p) (gathered b (w p)) r c (rw kind (λ e. absurd (cc))) (rw kind (λ e. absurd (cc)))))
      ]

  solved : (p : ℕ) → p < n → did p ≡ true → (task p).kind ≡ kinds.Solve → (r c : ℕ) → Inside r c → (task p).i ≡ r / b → (task p).j ≡ c / b
      → Cong m (both_sums (is_task (task p)) (gathered b (w (suc p))) r c) (gathered b (w p) r c)
  solved p below ran kind r c within row col =
      let is : task p ≡ solve_of (r / b) (c / b) = solve-is op counts (task p) (run.exists p below) (rw kind refl) ∙ (λ x. solve_of (row x) (col x)) in
      let block : is_work_block op counts (r / b) (c / b) ≡ true
      = rw (row, col) at (and_parts (is_work_block op counts (task p).i (task p).j) (has_task op counts (task p).kind (task p).term (task p).i (task p).j (task p).k) (run.exists p below)).0 in
      let size = sizes m b op knowns work counts n task did known_at w run p (omega arith) (r / b) (c / b) (part_below_count work.rows b r pos within.row) (part_below_count work.cols b c pos within.col) in
      let value : solved_left m op (known_at p) (w p) op.form (r / b) (c / b) (entry (w (suc p) (r / b) (c / b))) (r % b) (c % b) ≡ gathered b (w p) r c
      = rw kind at (value-at m b two pos op knowns work counts n task did known_at w run p below ran r c within row col) in
      rw is (sides m 0 _ (gathered b (w p) r c) (first (is_task (solve_of (r / b) (c / b))) (gathered b (w (suc p))) r c) (second (is_task (solve_of (r / b) (c / b))) (gathered b (w (suc p))) r c) _ negative two
      (left-solve_product m b two pos op knowns work counts n task did known_at w run rows_are cols_are work_structure solves t t_sizes has_left_is left_needs_is with_left_is (known_at p) (run.known_are p below) (w (suc p)) r c within block
      (w p (r / b) (c / b)).rows size.0)
      (right-solve_product m b two pos op knowns work counts n task did known_at w run rows_are cols_are work_structure solves u u_sizes has_right_is right_needs_is (not negative) with_right_is (known_at p) (run.known_are p below) (w (suc p)) r c within block
      (w p (r / b) (c / b)).cols size.1)
      (go negative (rw form at value)))
    where
      viewed : view (block_structure op.work.structure (r / b) (c / b)) (entry (w (suc p) (r / b) (c / b))) ≡ entry (w (suc p) (r / b) (c / b))
      viewed = general-view op.work.structure (r / b) (c / b) (entry (w (suc p) (r / b) (c / b))) (rw form at run.suits)

      go : (g : Bool) → solved_left m op (known_at p) (w p) (Sylvester t u g) (r / b) (c / b) (entry (w (suc p) (r / b) (c / b))) (r % b) (c % b) ≡ gathered b (w p) r c
          → (if g then (times m (w p (r / b) (c / b)).rows (factor_block op (known_at p) t (r / b) (r / b)) (view (block_structure op.work.structure (r / b) (c / b)) (entry (w (suc p) (r / b) (c / b)))) (r % b) (c % b)
          + (m - times m (w p (r / b) (c / b)).cols (view (block_structure op.work.structure (r / b) (c / b)) (entry (w (suc p) (r / b) (c / b)))) (factor_block op (known_at p) u (c / b) (c / b)) (r % b) (c % b))) % m
          else (times m (w p (r / b) (c / b)).rows (factor_block op (known_at p) t (r / b) (r / b)) (view (block_structure op.work.structure (r / b) (c / b)) (entry (w (suc p) (r / b) (c / b)))) (r % b) (c % b)
          + times m (w p (r / b) (c / b)).cols (view (block_structure op.work.structure (r / b) (c / b)) (entry (w (suc p) (r / b) (c / b)))) (factor_block op (known_at p) u (c / b) (c / b)) (r % b) (c % b)) % m)
          ≡ gathered b (w p) r c
      go true e = rw viewed e
      go false e = rw viewed e

  whole : (r c : ℕ) → Inside r c → Cong m (both_sums (λ u. 1) (gathered b (w n)) r c) (right_side m op knowns work r c)
  whole r c within = form-solved m b two pos op knowns work counts n task did known_at w run rows_are cols_are have both_sums shared
      (λ v a r c kind. omega (
        arith,
        first-none v a r c (rw kind (λ e. absurd (cc))) (rw kind (λ e. absurd (cc))),
        scaled-none (sign m (not negative)) (second (is_task v) a r c) (second-none v a r c (rw kind (λ e. absurd (cc))) (rw kind (λ e. absurd (cc)))),
      ))
      updated solved all_ran r c within solves

  -- with weight 1 for each task
  exact : (r c : ℕ) → Inside r c → Cong m (product work.rows (factor_table op knowns t) (view op.work.structure (gathered b (w n))) r c
      + sign m (not negative) * product work.cols (view op.work.structure (gathered b (w n))) (factor_table op knowns u) r c) (right_side m op knowns work r c)
  exact r c within =
      rw (
        left-whole m b two pos op knowns work counts rows_are cols_are work_structure solves t t_sizes has_left_is left_needs_is (gathered b (w n)) r c,
        right-whole m b two pos op knowns work counts rows_are cols_are work_structure solves u u_sizes has_right_is right_needs_is (gathered b (w n)) r c,
      ) at (whole r c within)

  pub Satisfies-sylvester : Satisfies m op knowns work (gathered_grid m b two pos op knowns work counts n task did known_at w run)
  Satisfies-sylvester = Satisfies-gathered m b two pos op knowns work counts n task did known_at w run given (λ r c within.
      go negative form r c within (exact r c within))
    where
      x : Grid
      x = gathered_grid m b two pos op knowns work counts n task did known_at w run

      go : (g : Bool) → op.form ≡ Sylvester t u g → (r c : ℕ) → Inside r c
          → Cong m (product work.rows (factor_table op knowns t) (view op.work.structure (gathered b (w n))) r c
          + sign m (not g) * product work.cols (view op.work.structure (gathered b (w n))) (factor_table op knowns u) r c) (right_side m op knowns work r c)
          → left_side m op knowns x r c ≡ right_side m op knowns work r c
      go true e r c within h =
          let l = left_side-minus m op knowns work_structure work.rows work.cols x (gathered b (w n)) refl refl (gathered-has m b two pos op knowns work counts n task did known_at w run) r c within.row within.col t u e in
          same_from_Cong (rw l (mod-lt _ (omega arith))) (HasResidues-right_side m op knowns work (omega arith) given r c)
          (Cong-trans (Cong-sym (sides m 0 _ (left_side m op knowns x r c) _ _ _ true two refl refl (sym l))) h)
      go false e r c within h =
          let l = left_side-plus m op knowns work_structure work.rows work.cols x (gathered b (w n)) refl refl (gathered-has m b two pos op knowns work counts n task did known_at w run) r c within.row within.col t u e in
          same_from_Cong (rw l (mod-lt _ (omega arith))) (HasResidues-right_side m op knowns work (omega arith) given r c)
          (Cong-trans (Cong-sym (sides m 0 _ (left_side m op knowns x r c) _ _ _ false two refl refl (sym l))) h)
