-- T * X: the sum of its products, each with the task that it belongs to. Cited by the forms with a triangular factor on the left.
use Rattle.std.proofs.Common.{◌≡◌, ◌≢◌, ℕ, zero, suc, ◌+◌, ◌-◌, ◌*◌, ◌/◌, ◌%◌, ◌<◌, ◌≤◌, ◌⊎◌, inl, inr, Bool, true, false, not, if◌then◌else◌, List, [], ◌∷◌, refl, sym, ◌∙◌, ap, ap₂, subst, arith}
use Rattle.std.specs.Prelude.{◌==◌, ◌&&◌, nat_lt}
use Rattle.std.proofs.lemmas.Nat.{div-add-mod'}
use Rattle.std.proofs.Math.Nat.{mod-lt}
use Rattle.std.proofs.lemmas.Bool.{cases_Bool, cases_eq, and_parts, false≢true, lt-ltb, ltb-true, eqb-true, not-true}
use Rattle.std.proofs.lemmas.Bool.Decides.{nat_tests}
use Rattle.residue_sums.specs.Residues.{Cong}
use Rattle.residue_sums.specs.Sums.{sum_below, part_count, part_length, part_sum}
use Rattle.residue_sums.specs.Tables.{Table, product, times}
use Rattle.residue_sums.specs.Grids.{Grid, entry}
use Rattle.residue_sums.proofs.Sums.{sum_below-same}
use Rattle.residue_sums.proofs.Parts.{part_below_count, index_from_place}
use Rattle.structure_rules.specs.declared.Structure.{Structure}
use Rattle.structure_rules.specs.declared.Structure.TheVariants.{General, Lower, UnitLower, Upper, UnitUpper, Diagonal, Symmetric}
use Rattle.structure_rules.specs.Structures.{view, IsEntry, IsInside, IsZero, is_zero, IsWorkStructure, transpose_of}
use Rattle.structure_rules.proofs.Blocks.{view-zero_block}
use Rattle.operation_spec.specs.declared.operation.Operation.{Operation}
use Rattle.operation_spec.specs.declared.operation.Factor.{Factor}
use Rattle.operation_spec.specs.declared.task.Kind.{Kind}
use Rattle.operation_spec.specs.declared.task.Kind.TheVariants as kinds
use Rattle.operation_spec.specs.declared.task.Task.{Task}
use Rattle.task_graph.specs.Factors.{known, factor_structure}
use Rattle.task_graph.specs.Tasks.{has, has_task, has_left, has_solve, reads_left, is_work_block, is_inside, parts_of}
use Rattle.task_graph.specs.Needs.{left_needs}
use Rattle.task_graph.specs.Order.{task_of}
use Rattle.equation.specs.Equations.{factor_table}
use Rattle.task_sums.specs.SharedSums.{AgreeFor, IsShared}
use Rattle.task_sums.proofs.Shares.{IsShared-products}
use Rattle.flash_blocks.specs.Blocks.{Blocks, block_of, gathered}
use Rattle.block_tasks.specs.Effects.{AreKnown, factor_block, view_block, block_structure}
use Rattle.block_tasks.proofs.TaskTests.{is_task, is_task-self, is_task-or}
use Rattle.block_tasks.proofs.SolveTasks.{operation_tasks, IsSolveTask, DependsOn, solve_of}
use Rattle.block_tasks.proofs.TermSums.{HasFactor, IsSharedSum, factor_at, factor-zero_block, products-none, products-part, kinds-apart, inner-apart, work_block-inside, zero_from_test}
use Rattle.block_tasks.proofs.WorkViews.{work-reads, work-straight, view_block-work, work_block-is}

-- a diagonal block is no zero block
diagonal-inside : (s : Structure) (i : ℕ) → is_zero s i i ≡ false
diagonal-inside General i = refl
diagonal-inside Symmetric i = refl
diagonal-inside Lower i = grind (arith, nat_tests)
diagonal-inside UnitLower i = grind (arith, nat_tests)
diagonal-inside Upper i = grind (arith, nat_tests)
diagonal-inside UnitUpper i = grind (arith, nat_tests)
diagonal-inside Diagonal i = grind (arith, nat_tests)

pub is_inside-diagonal : (op : Operation) (f : Factor) (i : ℕ) → is_inside op f i i ≡ true
is_inside-diagonal op f i = rw (diagonal-inside (factor_structure op f) i) refl

-- a block of the matrix that is not one of W's structure
pub view-no_block : (op : Operation) (counts : List ℕ) (b rows cols : ℕ) (v : Table) (r c : ℕ) → 0 < b → parts_of counts op.work.rows ≡ part_count rows b → parts_of counts op.work.cols ≡ part_count cols b
    → r < rows → c < cols → is_work_block op counts (r / b) (c / b) ≡ false → view op.work.structure v r c ≡ 0
view-no_block op counts b rows cols v r c pos rows_are cols_are row col h = go (cases_Bool (is_zero op.work.structure (r / b) (c / b)))
  where
    row_in : nat_lt (r / b) (parts_of counts op.work.rows) ≡ true
    row_in = lt-ltb (r / b) (parts_of counts op.work.rows) (rw rows_are (part_below_count rows b r pos row))

    col_in : nat_lt (c / b) (parts_of counts op.work.cols) ≡ true
    col_in = lt-ltb (c / b) (parts_of counts op.work.cols) (rw cols_are (part_below_count cols b c pos col))

    go : (is_zero op.work.structure (r / b) (c / b) ≡ true) ⊎ (is_zero op.work.structure (r / b) (c / b) ≡ false) → view op.work.structure v r c ≡ 0
    go (inl none) = view-zero_block op.work.structure v b r c (zero_from_test op.work.structure (r / b) (c / b) (rw none refl))
    go (inr inside) = absurd (false≢true (sym h ∙ rw (row_in, col_in, inside) refl))

-- a work block is inside the structure
pub work_block-zero : (op : Operation) (counts : List ℕ) (i j : ℕ) → is_work_block op counts i j ≡ true → is_zero op.work.structure i j ≡ false
work_block-zero op counts i j h =
    not-true (is_zero op.work.structure i j) (and_parts (nat_lt i (parts_of counts op.work.rows) && nat_lt j (parts_of counts op.work.cols)) (not (is_zero op.work.structure i j)) h).1

module _ (m b : ℕ) (two : 2 ≤ m) (pos : 0 < b) (op : Operation) (knowns : List Grid) (work : Grid) (counts : List ℕ)
    (rows_are : parts_of counts op.work.rows ≡ part_count work.rows b) (cols_are : parts_of counts op.work.cols ≡ part_count work.cols b)
    (work_structure : IsWorkStructure op.work.structure) (solves : has_solve op.form ≡ true)
    (t : Factor) (sizes : HasFactor op b knowns pos t work.rows work.rows)
    (has_left_is : (i j k : ℕ) → has_left op counts op.form i j k ≡ reads_left op counts t i j k)
    (needs_is : (i j k : ℕ) → left_needs op.form i j k (solve_of k j) ≡ true) where
  abbrev owner_of : ℕ → ℕ → ℕ → Task
  owner_of i j p = if p == i then solve_of i j else task_of kinds.Left 0 i j p

  abbrev owner : ℕ → ℕ → ℕ → Task
  owner r c k = owner_of (r / b) (c / b) (k / b)

  abbrev value : Table → ℕ → ℕ → ℕ → ℕ
  value w r c k = factor_table op knowns t r k * view op.work.structure w k c

  abbrev pub left_sum : (Task → ℕ) → Table → ℕ → ℕ → ℕ
  left_sum f w r c = sum_below (λ k. f (owner r c k) * value w r c k) work.rows

  abbrev Inside : ℕ → ℕ → Type 0
  Inside = IsEntry work.rows work.cols op.work.structure

  abbrev Exists : Task → Type 0
  Exists u = has op counts u ≡ true

  owner-here : (i j p : ℕ) → p ≡ i → owner_of i j p ≡ solve_of i j
  owner-here i j p e = let h : (p == i) ≡ true = grind (arith, nat_tests) in rw h refl

  owner-other : (i j p : ℕ) → p ≢ i → owner_of i j p ≡ task_of kinds.Left 0 i j p
  owner-other i j p e = let h : (p == i) ≡ false = grind (arith, nat_tests) in rw h refl

  place : (i j p : ℕ) → ((owner_of i j p).i ≡ i) × ((owner_of i j p).j ≡ j)
  place i j p = elim (cases_eq p i) [
    | inl e ↦ rw (owner-here i j p e) (refl, refl)
    | inr e ↦ rw (owner-other i j p e) (refl, refl)
  ]

  exists : (r c k : ℕ) → Inside r c → k < work.rows → Exists (owner r c k) ⊎ ((w : Table) → value w r c k ≡ 0)
  exists r c k within below = go (cases_eq (k / b) (r / b)) (cases_Bool (is_inside op t (r / b) (k / b))) (cases_Bool (is_work_block op counts (k / b) (c / b)))
    where
      block : is_work_block op counts (r / b) (c / b) ≡ true
      block = work_block-inside op counts b r c work.rows work.cols pos rows_are cols_are within

      go : (k / b ≡ r / b) ⊎ (k / b ≢ r / b) → (is_inside op t (r / b) (k / b) ≡ true) ⊎ (is_inside op t (r / b) (k / b) ≡ false)
          → (is_work_block op counts (k / b) (c / b) ≡ true) ⊎ (is_work_block op counts (k / b) (c / b) ≡ false)
          → Exists (owner r c k) ⊎ ((w : Table) → value w r c k ≡ 0)
      go (inl e) x y = inl (rw (owner-here (r / b) (c / b) (k / b) e) (rw (block, solves) refl))
      go (inr e) (inr none) y = inr (λ w. rw (factor-zero_block op knowns t b r k none) (omega arith))
      go (inr e) (inl x) (inr none) = inr (λ w. rw (view-no_block op counts b work.rows work.cols w k c pos rows_are cols_are below within.col none) (omega arith))
      go (inr e) (inl x) (inl y) =
          let h : (r / b == k / b) ≡ false = grind (arith, nat_tests) in
          inl (rw (owner-other (r / b) (c / b) (k / b) e) (rw (block, has_left_is (r / b) (c / b) (k / b)) (rw (x, y, h) refl)))

  local : (w w' : Table) (r c k : ℕ) → AgreeFor b (operation_tasks op counts) (owner r c k) w w' → value w r c k ≡ value w' r c k
  local w w' r c k agree = ap (λ (x : ℕ). factor_table op knowns t r k * x) (work-reads op.work.structure w w' k c work_structure (sym (agree k c (depends (cases_eq (k / b) (r / b))))))
    where
      depends : (k / b ≡ r / b) ⊎ (k / b ≢ r / b) → DependsOn op (owner r c k) (k / b) (c / b)
      depends (inl e) = rw (owner-here (r / b) (c / b) (k / b) e) (inl (refl, sym e, refl))
      depends (inr e) = rw (owner-other (r / b) (c / b) (k / b) e) (inr (needs_is (r / b) (c / b) (k / b)))

  pub IsShared-left : IsSharedSum m b two pos op knowns work counts rows_are cols_are left_sum
  IsShared-left = IsShared-products b (operation_tasks op counts) Inside work.rows owner value
      (λ r c k within below. place (r / b) (c / b) (k / b))
      exists
      (λ w w' r c k within below agree. local w w' r c k agree)

  -- a task of another kind has no share
  pub left-none : (u : Task) (v : Table) (r c : ℕ) → u.kind ≢ kinds.Left → u.kind ≢ kinds.Solve → left_sum (is_task u) v r c ≡ 0
  left-none u v r c not_left not_solve = products-none work.rows (owner r c) (value v r c) u (λ k h. elim (cases_eq (k / b) (r / b)) [
    | inl e ↦ kinds-apart u (owner r c k) (rw (owner-here (r / b) (c / b) (k / b) e) not_solve)
    | inr e ↦ kinds-apart u (owner r c k) (rw (owner-other (r / b) (c / b) (k / b) e) not_left)
  ])

  -- the product over part p, exact
  abbrev pub left_part : Table → ℕ → ℕ → ℕ → ℕ
  left_part v r c p = sum_below (λ q. factor_table op knowns t r (p * b + q) * view op.work.structure v (p * b + q) c) (part_length work.rows b p)

  -- the share of an update
  pub left-update_share : (u : Task) (v : Table) (r c : ℕ) → u.kind ≡ kinds.Left → u.term ≡ 0 → u.i ≡ r / b → u.j ≡ c / b → u.k ≢ r / b → u.k < part_count work.rows b
      → left_sum (is_task u) v r c ≡ left_part v r c u.k
  left-update_share u v r c kind number row col apart below =
      products-part work.rows b (owner_of (r / b) (c / b)) (value v r c) u u.k pos below
      ((λ x. record { kind = kind x; term = number x; i = row x; j = col x; k = u.k }) ∙ sym (owner-other (r / b) (c / b) u.k apart))
      (λ p other. elim (cases_eq p (r / b)) [
        | inl e ↦ kinds-apart u (owner_of (r / b) (c / b) p) (rw (owner-here (r / b) (c / b) p e, kind) (λ f. absurd (cc)))
        | inr e ↦ inner-apart u (owner_of (r / b) (c / b) p) (rw (owner-other (r / b) (c / b) p e) (λ f. other (sym f)))
      ])

  -- the share of a solve
  pub left-solve_share : (u : Task) (v : Table) (r c : ℕ) → u ≡ solve_of (r / b) (c / b) → r < work.rows → left_sum (is_task u) v r c ≡ left_part v r c (r / b)
  left-solve_share u v r c is row =
      products-part work.rows b (owner_of (r / b) (c / b)) (value v r c) u (r / b) pos (part_below_count work.rows b r pos row)
      (is ∙ sym (owner-here (r / b) (c / b) (r / b) refl))
      (λ p other. kinds-apart u (owner_of (r / b) (c / b) p) (rw (owner-other (r / b) (c / b) p other, is) (λ f. absurd (cc))))

  -- ---- what the kernels multiply

  module _ (known_blocks : ℕ → Blocks) (are : AreKnown b knowns known_blocks) (blocks : Blocks) (r c : ℕ) (row : r < work.rows) where
    -- a block of T and one of W, as it is read after it was solved, or as it is solved
    pub left-product : (p length : ℕ) → length ≡ part_length work.rows b p → is_inside op t (r / b) p ≡ true → is_zero op.work.structure p (c / b) ≡ false
        → times m length (factor_block op known_blocks t (r / b) p) (view (block_structure op.work.structure p (c / b)) (entry (blocks p (c / b)))) (r % b) (c % b)
        ≡ left_part (gathered b blocks) r c p % m
    left-product p length length_is inside block = ap (λ (x : ℕ). x % m)
        (ap (λ (n : ℕ). sum_below (λ q. factor_block op known_blocks t (r / b) p (r % b) q * view (block_structure op.work.structure p (c / b)) (entry (blocks p (c / b))) q (c % b)) n) length_is
        ∙ sum_below-same (λ q. factor_block op known_blocks t (r / b) p (r % b) q * view (block_structure op.work.structure p (c / b)) (entry (blocks p (c / b))) q (c % b))
        (λ q. factor_table op knowns t r (p * b + q) * view op.work.structure (gathered b blocks) (p * b + q) c) (part_length work.rows b p)
        (λ q h. ap₂ (λ (x y : ℕ). x * y)
        (factor_at op b knowns pos known_blocks are t work.rows work.rows r p q sizes inside row h)
        (work_block-is op.work.structure (work-straight op.work.structure work_structure) b blocks p (c / b) q (c % b) (omega arith) (mod-lt c pos) block
        ∙ ap (λ (x : ℕ). view op.work.structure (gathered b blocks) (p * b + q) x) (div-add-mod' c b))))

  -- with weight 1 for each task it is the product
  pub left-whole : (v : Table) (r c : ℕ) → left_sum (λ u. 1) v r c ≡ product work.rows (factor_table op knowns t) (view op.work.structure v) r c
  left-whole v r c = sum_below-same (λ k. 1 * value v r c k) (value v r c) work.rows (λ k h. omega arith)
