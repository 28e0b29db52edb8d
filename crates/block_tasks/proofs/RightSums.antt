-- X * U: the sum of its products, each with the task that it belongs to. Cited by the forms with a triangular factor on the right.
use Rattle.std.proofs.Common.{◌≡◌, ◌≢◌, ℕ, zero, suc, ◌+◌, ◌-◌, ◌*◌, ◌/◌, ◌%◌, ◌<◌, ◌≤◌, ◌⊎◌, inl, inr, Bool, true, false, not, if◌then◌else◌, List, [], ◌∷◌, refl, sym, ◌∙◌, ap, ap₂, subst, arith}
use Rattle.std.specs.Prelude.{◌==◌, ◌&&◌, nat_lt}
use Rattle.std.proofs.lemmas.Nat.{div-add-mod'}
use Rattle.std.proofs.Math.Nat.{mod-lt}
use Rattle.std.proofs.lemmas.Bool.{cases_Bool, cases_eq, and_parts, false≢true, lt-ltb, ltb-true, eqb-true, not-true}
use Rattle.std.proofs.lemmas.Bool.Decides.{nat_tests}
use Rattle.residue_sums.specs.Residues.{Cong}
use Rattle.residue_sums.specs.Sums.{sum_below, part_count, part_length, part_sum}
use Rattle.residue_sums.specs.Tables.{Table, product, times}
use Rattle.residue_sums.specs.Grids.{Grid, entry}
use Rattle.residue_sums.proofs.Sums.{sum_below-same}
use Rattle.residue_sums.proofs.Parts.{part_below_count, index_from_place}
use Rattle.structure_rules.specs.declared.Structure.{Structure}
use Rattle.structure_rules.specs.declared.Structure.TheVariants.{General, Lower, UnitLower, Upper, UnitUpper, Diagonal, Symmetric}
use Rattle.structure_rules.specs.Structures.{view, IsEntry, IsInside, IsZero, is_zero, IsWorkStructure, transpose_of}
use Rattle.structure_rules.proofs.Blocks.{view-zero_block}
use Rattle.operation_spec.specs.declared.operation.Operation.{Operation}
use Rattle.operation_spec.specs.declared.operation.Factor.{Factor}
use Rattle.operation_spec.specs.declared.task.Kind.{Kind}
use Rattle.operation_spec.specs.declared.task.Kind.TheVariants as kinds
use Rattle.operation_spec.specs.declared.task.Task.{Task}
use Rattle.task_graph.specs.Factors.{known, factor_structure}
use Rattle.task_graph.specs.Tasks.{has, has_task, has_right, has_solve, reads_right, is_work_block, is_inside, parts_of}
use Rattle.task_graph.specs.Needs.{right_needs}
use Rattle.task_graph.specs.Order.{task_of}
use Rattle.equation.specs.Equations.{factor_table}
use Rattle.task_sums.specs.SharedSums.{AgreeFor, IsShared}
use Rattle.task_sums.proofs.Shares.{IsShared-products}
use Rattle.flash_blocks.specs.Blocks.{Blocks, block_of, gathered}
use Rattle.block_tasks.specs.Effects.{AreKnown, factor_block, view_block, block_structure}
use Rattle.block_tasks.proofs.TaskTests.{is_task, is_task-self, is_task-or}
use Rattle.block_tasks.proofs.SolveTasks.{operation_tasks, IsSolveTask, DependsOn, solve_of}
use Rattle.block_tasks.proofs.TermSums.{HasFactor, IsSharedSum, factor_at_row, factor-zero_block, products-none, products-part, kinds-apart, inner-apart, work_block-inside, zero_from_test}
use Rattle.block_tasks.proofs.LeftSums.{is_inside-diagonal, view-no_block, work_block-zero}
use Rattle.block_tasks.proofs.WorkViews.{work-reads, work-straight, view_block-work, work_block-is}

module _ (m b : ℕ) (two : 2 ≤ m) (pos : 0 < b) (op : Operation) (knowns : List Grid) (work : Grid) (counts : List ℕ)
    (rows_are : parts_of counts op.work.rows ≡ part_count work.rows b) (cols_are : parts_of counts op.work.cols ≡ part_count work.cols b)
    (work_structure : IsWorkStructure op.work.structure) (solves : has_solve op.form ≡ true)
    (t : Factor) (sizes : HasFactor op b knowns pos t work.cols work.cols)
    (has_right_is : (i j k : ℕ) → has_right op counts op.form i j k ≡ reads_right op counts t i j k)
    (needs_is : (i j k : ℕ) → right_needs op.form i j k (solve_of i k) ≡ true) where
  abbrev owner_of : ℕ → ℕ → ℕ → Task
  owner_of i j p = if p == j then solve_of i j else task_of kinds.Right 0 i j p

  abbrev owner : ℕ → ℕ → ℕ → Task
  owner r c k = owner_of (r / b) (c / b) (k / b)

  abbrev value : Table → ℕ → ℕ → ℕ → ℕ
  value w r c k = view op.work.structure w r k * factor_table op knowns t k c

  abbrev pub right_sum : (Task → ℕ) → Table → ℕ → ℕ → ℕ
  right_sum f w r c = sum_below (λ k. f (owner r c k) * value w r c k) work.cols

  abbrev Inside : ℕ → ℕ → Type 0
  Inside = IsEntry work.rows work.cols op.work.structure

  abbrev Exists : Task → Type 0
  Exists u = has op counts u ≡ true

  owner-here : (i j p : ℕ) → p ≡ j → owner_of i j p ≡ solve_of i j
  owner-here i j p e = let h : (p == j) ≡ true = grind (arith, nat_tests) in rw h refl

  owner-other : (i j p : ℕ) → p ≢ j → owner_of i j p ≡ task_of kinds.Right 0 i j p
  owner-other i j p e = let h : (p == j) ≡ false = grind (arith, nat_tests) in rw h refl

  place : (i j p : ℕ) → ((owner_of i j p).i ≡ i) × ((owner_of i j p).j ≡ j)
  place i j p = elim (cases_eq p j) [
    | inl e ↦ rw (owner-here i j p e) (refl, refl)
    | inr e ↦ rw (owner-other i j p e) (refl, refl)
  ]

  exists : (r c k : ℕ) → Inside r c → k < work.cols → Exists (owner r c k) ⊎ ((w : Table) → value w r c k ≡ 0)
  exists r c k within below = go (cases_eq (k / b) (c / b)) (cases_Bool (is_inside op t (k / b) (c / b))) (cases_Bool (is_work_block op counts (r / b) (k / b)))
    where
      block : is_work_block op counts (r / b) (c / b) ≡ true
      block = work_block-inside op counts b r c work.rows work.cols pos rows_are cols_are within

      go : (k / b ≡ c / b) ⊎ (k / b ≢ c / b) → (is_inside op t (k / b) (c / b) ≡ true) ⊎ (is_inside op t (k / b) (c / b) ≡ false)
          → (is_work_block op counts (r / b) (k / b) ≡ true) ⊎ (is_work_block op counts (r / b) (k / b) ≡ false)
          → Exists (owner r c k) ⊎ ((w : Table) → value w r c k ≡ 0)
      go (inl e) x y = inl (rw (owner-here (r / b) (c / b) (k / b) e) (rw (block, solves) refl))
      go (inr e) (inr none) y = inr (λ w. rw (factor-zero_block op knowns t b k c none) (omega arith))
      go (inr e) (inl x) (inr none) = inr (λ w. rw (view-no_block op counts b work.rows work.cols w r k pos rows_are cols_are within.row below none) (omega arith))
      go (inr e) (inl x) (inl y) =
          let h : (k / b == c / b) ≡ false = grind (arith, nat_tests) in
          inl (rw (owner-other (r / b) (c / b) (k / b) e) (rw (block, has_right_is (r / b) (c / b) (k / b)) (rw (x, y, h) refl)))

  local : (w w' : Table) (r c k : ℕ) → AgreeFor b (operation_tasks op counts) (owner r c k) w w' → value w r c k ≡ value w' r c k
  local w w' r c k agree = ap (λ (x : ℕ). x * factor_table op knowns t k c) (work-reads op.work.structure w w' r k work_structure (sym (agree r k (depends (cases_eq (k / b) (c / b))))))
    where
      depends : (k / b ≡ c / b) ⊎ (k / b ≢ c / b) → DependsOn op (owner r c k) (r / b) (k / b)
      depends (inl e) = rw (owner-here (r / b) (c / b) (k / b) e) (inl (refl, refl, sym e))
      depends (inr e) = rw (owner-other (r / b) (c / b) (k / b) e) (inr (needs_is (r / b) (c / b) (k / b)))

  pub IsShared-right : IsSharedSum m b two pos op knowns work counts rows_are cols_are right_sum
  IsShared-right = IsShared-products b (operation_tasks op counts) Inside work.cols owner value
      (λ r c k within below. place (r / b) (c / b) (k / b))
      exists
      (λ w w' r c k within below agree. local w w' r c k agree)

  -- a task of another kind has no share
  pub right-none : (u : Task) (v : Table) (r c : ℕ) → u.kind ≢ kinds.Right → u.kind ≢ kinds.Solve → right_sum (is_task u) v r c ≡ 0
  right-none u v r c not_right not_solve = products-none work.cols (owner r c) (value v r c) u (λ k h. elim (cases_eq (k / b) (c / b)) [
    | inl e ↦ kinds-apart u (owner r c k) (rw (owner-here (r / b) (c / b) (k / b) e) not_solve)
    | inr e ↦ kinds-apart u (owner r c k) (rw (owner-other (r / b) (c / b) (k / b) e) not_right)
  ])

  -- the product over part p, exact
  abbrev pub right_part : Table → ℕ → ℕ → ℕ → ℕ
  right_part v r c p = sum_below (λ q. view op.work.structure v r (p * b + q) * factor_table op knowns t (p * b + q) c) (part_length work.cols b p)

  -- the share of an update
  pub right-update_share : (u : Task) (v : Table) (r c : ℕ) → u.kind ≡ kinds.Right → u.term ≡ 0 → u.i ≡ r / b → u.j ≡ c / b → u.k ≢ c / b → u.k < part_count work.cols b
      → right_sum (is_task u) v r c ≡ right_part v r c u.k
  right-update_share u v r c kind number row col apart below =
      products-part work.cols b (owner_of (r / b) (c / b)) (value v r c) u u.k pos below
      ((λ x. record { kind = kind x; term = number x; i = row x; j = col x; k = u.k }) ∙ sym (owner-other (r / b) (c / b) u.k apart))
      (λ p other. elim (cases_eq p (c / b)) [
        | inl e ↦ kinds-apart u (owner_of (r / b) (c / b) p) (rw (owner-here (r / b) (c / b) p e, kind) (λ f. absurd (cc)))
        | inr e ↦ inner-apart u (owner_of (r / b) (c / b) p) (rw (owner-other (r / b) (c / b) p e) (λ f. other (sym f)))
      ])

  -- the share of a solve
  pub right-solve_share : (u : Task) (v : Table) (r c : ℕ) → u ≡ solve_of (r / b) (c / b) → c < work.cols → right_sum (is_task u) v r c ≡ right_part v r c (c / b)
  right-solve_share u v r c is col =
      products-part work.cols b (owner_of (r / b) (c / b)) (value v r c) u (c / b) pos (part_below_count work.cols b c pos col)
      (is ∙ sym (owner-here (r / b) (c / b) (c / b) refl))
      (λ p other. kinds-apart u (owner_of (r / b) (c / b) p) (rw (owner-other (r / b) (c / b) p other, is) (λ f. absurd (cc))))

  -- ---- what the kernels multiply

  module _ (known_blocks : ℕ → Blocks) (are : AreKnown b knowns known_blocks) (blocks : Blocks) (r c : ℕ) (col : c < work.cols) where
    -- a block of T and one of W, as it is read after it was solved, or as it is solved
    pub right-product : (p length : ℕ) → length ≡ part_length work.cols b p → is_inside op t p (c / b) ≡ true → is_zero op.work.structure (r / b) p ≡ false
        → times m length (view (block_structure op.work.structure (r / b) p) (entry (blocks (r / b) p))) (factor_block op known_blocks t p (c / b)) (r % b) (c % b)
        ≡ right_part (gathered b blocks) r c p % m
    right-product p length length_is inside block = ap (λ (x : ℕ). x % m)
        (ap (λ (n : ℕ). sum_below (λ q. view (block_structure op.work.structure (r / b) p) (entry (blocks (r / b) p)) (r % b) q * factor_block op known_blocks t p (c / b) q (c % b)) n) length_is
        ∙ sum_below-same (λ q. view (block_structure op.work.structure (r / b) p) (entry (blocks (r / b) p)) (r % b) q * factor_block op known_blocks t p (c / b) q (c % b))
        (λ q. view op.work.structure (gathered b blocks) r (p * b + q) * factor_table op knowns t (p * b + q) c) (part_length work.cols b p)
        (λ q h. ap₂ (λ (x y : ℕ). x * y)
        (work_block-is op.work.structure (work-straight op.work.structure work_structure) b blocks (r / b) p (r % b) q (mod-lt r pos) (omega arith) block
        ∙ ap (λ (x : ℕ). view op.work.structure (gathered b blocks) x (p * b + q)) (div-add-mod' r b))
        (factor_at_row op b knowns pos known_blocks are t work.cols work.cols p q c sizes inside h col)))

  -- with weight 1 for each task it is the product
  pub right-whole : (v : Table) (r c : ℕ) → right_sum (λ u. 1) v r c ≡ product work.cols (view op.work.structure v) (factor_table op knowns t) r c
  right-whole v r c = sum_below-same (λ k. 1 * value v r c k) (value v r c) work.cols (λ k h. omega arith)
