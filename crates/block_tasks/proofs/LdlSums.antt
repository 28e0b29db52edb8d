-- L * D * L': the sum of its products, each with the task that it belongs to, on and below the diagonal.
use Rattle.std.proofs.Common.{◌≡◌, ◌≢◌, ℕ, zero, suc, min, ◌+◌, ◌-◌, ◌*◌, ◌/◌, ◌%◌, ◌<◌, ◌≤◌, ◌⊎◌, inl, inr, Bool, true, false, not, if◌then◌else◌, List, [], ◌∷◌, refl, sym, ◌∙◌, ap, ap₂, subst, arith}
use Rattle.std.specs.Prelude.{◌==◌, ◌&&◌, nat_lt}
use Rattle.std.proofs.lemmas.Nat.{div-add-mod', div-mul-add, mod-mul-add}
use Rattle.std.proofs.Math.Nat.{mod-lt}
use Rattle.std.proofs.lemmas.Bool.{cases_Bool, cases_eq, cases_lt, cases_order, lt-ltb}
use Rattle.std.proofs.lemmas.Bool.Decides.{nat_tests}
use Rattle.residue_sums.specs.Residues.{Cong}
use Rattle.residue_sums.specs.Sums.{sum_below, part_count, part_length}
use Rattle.residue_sums.specs.Tables.{Table, product, times, transpose}
use Rattle.residue_sums.specs.Grids.{Grid, entry}
use Rattle.residue_sums.proofs.Sums.{sum_below-same, sum_below-only}
use Rattle.residue_sums.proofs.Parts.{part_below_count, sum_below-marked_part}
use Rattle.structure_rules.specs.declared.Structure.TheVariants.{General, Lower, UnitLower, Diagonal, Symmetric}
use Rattle.structure_rules.specs.Structures.{view, IsEntry, IsInside, is_zero}
use Rattle.structure_rules.proofs.Blocks.{IsZero-block}
use Rattle.matrix_algebra.proofs.Packed.{view-unit_lower_above, view-diagonal_here}
use Rattle.matrix_algebra.proofs.Products.{product-times_left}
use Rattle.structure_rules.proofs.Views.{view-zero}
use Rattle.operation_spec.specs.declared.operation.Operation.{Operation}
use Rattle.operation_spec.specs.declared.operation.Form.TheVariants.{Ldl}
use Rattle.operation_spec.specs.declared.task.Kind.TheVariants as kinds
use Rattle.operation_spec.specs.declared.task.Task.{Task}
use Rattle.task_graph.specs.Tasks.{has, is_work_block, parts_of}
use Rattle.task_graph.specs.Order.{task_of}
use Rattle.task_sums.specs.SharedSums.{AgreeFor, IsShared}
use Rattle.task_sums.proofs.Shares.{IsShared-products}
use Rattle.flash_blocks.specs.Blocks.{Blocks, gathered}
use Rattle.block_tasks.specs.Effects.{block_structure}
use Rattle.block_tasks.proofs.TaskTests.{is_task, is_task-self, is_task-or}
use Rattle.block_tasks.proofs.SolveTasks.{operation_tasks, IsSolveTask, DependsOn, solve_of}
use Rattle.block_tasks.proofs.TermSums.{IsSharedSum, products-none, products-part, kinds-apart, inner-apart, work_block-inside}
use Rattle.block_tasks.proofs.WorkViews.{straight-reads, work_block-is}
use Rattle.block_tasks.proofs.LuSums.{part-le}

-- the product of a table with a diagonal one
pub product-diagonal : (n : ℕ) (l a : Table) (i k : ℕ) → k < n → product n l (view Diagonal a) i k ≡ l i k * a k k
product-diagonal n l a i k below =
    sum_below-only (λ s. l i s * view Diagonal a s k) n k below (λ s h apart. rw (view-zero Diagonal a s k apart) (omega arith))
    ∙ ap (λ (x : ℕ). l i k * x) (view-diagonal_here a k k refl)

module _ (m b : ℕ) (two : 2 ≤ m) (pos : 0 < b) (op : Operation) (knowns : List Grid) (work : Grid) (counts : List ℕ)
    (rows_are : parts_of counts op.work.rows ≡ part_count work.rows b) (cols_are : parts_of counts op.work.cols ≡ part_count work.cols b)
    (form : op.form ≡ Ldl) (lower : op.work.structure ≡ Lower) where
  abbrev owner_of : ℕ → ℕ → ℕ → Task
  owner_of i j p = if nat_lt p j then task_of kinds.Left 0 i j p else solve_of i j

  abbrev owner : ℕ → ℕ → ℕ → Task
  owner r c k = owner_of (r / b) (c / b) (k / b)

  abbrev value : Table → ℕ → ℕ → ℕ → ℕ
  value w r c k = view UnitLower w r k * w k k * view UnitLower w c k

  abbrev pub ldl_sum : (Task → ℕ) → Table → ℕ → ℕ → ℕ
  ldl_sum f w r c = sum_below (λ k. f (owner r c k) * value w r c k) work.rows

  abbrev Inside : ℕ → ℕ → Type 0
  Inside = IsEntry work.rows work.cols op.work.structure

  abbrev Exists : Task → Type 0
  Exists u = has op counts u ≡ true

  -- entries of W lie on or below the diagonal
  pub below-diagonal : (r c : ℕ) → IsEntry work.rows work.cols op.work.structure r c → c ≤ r
  below-diagonal r c within = let h : IsInside Lower r c = rw lower at within.inside in elim (cases_lt r c) [ inl x ↦ absurd (h x) | inr x ↦ x ]

  owner-early : (i j p : ℕ) → p < j → owner_of i j p ≡ task_of kinds.Left 0 i j p
  owner-early i j p h = rw (lt-ltb p j h) refl

  owner-late : (i j p : ℕ) → j ≤ p → owner_of i j p ≡ solve_of i j
  owner-late i j p h = let e : nat_lt p j ≡ false = grind (arith, nat_tests) in rw e refl

  place : (i j p : ℕ) → ((owner_of i j p).i ≡ i) × ((owner_of i j p).j ≡ j)
  place i j p = elim (cases_lt p j) [
    | inl e ↦ rw (owner-early i j p e) (refl, refl)
    | inr e ↦ rw (owner-late i j p e) (refl, refl)
  ]

  exists : (r c k : ℕ) → Inside r c → Exists (owner r c k)
  exists r c k within =
      let block : is_work_block op counts (r / b) (c / b) ≡ true = work_block-inside op counts b r c work.rows work.cols pos rows_are cols_are within in
      elim (cases_lt (k / b) (c / b)) [
        | inl e ↦ (let h : nat_lt (k / b) (c / b) ≡ true = lt-ltb (k / b) (c / b) e in rw (owner-early (r / b) (c / b) (k / b) e) (rw (block, form) (rw h refl)))
        | inr e ↦ rw (owner-late (r / b) (c / b) (k / b) e) (rw (block, form) refl)
      ]

  value-zero : (w : Table) (r c k : ℕ) → c < k → value w r c k ≡ 0
  value-zero w r c k h = rw (view-unit_lower_above w c k h) (omega arith)

  -- what the owner of a product depends on: the blocks of L in row r, of D, and of L in row c
  depends : (r c k : ℕ) → k ≤ c → c ≤ r → DependsOn op (owner r c k) (r / b) (k / b) × DependsOn op (owner r c k) (k / b) (k / b) × DependsOn op (owner r c k) (c / b) (k / b)
  depends r c k x y = elim (cases_lt (k / b) (c / b)) [
    | inl e ↦ rw (owner-early (r / b) (c / b) (k / b) e) (inr (rw form (grind (arith, nat_tests))), inr (rw form (grind (arith, nat_tests))), inr (rw form (grind (arith, nat_tests))))
    | inr e ↦ (let q : k / b ≤ c / b = part-le b k c x in let p : c / b ≤ r / b = part-le b c r y in
        let same : k / b ≡ c / b = omega arith in
        rw (owner-late (r / b) (c / b) (k / b) e) (elim (cases_eq (r / b) (c / b)) [
          | inl diagonal ↦ (inl (refl, refl, sym same), inl (refl, diagonal ∙ sym same, sym same), inl (refl, diagonal, sym same))
          | inr apart ↦ (
            inl (refl, refl, sym same),
            inr (rw (form, same) (let f : min (r / b) (c / b) ≡ c / b = omega arith in rw f (grind (arith, nat_tests)))),
            inr (rw (form, same) (let f : min (r / b) (c / b) ≡ c / b = omega arith in rw f (grind (arith, nat_tests)))),
          )
        ]))
  ]

  local : (w w' : Table) (r c k : ℕ) → c ≤ r → AgreeFor b (operation_tasks op counts) (owner r c k) w w' → value w r c k ≡ value w' r c k
  local w w' r c k le agree = elim (cases_lt c k) [
    | inl y ↦ value-zero w r c k y ∙ sym (value-zero w' r c k y)
    | inr y ↦ (let d = depends r c k y le in
        ap₂ (λ (s t : ℕ). s * t) (ap₂ (λ (s t : ℕ). s * t)
        (straight-reads UnitLower w w' r k (λ e. absurd (cc)) (sym (agree r k d.0))) (sym (agree k k d.1)))
        (straight-reads UnitLower w w' c k (λ e. absurd (cc)) (sym (agree c k d.2))))
  ]

  pub IsShared-ldl : IsSharedSum m b two pos op knowns work counts rows_are cols_are ldl_sum
  IsShared-ldl = IsShared-products b (operation_tasks op counts) Inside work.rows owner value
      (λ r c k within below. place (r / b) (c / b) (k / b))
      (λ r c k within below. inl (exists r c k within))
      (λ w w' r c k within below agree. local w w' r c k (below-diagonal r c within) agree)

  pub ldl-none : (u : Task) (v : Table) (r c : ℕ) → u.kind ≢ kinds.Left → u.kind ≢ kinds.Solve → ldl_sum (is_task u) v r c ≡ 0
  ldl-none u v r c not_left not_solve = products-none work.rows (owner r c) (value v r c) u (λ k h. elim (cases_lt (k / b) (c / b)) [
    | inl e ↦ kinds-apart u (owner r c k) (rw (owner-early (r / b) (c / b) (k / b) e) not_left)
    | inr e ↦ kinds-apart u (owner r c k) (rw (owner-late (r / b) (c / b) (k / b) e) not_solve)
  ])

  abbrev pub ldl_part : Table → ℕ → ℕ → ℕ → ℕ
  ldl_part v r c p = sum_below (λ q. view UnitLower v r (p * b + q) * v (p * b + q) (p * b + q) * view UnitLower v c (p * b + q)) (part_length work.rows b p)

  pub ldl-update_share : (u : Task) (v : Table) (r c : ℕ) → u.kind ≡ kinds.Left → u.term ≡ 0 → u.i ≡ r / b → u.j ≡ c / b → u.k < c / b → u.k < part_count work.rows b
      → ldl_sum (is_task u) v r c ≡ ldl_part v r c u.k
  ldl-update_share u v r c kind number row col early below =
      products-part work.rows b (owner_of (r / b) (c / b)) (value v r c) u u.k pos below
      ((λ x. record { kind = kind x; term = number x; i = row x; j = col x; k = u.k }) ∙ sym (owner-early (r / b) (c / b) u.k early))
      (λ p other. elim (cases_lt p (c / b)) [
        | inl e ↦ inner-apart u (owner_of (r / b) (c / b) p) (rw (owner-early (r / b) (c / b) p e) (λ f. other (sym f)))
        | inr e ↦ kinds-apart u (owner_of (r / b) (c / b) p) (rw (owner-late (r / b) (c / b) p e, kind) (λ f. absurd (cc)))
      ])

  abbrev mark : ℕ → ℕ → ℕ
  mark q p = if p == q then 1 else 0

  pub ldl-solve_share : (v : Table) (r c : ℕ) → c / b < part_count work.rows b → ldl_sum (is_task (solve_of (r / b) (c / b))) v r c ≡ ldl_part v r c (c / b)
  ldl-solve_share v r c below =
      sum_below-same (λ k. is_task (solve_of (r / b) (c / b)) (owner r c k) * value v r c k) (λ k. mark (c / b) (k / b) * value v r c k) work.rows (λ k h. each k)
      ∙ sum_below-marked_part work.rows b (c / b) (value v r c) (mark (c / b)) pos below
      (let e : (c / b == c / b) ≡ true = grind (arith, nat_tests) in rw e refl)
      (λ p apart. let e : (p == c / b) ≡ false = grind (arith, nat_tests) in rw e refl)
    where
      each : (k : ℕ) → is_task (solve_of (r / b) (c / b)) (owner r c k) * value v r c k ≡ mark (c / b) (k / b) * value v r c k
      each k = elim (cases_order (k / b) (c / b)) [
        | inl same ↦ (let e : (k / b == c / b) ≡ true = grind (arith, nat_tests) in
            rw e (ap (λ (x : ℕ). x * value v r c k) (rw (owner-late (r / b) (c / b) (k / b) (omega arith)) (is_task-self (solve_of (r / b) (c / b))))))
        | inr (inl less) ↦ (let e : (k / b == c / b) ≡ false = grind (arith, nat_tests) in
            rw e (ap (λ (x : ℕ). x * value v r c k) (kinds-apart (solve_of (r / b) (c / b)) (owner r c k) (rw (owner-early (r / b) (c / b) (k / b) less) (λ f. absurd (cc))))))
        | inr (inr more) ↦ rw (value-zero v r c k (IsZero-block UnitLower b c k more)) (omega arith)
      ]

  -- ---- what the kernels multiply

  pub ldl-product : (blocks : Blocks) (r c p length : ℕ) → length ≡ part_length work.rows b p → p ≤ r / b → p ≤ c / b
      → times m length (times m length (view (block_structure UnitLower (r / b) p) (entry (blocks (r / b) p))) (view Diagonal (entry (blocks p p))))
      (transpose (view (block_structure UnitLower (c / b) p) (entry (blocks (c / b) p)))) (r % b) (c % b)
      ≡ ldl_part (gathered b blocks) r c p % m
  ldl-product blocks r c p length length_is row col =
      reduced.same ∙ ap (λ (x : ℕ). x % m)
      (ap (λ (n : ℕ). product n (product n first (view Diagonal (entry (blocks p p)))) (transpose second) (r % b) (c % b)) length_is
      ∙ sum_below-same (λ q. product (part_length work.rows b p) first (view Diagonal (entry (blocks p p))) (r % b) q * second (c % b) q)
      (λ q. view UnitLower (gathered b blocks) r (p * b + q) * gathered b blocks (p * b + q) (p * b + q) * view UnitLower (gathered b blocks) c (p * b + q)) (part_length work.rows b p) each)
    where
      first : Table
      first = view (block_structure UnitLower (r / b) p) (entry (blocks (r / b) p))

      second : Table
      second = view (block_structure UnitLower (c / b) p) (entry (blocks (c / b) p))

      reduced : Cong m (product length (times m length first (view Diagonal (entry (blocks p p)))) (transpose second) (r % b) (c % b))
          (product length (product length first (view Diagonal (entry (blocks p p)))) (transpose second) (r % b) (c % b))
      reduced = product-times_left m length length first (view Diagonal (entry (blocks p p))) (transpose second) (r % b) (c % b)

      unit_block : (x : ℕ) → p ≤ x / b → (q : ℕ) → q < b → view (block_structure UnitLower (x / b) p) (entry (blocks (x / b) p)) (x % b) q ≡ view UnitLower (gathered b blocks) x (p * b + q)
      unit_block x le q inner =
          work_block-is UnitLower (λ e. absurd (cc)) b blocks (x / b) p (x % b) q (mod-lt x pos) inner (grind (arith, nat_tests))
          ∙ ap (λ (z : ℕ). view UnitLower (gathered b blocks) z (p * b + q)) (div-add-mod' x b)

      each : (q : ℕ) → q < part_length work.rows b p → product (part_length work.rows b p) first (view Diagonal (entry (blocks p p))) (r % b) q * second (c % b) q
          ≡ view UnitLower (gathered b blocks) r (p * b + q) * gathered b blocks (p * b + q) (p * b + q) * view UnitLower (gathered b blocks) c (p * b + q)
      each q h =
          ap₂ (λ (s t : ℕ). s * t)
          (product-diagonal (part_length work.rows b p) first (entry (blocks p p)) (r % b) q h
          ∙ ap₂ (λ (s t : ℕ). s * t) (unit_block r row q (omega (arith, h))) (on_diagonal q (omega (arith, h))))
          (unit_block c col q (omega (arith, h)))
        where
          on_diagonal : (q : ℕ) → q < b → entry (blocks p p) q q ≡ gathered b blocks (p * b + q) (p * b + q)
          on_diagonal q inner = rw (div-mul-add p b q inner, mod-mul-add p b q inner) refl

  -- with weight 1 for each task it is the product
  pub ldl-whole : (v : Table) (r c : ℕ) → ldl_sum (λ u. 1) v r c ≡ product work.rows (product work.rows (view UnitLower v) (view Diagonal v)) (transpose (view UnitLower v)) r c
  ldl-whole v r c = sum_below-same (λ k. 1 * value v r c k) (λ k. product work.rows (view UnitLower v) (view Diagonal v) r k * view UnitLower v c k) work.rows
      (λ k h. let e : product work.rows (view UnitLower v) (view Diagonal v) r k ≡ view UnitLower v r k * v k k = product-diagonal work.rows (view UnitLower v) v r k h in rw e (omega arith))
