-- L * U: the sum of its products, each with the task that it belongs to.
use Rattle.std.proofs.Common.{◌≡◌, ◌≢◌, ℕ, zero, suc, min, ◌+◌, ◌-◌, ◌*◌, ◌/◌, ◌%◌, ◌<◌, ◌≤◌, ◌⊎◌, inl, inr, Bool, true, false, not, if◌then◌else◌, List, [], ◌∷◌, refl, sym, ◌∙◌, ap, ap₂, subst, arith}
use Rattle.std.specs.Prelude.{◌==◌, ◌&&◌, nat_lt}
use Rattle.std.proofs.lemmas.Nat.{div-add-mod', le-div}
use Rattle.std.proofs.Math.Nat.{mod-lt, div-mul-le_self}
use Rattle.std.proofs.lemmas.Bool.{cases_Bool, cases_eq, cases_lt, cases_order, and_parts, false≢true, lt-ltb, ltb-true, eqb-true, not-true}
use Rattle.std.proofs.lemmas.Bool.Decides.{nat_tests}
use Rattle.residue_sums.specs.Residues.{Cong}
use Rattle.residue_sums.specs.Sums.{sum_below, part_count, part_length, part_sum}
use Rattle.residue_sums.specs.Tables.{Table, product, times}
use Rattle.residue_sums.specs.Grids.{Grid, entry}
use Rattle.residue_sums.proofs.Sums.{sum_below-same}
use Rattle.residue_sums.proofs.Parts.{part_below_count, index_from_place, sum_below-marked_part}
use Rattle.structure_rules.specs.declared.Structure.TheVariants.{General, UnitLower, Upper, Symmetric}
use Rattle.structure_rules.specs.Structures.{view, IsEntry, is_zero}
use Rattle.structure_rules.proofs.Blocks.{IsZero-block}
use Rattle.matrix_algebra.proofs.Packed.{view-unit_lower_above, view-unit_lower_below, view-unit_lower_diagonal, view-upper_above, view-upper_below}
use Rattle.operation_spec.specs.declared.operation.Operation.{Operation}
use Rattle.operation_spec.specs.declared.operation.Form.TheVariants.{Lu}
use Rattle.operation_spec.specs.declared.task.Kind.{Kind}
use Rattle.operation_spec.specs.declared.task.Kind.TheVariants as kinds
use Rattle.operation_spec.specs.declared.task.Task.{Task}
use Rattle.task_graph.specs.Tasks.{has, has_task, has_left, is_work_block, parts_of}
use Rattle.task_graph.specs.Needs.{does_need}
use Rattle.task_graph.specs.Order.{task_of}
use Rattle.task_sums.specs.SharedSums.{AgreeFor, IsShared}
use Rattle.task_sums.proofs.Shares.{IsShared-products}
use Rattle.flash_blocks.specs.Blocks.{Blocks, gathered}
use Rattle.block_tasks.specs.Effects.{block_structure}
use Rattle.block_tasks.proofs.EffectValues.{solved_left}
use Rattle.block_tasks.proofs.TaskTests.{is_task, is_task-self, is_task-or}
use Rattle.block_tasks.proofs.SolveTasks.{operation_tasks, IsSolveTask, DependsOn, solve_of}
use Rattle.block_tasks.proofs.TermSums.{IsSharedSum, products-none, products-part, kinds-apart, inner-apart, work_block-inside}
use Rattle.block_tasks.proofs.WorkViews.{straight-reads, work_block-is}

-- an index that is no greater lies in no later part
pub part-le : (b x y : ℕ) → x ≤ y → x / b ≤ y / b
part-le b x y le = elim (cases_lt (y / b) (x / b)) [
  | inl less ↦ (let back : y < x = IsZero-block UnitLower b y x less in absurd (omega arith))
  | inr not ↦ not
]

module _ (m b : ℕ) (two : 2 ≤ m) (pos : 0 < b) (op : Operation) (knowns : List Grid) (work : Grid) (counts : List ℕ)
    (rows_are : parts_of counts op.work.rows ≡ part_count work.rows b) (cols_are : parts_of counts op.work.cols ≡ part_count work.cols b)
    (form : op.form ≡ Lu) where
  abbrev owner_of : ℕ → ℕ → ℕ → Task
  owner_of i j p = if nat_lt p (min i j) then task_of kinds.Left 0 i j p else solve_of i j

  abbrev owner : ℕ → ℕ → ℕ → Task
  owner r c k = owner_of (r / b) (c / b) (k / b)

  abbrev value : Table → ℕ → ℕ → ℕ → ℕ
  value w r c k = view UnitLower w r k * view Upper w k c

  abbrev pub lu_sum : (Task → ℕ) → Table → ℕ → ℕ → ℕ
  lu_sum f w r c = sum_below (λ k. f (owner r c k) * value w r c k) work.rows

  abbrev Inside : ℕ → ℕ → Type 0
  Inside = IsEntry work.rows work.cols op.work.structure

  abbrev Exists : Task → Type 0
  Exists u = has op counts u ≡ true

  owner-early : (i j p : ℕ) → p < min i j → owner_of i j p ≡ task_of kinds.Left 0 i j p
  owner-early i j p h = rw (lt-ltb p (min i j) h) refl

  owner-late : (i j p : ℕ) → min i j ≤ p → owner_of i j p ≡ solve_of i j
  owner-late i j p h = let e : nat_lt p (min i j) ≡ false = grind (arith, nat_tests) in rw e refl

  place : (i j p : ℕ) → ((owner_of i j p).i ≡ i) × ((owner_of i j p).j ≡ j)
  place i j p = elim (cases_lt p (min i j)) [
    | inl e ↦ rw (owner-early i j p e) (refl, refl)
    | inr e ↦ rw (owner-late i j p e) (refl, refl)
  ]

  exists : (r c k : ℕ) → Inside r c → Exists (owner r c k)
  exists r c k within =
      let block : is_work_block op counts (r / b) (c / b) ≡ true = work_block-inside op counts b r c work.rows work.cols pos rows_are cols_are within in
      elim (cases_lt (k / b) (min (r / b) (c / b))) [
        | inl e ↦ (let h : nat_lt (k / b) (min (r / b) (c / b)) ≡ true = lt-ltb (k / b) (min (r / b) (c / b)) e in rw (owner-early (r / b) (c / b) (k / b) e) (rw (block, form) (rw h refl)))
        | inr e ↦ rw (owner-late (r / b) (c / b) (k / b) e) (rw (block, form) refl)
      ]

  -- a product beyond the diagonal is 0
  value-zero : (w : Table) (r c k : ℕ) → (r < k) ⊎ (c < k) → value w r c k ≡ 0
  value-zero w r c k (inl h) = rw (view-unit_lower_above w r k h) (omega arith)
  value-zero w r c k (inr h) = rw (view-upper_below w k c h) (omega arith)

  -- what the owner of a product on or before the diagonal depends on
  depends-row : (r c k : ℕ) → k ≤ r → k ≤ c → DependsOn op (owner r c k) (r / b) (k / b)
  depends-row r c k x y = elim (cases_lt (k / b) (min (r / b) (c / b))) [
    | inl e ↦ rw (owner-early (r / b) (c / b) (k / b) e) (inr (rw form (grind (arith, nat_tests))))
    | inr e ↦ (let p : k / b ≤ r / b = part-le b k r x in let q : k / b ≤ c / b = part-le b k c y in
        rw (owner-late (r / b) (c / b) (k / b) e) (elim (cases_lt (r / b) (c / b)) [
          | inl less ↦ (let same : k / b ≡ r / b = omega arith in inr (rw (form, same) (grind (arith, nat_tests))))
          | inr not ↦ inl (refl, refl, omega arith)
        ]))
  ]

  depends-col : (r c k : ℕ) → k ≤ r → k ≤ c → DependsOn op (owner r c k) (k / b) (c / b)
  depends-col r c k x y = elim (cases_lt (k / b) (min (r / b) (c / b))) [
    | inl e ↦ rw (owner-early (r / b) (c / b) (k / b) e) (inr (rw form (grind (arith, nat_tests))))
    | inr e ↦ (let p : k / b ≤ r / b = part-le b k r x in let q : k / b ≤ c / b = part-le b k c y in
        rw (owner-late (r / b) (c / b) (k / b) e) (elim (cases_lt (c / b) (r / b)) [
          | inl less ↦ (let same : k / b ≡ c / b = omega arith in inr (rw (form, same) (grind (arith, nat_tests))))
          | inr not ↦ inl (refl, omega arith, refl)
        ]))
  ]

  local : (w w' : Table) (r c k : ℕ) → AgreeFor b (operation_tasks op counts) (owner r c k) w w' → value w r c k ≡ value w' r c k
  local w w' r c k agree = go (cases_lt r k) (cases_lt c k)
    where
      go : (r < k) ⊎ (k ≤ r) → (c < k) ⊎ (k ≤ c) → value w r c k ≡ value w' r c k
      go (inl x) y = value-zero w r c k (inl x) ∙ sym (value-zero w' r c k (inl x))
      go (inr x) (inl y) = value-zero w r c k (inr y) ∙ sym (value-zero w' r c k (inr y))
      go (inr x) (inr y) = ap₂ (λ (s t : ℕ). s * t)
          (straight-reads UnitLower w w' r k (λ e. absurd (cc)) (sym (agree r k (depends-row r c k x y))))
          (straight-reads Upper w w' k c (λ e. absurd (cc)) (sym (agree k c (depends-col r c k x y))))

  pub IsShared-lu : IsSharedSum m b two pos op knowns work counts rows_are cols_are lu_sum
  IsShared-lu = IsShared-products b (operation_tasks op counts) Inside work.rows owner value
      (λ r c k within below. place (r / b) (c / b) (k / b))
      (λ r c k within below. inl (exists r c k within))
      (λ w w' r c k within below agree. local w w' r c k agree)

  pub lu-none : (u : Task) (v : Table) (r c : ℕ) → u.kind ≢ kinds.Left → u.kind ≢ kinds.Solve → lu_sum (is_task u) v r c ≡ 0
  lu-none u v r c not_left not_solve = products-none work.rows (owner r c) (value v r c) u (λ k h. elim (cases_lt (k / b) (min (r / b) (c / b))) [
    | inl e ↦ kinds-apart u (owner r c k) (rw (owner-early (r / b) (c / b) (k / b) e) not_left)
    | inr e ↦ kinds-apart u (owner r c k) (rw (owner-late (r / b) (c / b) (k / b) e) not_solve)
  ])

  abbrev pub lu_part : Table → ℕ → ℕ → ℕ → ℕ
  lu_part v r c p = sum_below (λ q. view UnitLower v r (p * b + q) * view Upper v (p * b + q) c) (part_length work.rows b p)

  -- the share of an update
  pub lu-update_share : (u : Task) (v : Table) (r c : ℕ) → u.kind ≡ kinds.Left → u.term ≡ 0 → u.i ≡ r / b → u.j ≡ c / b → u.k < min (r / b) (c / b) → u.k < part_count work.rows b
      → lu_sum (is_task u) v r c ≡ lu_part v r c u.k
  lu-update_share u v r c kind number row col early below =
      products-part work.rows b (owner_of (r / b) (c / b)) (value v r c) u u.k pos below
      ((λ x. record { kind = kind x; term = number x; i = row x; j = col x; k = u.k }) ∙ sym (owner-early (r / b) (c / b) u.k early))
      (λ p other. elim (cases_lt p (min (r / b) (c / b))) [
        | inl e ↦ inner-apart u (owner_of (r / b) (c / b) p) (rw (owner-early (r / b) (c / b) p e) (λ f. other (sym f)))
        | inr e ↦ kinds-apart u (owner_of (r / b) (c / b) p) (rw (owner-late (r / b) (c / b) p e, kind) (λ f. absurd (cc)))
      ])

  -- 1 for one part
  abbrev mark : ℕ → ℕ → ℕ
  mark q p = if p == q then 1 else 0

  -- the share of a solve
  pub lu-solve_share : (v : Table) (r c : ℕ) → min (r / b) (c / b) < part_count work.rows b → lu_sum (is_task (solve_of (r / b) (c / b))) v r c ≡ lu_part v r c (min (r / b) (c / b))
  lu-solve_share v r c below =
      sum_below-same (λ k. is_task (solve_of (r / b) (c / b)) (owner r c k) * value v r c k) (λ k. mark (min (r / b) (c / b)) (k / b) * value v r c k) work.rows (λ k h. each k)
      ∙ sum_below-marked_part work.rows b (min (r / b) (c / b)) (value v r c) (mark (min (r / b) (c / b))) pos below
      (let e : (min (r / b) (c / b) == min (r / b) (c / b)) ≡ true = grind (arith, nat_tests) in rw e refl)
      (λ p apart. let e : (p == min (r / b) (c / b)) ≡ false = grind (arith, nat_tests) in rw e refl)
    where
      late : (k : ℕ) → min (r / b) (c / b) < k / b → value v r c k ≡ 0
      late k h = value-zero v r c k (elim (cases_lt (r / b) (k / b)) [
        | inl x ↦ inl (IsZero-block UnitLower b r k x)
        | inr x ↦ inr (IsZero-block UnitLower b c k (omega arith))
      ])

      each : (k : ℕ) → is_task (solve_of (r / b) (c / b)) (owner r c k) * value v r c k ≡ mark (min (r / b) (c / b)) (k / b) * value v r c k
      each k = elim (cases_order (k / b) (min (r / b) (c / b))) [
        | inl same ↦ (let e : (k / b == min (r / b) (c / b)) ≡ true = grind (arith, nat_tests) in
            rw e (ap (λ (x : ℕ). x * value v r c k) (rw (owner-late (r / b) (c / b) (k / b) (omega arith)) (is_task-self (solve_of (r / b) (c / b))))))
        | inr (inl less) ↦ (let e : (k / b == min (r / b) (c / b)) ≡ false = grind (arith, nat_tests) in
            rw e (ap (λ (x : ℕ). x * value v r c k) (kinds-apart (solve_of (r / b) (c / b)) (owner r c k) (rw (owner-early (r / b) (c / b) (k / b) less) (λ f. absurd (cc))))))
        | inr (inr more) ↦ rw (late k more) (omega arith)
      ]

  -- ---- what the kernels multiply

  -- a block of L and one of U, where both aren't beyond the diagonal
  pub lu-product : (blocks : Blocks) (r c p length : ℕ) → length ≡ part_length work.rows b p → p ≤ r / b → p ≤ c / b
      → times m length (view (block_structure UnitLower (r / b) p) (entry (blocks (r / b) p))) (view (block_structure Upper p (c / b)) (entry (blocks p (c / b)))) (r % b) (c % b)
      ≡ lu_part (gathered b blocks) r c p % m
  lu-product blocks r c p length length_is row col = ap (λ (x : ℕ). x % m)
      (ap (λ (n : ℕ). sum_below (λ q. view (block_structure UnitLower (r / b) p) (entry (blocks (r / b) p)) (r % b) q * view (block_structure Upper p (c / b)) (entry (blocks p (c / b))) q (c % b)) n) length_is
      ∙ sum_below-same (λ q. view (block_structure UnitLower (r / b) p) (entry (blocks (r / b) p)) (r % b) q * view (block_structure Upper p (c / b)) (entry (blocks p (c / b))) q (c % b))
      (λ q. view UnitLower (gathered b blocks) r (p * b + q) * view Upper (gathered b blocks) (p * b + q) c) (part_length work.rows b p)
      (λ q h. ap₂ (λ (x y : ℕ). x * y)
      (work_block-is UnitLower (λ e. absurd (cc)) b blocks (r / b) p (r % b) q (mod-lt r pos) (omega arith) (grind (arith, nat_tests))
      ∙ ap (λ (x : ℕ). view UnitLower (gathered b blocks) x (p * b + q)) (div-add-mod' r b))
      (work_block-is Upper (λ e. absurd (cc)) b blocks p (c / b) q (c % b) (omega arith) (mod-lt c pos) (grind (arith, nat_tests))
      ∙ ap (λ (x : ℕ). view Upper (gathered b blocks) (p * b + q) x) (div-add-mod' c b))))

  pub lu-whole : (v : Table) (r c : ℕ) → lu_sum (λ u. 1) v r c ≡ product work.rows (view UnitLower v) (view Upper v) r c
  lu-whole v r c = sum_below-same (λ k. 1 * value v r c k) (value v r c) work.rows (λ k h. omega arith)
