-- What a task needs comes before it in the canonical order. Cited by the law that says so.
use Rattle.std.proofs.Common.{◌≡◌, ◌≢◌, ℕ, ◌<◌, ◌≤◌, ◌⊎◌, inl, inr, subst, List, true, ◌&&◌, ◌||◌, not, min, refl, sym, arith}
use Rattle.std.specs.Prelude.{◌==◌}
use Rattle.std.proofs.lemmas.Bool.{and_parts, eqb-true, eqb-false, lt-ltb, ltb-true, not-true, or_cases, cases_lt}
use Rattle.std.proofs.lemmas.Bool.Decides.{nat_tests}
use Rattle.structure_rules.specs.declared.Structure.{Structure}
use Rattle.structure_rules.specs.declared.Structure.TheVariants.{General, Lower, UnitLower, Upper, UnitUpper, Diagonal, Symmetric}
use Rattle.structure_rules.specs.Structures.{is_zero, IsTriangular}
use Rattle.operation_spec.specs.declared.operation.Operation.{Operation}
use Rattle.operation_spec.specs.declared.operation.Factor.{Factor}
use Rattle.operation_spec.specs.declared.operation.Form.{Form}
use Rattle.operation_spec.specs.declared.operation.Form.TheVariants.{Assign, Left, Right, Sylvester, Lu, Ldl}
use Rattle.operation_spec.specs.declared.task.Kind.{Kind}
use Rattle.operation_spec.specs.declared.task.Kind.TheVariants as kinds
use Rattle.operation_spec.specs.declared.task.Task.{Task}
use Rattle.task_graph.specs.Factors.{factor_structure, AreTriangularBy, AreTriangular}
use Rattle.task_graph.specs.Tasks.{is_work_block, is_inside, reads_left, reads_right, has_left, has_right, has_task, has}
use Rattle.task_graph.specs.Needs.{is_solve, solves, left_needs, right_needs, factors_diagonal, solve_needs, needs_by, does_need}
use Rattle.task_graph.specs.Order.{is_upper, is_lower, rows_descend_by, cols_descend_by, comes_before, rank, is_earlier, task_of}
use Rattle.task_graph.proofs.EarlierTasks.{earlier-by_row, earlier-by_col, earlier-by_kind}
use Rattle.task_graph.proofs.WorkBlocks.{lower-block}

-- ---- triangular factors

-- a row of X that row i reads through a triangular factor is solved before row i
left-inside : (s : Structure) (i k : ℕ) → IsTriangular s → not (is_zero s i k) ≡ true → not (i == k) ≡ true → comes_before (is_upper s) k i ≡ true
left-inside General i k t inside apart = elim t [ ]
left-inside Symmetric i k t inside apart = elim t [ ]
left-inside Lower i k t inside apart = grind (arith, nat_tests)
left-inside UnitLower i k t inside apart = grind (arith, nat_tests)
left-inside Upper i k t inside apart = grind (arith, nat_tests)
left-inside UnitUpper i k t inside apart = grind (arith, nat_tests)
left-inside Diagonal i k t inside apart = grind (arith, nat_tests)

-- a column of X that column j reads through a triangular factor is solved before column j
right-inside : (s : Structure) (k j : ℕ) → IsTriangular s → not (is_zero s k j) ≡ true → not (k == j) ≡ true → comes_before (is_lower s) k j ≡ true
right-inside General k j t inside apart = elim t [ ]
right-inside Symmetric k j t inside apart = elim t [ ]
right-inside Lower k j t inside apart = grind (arith, nat_tests)
right-inside UnitLower k j t inside apart = grind (arith, nat_tests)
right-inside Upper k j t inside apart = grind (arith, nat_tests)
right-inside UnitUpper k j t inside apart = grind (arith, nat_tests)
right-inside Diagonal k j t inside apart = grind (arith, nat_tests)

-- the same of an update on the left
reads_left-row : (op : Operation) (counts : List ℕ) (f : Factor) (i j k : ℕ) → IsTriangular (factor_structure op f)
    → reads_left op counts f i j k ≡ true → comes_before (is_upper (factor_structure op f)) k i ≡ true
reads_left-row op counts f i j k t h =
    let p = and_parts (is_inside op f i k && not (i == k)) (is_work_block op counts k j) h in
    let q = and_parts (is_inside op f i k) (not (i == k)) p.0 in
    left-inside (factor_structure op f) i k t q.0 q.1

-- and of an update on the right
reads_right-col : (op : Operation) (counts : List ℕ) (f : Factor) (i j k : ℕ) → IsTriangular (factor_structure op f)
    → reads_right op counts f i j k ≡ true → comes_before (is_lower (factor_structure op f)) k j ≡ true
reads_right-col op counts f i j k t h =
    let p = and_parts (is_inside op f k j && not (k == j)) (is_work_block op counts i k) h in
    let q = and_parts (is_inside op f k j) (not (k == j)) p.0 in
    right-inside (factor_structure op f) k j t q.0 q.1

-- ---- blocks

-- block (r, c) is solved before block (i, j): in an earlier row, or in the same row and an earlier column
abbrev IsBlockBefore : Operation → Form → ℕ → ℕ → ℕ → ℕ → Type 0
IsBlockBefore op form r c i j = (comes_before (rows_descend_by op form) r i ≡ true) ⊎ ((r ≡ i) × (comes_before (cols_descend_by op form) c j ≡ true))

-- the block that a task solves
solves-block : (b : Task) (r c : ℕ) → solves b r c ≡ true → (b.i ≡ r) × (b.j ≡ c)
solves-block b r c h = let p = and_parts (is_solve b.kind && b.i == r) (b.j == c) h in
    (eqb-true b.i r (and_parts (is_solve b.kind) (b.i == r) p.0).1, eqb-true b.j c p.1)

-- the solve of a block before (i, j) stands in a block before (i, j)
solved-before : (op : Operation) (form : Form) (b : Task) (r c i j : ℕ) → solves b r c ≡ true → IsBlockBefore op form r c i j → IsBlockBefore op form b.i b.j i j
solved-before op form b r c i j h before = let p = solves-block b r c h in
    subst (λ n. IsBlockBefore op form n b.j i j) (sym p.0) (subst (λ n. IsBlockBefore op form r n i j) (sym p.1) before)

-- ---- what an update needs

ldl_needs-before : (op : Operation) (i j k : ℕ) (b : Task) → k < j → j ≤ i → left_needs Ldl i j k b ≡ true → IsBlockBefore op Ldl b.i b.j i j
ldl_needs-before op i j k b below lower n = elim (or_cases (solves b i k || solves b k k) (solves b j k) n) [
  | inl x ↦ elim (or_cases (solves b i k) (solves b k k) x) [
    | inl y ↦ solved-before op Ldl b i k i j y (inr (refl, lt-ltb k j (omega arith)))
    | inr y ↦ solved-before op Ldl b k k i j y (inl (lt-ltb k i (omega arith)))
  ]
  | inr x ↦ elim (cases_lt j i) [
    | inl y ↦ solved-before op Ldl b j k i j x (inl (lt-ltb j i y))
    | inr y ↦ solved-before op Ldl b j k i j x (inr (omega arith, lt-ltb k j (omega arith)))
  ]
]

left_needs-before : (op : Operation) (counts : List ℕ) (form : Form) (i j k : ℕ) (b : Task) → AreTriangularBy op form
    → is_work_block op counts i j ≡ true → has_left op counts form i j k ≡ true → left_needs form i j k b ≡ true → IsBlockBefore op form b.i b.j i j
left_needs-before op counts Assign i j k b t block h n = cc
left_needs-before op counts (Left f) i j k b t block h n = solved-before op (Left f) b k j i j n (inl (reads_left-row op counts f i j k t h))
left_needs-before op counts (Right f) i j k b t block h n = cc
left_needs-before op counts (Sylvester f g minus) i j k b t block h n =
    solved-before op (Sylvester f g minus) b k j i j n (inl (reads_left-row op counts f i j k t.0 h))
left_needs-before op counts Lu i j k b t block h n = let below = ltb-true k (min i j) h in elim (or_cases (solves b i k) (solves b k j) n) [
  | inl x ↦ solved-before op Lu b i k i j x (inr (refl, lt-ltb k j (omega arith)))
  | inr x ↦ solved-before op Lu b k j i j x (inl (lt-ltb k i (omega arith)))
]
left_needs-before op counts Ldl i j k b t block h n = ldl_needs-before op i j k b (ltb-true k j h) (lower-block op counts i j t block) n

right_needs-before : (op : Operation) (counts : List ℕ) (form : Form) (i j k : ℕ) (b : Task) → AreTriangularBy op form
    → has_right op counts form i j k ≡ true → right_needs form i j k b ≡ true → IsBlockBefore op form b.i b.j i j
right_needs-before op counts Assign i j k b t h n = cc
right_needs-before op counts (Left f) i j k b t h n = cc
right_needs-before op counts (Right f) i j k b t h n = solved-before op (Right f) b i k i j n (inr (refl, reads_right-col op counts f i j k t h))
right_needs-before op counts (Sylvester f g minus) i j k b t h n =
    solved-before op (Sylvester f g minus) b i k i j n (inr (refl, reads_right-col op counts g i j k t.1 h))
right_needs-before op counts Lu i j k b t h n = cc
right_needs-before op counts Ldl i j k b t h n = cc

-- ---- what a solve needs

-- each kind but the solve has an earlier place
rank-other : (kind : Kind) → not (is_solve kind) ≡ true → rank kind < 4
rank-other kinds.Pivots h = omega arith
rank-other kinds.Term h = omega arith
rank-other kinds.Left h = omega arith
rank-other kinds.Right h = omega arith
rank-other kinds.Solve h = cc

-- the diagonal block of a row or a column comes before its other blocks
diagonal-before : (op : Operation) (form : Form) (i j : ℕ) (b : Task) → factors_diagonal form ≡ true → i ≢ j
    → solves b (min i j) (min i j) ≡ true → IsBlockBefore op form b.i b.j i j
diagonal-before op Lu i j b factors apart s = elim (cases_lt i j) [
  | inl y ↦ solved-before op Lu b (min i j) (min i j) i j s (inr (omega arith, lt-ltb (min i j) j (omega arith)))
  | inr y ↦ solved-before op Lu b (min i j) (min i j) i j s (inl (lt-ltb (min i j) i (omega arith)))
]
diagonal-before op Ldl i j b factors apart s = elim (cases_lt i j) [
  | inl y ↦ solved-before op Ldl b (min i j) (min i j) i j s (inr (omega arith, lt-ltb (min i j) j (omega arith)))
  | inr y ↦ solved-before op Ldl b (min i j) (min i j) i j s (inl (lt-ltb (min i j) i (omega arith)))
]
diagonal-before op Assign i j b factors apart s = cc
diagonal-before op (Left f) i j b factors apart s = cc
diagonal-before op (Right f) i j b factors apart s = cc
diagonal-before op (Sylvester f g minus) i j b factors apart s = cc

-- another task of the block, or the solve of the diagonal block
solve_needs-before : (op : Operation) (form : Form) (i j : ℕ) (b : Task) → solve_needs form i j b ≡ true
    → ((b.i ≡ i) × (b.j ≡ j) × (rank b.kind < 4)) ⊎ IsBlockBefore op form b.i b.j i j
solve_needs-before op form i j b n = elim (or_cases (not (is_solve b.kind) && b.i == i && b.j == j) (factors_diagonal form && not (i == j) && solves b (min i j) (min i j)) n) [
  | inl x ↦ (let p = and_parts (not (is_solve b.kind) && b.i == i) (b.j == j) x in
      let q = and_parts (not (is_solve b.kind)) (b.i == i) p.0 in
      inl (eqb-true b.i i q.1, eqb-true b.j j p.1, rank-other b.kind q.0))
  | inr x ↦ (let p = and_parts (factors_diagonal form && not (i == j)) (solves b (min i j) (min i j)) x in
      let q = and_parts (factors_diagonal form) (not (i == j)) p.0 in
      inr (diagonal-before op form i j b q.0 (eqb-false i j (not-true (i == j) q.1)) p.1))
]

-- ---- any task

block-earlier : (op : Operation) (a b : Task) → IsBlockBefore op op.form b.i b.j a.i a.j → is_earlier op b a ≡ true
block-earlier op a b (inl row) = earlier-by_row op b a row
block-earlier op a b (inr (row, col)) = earlier-by_col op b a row col

by_kind : (op : Operation) (counts : List ℕ) (kind : Kind) (t i j k : ℕ) (b : Task) → AreTriangular op
    → is_work_block op counts i j ≡ true → has_task op counts kind t i j k ≡ true → needs_by op.form kind i j k b ≡ true
    → is_earlier op b (task_of kind t i j k) ≡ true
by_kind op counts kinds.Pivots t i j k b triangular block h n = cc
by_kind op counts kinds.Term t i j k b triangular block h n = cc
by_kind op counts kinds.Left t i j k b triangular block h n = block-earlier op (task_of kinds.Left t i j k) b
    (left_needs-before op counts op.form i j k b triangular block (and_parts (t == 0) (has_left op counts op.form i j k) h).1 n)
by_kind op counts kinds.Right t i j k b triangular block h n = block-earlier op (task_of kinds.Right t i j k) b
    (right_needs-before op counts op.form i j k b triangular (and_parts (t == 0) (has_right op counts op.form i j k) h).1 n)
by_kind op counts kinds.Solve t i j k b triangular block h n = go (solve_needs-before op op.form i j b n)
  where
    go : ((b.i ≡ i) × (b.j ≡ j) × (rank b.kind < 4)) ⊎ IsBlockBefore op op.form b.i b.j i j → is_earlier op b (task_of kinds.Solve t i j k) ≡ true
    go (inl (row, col, kind)) = earlier-by_kind op b (task_of kinds.Solve t i j k) row col kind
    go (inr before) = block-earlier op (task_of kinds.Solve t i j k) b before

-- what a task of the operation needs is before it
pub does_need-earlier : (op : Operation) (counts : List ℕ) (a b : Task) → AreTriangular op → has op counts a ≡ true → does_need op a b ≡ true → is_earlier op b a ≡ true
does_need-earlier op counts a b triangular h n =
    let p = and_parts (is_work_block op counts a.i a.j) (has_task op counts a.kind a.term a.i a.j a.k) h in
    by_kind op counts a.kind a.term a.i a.j a.k b triangular p.0 p.1 n
