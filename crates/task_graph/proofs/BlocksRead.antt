-- What tasks need, in other words: the solves of the blocks that an update reads, the other tasks of a solve's block
-- and its diagonal block. Cited by the law that says so.
use Rattle.std.proofs.Common.{◌≡◌, ◌≢◌, ℕ, zero, suc, ◌<◌, ◌≤◌, ◌⊎◌, inl, inr, subst, List, [], ◌∷◌, Bool, true, false, ◌&&◌, ◌||◌, not, min, map, refl, sym, ap, ◌∙◌, arith}
use Rattle.std.specs.Prelude.{◌==◌, ◌↔◌, Contains, All, nat_lt}
use Rattle.std.specs.List.{list_any}
use Rattle.std.proofs.lemmas.Bool.{and_from, and_parts, or_left, or_right, or_cases, eqb-true, eqb-false, eq-eqb, ne_eqb, lt-ltb, le-ltb, ltb-true, not-true}
use Rattle.std.proofs.lemmas.List.Elements.{All-nil, All-cons}
use Rattle.structure_rules.specs.declared.Structure.TheVariants.{General, Lower}
use Rattle.structure_rules.specs.Structures.{is_zero}
use Rattle.operation_spec.specs.declared.operation.Operation.{Operation}
use Rattle.operation_spec.specs.declared.operation.Form.{Form}
use Rattle.operation_spec.specs.declared.operation.Form.TheVariants.{Assign, Left, Right, Sylvester, Lu, Ldl}
use Rattle.operation_spec.specs.declared.task.Kind.{Kind}
use Rattle.operation_spec.specs.declared.task.Kind.TheVariants as kinds
use Rattle.operation_spec.specs.declared.task.Task.{Task}
use Rattle.operation_spec.specs.ValidOperations.{IsValid}
use Rattle.task_graph.specs.Factors.{AreTriangularBy}
use Rattle.task_graph.specs.Tasks.{parts_of, is_work_block, is_inside, has_left, has_right, has_solve, has_task, has}
use Rattle.task_graph.specs.Needs.{is_solve, solves, left_needs, right_needs, factors_diagonal, solve_needs, needs_by, does_need}
use Rattle.task_graph.specs.Order.{task_of}
use Rattle.task_graph.specs.Reads.{Block, block, left_reads, right_reads, reads_by, blocks_read, solve_of, IsOtherOfBlock, IsDiagonalSolve}
use Rattle.task_graph.proofs.ValidFactors.{AreTriangular-valid}
use Rattle.task_graph.proofs.WorkBlocks.{work-block, lower-block}

-- ---- the one solve of a block

-- a task of the operation that solves a block
pub one-solve : (op : Operation) (counts : List ℕ) (kind : Kind) (t i j k r c : ℕ) → has_task op counts kind t i j k ≡ true
    → solves (task_of kind t i j k) r c ≡ true → solve_of (block r c) ≡ task_of kind t i j k
one-solve op counts kinds.Pivots t i j k r c h s = cc
one-solve op counts kinds.Term t i j k r c h s = cc
one-solve op counts kinds.Left t i j k r c h s = cc
one-solve op counts kinds.Right t i j k r c h s = cc
one-solve op counts kinds.Solve t i j k r c h s =
    let zeros = and_parts (t == 0) (k == 0) (and_parts (t == 0 && k == 0) (has_solve op.form) h).0 in
    let place = and_parts (i == r) (j == c) s in
    let term = eqb-true t 0 zeros.0 in
    let inner = eqb-true k 0 zeros.1 in
    let row = eqb-true i r place.0 in
    let col = eqb-true j c place.1 in
    cc

pub solve-one : (op : Operation) (counts : List ℕ) (b : Task) (r c : ℕ) → has op counts b ≡ true → solves b r c ≡ true → solve_of (block r c) ≡ b
solve-one op counts b r c h s =
    one-solve op counts b.kind b.term b.i b.j b.k r c (and_parts (is_work_block op counts b.i b.j) (has_task op counts b.kind b.term b.i b.j b.k) h).1 s

-- and the solve of a block does solve it
pub solves-itself : (x : Block) → solves (solve_of x) x.row x.col ≡ true
solves-itself x = and_from (x.row == x.row) (x.col == x.col) (eq-eqb x.row x.row refl) (eq-eqb x.col x.col refl)

-- ---- an update

-- b solves one of these blocks
abbrev solves_one : Task → List Block → Bool
solves_one b blocks = list_any (λ x. solves b x.row x.col) blocks

Contains-solve : (op : Operation) (counts : List ℕ) (b : Task) (blocks : List Block) → has op counts b ≡ true → solves_one b blocks ≡ true → Contains (map solve_of blocks) b
Contains-solve op counts b [] h s = cc
Contains-solve op counts b (x ∷ blocks) h s = elim (or_cases (solves b x.row x.col) (solves_one b blocks) s) [
  | inl first ↦ (zero, omega arith, solve-one op counts b x.row x.col h first)
  | inr later ↦ (let c = Contains-solve op counts b blocks h later in (suc c.0, omega (arith, c.1), c.2))
]

solves-Contains : (b : Task) (blocks : List Block) → Contains (map solve_of blocks) b → solves_one b blocks ≡ true
solves-Contains b [] (k, below, at) = absurd (omega arith)
solves-Contains b (x ∷ blocks) (zero, below, at) =
    or_left (solves b x.row x.col) (solves_one b blocks) (subst (λ a. solves a x.row x.col ≡ true) at (solves-itself x))
solves-Contains b (x ∷ blocks) (suc k, below, at) =
    or_right (solves b x.row x.col) (solves_one b blocks) (solves-Contains b blocks (k, omega arith, at))

one-test : (x : Bool) → x ≡ (x || false)
one-test true = refl
one-test false = refl

two-tests : (x y : Bool) → (x || y) ≡ (x || (y || false))
two-tests true y = refl
two-tests false y = one-test y

three-tests : (x y z : Bool) → (x || y || z) ≡ (x || (y || (z || false)))
three-tests true y z = refl
three-tests false y z = two-tests y z

left-tests : (form : Form) (i j k : ℕ) (b : Task) → left_needs form i j k b ≡ solves_one b (left_reads form i j k)
left-tests Assign i j k b = refl
left-tests (Left t) i j k b = one-test (solves b k j)
left-tests (Right t) i j k b = refl
left-tests (Sylvester t u minus) i j k b = one-test (solves b k j)
left-tests Lu i j k b = two-tests (solves b i k) (solves b k j)
left-tests Ldl i j k b = three-tests (solves b i k) (solves b k k) (solves b j k)

right-tests : (form : Form) (i j k : ℕ) (b : Task) → right_needs form i j k b ≡ solves_one b (right_reads form i j k)
right-tests Assign i j k b = refl
right-tests (Left t) i j k b = refl
right-tests (Right t) i j k b = one-test (solves b i k)
right-tests (Sylvester t u minus) i j k b = one-test (solves b i k)
right-tests Lu i j k b = refl
right-tests Ldl i j k b = refl

-- each kind but the solve needs what solves a block that it reads
update-tests : (form : Form) (kind : Kind) (i j k : ℕ) (b : Task) → kind ≢ kinds.Solve → needs_by form kind i j k b ≡ solves_one b (reads_by form kind i j k)
update-tests form kinds.Pivots i j k b other = refl
update-tests form kinds.Term i j k b other = refl
update-tests form kinds.Left i j k b other = left-tests form i j k b
update-tests form kinds.Right i j k b other = right-tests form i j k b
update-tests form kinds.Solve i j k b other = absurd (other refl)

pub update-needs : (op : Operation) (counts : List ℕ) (a b : Task) → has op counts b ≡ true → a.kind ≢ kinds.Solve
    → (does_need op a b ≡ true) ↔ Contains (map solve_of (blocks_read op a)) b
update-needs op counts a b h other =
    let tests = update-tests op.form a.kind a.i a.j a.k b other in
    (λ need. Contains-solve op counts b (blocks_read op a) h (sym tests ∙ need), λ c. tests ∙ solves-Contains b (blocks_read op a) c)

-- ---- a solve

-- the fields of a solve that have no meaning
solve-fields : (op : Operation) (counts : List ℕ) (a : Task) → has op counts a ≡ true → a.kind ≡ kinds.Solve → solve_of (block a.i a.j) ≡ a
solve-fields op counts a h kind = solve-one op counts a a.i a.j h
    (and_from (is_solve a.kind && a.i == a.i) (a.j == a.j) (and_from (is_solve a.kind) (a.i == a.i) (ap is_solve kind) (eq-eqb a.i a.i refl)) (eq-eqb a.j a.j refl))

-- another task of a solve's block is no solve
other-kind : (op : Operation) (counts : List ℕ) (a : Task) (kind : Kind) (t i j k : ℕ) → has op counts a ≡ true → a.kind ≡ kinds.Solve
    → has op counts (task_of kind t i j k) ≡ true → i ≡ a.i → j ≡ a.j → task_of kind t i j k ≢ a → not (is_solve kind) ≡ true
other-kind op counts a kinds.Pivots t i j k ha solve h row col apart = refl
other-kind op counts a kinds.Term t i j k ha solve h row col apart = refl
other-kind op counts a kinds.Left t i j k ha solve h row col apart = refl
other-kind op counts a kinds.Right t i j k ha solve h row col apart = refl
other-kind op counts a kinds.Solve t i j k ha solve h row col apart =
    let one = solve-fields op counts (task_of kinds.Solve t i j k) h refl in
    let own = solve-fields op counts a ha solve in
    absurd (apart (sym one ∙ ap (λ r. solve_of (block r j)) row ∙ ap (λ c. solve_of (block a.i c)) col ∙ own))

a_factorisation : (form : Form) → factors_diagonal form ≡ true → (form ≡ Lu) ⊎ (form ≡ Ldl)
a_factorisation Lu h = inl refl
a_factorisation Ldl h = inr refl
a_factorisation Assign h = cc
a_factorisation (Left t) h = cc
a_factorisation (Right t) h = cc
a_factorisation (Sylvester t u minus) h = cc

factors : (form : Form) → (form ≡ Lu) ⊎ (form ≡ Ldl) → factors_diagonal form ≡ true
factors form (inl lu) = ap factors_diagonal lu
factors form (inr ldl) = ap factors_diagonal ldl

pub solve-needs : (op : Operation) (counts : List ℕ) (a b : Task) → has op counts a ≡ true → has op counts b ≡ true → a.kind ≡ kinds.Solve
    → (does_need op a b ≡ true) ↔ (IsOtherOfBlock a b ⊎ IsDiagonalSolve op.form a b)
solve-needs op counts a b ha hb solve = (λ need. needed (sym by_solve ∙ need), λ h. by_solve ∙ needing h)
  where
    by_solve : does_need op a b ≡ solve_needs op.form a.i a.j b
    by_solve = ap (λ kind. needs_by op.form kind a.i a.j a.k b) solve

    own : Bool
    own = not (is_solve b.kind) && b.i == a.i && b.j == a.j

    diagonal : Bool
    diagonal = factors_diagonal op.form && not (a.i == a.j) && solves b (min a.i a.j) (min a.i a.j)

    of_block : own ≡ true → IsOtherOfBlock a b
    of_block h =
        let p = and_parts (not (is_solve b.kind) && b.i == a.i) (b.j == a.j) h in
        let q = and_parts (not (is_solve b.kind)) (b.i == a.i) p.0 in
        record { row = eqb-true b.i a.i q.1; col = eqb-true b.j a.j p.1; other = λ same. let kind : not true ≡ true = sym (ap (λ kind. not (is_solve kind)) (ap (λ (task : Task). task.kind) same ∙ solve)) ∙ q.0 in cc }

    of_diagonal : diagonal ≡ true → IsDiagonalSolve op.form a b
    of_diagonal h =
        let p = and_parts (factors_diagonal op.form && not (a.i == a.j)) (solves b (min a.i a.j) (min a.i a.j)) h in
        let q = and_parts (factors_diagonal op.form) (not (a.i == a.j)) p.0 in
        record { factorisation = a_factorisation op.form q.0; off = eqb-false a.i a.j (not-true (a.i == a.j) q.1); diagonal = sym (solve-one op counts b (min a.i a.j) (min a.i a.j) hb p.1) }

    needed : solve_needs op.form a.i a.j b ≡ true → IsOtherOfBlock a b ⊎ IsDiagonalSolve op.form a b
    needed h = elim (or_cases own diagonal h) [
      | inl x ↦ inl (of_block x)
      | inr x ↦ inr (of_diagonal x)
    ]

    needing : IsOtherOfBlock a b ⊎ IsDiagonalSolve op.form a b → solve_needs op.form a.i a.j b ≡ true
    needing (inl x) = or_left own diagonal (and_from (not (is_solve b.kind) && b.i == a.i) (b.j == a.j)
        (and_from (not (is_solve b.kind)) (b.i == a.i) (other-kind op counts a b.kind b.term b.i b.j b.k ha solve hb x.row x.col x.other) (eq-eqb b.i a.i x.row))
        (eq-eqb b.j a.j x.col))
    needing (inr x) = or_right own diagonal (and_from (factors_diagonal op.form && not (a.i == a.j)) (solves b (min a.i a.j) (min a.i a.j))
        (and_from (factors_diagonal op.form) (not (a.i == a.j)) (factors op.form x.factorisation) (ap not (ne_eqb a.i a.j x.off)))
        (subst (λ task. solves task (min a.i a.j) (min a.i a.j) ≡ true) (sym x.diagonal) (solves-itself (block (min a.i a.j) (min a.i a.j)))))

-- ---- what is read is solved

-- a block of W has a solve, in each form but Assign
solve-has : (op : Operation) (counts : List ℕ) (form : Form) (r c : ℕ) → op.form ≡ form → has_solve form ≡ true → is_work_block op counts r c ≡ true
    → has op counts (solve_of (block r c)) ≡ true
solve-has op counts form r c is solved work = and_from (is_work_block op counts r c) (has_solve op.form) work (ap has_solve is ∙ solved)

-- a block within the parts that isn't zero by W's structure
work-from : (op : Operation) (counts : List ℕ) (r c : ℕ) → r < parts_of counts op.work.rows → c < parts_of counts op.work.cols
    → is_zero op.work.structure r c ≡ false → is_work_block op counts r c ≡ true
work-from op counts r c rows cols inside =
    and_from (nat_lt r (parts_of counts op.work.rows) && nat_lt c (parts_of counts op.work.cols)) (not (is_zero op.work.structure r c))
    (and_from (nat_lt r (parts_of counts op.work.rows)) (nat_lt c (parts_of counts op.work.cols)) (lt-ltb r (parts_of counts op.work.rows) rows) (lt-ltb c (parts_of counts op.work.cols) cols))
    (ap not inside)

-- all these blocks have solves
abbrev AreSolved : Operation → List ℕ → List Block → Type 0
AreSolved op counts blocks = All (λ x. has op counts (solve_of x) ≡ true) blocks

none : (op : Operation) (counts : List ℕ) → AreSolved op counts []
none op counts = All-nil (λ x. has op counts (solve_of x) ≡ true)

one-more : (op : Operation) (counts : List ℕ) (x : Block) (blocks : List Block) → has op counts (solve_of x) ≡ true → AreSolved op counts blocks → AreSolved op counts (x ∷ blocks)
one-more op counts x blocks h rest = All-cons (λ x. has op counts (solve_of x) ≡ true) x blocks h rest

lu-reads : (op : Operation) (counts : List ℕ) (i j k : ℕ) → op.form ≡ Lu → op.work.structure ≡ General → is_work_block op counts i j ≡ true → k < min i j
    → AreSolved op counts (left_reads Lu i j k)
lu-reads op counts i j k is general work below =
    let within = work-block op counts i j work in
    let inside : (r c : ℕ) → is_zero op.work.structure r c ≡ false = λ r c. ap (λ s. is_zero s r c) general in
    one-more op counts (block i k) (block k j ∷ []) (solve-has op counts Lu i k is refl (work-from op counts i k within.0 (omega (arith, within.1)) (inside i k)))
    (one-more op counts (block k j) [] (solve-has op counts Lu k j is refl (work-from op counts k j (omega (arith, within.0)) within.1 (inside k j))) (none op counts))

ldl-reads : (op : Operation) (counts : List ℕ) (i j k : ℕ) → op.form ≡ Ldl → op.work.structure ≡ Lower → is_work_block op counts i j ≡ true → k < j
    → AreSolved op counts (left_reads Ldl i j k)
ldl-reads op counts i j k is lower work below =
    let within = work-block op counts i j work in
    let order = lower-block op counts i j lower work in
    let inside : (r c : ℕ) → c ≤ r → is_zero op.work.structure r c ≡ false = λ r c h. ap (λ s. is_zero s r c) lower ∙ le-ltb r c h in
    one-more op counts (block i k) (block k k ∷ block j k ∷ []) (solve-has op counts Ldl i k is refl (work-from op counts i k within.0 (omega (arith, within.1)) (inside i k (omega arith))))
    (one-more op counts (block k k) (block j k ∷ []) (solve-has op counts Ldl k k is refl (work-from op counts k k (omega (arith, within.0)) (omega (arith, within.1)) (inside k k (omega arith))))
    (one-more op counts (block j k) [] (solve-has op counts Ldl j k is refl (work-from op counts j k (omega (arith, within.0)) (omega (arith, within.1)) (inside j k (omega arith)))) (none op counts)))

left-solved : (op : Operation) (counts : List ℕ) (form : Form) (i j k : ℕ) → op.form ≡ form → AreTriangularBy op form → is_work_block op counts i j ≡ true
    → has_left op counts form i j k ≡ true → AreSolved op counts (left_reads form i j k)
left-solved op counts Assign i j k is t work h = none op counts
left-solved op counts (Left f) i j k is t work h =
    one-more op counts (block k j) [] (solve-has op counts (Left f) k j is refl (and_parts (is_inside op f i k && not (i == k)) (is_work_block op counts k j) h).1) (none op counts)
left-solved op counts (Right f) i j k is t work h = none op counts
left-solved op counts (Sylvester f g minus) i j k is t work h =
    one-more op counts (block k j) [] (solve-has op counts (Sylvester f g minus) k j is refl (and_parts (is_inside op f i k && not (i == k)) (is_work_block op counts k j) h).1) (none op counts)
left-solved op counts Lu i j k is t work h = lu-reads op counts i j k is t work (ltb-true k (min i j) h)
left-solved op counts Ldl i j k is t work h = ldl-reads op counts i j k is t work (ltb-true k j h)

right-solved : (op : Operation) (counts : List ℕ) (form : Form) (i j k : ℕ) → op.form ≡ form → has_right op counts form i j k ≡ true → AreSolved op counts (right_reads form i j k)
right-solved op counts Assign i j k is h = none op counts
right-solved op counts (Left f) i j k is h = none op counts
right-solved op counts (Right f) i j k is h =
    one-more op counts (block i k) [] (solve-has op counts (Right f) i k is refl (and_parts (is_inside op f k j && not (k == j)) (is_work_block op counts i k) h).1) (none op counts)
right-solved op counts (Sylvester f g minus) i j k is h =
    one-more op counts (block i k) [] (solve-has op counts (Sylvester f g minus) i k is refl (and_parts (is_inside op g k j && not (k == j)) (is_work_block op counts i k) h).1) (none op counts)
right-solved op counts Lu i j k is h = none op counts
right-solved op counts Ldl i j k is h = none op counts

solved-by_kind : (op : Operation) (counts : List ℕ) (kind : Kind) (t i j k : ℕ) → AreTriangularBy op op.form → is_work_block op counts i j ≡ true
    → has_task op counts kind t i j k ≡ true → AreSolved op counts (reads_by op.form kind i j k)
solved-by_kind op counts kinds.Pivots t i j k triangular work h = none op counts
solved-by_kind op counts kinds.Term t i j k triangular work h = none op counts
solved-by_kind op counts kinds.Left t i j k triangular work h =
    left-solved op counts op.form i j k refl triangular work (and_parts (t == 0) (has_left op counts op.form i j k) h).1
solved-by_kind op counts kinds.Right t i j k triangular work h =
    right-solved op counts op.form i j k refl (and_parts (t == 0) (has_right op counts op.form i j k) h).1
solved-by_kind op counts kinds.Solve t i j k triangular work h = none op counts

-- each block that a task of a valid operation reads has a solve
pub reads-solved : (op : Operation) (counts : List ℕ) (a : Task) → IsValid op → has op counts a ≡ true → AreSolved op counts (blocks_read op a)
reads-solved op counts a valid h =
    let p = and_parts (is_work_block op counts a.i a.j) (has_task op counts a.kind a.term a.i a.j a.k) h in
    solved-by_kind op counts a.kind a.term a.i a.j a.k (AreTriangular-valid op valid) p.0 p.1
