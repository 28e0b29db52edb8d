-- A need between tasks is one between their classes under a coarser cut, or the classes are equal. Cited by the law that
-- says so.
use Rattle.std.proofs.Common.{◌≡◌, ◌≢◌, ℕ, zero, suc, ◌<◌, ◌≤◌, ◌⊎◌, inl, inr, subst, List, [], ◌∷◌, length, Bool, true, false, ◌&&◌, ◌||◌, not, min, if◌then◌else◌, slice_index_or, refl, sym, ap, ◌∙◌, arith}
use Rattle.std.specs.Prelude.{◌==◌, nat_lt}
use Rattle.std.proofs.lemmas.Bool.{and_from, and_parts, both_ways, or_left, or_right, or_cases, cases_lt, eqb-true, eq-eqb, lt-ltb, le-ltb, ltb-true, ltb-false, not-true}
use Rattle.structure_rules.specs.declared.Structure.{Structure}
use Rattle.structure_rules.specs.declared.Structure.TheVariants.{General, Lower, UnitLower, Upper, UnitUpper, Diagonal, Symmetric}
use Rattle.structure_rules.specs.Structures.{is_zero}
use Rattle.operation_spec.specs.declared.operation.Operation.{Operation}
use Rattle.operation_spec.specs.declared.operation.Factor.{Factor}
use Rattle.operation_spec.specs.declared.operation.Form.{Form}
use Rattle.operation_spec.specs.declared.operation.Form.TheVariants.{Assign, Left, Right, Sylvester, Lu, Ldl}
use Rattle.operation_spec.specs.declared.task.Kind.{Kind}
use Rattle.operation_spec.specs.declared.task.Kind.TheVariants as kinds
use Rattle.operation_spec.specs.declared.task.Task.{Task}
use Rattle.operation_spec.specs.Equations.{is_general, meets_form, left_of_form}
use Rattle.operation_spec.specs.ValidOperations.{IsValid}
use Rattle.task_graph.specs.declared.cut.Sides.{Sides}
use Rattle.task_graph.specs.declared.cut.Sides.TheVariants.{One, Two}
use Rattle.task_graph.specs.Factors.{factor_structure}
use Rattle.task_graph.specs.Tasks.{parts_of, is_work_block, is_inside, reads_left, reads_right, has_left, has_right, has_task, has}
use Rattle.task_graph.specs.Needs.{is_solve, solves, left_needs, right_needs, factors_diagonal, solve_needs, needs_by, does_need}
use Rattle.task_graph.specs.Order.{task_of}
use Rattle.task_graph.specs.Classes.{side_of, part_in, sides_count, counts_of, coarse_of, class_of}
use Rattle.task_graph.specs.Reads.{block, solve_of}
use Rattle.task_graph.proofs.BlocksRead.{one-solve, solve-one, solves-itself}
use Rattle.task_graph.proofs.ValidFactors.{lower-valid}
use Rattle.task_graph.proofs.WorkBlocks.{lower-block}

-- ---- coarse parts

-- they ascend
side-ascends : (s : Sides) (x y : ℕ) → x ≤ y → side_of s x ≤ side_of s y
side-ascends One x y h = omega arith
side-ascends (Two edge) x y h = elim (cases_lt x edge) [
  | inl before ↦ rw (lt-ltb x edge before) (omega arith)
  | inr behind ↦ (let later : edge ≤ y = omega arith in rw (le-ltb x edge behind, le-ltb y edge later) (omega arith))
]

side-below : (s : Sides) (x : ℕ) → side_of s x < sides_count s
side-below One x = omega arith
side-below (Two edge) x = elim (cases_lt x edge) [
  | inl before ↦ rw (lt-ltb x edge before) (omega arith)
  | inr behind ↦ rw (le-ltb x edge behind) (omega arith)
]

-- and are parts of the coarser cut
part-below : (cut : List Sides) (d x : ℕ) → d < length cut → part_in cut d x < parts_of (counts_of cut) d
part-below [] d x h = absurd (omega arith)
part-below (s ∷ cut) zero x h = side-below s x
part-below (s ∷ cut) (suc d) x h = part-below cut d x (omega arith)

side-min : (s : Sides) (x y : ℕ) → side_of s (min x y) ≡ min (side_of s x) (side_of s y)
side-min s x y = elim (cases_lt x y) [
  | inl before ↦ (let least : min x y ≡ x = omega arith in let up = side-ascends s x y (omega arith) in ap (side_of s) least ∙ omega arith)
  | inr behind ↦ (let least : min x y ≡ y = omega arith in let up = side-ascends s y x (omega arith) in ap (side_of s) least ∙ omega arith)
]

-- what is no zero block has no zero block as its coarse block
inside-coarse : (st : Structure) (s : Sides) (x y : ℕ) → not (is_zero st x y) ≡ true → not (is_zero st (side_of s x) (side_of s y)) ≡ true
inside-coarse General s x y h = refl
inside-coarse Symmetric s x y h = refl
inside-coarse Lower s x y h = ap not (le-ltb (side_of s x) (side_of s y) (side-ascends s y x (ltb-false x y (not-true (nat_lt x y) h))))
inside-coarse UnitLower s x y h = ap not (le-ltb (side_of s x) (side_of s y) (side-ascends s y x (ltb-false x y (not-true (nat_lt x y) h))))
inside-coarse Upper s x y h = ap not (le-ltb (side_of s y) (side_of s x) (side-ascends s x y (ltb-false y x (not-true (nat_lt y x) h))))
inside-coarse UnitUpper s x y h = ap not (le-ltb (side_of s y) (side_of s x) (side-ascends s x y (ltb-false y x (not-true (nat_lt y x) h))))
inside-coarse Diagonal s x y h = elim (cases_eq (x == y) refl) [
  | inl same ↦ rw (eq-eqb (side_of s x) (side_of s y) (ap (side_of s) (eqb-true x y same))) refl
  | inr other ↦ absurd (both_ways _ (ap (λ b. not (not b)) other) h)
]
  where
    cases_eq : (b : Bool) → (x == y) ≡ b → ((x == y) ≡ true) ⊎ ((x == y) ≡ false)
    cases_eq true e = inl e
    cases_eq false e = inr e

module _ (op : Operation) (cut : List Sides) (valid : IsValid op) (sized : length cut ≡ length op.dims) where
  abbrev row : ℕ → ℕ
  row x = part_in cut op.work.rows x

  abbrev col : ℕ → ℕ
  col x = part_in cut op.work.cols x

  abbrev coarse : List ℕ
  coarse = counts_of cut

  -- the coarse block of a block of W is one
  work-coarse : (counts : List ℕ) (i j : ℕ) → is_work_block op counts i j ≡ true → is_work_block op coarse (row i) (col j) ≡ true
  work-coarse counts i j h =
      let own = valid.operands 0 op.work (omega arith) in
      let rows = own.rows in
      let cols = own.cols in
      let p = and_parts (nat_lt i (parts_of counts op.work.rows) && nat_lt j (parts_of counts op.work.cols)) (not (is_zero op.work.structure i j)) h in
      and_from (nat_lt (row i) (parts_of coarse op.work.rows) && nat_lt (col j) (parts_of coarse op.work.cols)) (not (is_zero op.work.structure (row i) (col j)))
      (and_from (nat_lt (row i) (parts_of coarse op.work.rows)) (nat_lt (col j) (parts_of coarse op.work.cols))
      (lt-ltb (row i) (parts_of coarse op.work.rows) (part-below cut op.work.rows i (omega arith))) (lt-ltb (col j) (parts_of coarse op.work.cols) (part-below cut op.work.cols j (omega arith))))
      (inside op.work.structure refl p.1)
    where
      square : op.work.structure ≢ General → op.work.rows ≡ op.work.cols
      square other = (valid.operands 0 op.work (omega arith)).square other

      by_square : (s : Structure) → op.work.rows ≡ op.work.cols → not (is_zero s i j) ≡ true → not (is_zero s (row i) (col j)) ≡ true
      by_square s same h = subst (λ d. not (is_zero s (row i) (part_in cut d j)) ≡ true) same (inside-coarse s (slice_index_or cut op.work.rows One) i j h)

      inside : (s : Structure) → op.work.structure ≡ s → not (is_zero s i j) ≡ true → not (is_zero s (row i) (col j)) ≡ true
      inside General e h = refl
      inside other e h = by_square other (square (λ general. let both = sym e ∙ general in absurd cc)) h

  -- ---- classes

  -- the class of a solve
  class-of_solve : (r c : ℕ) → class_of op cut (solve_of (block r c)) ≡ solve_of (block (row r) (col c))
  class-of_solve r c = go (has op coarse (coarse_of op cut (solve_of (block r c)))) refl
    where
      go : (b : Bool) → has op coarse (coarse_of op cut (solve_of (block r c))) ≡ b
          → (if b then coarse_of op cut (solve_of (block r c)) else solve_of (block (row r) (col c))) ≡ solve_of (block (row r) (col c))
      go true h = sym (one-solve op coarse kinds.Solve 0 (row r) (col c) (part_in cut 0 0) (row r) (col c)
          (and_parts (is_work_block op coarse (row r) (col c)) (has_task op coarse kinds.Solve 0 (row r) (col c) (part_in cut 0 0)) h).1
          (solves-itself (block (row r) (col c))))
      go false h = refl

  -- the classes are equal, or the first needs the second
  abbrev AreNeed : Task → Task → Type 0
  AreNeed a b = (a ≡ b) ⊎ (does_need op a b ≡ true)

  -- a class, by whether the coarser cut has the coarse task
  by_class : (a : Task) (P : Task → Type 0) → (has op coarse (coarse_of op cut a) ≡ true → P (coarse_of op cut a))
      → (has op coarse (coarse_of op cut a) ≡ false → P (solve_of (block (row a.i) (col a.j)))) → P (class_of op cut a)
  by_class a P there gone = go (has op coarse (coarse_of op cut a)) refl
    where
      go : (b : Bool) → has op coarse (coarse_of op cut a) ≡ b → P (if b then coarse_of op cut a else solve_of (block (row a.i) (col a.j)))
      go true h = there h
      go false h = gone h

  -- the diagonal block of a block
  diagonal-need : (r c : ℕ) → factors_diagonal op.form ≡ true → AreNeed (solve_of (block r c)) (solve_of (block (min r c) (min r c)))
  diagonal-need r c factors = go (r == c) refl
    where
      go : (b : Bool) → (r == c) ≡ b → AreNeed (solve_of (block r c)) (solve_of (block (min r c) (min r c)))
      go true same =
          let e = eqb-true r c same in
          let least : min r c ≡ r = omega arith in
          inl (ap (λ d. solve_of (block r d)) (sym e) ∙ ap (λ d. solve_of (block d d)) (sym least))
      go false other = inr (or_right (not (is_solve kinds.Solve) && min r c == r && min r c == c) (factors_diagonal op.form && not (r == c) && solves (solve_of (block (min r c) (min r c))) (min r c) (min r c))
          (and_from (factors_diagonal op.form && not (r == c)) (solves (solve_of (block (min r c) (min r c))) (min r c) (min r c))
          (and_from (factors_diagonal op.form) (not (r == c)) factors (ap not other)) (solves-itself (block (min r c) (min r c)))))

  -- ---- a solve

  -- another task of its block
  own-need : (i j : ℕ) (b : Task) → not (is_solve b.kind) ≡ true → b.i ≡ i → b.j ≡ j → AreNeed (solve_of (block (row i) (col j))) (class_of op cut b)
  own-need i j b other r c = by_class b (AreNeed (solve_of (block (row i) (col j))))
      (λ h. inr (or_left _ _ (and_from (not (is_solve b.kind) && row b.i == row i) (col b.j == col j)
      (and_from (not (is_solve b.kind)) (row b.i == row i) other (eq-eqb (row b.i) (row i) (ap row r))) (eq-eqb (col b.j) (col j) (ap col c)))))
      (λ h. inl (ap (λ x. solve_of (block (row x) (col j))) (sym r) ∙ ap (λ x. solve_of (block (row b.i) (col x))) (sym c)))

  -- its diagonal block
  off-need : (i j : ℕ) → op.work.rows ≡ op.work.cols → factors_diagonal op.form ≡ true
      → AreNeed (solve_of (block (row i) (col j))) (solve_of (block (row (min i j)) (col (min i j))))
  off-need i j square factors =
      let s = slice_index_or cut op.work.rows One in
      let cols : (x : ℕ) → row x ≡ col x = λ x. ap (λ d. part_in cut d x) square in
      let least : row (min i j) ≡ min (row i) (col j) = side-min s i j ∙ ap (λ x. min (row i) x) (cols j) in
      subst (AreNeed (solve_of (block (row i) (col j)))) (ap (λ d. solve_of (block d d)) (sym least) ∙ ap (λ d. solve_of (block (row (min i j)) d)) (cols (min i j)))
      (diagonal-need (row i) (col j) factors)

  -- ---- an update with a triangular factor

  left-need : (counts : List ℕ) (t : Factor) (i j k : ℕ) → has_left op coarse op.form (row i) (col j) (row k) ≡ reads_left op coarse t (row i) (col j) (row k)
      → ((b : Task) → left_needs op.form (row i) (col j) (row k) b ≡ solves b (row k) (col j))
      → is_work_block op counts i j ≡ true → reads_left op counts t i j k ≡ true
      → AreNeed (class_of op cut (task_of kinds.Left 0 i j k)) (solve_of (block (row k) (col j)))
  left-need counts t i j k is needs work h = by_class (task_of kinds.Left 0 i j k) (λ a. AreNeed a (solve_of (block (row k) (col j))))
      (λ there. inr (needs (solve_of (block (row k) (col j))) ∙ solves-itself (block (row k) (col j))))
      (λ gone. go (row i == row k) refl gone)
    where
      parts : ((is_inside op t i k && not (i == k)) ≡ true) × (is_work_block op counts k j ≡ true)
      parts = and_parts (is_inside op t i k && not (i == k)) (is_work_block op counts k j) h

      go : (b : Bool) → (row i == row k) ≡ b → has op coarse (task_of kinds.Left 0 (row i) (col j) (row k)) ≡ false → AreNeed (solve_of (block (row i) (col j))) (solve_of (block (row k) (col j)))
      go true same gone = inl (ap (λ r. solve_of (block r (col j))) (eqb-true (row i) (row k) same))
      go false other gone = absurd (both_ways _ gone (and_from (is_work_block op coarse (row i) (col j)) _ (work-coarse counts i j work)
          (is ∙ and_from (is_inside op t (row i) (row k) && not (row i == row k)) (is_work_block op coarse (row k) (col j))
          (and_from (is_inside op t (row i) (row k)) (not (row i == row k))
          (inside-coarse (factor_structure op t) (slice_index_or cut op.work.rows One) i k (and_parts (is_inside op t i k) (not (i == k)) parts.0).0) (ap not other))
          (work-coarse counts k j parts.1))))

  right-need : (counts : List ℕ) (u : Factor) (i j k : ℕ) → has_right op coarse op.form (row i) (col j) (col k) ≡ reads_right op coarse u (row i) (col j) (col k)
      → ((b : Task) → right_needs op.form (row i) (col j) (col k) b ≡ solves b (row i) (col k))
      → is_work_block op counts i j ≡ true → reads_right op counts u i j k ≡ true
      → AreNeed (class_of op cut (task_of kinds.Right 0 i j k)) (solve_of (block (row i) (col k)))
  right-need counts u i j k is needs work h = by_class (task_of kinds.Right 0 i j k) (λ a. AreNeed a (solve_of (block (row i) (col k))))
      (λ there. inr (needs (solve_of (block (row i) (col k))) ∙ solves-itself (block (row i) (col k))))
      (λ gone. go (col k == col j) refl gone)
    where
      parts : ((is_inside op u k j && not (k == j)) ≡ true) × (is_work_block op counts i k ≡ true)
      parts = and_parts (is_inside op u k j && not (k == j)) (is_work_block op counts i k) h

      go : (b : Bool) → (col k == col j) ≡ b → has op coarse (task_of kinds.Right 0 (row i) (col j) (col k)) ≡ false → AreNeed (solve_of (block (row i) (col j))) (solve_of (block (row i) (col k)))
      go true same gone = inl (ap (λ c. solve_of (block (row i) c)) (sym (eqb-true (col k) (col j) same)))
      go false other gone = absurd (both_ways _ gone (and_from (is_work_block op coarse (row i) (col j)) _ (work-coarse counts i j work)
          (is ∙ and_from (is_inside op u (col k) (col j) && not (col k == col j)) (is_work_block op coarse (row i) (col k))
          (and_from (is_inside op u (col k) (col j)) (not (col k == col j))
          (inside-coarse (factor_structure op u) (slice_index_or cut op.work.cols One) k j (and_parts (is_inside op u k j) (not (k == j)) parts.0).0) (ap not other))
          (work-coarse counts i k parts.1))))

  -- ---- an update of a factorisation

  lu-need : (counts : List ℕ) (i j k : ℕ) (r c : ℕ) → op.form ≡ Lu → op.work.rows ≡ op.work.cols → is_work_block op counts i j ≡ true → k < min i j
      → ((r ≡ i) × (c ≡ k)) ⊎ ((r ≡ k) × (c ≡ j)) → AreNeed (class_of op cut (task_of kinds.Left 0 i j k)) (solve_of (block (row r) (col c)))
  lu-need counts i j k r c lu square work below read = by_class (task_of kinds.Left 0 i j k) (λ a. AreNeed a (solve_of (block (row r) (col c)))) there gone
    where
      cols : (x : ℕ) → col x ≡ row x
      cols x = ap (λ d. part_in cut d x) (sym square)

      needs : (b : Task) → left_needs op.form (row i) (col j) (row k) b ≡ (solves b (row i) (row k) || solves b (row k) (col j))
      needs b = ap (λ form. left_needs form (row i) (col j) (row k) b) lu

      reads : ((r ≡ i) × (c ≡ k)) ⊎ ((r ≡ k) × (c ≡ j)) → (solves (solve_of (block (row r) (col c))) (row i) (row k) || solves (solve_of (block (row r) (col c))) (row k) (col j)) ≡ true
      reads (inl (e, f)) = or_left _ _ (and_from (row r == row i) (col c == row k) (eq-eqb (row r) (row i) (ap row e)) (eq-eqb (col c) (row k) (ap col f ∙ cols k)))
      reads (inr (e, f)) = or_right _ _ (and_from (row r == row k) (col c == col j) (eq-eqb (row r) (row k) (ap row e)) (eq-eqb (col c) (col j) (ap col f)))

      there : has op coarse (coarse_of op cut (task_of kinds.Left 0 i j k)) ≡ true → AreNeed (coarse_of op cut (task_of kinds.Left 0 i j k)) (solve_of (block (row r) (col c)))
      there h = inr (needs (solve_of (block (row r) (col c))) ∙ reads read)

      exists : row k < min (row i) (col j) → has op coarse (task_of kinds.Left 0 (row i) (col j) (row k)) ≡ true
      exists h = and_from (is_work_block op coarse (row i) (col j)) _ (work-coarse counts i j work)
          (ap (λ form. has_left op coarse form (row i) (col j) (row k)) lu ∙ lt-ltb (row k) (min (row i) (col j)) h)

      low : row k ≤ row i
      low = side-ascends (slice_index_or cut op.work.rows One) k i (omega arith)

      left : row k ≤ row j
      left = side-ascends (slice_index_or cut op.work.rows One) k j (omega arith)

      diagonal : AreNeed (solve_of (block (row i) (col j))) (solve_of (block (min (row i) (col j)) (min (row i) (col j))))
      diagonal = diagonal-need (row i) (col j) (ap factors_diagonal lu)

      -- the coarse inner part is the lesser of the coarse row and column
      at_least : row k ≡ min (row i) (col j) → ((r ≡ i) × (c ≡ k)) ⊎ ((r ≡ k) × (c ≡ j)) → (row i < col j) ⊎ (col j ≤ row i) → AreNeed (solve_of (block (row i) (col j))) (solve_of (block (row r) (col c)))
      at_least least (inl (e, f)) (inl wide) =
          let here : row k ≡ row i = omega arith in
          subst (AreNeed (solve_of (block (row i) (col j)))) (ap (λ d. solve_of (block d d)) (sym least ∙ here) ∙ ap (λ d. solve_of (block d (row i))) (sym (ap row e)) ∙ ap (λ d. solve_of (block (row r) d)) (sym here ∙ sym (cols k) ∙ sym (ap col f))) diagonal
      at_least least (inl (e, f)) (inr tall) =
          let here : row k ≡ col j = omega arith in
          inl (ap (λ d. solve_of (block d (col j))) (sym (ap row e)) ∙ ap (λ d. solve_of (block (row r) d)) (sym here ∙ sym (cols k) ∙ sym (ap col f)))
      at_least least (inr (e, f)) (inl wide) =
          let here : row k ≡ row i = omega arith in
          inl (ap (λ d. solve_of (block d (col j))) (sym here ∙ sym (ap row e)) ∙ ap (λ d. solve_of (block (row r) d)) (sym (ap col f)))
      at_least least (inr (e, f)) (inr tall) =
          let here : row k ≡ col j = omega arith in
          subst (AreNeed (solve_of (block (row i) (col j)))) (ap (λ d. solve_of (block d d)) (sym least ∙ here) ∙ ap (λ d. solve_of (block d (col j))) (sym here ∙ sym (ap row e)) ∙ ap (λ d. solve_of (block (row r) d)) (sym (ap col f))) diagonal

      gone : has op coarse (coarse_of op cut (task_of kinds.Left 0 i j k)) ≡ false → AreNeed (solve_of (block (row i) (col j))) (solve_of (block (row r) (col c)))
      gone h = go (cases_lt (row k) (min (row i) (col j)))
        where
          go : (row k < min (row i) (col j)) ⊎ (min (row i) (col j) ≤ row k) → AreNeed (solve_of (block (row i) (col j))) (solve_of (block (row r) (col c)))
          go (inl less) = absurd (both_ways _ h (exists less))
          go (inr more) = at_least (let e = cols j in let l = low in let m = left in omega arith) read (cases_lt (row i) (col j))

  ldl-need : (counts : List ℕ) (i j k : ℕ) (r c : ℕ) → op.form ≡ Ldl → op.work.rows ≡ op.work.cols → is_work_block op counts i j ≡ true → k < j → j ≤ i
      → (r ≡ i) ⊎ ((r ≡ k) ⊎ (r ≡ j)) → c ≡ k → AreNeed (class_of op cut (task_of kinds.Left 0 i j k)) (solve_of (block (row r) (col c)))
  ldl-need counts i j k r c ldl square work below lower read inner = by_class (task_of kinds.Left 0 i j k) (λ a. AreNeed a (solve_of (block (row r) (col c)))) there gone
    where
      cols : (x : ℕ) → col x ≡ row x
      cols x = ap (λ d. part_in cut d x) (sym square)

      needs : (b : Task) → left_needs op.form (row i) (col j) (row k) b ≡ (solves b (row i) (row k) || solves b (row k) (row k) || solves b (col j) (row k))
      needs b = ap (λ form. left_needs form (row i) (col j) (row k) b) ldl

      at_row : (x : ℕ) → row r ≡ x → solves (solve_of (block (row r) (col c))) x (row k) ≡ true
      at_row x e = and_from (row r == x) (col c == row k) (eq-eqb (row r) x e) (eq-eqb (col c) (row k) (ap col inner ∙ cols k))

      reads : (r ≡ i) ⊎ ((r ≡ k) ⊎ (r ≡ j)) → (solves (solve_of (block (row r) (col c))) (row i) (row k) || solves (solve_of (block (row r) (col c))) (row k) (row k) || solves (solve_of (block (row r) (col c))) (col j) (row k)) ≡ true
      reads (inl e) = or_left _ _ (or_left _ _ (at_row (row i) (ap row e)))
      reads (inr (inl e)) = or_left _ _ (or_right _ _ (at_row (row k) (ap row e)))
      reads (inr (inr e)) = or_right _ _ (at_row (col j) (ap row e ∙ sym (cols j)))

      there : has op coarse (coarse_of op cut (task_of kinds.Left 0 i j k)) ≡ true → AreNeed (coarse_of op cut (task_of kinds.Left 0 i j k)) (solve_of (block (row r) (col c)))
      there h = inr (needs (solve_of (block (row r) (col c))) ∙ reads read)

      exists : row k < col j → has op coarse (task_of kinds.Left 0 (row i) (col j) (row k)) ≡ true
      exists h = and_from (is_work_block op coarse (row i) (col j)) _ (work-coarse counts i j work)
          (ap (λ form. has_left op coarse form (row i) (col j) (row k)) ldl ∙ lt-ltb (row k) (col j) h)

      left : row k ≤ row j
      left = side-ascends (slice_index_or cut op.work.rows One) k j (omega arith)

      down : row j ≤ row i
      down = side-ascends (slice_index_or cut op.work.rows One) j i lower

      at_diagonal : row k ≡ col j → (r ≡ i) ⊎ ((r ≡ k) ⊎ (r ≡ j)) → AreNeed (solve_of (block (row i) (col j))) (solve_of (block (row r) (col c)))
      at_diagonal here (inl e) = inl (ap (λ d. solve_of (block d (col j))) (sym (ap row e)) ∙ ap (λ d. solve_of (block (row r) d)) (sym here ∙ sym (cols k) ∙ sym (ap col inner)))
      at_diagonal here (inr (inl e)) = on_row (ap row e ∙ here)
        where
          on_row : row r ≡ col j → AreNeed (solve_of (block (row i) (col j))) (solve_of (block (row r) (col c)))
          on_row at = subst (AreNeed (solve_of (block (row i) (col j))))
              (let least : min (row i) (col j) ≡ col j = (let e = cols j in let l = down in omega arith) in
              ap (λ d. solve_of (block d d)) least ∙ ap (λ d. solve_of (block d (col j))) (sym at) ∙ ap (λ d. solve_of (block (row r) d)) (sym here ∙ sym (cols k) ∙ sym (ap col inner)))
              (diagonal-need (row i) (col j) (ap factors_diagonal ldl))
      at_diagonal here (inr (inr e)) = on_row (ap row e ∙ sym (cols j))
        where
          on_row : row r ≡ col j → AreNeed (solve_of (block (row i) (col j))) (solve_of (block (row r) (col c)))
          on_row at = subst (AreNeed (solve_of (block (row i) (col j))))
              (let least : min (row i) (col j) ≡ col j = (let e = cols j in let l = down in omega arith) in
              ap (λ d. solve_of (block d d)) least ∙ ap (λ d. solve_of (block d (col j))) (sym at) ∙ ap (λ d. solve_of (block (row r) d)) (sym here ∙ sym (cols k) ∙ sym (ap col inner)))
              (diagonal-need (row i) (col j) (ap factors_diagonal ldl))

      gone : has op coarse (coarse_of op cut (task_of kinds.Left 0 i j k)) ≡ false → AreNeed (solve_of (block (row i) (col j))) (solve_of (block (row r) (col c)))
      gone h = go (cases_lt (row k) (col j))
        where
          go : (row k < col j) ⊎ (col j ≤ row k) → AreNeed (solve_of (block (row i) (col j))) (solve_of (block (row r) (col c)))
          go (inl less) = absurd (both_ways _ h (exists less))
          go (inr more) = at_diagonal (let e = cols j in let l = left in omega arith) read

  -- ---- any task

  -- a task that solves a block
  to_class : (counts : List ℕ) (x b : Task) (r c : ℕ) → has op counts b ≡ true → solves b r c ≡ true → AreNeed x (solve_of (block (row r) (col c))) → AreNeed x (class_of op cut b)
  to_class counts x b r c hb s h = subst (AreNeed x) (sym (class-of_solve r c) ∙ ap (class_of op cut) (solve-one op counts b r c hb s)) h

  lu-square : op.form ≡ Lu → op.work.rows ≡ op.work.cols
  lu-square lu =
      let h : (is_general op.work.structure && op.work.rows == op.work.cols) ≡ true = subst (λ form. meets_form op.work op.knowns (left_of_form form) ≡ true) lu valid.form in
      eqb-true op.work.rows op.work.cols (and_parts (is_general op.work.structure) (op.work.rows == op.work.cols) h).1

  ldl-square : op.form ≡ Ldl → op.work.rows ≡ op.work.cols
  ldl-square ldl = (valid.operands 0 op.work (omega arith)).square (λ general. let both = sym (lower-valid op valid ldl) ∙ general in cc)

  left-class : (counts : List ℕ) (form : Form) (i j k : ℕ) (b : Task) → op.form ≡ form → is_work_block op counts i j ≡ true → has_left op counts form i j k ≡ true
      → left_needs form i j k b ≡ true → has op counts b ≡ true → AreNeed (class_of op cut (task_of kinds.Left 0 i j k)) (class_of op cut b)
  left-class counts Assign i j k b is work h n hb = absurd (both_ways _ refl h)
  left-class counts (Left t) i j k b is work h n hb = to_class counts (class_of op cut (task_of kinds.Left 0 i j k)) b k j hb n
      (left-need counts t i j k (ap (λ form. has_left op coarse form (row i) (col j) (row k)) is) (λ b. ap (λ form. left_needs form (row i) (col j) (row k) b) is) work h)
  left-class counts (Right t) i j k b is work h n hb = absurd (both_ways _ refl h)
  left-class counts (Sylvester t u minus) i j k b is work h n hb = to_class counts (class_of op cut (task_of kinds.Left 0 i j k)) b k j hb n
      (left-need counts t i j k (ap (λ form. has_left op coarse form (row i) (col j) (row k)) is) (λ b. ap (λ form. left_needs form (row i) (col j) (row k) b) is) work h)
  left-class counts Lu i j k b is work h n hb = elim (or_cases (solves b i k) (solves b k j) n) [
    | inl s ↦ to_class counts (class_of op cut (task_of kinds.Left 0 i j k)) b i k hb s (lu-need counts i j k i k is (lu-square is) work (ltb-true k (min i j) h) (inl (refl, refl)))
    | inr s ↦ to_class counts (class_of op cut (task_of kinds.Left 0 i j k)) b k j hb s (lu-need counts i j k k j is (lu-square is) work (ltb-true k (min i j) h) (inr (refl, refl)))
  ]
  left-class counts Ldl i j k b is work h n hb = go (or_cases (solves b i k || solves b k k) (solves b j k) n)
    where
      order : j ≤ i
      order = lower-block op counts i j (lower-valid op valid is) work

      first : (solves b i k ≡ true) ⊎ (solves b k k ≡ true) → AreNeed (class_of op cut (task_of kinds.Left 0 i j k)) (class_of op cut b)
      first (inl s) = to_class counts (class_of op cut (task_of kinds.Left 0 i j k)) b i k hb s (ldl-need counts i j k i k is (ldl-square is) work (ltb-true k j h) order (inl refl) refl)
      first (inr s) = to_class counts (class_of op cut (task_of kinds.Left 0 i j k)) b k k hb s (ldl-need counts i j k k k is (ldl-square is) work (ltb-true k j h) order (inr (inl refl)) refl)

      go : ((solves b i k || solves b k k) ≡ true) ⊎ (solves b j k ≡ true) → AreNeed (class_of op cut (task_of kinds.Left 0 i j k)) (class_of op cut b)
      go (inl s) = first (or_cases (solves b i k) (solves b k k) s)
      go (inr s) = to_class counts (class_of op cut (task_of kinds.Left 0 i j k)) b j k hb s (ldl-need counts i j k j k is (ldl-square is) work (ltb-true k j h) order (inr (inr refl)) refl)

  right-class : (counts : List ℕ) (form : Form) (i j k : ℕ) (b : Task) → op.form ≡ form → is_work_block op counts i j ≡ true → has_right op counts form i j k ≡ true
      → right_needs form i j k b ≡ true → has op counts b ≡ true → AreNeed (class_of op cut (task_of kinds.Right 0 i j k)) (class_of op cut b)
  right-class counts Assign i j k b is work h n hb = absurd (both_ways _ refl h)
  right-class counts (Left t) i j k b is work h n hb = absurd (both_ways _ refl h)
  right-class counts (Right t) i j k b is work h n hb = to_class counts (class_of op cut (task_of kinds.Right 0 i j k)) b i k hb n
      (right-need counts t i j k (ap (λ form. has_right op coarse form (row i) (col j) (col k)) is) (λ b. ap (λ form. right_needs form (row i) (col j) (col k) b) is) work h)
  right-class counts (Sylvester t u minus) i j k b is work h n hb = to_class counts (class_of op cut (task_of kinds.Right 0 i j k)) b i k hb n
      (right-need counts u i j k (ap (λ form. has_right op coarse form (row i) (col j) (col k)) is) (λ b. ap (λ form. right_needs form (row i) (col j) (col k) b) is) work h)
  right-class counts Lu i j k b is work h n hb = absurd (both_ways _ refl h)
  right-class counts Ldl i j k b is work h n hb = absurd (both_ways _ refl h)

  solve-class : (counts : List ℕ) (i j : ℕ) (b : Task) → solve_needs op.form i j b ≡ true → has op counts b ≡ true → AreNeed (solve_of (block (row i) (col j))) (class_of op cut b)
  solve-class counts i j b n hb = elim (or_cases (not (is_solve b.kind) && b.i == i && b.j == j) (factors_diagonal op.form && not (i == j) && solves b (min i j) (min i j)) n) [
    | inl x ↦ (let p = and_parts (not (is_solve b.kind) && b.i == i) (b.j == j) x in
        let q = and_parts (not (is_solve b.kind)) (b.i == i) p.0 in
        own-need i j b q.0 (eqb-true b.i i q.1) (eqb-true b.j j p.1))
    | inr x ↦ (let p = and_parts (factors_diagonal op.form && not (i == j)) (solves b (min i j) (min i j)) x in
        let q = and_parts (factors_diagonal op.form) (not (i == j)) p.0 in
        to_class counts (solve_of (block (row i) (col j))) b (min i j) (min i j) hb p.1 (off-need i j (square op.form refl q.0) q.0))
  ]
    where
      square : (form : Form) → op.form ≡ form → factors_diagonal form ≡ true → op.work.rows ≡ op.work.cols
      square Lu is h = lu-square is
      square Ldl is h = ldl-square is
      square Assign is h = absurd (both_ways _ refl h)
      square (Left t) is h = absurd (both_ways _ refl h)
      square (Right t) is h = absurd (both_ways _ refl h)
      square (Sylvester t u minus) is h = absurd (both_ways _ refl h)

  by_kind : (counts : List ℕ) (kind : Kind) (t i j k : ℕ) (b : Task) → is_work_block op counts i j ≡ true → has_task op counts kind t i j k ≡ true → needs_by op.form kind i j k b ≡ true
      → has op counts b ≡ true → AreNeed (class_of op cut (task_of kind t i j k)) (class_of op cut b)
  by_kind counts kinds.Pivots t i j k b work h n hb = absurd (both_ways _ refl h)
  by_kind counts kinds.Term t i j k b work h n hb = absurd (both_ways _ refl n)
  by_kind counts kinds.Left t i j k b work h n hb = let p = and_parts (t == 0) (has_left op counts op.form i j k) h in
      subst (λ t. AreNeed (class_of op cut (task_of kinds.Left t i j k)) (class_of op cut b)) (sym (eqb-true t 0 p.0)) (left-class counts op.form i j k b refl work p.1 n hb)
  by_kind counts kinds.Right t i j k b work h n hb = let p = and_parts (t == 0) (has_right op counts op.form i j k) h in
      subst (λ t. AreNeed (class_of op cut (task_of kinds.Right t i j k)) (class_of op cut b)) (sym (eqb-true t 0 p.0)) (right-class counts op.form i j k b refl work p.1 n hb)
  by_kind counts kinds.Solve t i j k b work h n hb =
      subst (λ a. AreNeed (class_of op cut a) (class_of op cut b)) (one-solve op counts kinds.Solve t i j k i j h (solves-itself (block i j)))
      (subst (λ a. AreNeed a (class_of op cut b)) (sym (class-of_solve i j)) (solve-class counts i j b n hb))

  pub needs-classes : (counts : List ℕ) (a b : Task) → has op counts a ≡ true → has op counts b ≡ true → does_need op a b ≡ true → AreNeed (class_of op cut a) (class_of op cut b)
  needs-classes counts a b ha hb need =
      let p = and_parts (is_work_block op counts a.i a.j) (has_task op counts a.kind a.term a.i a.j a.k) ha in
      by_kind counts a.kind a.term a.i a.j a.k b p.0 p.1 need hb
