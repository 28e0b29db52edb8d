-- The tasks of a valid operation as parts of the tasks of a coarser cut, which any ascending map of the parts makes. Cited by the lemmas on what a
-- loop has done.
use Rattle.std.proofs.Common.{◌≡◌, ◌≢◌, ℕ, zero, suc, ◌<◌, ◌≤◌, inl, inr, Bool, true, false, ◌&&◌, not, min, if◌then◌else◌, List, [], ◌∷◌, length, All, Contains, refl, sym, ap, ◌∙◌, subst, arith, add-one}
use Rattle.std.specs.Prelude.{◌==◌, nat_lt}
use Rattle.std.proofs.lemmas.Bool.{and_from, and_parts, both_ways, cases_lt, eq-eqb, eqb-true, le-ltb, lt-ltb, ltb-false, ltb-true, not-true}
use Rattle.std.proofs.lemmas.List.Elements.{All-contains_itself, All-head, All-tail}
use Rattle.structure_rules.specs.declared.Structure.{Structure}
use Rattle.structure_rules.specs.declared.Structure.TheVariants.{General, Lower, UnitLower, Upper, UnitUpper, Diagonal, Symmetric}
use Rattle.structure_rules.specs.Structures.{is_zero, transpose_of}
use Rattle.operation_spec.specs.declared.operation.Operation.{Operation}
use Rattle.operation_spec.specs.declared.operation.Operand.{Operand}
use Rattle.operation_spec.specs.declared.operation.Factor.{Factor}
use Rattle.operation_spec.specs.declared.operation.Term.{Term}
use Rattle.operation_spec.specs.declared.operation.Form.{Form}
use Rattle.operation_spec.specs.declared.operation.Form.TheVariants.{Assign, Left, Right, Sylvester, Lu, Ldl}
use Rattle.operation_spec.specs.declared.task.Kind.{Kind}
use Rattle.operation_spec.specs.declared.task.Kind.TheVariants as kinds
use Rattle.operation_spec.specs.declared.task.Task.{Task}
use Rattle.operation_spec.specs.Equations.{Size, is_general, left_of_form, meets_form, side_of_factor, size_of}
use Rattle.operation_spec.specs.ValidOperations.{IsOperand, IsValid}
use Rattle.task_graph.specs.Classes.{inner_dim, inner_dim_of}
use Rattle.task_graph.specs.Factors.{factor_cols, factor_structure, known}
use Rattle.task_graph.specs.Order.{task_of}
use Rattle.task_graph.specs.Tasks.{has, has_left, has_product, has_right, has_solve, has_task, has_term, is_inside, is_work_block, parts_of, reads_left, reads_right}
use Rattle.task_graph.proofs.ValidFactors.{lower-valid}
use Rattle.task_graph.proofs.WorkBlocks.{work-block}
use Rattle.equation.proofs.FactorSizes.{term_knowns, term_sizes}

-- ---- the dimensions of a valid operation

module _ (op : Operation) (valid : IsValid op) where
  abbrev factor_rows : Factor → ℕ
  factor_rows f = if f.primed then (known op f.known).cols else (known op f.known).rows

  operand : (f : Factor) → f.known < length op.knowns → IsOperand op.dims (known op f.known)
  operand f there = valid.operands (suc f.known) op.work (omega arith)

  cols-declared : (f : Factor) → f.known < length op.knowns → factor_cols op f < length op.dims
  cols-declared f there = go f.primed
    where
      go : (primed : Bool) → (if primed then (known op f.known).rows else (known op f.known).cols) < length op.dims
      go true = (operand f there).rows
      go false = (operand f there).cols

  -- a factor with blocks that are zero by its structure is square
  square : (f : Factor) → f.known < length op.knowns → factor_structure op f ≢ General → factor_rows f ≡ factor_cols op f
  square f there ne = go f.primed ne
    where
      go : (primed : Bool) → (if primed then transpose_of (known op f.known).structure else (known op f.known).structure) ≢ General
          → (if primed then (known op f.known).cols else (known op f.known).rows) ≡ (if primed then (known op f.known).rows else (known op f.known).cols)
      go true other = sym ((operand f there).square (λ general. other (ap transpose_of general)))
      go false other = (operand f there).square other

  size-rows : (f : Factor) → (size_of op.work op.knowns (side_of_factor f)).rows ≡ factor_rows f
  size-rows f = rw add-one (go f.primed (known op f.known))
    where
      go : (primed : Bool) (o : Operand) → (let size : Size = if primed then record { rows = o.cols; cols = o.rows } else record { rows = o.rows; cols = o.cols } in size.rows) ≡ (if primed then o.cols else o.rows)
      go true o = refl
      go false o = refl

  size-cols : (f : Factor) → (size_of op.work op.knowns (side_of_factor f)).cols ≡ factor_cols op f
  size-cols f = rw add-one (go f.primed (known op f.known))
    where
      go : (primed : Bool) (o : Operand) → (let size : Size = if primed then record { rows = o.cols; cols = o.rows } else record { rows = o.rows; cols = o.cols } in size.cols) ≡ (if primed then o.rows else o.cols)
      go true o = refl
      go false o = refl

  lu-square : op.form ≡ Lu → op.work.rows ≡ op.work.cols
  lu-square lu =
      let h : (is_general op.work.structure && op.work.rows == op.work.cols) ≡ true = subst (λ form. meets_form op.work op.knowns (left_of_form form) ≡ true) lu valid.form in
      eqb-true op.work.rows op.work.cols (and_parts (is_general op.work.structure) (op.work.rows == op.work.cols) h).1

  ldl-square : op.form ≡ Ldl → op.work.rows ≡ op.work.cols
  ldl-square ldl = (valid.operands 0 op.work (omega arith)).square (λ general. let both = sym (lower-valid op valid ldl) ∙ general in cc)

-- ---- a map of the parts of each dimension

-- it keeps their order, and goes to the parts of the coarser cut
pub record IsCoarser (op : Operation) (counts coarse : List ℕ) (f : ℕ → ℕ → ℕ) : Type 0 where
  pub ascends : (d x y : ℕ) → x ≤ y → f d x ≤ f d y
  pub below : (d x : ℕ) → d < length op.dims → x < parts_of counts d → f d x < parts_of coarse d

-- the task of the same kind with each index in its coarse part
abbrev pub mapped : Operation → (ℕ → ℕ → ℕ) → Task → Task
mapped op f u = task_of u.kind u.term (f op.work.rows u.i) (f op.work.cols u.j) (f (inner_dim op u.kind u.term) u.k)

-- that task where the coarser cut has it, and else the solve of its block
abbrev pub kept_or_solve : Operation → List ℕ → Task → Task
kept_or_solve op coarse a = if has op coarse a then a else task_of kinds.Solve 0 a.i a.j 0

abbrev pub part_of : Operation → List ℕ → (ℕ → ℕ → ℕ) → Task → Task
part_of op coarse f u = kept_or_solve op coarse (mapped op f u)

module _ (op : Operation) (valid : IsValid op) (counts coarse : List ℕ) (f : ℕ → ℕ → ℕ) (is : IsCoarser op counts coarse f) where
  abbrev row : ℕ → ℕ
  row x = f op.work.rows x

  abbrev col : ℕ → ℕ
  col x = f op.work.cols x

  -- what is no zero block has no zero block as its coarse block
  inside : (s : Structure) (d i j : ℕ) → not (is_zero s i j) ≡ true → not (is_zero s (f d i) (f d j)) ≡ true
  inside General d i j h = refl
  inside Symmetric d i j h = refl
  inside Lower d i j h = ap not (le-ltb (f d i) (f d j) (is.ascends d j i (ltb-false i j (not-true (nat_lt i j) h))))
  inside UnitLower d i j h = ap not (le-ltb (f d i) (f d j) (is.ascends d j i (ltb-false i j (not-true (nat_lt i j) h))))
  inside Upper d i j h = ap not (le-ltb (f d j) (f d i) (is.ascends d i j (ltb-false j i (not-true (nat_lt j i) h))))
  inside UnitUpper d i j h = ap not (le-ltb (f d j) (f d i) (is.ascends d i j (ltb-false j i (not-true (nat_lt j i) h))))
  inside Diagonal d i j h = go (i == j) refl h
    where
      go : (b : Bool) → (i == j) ≡ b → not (not b) ≡ true → not (not (f d i == f d j)) ≡ true
      go true e h = rw (eq-eqb (f d i) (f d j) (ap (f d) (eqb-true i j e))) refl
      go false e h = absurd (both_ways _ refl h)

  -- on two dimensions, which are one where the structure has zero blocks
  inside_on : (s : Structure) (d e i j : ℕ) → (s ≢ General → d ≡ e) → not (is_zero s i j) ≡ true → not (is_zero s (f d i) (f e j)) ≡ true
  inside_on General d e i j same h = refl
  inside_on other d e i j same h = subst (λ x. not (is_zero other (f d i) (f x j)) ≡ true) (same (λ general. cc)) (inside other d i j h)

  work : (i j : ℕ) → is_work_block op counts i j ≡ true → is_work_block op coarse (row i) (col j) ≡ true
  work i j h =
      let own : IsOperand op.dims op.work = valid.operands 0 op.work (omega arith) in
      let within = work-block op counts i j h in
      let p = and_parts (nat_lt i (parts_of counts op.work.rows) && nat_lt j (parts_of counts op.work.cols)) (not (is_zero op.work.structure i j)) h in
      and_from (nat_lt (row i) (parts_of coarse op.work.rows) && nat_lt (col j) (parts_of coarse op.work.cols)) (not (is_zero op.work.structure (row i) (col j)))
      (and_from (nat_lt (row i) (parts_of coarse op.work.rows)) (nat_lt (col j) (parts_of coarse op.work.cols))
      (lt-ltb (row i) (parts_of coarse op.work.rows) (is.below op.work.rows i own.rows within.0)) (lt-ltb (col j) (parts_of coarse op.work.cols) (is.below op.work.cols j own.cols within.1)))
      (inside_on op.work.structure op.work.rows op.work.cols i j own.square p.1)

  -- ---- products of known blocks

  product : (t : Term) → Contains op.terms t → (i j k : ℕ) → has_product op counts t i j k ≡ true → has_product op coarse t (row i) (col j) (f (factor_cols op t.first) k) ≡ true
  product t among i j k h =
      let c = factor_cols op t.first in
      let knowns = term_knowns op valid t among in
      let sizes = term_sizes op valid t among in
      let p = and_parts (nat_lt k (parts_of counts c) && is_inside op t.first i k) (is_inside op t.second k j) h in
      let q = and_parts (nat_lt k (parts_of counts c)) (is_inside op t.first i k) p.0 in
      and_from (nat_lt (f c k) (parts_of coarse c) && is_inside op t.first (row i) (f c k)) (is_inside op t.second (f c k) (col j))
      (and_from (nat_lt (f c k) (parts_of coarse c)) (is_inside op t.first (row i) (f c k))
      (lt-ltb (f c k) (parts_of coarse c) (is.below c k (cols-declared op valid t.first knowns.0) (ltb-true k (parts_of counts c) q.0)))
      (inside_on (factor_structure op t.first) op.work.rows c i k (λ ne. sym sizes.1 ∙ size-rows op valid t.first ∙ square op valid t.first knowns.0 ne) q.1))
      (inside_on (factor_structure op t.second) c op.work.cols k j
      (λ ne. sym (size-cols op valid t.first) ∙ sizes.0 ∙ size-rows op valid t.second ∙ square op valid t.second knowns.1 ne ∙ sym (size-cols op valid t.second) ∙ sizes.2) p.1)

  terms : (ts : List Term) → All (Contains op.terms) ts → (t i j k : ℕ) → has_term op counts ts t i j k ≡ true → has_term op coarse ts t (row i) (col j) (f (inner_dim_of op ts t) k) ≡ true
  terms [] among t i j k h = absurd (both_ways _ refl h)
  terms (t ∷ ts) among zero i j k h = product t (All-head (Contains op.terms) t ts among) i j k h
  terms (t ∷ ts) among (suc n) i j k h = terms ts (All-tail (Contains op.terms) t ts among) n i j k h

  product-kept : (t i j k : ℕ) → has op counts (task_of kinds.Term t i j k) ≡ true → has op coarse (mapped op f (task_of kinds.Term t i j k)) ≡ true
  product-kept t i j k h = go t (and_parts (is_work_block op counts i j) (has_task op counts kinds.Term t i j k) h)
    where
      go : (t : ℕ) → (is_work_block op counts i j ≡ true) × (has_task op counts kinds.Term t i j k ≡ true) → has op coarse (mapped op f (task_of kinds.Term t i j k)) ≡ true
      go zero p = absurd (both_ways _ refl p.1)
      go (suc n) p = and_from (is_work_block op coarse (row i) (col j)) _ (work i j p.0) (terms op.terms (All-contains_itself op.terms) n i j k p.1)

  -- ---- the part exists

  -- an operation with another task than products solves its blocks
  has-solves : (kind : Kind) (t i j k : ℕ) → kind ≢ kinds.Term → has_task op counts kind t i j k ≡ true → has_solve op.form ≡ true
  has-solves kinds.Pivots t i j k other h = absurd (both_ways _ refl h)
  has-solves kinds.Term t i j k other h = absurd (other refl)
  has-solves kinds.Left t i j k other h = go op.form (and_parts (t == 0) (has_left op counts op.form i j k) h).1
    where
      go : (form : Form) → has_left op counts form i j k ≡ true → has_solve form ≡ true
      go Assign h = absurd (both_ways _ refl h)
      go form h = refl
  has-solves kinds.Right t i j k other h = go op.form (and_parts (t == 0) (has_right op counts op.form i j k) h).1
    where
      go : (form : Form) → has_right op counts form i j k ≡ true → has_solve form ≡ true
      go Assign h = absurd (both_ways _ refl h)
      go form h = refl
  has-solves kinds.Solve t i j k other h = (and_parts (t == 0 && k == 0) (has_solve op.form) h).1

  pub part-exists : (u : Task) → has op counts u ≡ true → has op coarse (part_of op coarse f u) ≡ true
  part-exists u h = go (has op coarse (mapped op f u)) refl
    where
      parts : (is_work_block op counts u.i u.j ≡ true) × (has_task op counts u.kind u.term u.i u.j u.k ≡ true)
      parts = and_parts (is_work_block op counts u.i u.j) (has_task op counts u.kind u.term u.i u.j u.k) h

      no_product : has op coarse (mapped op f u) ≡ false → u.kind ≢ kinds.Term
      no_product gone e = both_ways _ gone (subst (λ kind. has op coarse (mapped op f (task_of kind u.term u.i u.j u.k)) ≡ true) (sym e)
          (product-kept u.term u.i u.j u.k (subst (λ kind. has op counts (task_of kind u.term u.i u.j u.k) ≡ true) e h)))

      go : (b : Bool) → has op coarse (mapped op f u) ≡ b → has op coarse (if b then mapped op f u else task_of kinds.Solve 0 (row u.i) (col u.j) 0) ≡ true
      go true e = e
      go false e = and_from (is_work_block op coarse (row u.i) (col u.j)) _ (work u.i u.j parts.0) (has-solves u.kind u.term u.i u.j u.k (no_product e) parts.1)

  -- ---- an update that a yet coarser cut keeps

  module _ (coarsest : List ℕ) (g : ℕ → ℕ → ℕ) (rises : (d x y : ℕ) → x ≤ y → g d x ≤ g d y) where
    abbrev top_row : ℕ → ℕ
    top_row x = g op.work.rows (row x)

    abbrev top_col : ℕ → ℕ
    top_col x = g op.work.cols (col x)

    -- numbers whose coarser parts differ do
    apart : (d x y : ℕ) → not (g d x == g d y) ≡ true → not (x == y) ≡ true
    apart d x y h = go (x == y) refl
      where
        go : (b : Bool) → (x == y) ≡ b → not b ≡ true
        go true e = absurd (both_ways _ (ap not (eq-eqb (g d x) (g d y) (ap (g d) (eqb-true x y e)))) h)
        go false e = refl

    -- and those whose coarser parts ascend ascend
    before : (d x y : ℕ) → g d x < g d y → x < y
    before d x y h = elim (cases_lt x y) [
      | inl less ↦ less
      | inr more ↦ absurd (let up = rises d y x more in omega arith)
    ]

    -- an update by a triangular factor of the form
    left-factor : (t : Factor) (i j k : ℕ) → reads_left op counts t i j k ≡ true → reads_left op coarsest t (top_row i) (top_col j) (top_row k) ≡ true → reads_left op coarse t (row i) (col j) (row k) ≡ true
    left-factor t i j k h kept =
        let p = and_parts (is_inside op t i k && not (i == k)) (is_work_block op counts k j) h in
        let q = and_parts (is_inside op t (top_row i) (top_row k) && not (top_row i == top_row k)) (is_work_block op coarsest (top_row k) (top_col j)) kept in
        and_from (is_inside op t (row i) (row k) && not (row i == row k)) (is_work_block op coarse (row k) (col j))
        (and_from (is_inside op t (row i) (row k)) (not (row i == row k))
        (inside (factor_structure op t) op.work.rows i k (and_parts (is_inside op t i k) (not (i == k)) p.0).0)
        (apart op.work.rows (row i) (row k) (and_parts (is_inside op t (top_row i) (top_row k)) (not (top_row i == top_row k)) q.0).1))
        (work k j p.1)

    right-factor : (t : Factor) (i j k : ℕ) → reads_right op counts t i j k ≡ true → reads_right op coarsest t (top_row i) (top_col j) (top_col k) ≡ true → reads_right op coarse t (row i) (col j) (col k) ≡ true
    right-factor t i j k h kept =
        let p = and_parts (is_inside op t k j && not (k == j)) (is_work_block op counts i k) h in
        let q = and_parts (is_inside op t (top_col k) (top_col j) && not (top_col k == top_col j)) (is_work_block op coarsest (top_row i) (top_col k)) kept in
        and_from (is_inside op t (col k) (col j) && not (col k == col j)) (is_work_block op coarse (row i) (col k))
        (and_from (is_inside op t (col k) (col j)) (not (col k == col j))
        (inside (factor_structure op t) op.work.cols k j (and_parts (is_inside op t k j) (not (k == j)) p.0).0)
        (apart op.work.cols (col k) (col j) (and_parts (is_inside op t (top_col k) (top_col j)) (not (top_col k == top_col j)) q.0).1))
        (work i k p.1)

    -- in a square W rows and columns have the same parts
    left-between : (form : Form) (i j k : ℕ) → op.form ≡ form → has_left op counts form i j k ≡ true → has_left op coarsest form (top_row i) (top_col j) (top_row k) ≡ true
        → has_left op coarse form (row i) (col j) (row k) ≡ true
    left-between Assign i j k form h kept = h
    left-between (Left t) i j k form h kept = left-factor t i j k h kept
    left-between (Right t) i j k form h kept = h
    left-between (Sylvester t u minus) i j k form h kept = left-factor t i j k h kept
    left-between Lu i j k form h kept =
        let less = ltb-true (top_row k) (min (top_row i) (top_col j)) kept in
        let first : row k < row i = before op.work.rows (row k) (row i) (omega arith) in
        let cols : (x : ℕ) → g op.work.cols x ≡ g op.work.rows x = λ x. ap (λ d. g d x) (sym (lu-square op valid form)) in
        let second : row k < col j = before op.work.rows (row k) (col j) (let e = cols (col j) in omega arith) in
        lt-ltb (row k) (min (row i) (col j)) (omega arith)
    left-between Ldl i j k form h kept =
        let less = ltb-true (top_row k) (top_col j) kept in
        let cols : (x : ℕ) → g op.work.cols x ≡ g op.work.rows x = λ x. ap (λ d. g d x) (sym (ldl-square op valid form)) in
        lt-ltb (row k) (col j) (before op.work.rows (row k) (col j) (let e = cols (col j) in omega arith))

    right-between : (form : Form) (i j k : ℕ) → has_right op counts form i j k ≡ true → has_right op coarsest form (top_row i) (top_col j) (top_col k) ≡ true
        → has_right op coarse form (row i) (col j) (col k) ≡ true
    right-between (Right t) i j k h kept = right-factor t i j k h kept
    right-between (Sylvester t u minus) i j k h kept = right-factor u i j k h kept
    right-between other i j k h kept = absurd (both_ways _ refl h)

    -- ---- parts of parts

    abbrev both : ℕ → ℕ → ℕ
    both d x = g d (f d x)

    -- a solve stays one
    solve-part : (cs : List ℕ) (t r c k : ℕ) → kept_or_solve op cs (task_of kinds.Solve t r c k) ≡ task_of kinds.Solve 0 r c 0
    solve-part cs t r c k = go (has op cs (task_of kinds.Solve t r c k)) refl
      where
        go : (b : Bool) → has op cs (task_of kinds.Solve t r c k) ≡ b → (if b then task_of kinds.Solve t r c k else task_of kinds.Solve 0 r c 0) ≡ task_of kinds.Solve 0 r c 0
        go true h =
            let p = and_parts (t == 0 && k == 0) (has_solve op.form) (and_parts (is_work_block op cs r c) (has_task op cs kinds.Solve t r c k) h).1 in
            let q = and_parts (t == 0) (k == 0) p.0 in
            ap (λ x. task_of kinds.Solve x r c k) (eqb-true t 0 q.0) ∙ ap (λ x. task_of kinds.Solve 0 r c x) (eqb-true k 0 q.1)
        go false h = refl

    -- where the coarser cut has each update that the coarsest one keeps
    from_kept : (u : Task) → (has op coarsest (mapped op both u) ≡ true → has op coarse (mapped op f u) ≡ true) → part_of op coarsest g (part_of op coarse f u) ≡ part_of op coarsest both u
    from_kept u kept = go (has op coarse (mapped op f u)) refl
      where
        solve : Task
        solve = task_of kinds.Solve 0 (top_row u.i) (top_col u.j) 0

        lost : has op coarse (mapped op f u) ≡ false → (b : Bool) → has op coarsest (mapped op both u) ≡ b → (if b then mapped op both u else solve) ≡ solve
        lost gone true e = absurd (both_ways _ gone (kept e))
        lost gone false e = refl

        go : (b : Bool) → has op coarse (mapped op f u) ≡ b → part_of op coarsest g (if b then mapped op f u else task_of kinds.Solve 0 (row u.i) (col u.j) 0) ≡ part_of op coarsest both u
        go true e = refl
        go false e = solve-part coarsest 0 (top_row u.i) (top_col u.j) (g 0 0) ∙ sym (lost e (has op coarsest (mapped op both u)) refl)

    by_kind : (kind : Kind) (t i j k : ℕ) → has op counts (task_of kind t i j k) ≡ true
        → part_of op coarsest g (part_of op coarse f (task_of kind t i j k)) ≡ part_of op coarsest both (task_of kind t i j k)
    by_kind kinds.Pivots t i j k h = absurd (both_ways _ refl (and_parts (is_work_block op counts i j) false h).1)
    by_kind kinds.Term t i j k h = from_kept (task_of kinds.Term t i j k) (λ kept. product-kept t i j k h)
    by_kind kinds.Left t i j k h = from_kept (task_of kinds.Left t i j k)
        (λ kept.
        let p = and_parts (is_work_block op counts i j) (t == 0 && has_left op counts op.form i j k) h in
        let q = and_parts (t == 0) (has_left op counts op.form i j k) p.1 in
        let r = and_parts (is_work_block op coarsest (top_row i) (top_col j)) (t == 0 && has_left op coarsest op.form (top_row i) (top_col j) (top_row k)) kept in
        and_from (is_work_block op coarse (row i) (col j)) (t == 0 && has_left op coarse op.form (row i) (col j) (row k)) (work i j p.0)
        (and_from (t == 0) (has_left op coarse op.form (row i) (col j) (row k)) q.0
        (left-between op.form i j k refl q.1 (and_parts (t == 0) (has_left op coarsest op.form (top_row i) (top_col j) (top_row k)) r.1).1)))
    by_kind kinds.Right t i j k h = from_kept (task_of kinds.Right t i j k)
        (λ kept.
        let p = and_parts (is_work_block op counts i j) (t == 0 && has_right op counts op.form i j k) h in
        let q = and_parts (t == 0) (has_right op counts op.form i j k) p.1 in
        let r = and_parts (is_work_block op coarsest (top_row i) (top_col j)) (t == 0 && has_right op coarsest op.form (top_row i) (top_col j) (top_col k)) kept in
        and_from (is_work_block op coarse (row i) (col j)) (t == 0 && has_right op coarse op.form (row i) (col j) (col k)) (work i j p.0)
        (and_from (t == 0) (has_right op coarse op.form (row i) (col j) (col k)) q.0
        (right-between op.form i j k q.1 (and_parts (t == 0) (has_right op coarsest op.form (top_row i) (top_col j) (top_col k)) r.1).1)))
    by_kind kinds.Solve t i j k h =
        ap (part_of op coarsest g) (solve-part coarse t (row i) (col j) (f 0 k))
        ∙ solve-part coarsest 0 (top_row i) (top_col j) (g 0 0)
        ∙ sym (solve-part coarsest t (top_row i) (top_col j) (both 0 k))

    -- the part of a task's part is its part by both maps
    pub part-of_part : (u : Task) → has op counts u ≡ true → part_of op coarsest g (part_of op coarse f u) ≡ part_of op coarsest both u
    part-of_part u h = by_kind u.kind u.term u.i u.j u.k h
