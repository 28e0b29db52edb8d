-- The sums of the terms of a statement, each product with the task that adds it, and what one of these tasks does to its block.
use Rattle.std.proofs.Common.{◌≡◌, ◌≢◌, ℕ, zero, suc, ◌+◌, ◌-◌, ◌*◌, ◌/◌, ◌%◌, ◌<◌, ◌≤◌, ◌⊎◌, inl, inr, Bool, true, false, not, if◌then◌else◌, List, [], ◌∷◌, refl, sym, ◌∙◌, ap, ap₂, subst, arith}
use Rattle.std.specs.Prelude.{◌==◌, ◌&&◌, nat_lt}
use Rattle.std.proofs.Math.Nat.{mod-lt}
use Rattle.std.proofs.lemmas.Nat.{div-add-mod'}
use Rattle.std.proofs.lemmas.Bool.{cases_Bool, cases_eq, and_parts, false≢true, lt-ltb, ltb-true}
use Rattle.std.proofs.lemmas.Bool.Decides.{nat_tests}
use Rattle.residue_sums.specs.Residues.{Cong}
use Rattle.residue_sums.specs.Sums.{sum_below, part_count, part_length, part_sum}
use Rattle.residue_sums.specs.Tables.{Table, product, times, plus, oriented}
use Rattle.residue_sums.specs.Grids.{Grid, entry}
use Rattle.residue_sums.proofs.Congruence.{Cong-refl, Cong-by, Cong-add, Cong-sym, Cong-trans, Cong-from_same, Cong-from_mod, Cong-mod, Cong-multiple, Cong-from_difference}
use Rattle.residue_sums.proofs.Sums.{sum_below-same, sum_below-scale, sum_below-zero}
use Rattle.residue_sums.proofs.Parts.{part_below_count, index_from_place, sum_below-marked_part, part_of_index, index_below}
use Rattle.structure_rules.specs.declared.Structure.{Structure}
use Rattle.structure_rules.specs.declared.Structure.TheVariants.{General, Lower, UnitLower, Upper, UnitUpper, Diagonal, Symmetric}
use Rattle.structure_rules.specs.Structures.{view, IsEntry, IsInside, IsZero, is_zero, transpose_of}
use Rattle.structure_rules.proofs.Views.{view-zero}
use Rattle.structure_rules.proofs.Blocks.{IsZero-block, view-zero_block}
use Rattle.matrix_algebra.proofs.Systems.{Cong-to_negative}
use Rattle.operation_spec.specs.declared.operation.Operation.{Operation}
use Rattle.operation_spec.specs.declared.operation.Factor.{Factor}
use Rattle.operation_spec.specs.declared.operation.Term.{Term}
use Rattle.operation_spec.specs.declared.task.Kind.{Kind}
use Rattle.operation_spec.specs.declared.task.Kind.TheVariants as kinds
use Rattle.operation_spec.specs.declared.task.Task.{Task}
use Rattle.task_graph.specs.Factors.{known, factor_structure}
use Rattle.task_graph.specs.Tasks.{has, has_task, has_term, has_product, is_work_block, is_inside, parts_of}
use Rattle.task_graph.specs.Order.{task_of}
use Rattle.equation.specs.Equations.{known_grid, factor_table, factor_cols, minus, term_table, with_terms}
use Rattle.task_graph.specs.Factors as dims
use Rattle.task_sums.specs.SharedSums.{AgreeFor, IsOfBlock, IsShared}
use Rattle.task_sums.proofs.Shares.{IsShared-none, IsShared-sum, IsShared-products, products}
use Rattle.flash_blocks.specs.Blocks.{Blocks, block_of}
use Rattle.block_tasks.specs.Effects.{factor_rows, AreKnown, factor_block, factor_block_cols}
use Rattle.equation.specs.Kernels.{combined}
use Rattle.block_tasks.proofs.EffectValues.{with_term}
use Rattle.block_tasks.proofs.BlockViews.{factor_block-is, factor_block_cols-is}
use Rattle.block_tasks.proofs.TaskTests.{is_task, is_task-self, is_task-or}
use Rattle.block_tasks.proofs.SolveTasks.{operation_tasks, IsSolveTask, DependsOn}

-- ---- a product that is added or subtracted

-- what a product counts where it is moved to the side of what it is taken from
abbrev pub sign : ℕ → Bool → ℕ
sign m negative = if negative then 1 else m - 1

pub combined-Cong : (m : ℕ) → 2 ≤ m → (negative : Bool) (a p : Table) (i j x exact : ℕ) → p i j ≡ exact % m → x ≡ combined m negative a p i j → Cong m (x + sign m negative * exact) (a i j)
combined-Cong m two true a p i j x exact e h =
    let below : p i j < m = rw e (mod-lt exact (omega arith)) in
    let moved : Cong m (x + p i j) (a i j) = Cong-from_difference (p i j) (a i j + (m - p i j)) h (omega arith) in
    Cong-by (Cong-add moved (Cong-sym (Cong-from_mod e))) (omega arith)
combined-Cong m two false a p i j x exact e h =
    Cong-to_negative m x exact (a i j) two (Cong-by (Cong-add (Cong-from_mod h) (Cong-from_mod e)) (omega arith))

-- ---- zero blocks

pub zero_from_test : (s : Structure) (i k : ℕ) → not (is_zero s i k) ≡ false → IsZero s i k
zero_from_test General i k h = absurd (false≢true (sym h))
zero_from_test Symmetric i k h = absurd (false≢true (sym h))
zero_from_test Lower i k h = grind (arith, nat_tests)
zero_from_test UnitLower i k h = grind (arith, nat_tests)
zero_from_test Upper i k h = grind (arith, nat_tests)
zero_from_test UnitUpper i k h = grind (arith, nat_tests)
zero_from_test Diagonal i k h = λ e. grind (arith, nat_tests)

zero_turned : (s : Structure) (i k : ℕ) → IsZero (transpose_of s) i k → IsZero s k i
zero_turned General i k h = h
zero_turned Symmetric i k h = h
zero_turned Lower i k h = h
zero_turned UnitLower i k h = h
zero_turned Upper i k h = h
zero_turned UnitUpper i k h = h
zero_turned Diagonal i k h = λ e. h (sym e)

-- a zero block of op(F)
pub factor-zero_block : (op : Operation) (knowns : List Grid) (f : Factor) (b r c : ℕ) → is_inside op f (r / b) (c / b) ≡ false → factor_table op knowns f r c ≡ 0
factor-zero_block op knowns f b r c h = go f.primed h
  where
    s : Structure
    s = (known op f.known).structure

    a : Table
    a = entry (known_grid knowns f.known)

    go : (primed : Bool) → not (is_zero (if primed then transpose_of (known op f.known).structure else (known op f.known).structure) (r / b) (c / b)) ≡ false
        → oriented primed (view (known op f.known).structure (entry (known_grid knowns f.known))) r c ≡ 0
    go true h = view-zero_block s a b c r (zero_turned s (r / b) (c / b) (zero_from_test (transpose_of s) (r / b) (c / b) h))
    go false h = view-zero_block s a b r c (zero_from_test s (r / b) (c / b) h)

-- ---- a block of W

pub work_block-inside : (op : Operation) (counts : List ℕ) (b i j rows cols : ℕ) → 0 < b → parts_of counts op.work.rows ≡ part_count rows b → parts_of counts op.work.cols ≡ part_count cols b
    → IsEntry rows cols op.work.structure i j → is_work_block op counts (i / b) (j / b) ≡ true
work_block-inside op counts b i j rows cols pos rows_are cols_are within = go (cases_Bool (is_zero op.work.structure (i / b) (j / b)))
  where
    row : nat_lt (i / b) (parts_of counts op.work.rows) ≡ true
    row = lt-ltb (i / b) (parts_of counts op.work.rows) (rw rows_are (part_below_count rows b i pos within.row))

    col : nat_lt (j / b) (parts_of counts op.work.cols) ≡ true
    col = lt-ltb (j / b) (parts_of counts op.work.cols) (rw cols_are (part_below_count cols b j pos within.col))

    go : (is_zero op.work.structure (i / b) (j / b) ≡ true) ⊎ (is_zero op.work.structure (i / b) (j / b) ≡ false) → is_work_block op counts (i / b) (j / b) ≡ true
    go (inl none) = absurd (within.inside (IsZero-block op.work.structure b i j (zero_from_test op.work.structure (i / b) (j / b) (rw none refl))))
    go (inr inside) = rw (row, col, inside) refl

-- ---- sums of products whose tasks go by parts

-- a share of nothing
pub products-none : (n : ℕ) (owner : ℕ → Task) (value : ℕ → ℕ) (t : Task) → ((k : ℕ) → k < n → is_task t (owner k) ≡ 0) → sum_below (λ k. is_task t (owner k) * value k) n ≡ 0
products-none n owner value t none = sum_below-zero (λ k. is_task t (owner k) * value k) n (λ k h. rw (none k h) (omega arith))

pub kinds-apart : (t u : Task) → t.kind ≢ u.kind → is_task t u ≡ 0
kinds-apart t u apart = elim (is_task-or t u) [ inl h ↦ h | inr e ↦ absurd (apart (ap (λ (v : Task). v.kind) e)) ]

pub terms-apart : (t u : Task) → t.term ≢ u.term → is_task t u ≡ 0
terms-apart t u apart = elim (is_task-or t u) [ inl h ↦ h | inr e ↦ absurd (apart (ap (λ (v : Task). v.term) e)) ]

pub inner-apart : (t u : Task) → t.k ≢ u.k → is_task t u ≡ 0
inner-apart t u apart = elim (is_task-or t u) [ inl h ↦ h | inr e ↦ absurd (apart (ap (λ (v : Task). v.k) e)) ]

-- the share of the task that has part q
pub products-part : (n b : ℕ) (owner : ℕ → Task) (value : ℕ → ℕ) (t : Task) (q : ℕ) → 0 < b → q < part_count n b → t ≡ owner q → ((p : ℕ) → p ≢ q → is_task t (owner p) ≡ 0)
    → sum_below (λ k. is_task t (owner (k / b)) * value k) n ≡ part_sum n b value q
products-part n b owner value t q pos below here others =
    sum_below-marked_part n b q value (λ p. is_task t (owner p)) pos below (rw (← here) (is_task-self t)) others

-- the product of a block of op(F) and another table, as a sum over a part of the whole product
module _ (op : Operation) (b : ℕ) (knowns : List Grid) (pos : 0 < b) where
  -- a factor of so many rows and columns, square where its structure is not general
  pub record HasFactor (f : Factor) (rows cols : ℕ) : Type 0 where
    pub rows_are : factor_rows knowns f ≡ rows
    pub cols_are : factor_cols knowns f ≡ cols
    pub square : (known op f.known).structure ≢ General → (known_grid knowns f.known).rows ≡ (known_grid knowns f.known).cols

  -- entry (r, k) of op(F) in its block, where k is the q-th of part p
  pub factor_at : (known_blocks : ℕ → Blocks) → AreKnown b knowns known_blocks → (f : Factor) (rows cols r p q : ℕ) → HasFactor f rows cols → is_inside op f (r / b) p ≡ true → r < rows → q < part_length cols b p
      → factor_block op known_blocks f (r / b) p (r % b) q ≡ factor_table op knowns f r (p * b + q)
  factor_at known_blocks are f rows cols r p q has inside row col =
      let place = index_from_place rows b r pos row in
      factor_block-is op b knowns known_blocks are f has.square (r / b) p (r % b) q inside (rw has.rows_are place.1) (rw has.cols_are col)
      ∙ ap (λ (x : ℕ). factor_table op knowns f x (p * b + q)) place.0

  -- entry (k, c), where k is the q-th of part p
  pub factor_at_row : (known_blocks : ℕ → Blocks) → AreKnown b knowns known_blocks → (f : Factor) (rows cols p q c : ℕ) → HasFactor f rows cols → is_inside op f p (c / b) ≡ true → q < part_length rows b p → c < cols
      → factor_block op known_blocks f p (c / b) q (c % b) ≡ factor_table op knowns f (p * b + q) c
  factor_at_row known_blocks are f rows cols p q c has inside row col =
      let place = index_from_place cols b c pos col in
      factor_block-is op b knowns known_blocks are f has.square p (c / b) q (c % b) inside (rw has.rows_are row) (rw has.cols_are place.1)
      ∙ ap (λ (x : ℕ). factor_table op knowns f (p * b + q) x) place.0

-- ---- the terms

module _ (m b : ℕ) (two : 2 ≤ m) (pos : 0 < b) (op : Operation) (knowns : List Grid) (work : Grid) (counts : List ℕ)
    (rows_are : parts_of counts op.work.rows ≡ part_count work.rows b) (cols_are : parts_of counts op.work.cols ≡ part_count work.cols b) where
  abbrev Inside : ℕ → ℕ → Type 0
  Inside = IsEntry work.rows work.cols op.work.structure

  abbrev Exists : Task → Type 0
  Exists u = has op counts u ≡ true

  abbrev pub IsSharedSum : ((Task → ℕ) → Table → ℕ → ℕ → ℕ) → Type 0
  IsSharedSum S = IsShared b (operation_tasks op counts) (IsEntry work.rows work.cols op.work.structure) S

  -- the sizes of a term's factors
  pub record HasTerm (term : Term) : Type 0 where
    pub first : HasFactor op b knowns pos term.first work.rows (factor_cols knowns term.first)
    pub second : HasFactor op b knowns pos term.second (factor_cols knowns term.first) work.cols
    pub parts : parts_of counts (dims.factor_cols op term.first) ≡ part_count (factor_cols knowns term.first) b

  abbrev pub HasTerms : List Term → Type 0
  HasTerms [] = Unit {0}
  HasTerms (term ∷ terms) = HasTerm term × HasTerms terms

  abbrev term_owner : ℕ → ℕ → ℕ → ℕ → Task
  term_owner s r c k = task_of kinds.Term (suc s) (r / b) (c / b) (k / b)

  abbrev term_value : Term → Table → ℕ → ℕ → ℕ → ℕ
  term_value term w r c k = sign m term.minus * (factor_table op knowns term.first r k * factor_table op knowns term.second k c)

  -- the sum of the products of terms, the first of which has number s + 1
  abbrev pub terms_sum : List Term → ℕ → (Task → ℕ) → Table → ℕ → ℕ → ℕ
  terms_sum [] s f w r c = 0
  terms_sum (term ∷ terms) s f w r c = sum_below (λ k. f (term_owner s r c k) * term_value term w r c k) (factor_cols knowns term.first) + terms_sum terms (suc s) f w r c

  -- the tasks of terms from number s + 1 on are those of the operation
  abbrev pub AreTermsFrom : List Term → ℕ → Type 0
  AreTermsFrom terms s = (q i j k : ℕ) → has_term op counts op.terms (s + q) i j k ≡ has_term op counts terms q i j k

  AreTermsFrom-next : (term : Term) (terms : List Term) (s : ℕ) → AreTermsFrom (term ∷ terms) s → AreTermsFrom terms (suc s)
  AreTermsFrom-next term terms s are q i j k = let e : suc s + q ≡ s + suc q = omega arith in rw e (are (suc q) i j k)

  -- a product has its task, or is 0
  term-exists : (term : Term) (terms : List Term) (s : ℕ) → AreTermsFrom (term ∷ terms) s → HasTerm term → (r c k : ℕ) → Inside r c → k < factor_cols knowns term.first
      → Exists (term_owner s r c k) ⊎ ((w : Table) → term_value term w r c k ≡ 0)
  term-exists term terms s are has_sizes r c k within below =
      go (cases_Bool (is_inside op term.first (r / b) (k / b))) (cases_Bool (is_inside op term.second (k / b) (c / b)))
    where
      part : nat_lt (k / b) (parts_of counts (dims.factor_cols op term.first)) ≡ true
      part = lt-ltb (k / b) (parts_of counts (dims.factor_cols op term.first)) (rw has_sizes.parts (part_below_count (factor_cols knowns term.first) b k pos below))

      here : has_term op counts op.terms s (r / b) (c / b) (k / b) ≡ has_product op counts term (r / b) (c / b) (k / b)
      here = let e : s + 0 ≡ s = omega arith in rw e at (are 0 (r / b) (c / b) (k / b))

      go : (is_inside op term.first (r / b) (k / b) ≡ true) ⊎ (is_inside op term.first (r / b) (k / b) ≡ false)
          → (is_inside op term.second (k / b) (c / b) ≡ true) ⊎ (is_inside op term.second (k / b) (c / b) ≡ false)
          → Exists (term_owner s r c k) ⊎ ((w : Table) → term_value term w r c k ≡ 0)
      go (inr none) y = inr (λ w. rw (factor-zero_block op knowns term.first b r k none) (omega arith))
      go (inl x) (inr none) = inr (λ w. rw (factor-zero_block op knowns term.second b k c none) (omega arith))
      go (inl x) (inl y) = inl (rw (work_block-inside op counts b r c work.rows work.cols pos rows_are cols_are within, here) (rw (part, x, y) refl))

  pub IsShared-terms : (terms : List Term) (s : ℕ) → AreTermsFrom terms s → HasTerms terms → IsSharedSum (terms_sum terms s)
  IsShared-terms [] s are have = IsShared-none b (operation_tasks op counts) Inside
  IsShared-terms (term ∷ terms) s are have =
      IsShared-sum b (operation_tasks op counts) Inside
      (products b (operation_tasks op counts) Inside (factor_cols knowns term.first) (term_owner s) (term_value term)) (terms_sum terms (suc s))
      (IsShared-products b (operation_tasks op counts) Inside (factor_cols knowns term.first) (term_owner s) (term_value term)
      (λ r c k within below. (refl, refl))
      (λ r c k within below. term-exists term terms s are have.0 r c k within below)
      (λ w w' r c k within below agree. refl))
      (IsShared-terms terms (suc s) (AreTermsFrom-next term terms s are) have.1)

  -- a task of another kind has no share of the terms
  pub terms-other : (terms : List Term) (s : ℕ) (t : Task) (w : Table) (r c : ℕ) → t.kind ≢ kinds.Term → terms_sum terms s (is_task t) w r c ≡ 0
  terms-other [] s t w r c apart = refl
  terms-other (term ∷ terms) s t w r c apart =
      omega (
        arith,
        products-none (factor_cols knowns term.first) (term_owner s r c) (term_value term w r c) t (λ k h. kinds-apart t (term_owner s r c k) apart),
        terms-other terms (suc s) t w r c apart,
      )

  -- nor has the task of an earlier term
  terms-earlier : (terms : List Term) (s : ℕ) (t : Task) (w : Table) (r c : ℕ) → t.term ≤ s → terms_sum terms s (is_task t) w r c ≡ 0
  terms-earlier [] s t w r c le = refl
  terms-earlier (term ∷ terms) s t w r c le =
      omega (
        arith,
        products-none (factor_cols knowns term.first) (term_owner s r c) (term_value term w r c) t (λ k h. terms-apart t (term_owner s r c k) (λ e. absurd (omega arith))),
        terms-earlier terms (suc s) t w r c (omega arith),
      )

  -- the product of two blocks, exact
  abbrev block_product : Term → ℕ → ℕ → ℕ → ℕ
  block_product term r c p = sum_below (λ q. factor_table op knowns term.first r (p * b + q) * factor_table op knowns term.second (p * b + q) c) (part_length (factor_cols knowns term.first) b p)

  blocks-product : (known_blocks : ℕ → Blocks) → AreKnown b knowns known_blocks → (term : Term) (r c p : ℕ) → HasTerm term → Inside r c → has_product op counts term (r / b) (c / b) p ≡ true
      → times m (factor_block_cols op known_blocks term.first (r / b) p) (factor_block op known_blocks term.first (r / b) p) (factor_block op known_blocks term.second p (c / b)) (r % b) (c % b)
      ≡ block_product term r c p % m
  blocks-product known_blocks are term r c p has_sizes within has_it =
      let t = and_parts (nat_lt p (parts_of counts (dims.factor_cols op term.first)) && is_inside op term.first (r / b) p) (is_inside op term.second p (c / b)) has_it in
      let u = and_parts (nat_lt p (parts_of counts (dims.factor_cols op term.first))) (is_inside op term.first (r / b) p) t.0 in
      ap (λ (x : ℕ). x % m)
      (ap (λ (n : ℕ). sum_below (λ q. factor_block op known_blocks term.first (r / b) p (r % b) q * factor_block op known_blocks term.second p (c / b) q (c % b)) n)
      (factor_block_cols-is op b knowns known_blocks are term.first has_sizes.first.square (r / b) p (rw has_sizes.first.rows_are (part_below_count work.rows b r pos within.row))
      (rw has_sizes.parts at (ltb-true p (parts_of counts (dims.factor_cols op term.first)) u.0)))
      ∙ sum_below-same (λ q. factor_block op known_blocks term.first (r / b) p (r % b) q * factor_block op known_blocks term.second p (c / b) q (c % b))
      (λ q. factor_table op knowns term.first r (p * b + q) * factor_table op knowns term.second (p * b + q) c) (part_length (factor_cols knowns term.first) b p)
      (λ q h. ap₂ (λ (x y : ℕ). x * y)
      (factor_at op b knowns pos known_blocks are term.first work.rows (factor_cols knowns term.first) r p q has_sizes.first u.1 within.row h)
      (factor_at_row op b knowns pos known_blocks are term.second (factor_cols knowns term.first) work.cols p q c has_sizes.second t.1 h within.col)))

  -- the share of the task of a term, as the product of two blocks
  term-share : (term : Term) (s : ℕ) (t : Task) (w : Table) (r c : ℕ) → HasTerm term → t.kind ≡ kinds.Term → t.term ≡ suc s → t.i ≡ r / b → t.j ≡ c / b
      → has_product op counts term (r / b) (c / b) t.k ≡ true
      → sum_below (λ k. is_task t (term_owner s r c k) * term_value term w r c k) (factor_cols knowns term.first) ≡ sign m term.minus * block_product term r c t.k
  term-share term s t w r c has_sizes kind number row col has_it =
      let u = and_parts (nat_lt t.k (parts_of counts (dims.factor_cols op term.first)) && is_inside op term.first (r / b) t.k) (is_inside op term.second t.k (c / b)) has_it in
      let v = and_parts (nat_lt t.k (parts_of counts (dims.factor_cols op term.first))) (is_inside op term.first (r / b) t.k) u.0 in
      let below : t.k < part_count (factor_cols knowns term.first) b = rw has_sizes.parts at (ltb-true t.k (parts_of counts (dims.factor_cols op term.first)) v.0) in
      products-part (factor_cols knowns term.first) b (λ p. task_of kinds.Term (suc s) (r / b) (c / b) p) (term_value term w r c) t t.k pos below
      (λ x. record { kind = kind x; term = number x; i = row x; j = col x; k = t.k })
      (λ p apart. inner-apart t (task_of kinds.Term (suc s) (r / b) (c / b) p) (λ e. apart (sym e)))
      ∙ sum_below-scale (sign m term.minus) (λ q. factor_table op knowns term.first r (t.k * b + q) * factor_table op knowns term.second (t.k * b + q) c) (part_length (factor_cols knowns term.first) b t.k)

  -- what the task of a term leaves in its block
  pub terms-updated : (known_blocks : ℕ → Blocks) → AreKnown b knowns known_blocks → (terms : List Term) (s q : ℕ) (t : Task) (w a : Table) (r c x : ℕ) → AreTermsFrom terms s → HasTerms terms → t.kind ≡ kinds.Term → t.term ≡ suc (s + q) → t.i ≡ r / b → t.j ≡ c / b
      → Inside r c → has_term op counts terms q (r / b) (c / b) t.k ≡ true
      → x ≡ with_term m op known_blocks terms q (r / b) (c / b) t.k a (r % b) (c % b)
      → Cong m (x + terms_sum terms s (is_task t) w r c) (a (r % b) (c % b))
  terms-updated known_blocks are_known [] s q t w a r c x are have kind number row col within has_it e = absurd (false≢true has_it)
  terms-updated known_blocks are_known (term ∷ terms) s zero t w a r c x are have kind number row col within has_it e =
      let n : t.term ≡ suc s = omega arith in
      Cong-by (combined-Cong m two term.minus a _ (r % b) (c % b) x (block_product term r c t.k) (blocks-product known_blocks are_known term r c t.k have.0 within has_it) e)
      (omega (arith, term-share term s t w r c have.0 kind n row col has_it, terms-earlier terms (suc s) t w r c (omega arith)))
  terms-updated known_blocks are_known (term ∷ terms) s (suc q) t w a r c x are have kind number row col within has_it e =
      Cong-by (terms-updated known_blocks are_known terms (suc s) q t w a r c x (AreTermsFrom-next term terms s are) have.1 kind (omega arith) row col within has_it e)
      (omega (arith, products-none (factor_cols knowns term.first) (term_owner s r c) (term_value term w r c) t (λ k h. terms-apart t (term_owner s r c k) (λ f. absurd (omega arith)))))

  weigh-term : (term : Term) (w : Table) (r c : ℕ) → sum_below (λ k. 1 * term_value term w r c k) (factor_cols knowns term.first)
      ≡ sign m term.minus * sum_below (λ k. factor_table op knowns term.first r k * factor_table op knowns term.second k c) (factor_cols knowns term.first)
  weigh-term term w r c =
      sum_below-same (λ k. 1 * term_value term w r c k) (term_value term w r c) (factor_cols knowns term.first) (λ k h. omega arith)
      ∙ sum_below-scale (sign m term.minus) (λ k. factor_table op knowns term.first r k * factor_table op knowns term.second k c) (factor_cols knowns term.first)

  -- with weight 1 for each task, the right side with these sums is the table
  pub terms-whole : (terms : List Term) (s : ℕ) (a w : Table) (r c : ℕ) → Cong m (with_terms m op knowns terms a r c + terms_sum terms s (λ u. 1) w r c) (a r c)
  terms-whole [] s a w r c = Cong-from_same (omega arith)
  terms-whole (term ∷ terms) s a w r c =
      let next : Table = combined m term.minus a (term_table m op knowns term) in
      let rest : Cong m (with_terms m op knowns terms next r c + terms_sum terms (suc s) (λ u. 1) w r c) (next r c) = terms-whole terms (suc s) next w r c in
      Cong-by (Cong-add rest (combined-Cong m two term.minus a (term_table m op knowns term) r c (next r c)
      (sum_below (λ k. factor_table op knowns term.first r k * factor_table op knowns term.second k c) (factor_cols knowns term.first)) refl refl))
      (omega (arith, weigh-term term w r c))
