-- What a step that ran left in its block, as entries of the whole matrix. Cited by each form.
use Rattle.std.proofs.Common.{◌≡◌, ◌≢◌, ℕ, zero, suc, ◌+◌, ◌-◌, ◌*◌, ◌/◌, ◌%◌, ◌<◌, ◌≤◌, ◌⊎◌, inl, inr, Bool, true, false, not, if◌then◌else◌, List, [], ◌∷◌, refl, sym, ◌∙◌, ap, ap₂, subst, arith}
use Rattle.std.specs.Prelude.{◌==◌, ◌&&◌, nat_lt}
use Rattle.std.proofs.lemmas.Nat.{div-add-mod'}
use Rattle.std.proofs.lemmas.Bool.{cases_Bool, cases_eq, cases_lt, cases_order, and_parts, false≢true, lt-ltb, ltb-true, not-true}
use Rattle.std.proofs.lemmas.Bool.Decides.{nat_tests}
use Rattle.residue_sums.specs.Residues.{Cong}
use Rattle.residue_sums.specs.Sums.{part_count, part_length}
use Rattle.residue_sums.specs.Tables.{Table}
use Rattle.residue_sums.specs.Grids.{Grid, IsFull, AreResidues, entry}
use Rattle.residue_sums.proofs.Parts.{part_below_count, index_from_place}
use Rattle.structure_rules.specs.declared.Structure.{Structure}
use Rattle.structure_rules.specs.declared.Structure.TheVariants.{General, Lower, UnitLower, Upper, UnitUpper, Diagonal, Symmetric}
use Rattle.structure_rules.specs.Structures.{IsEntry, IsInside, IsZero, is_zero}
use Rattle.structure_rules.proofs.Blocks.{IsZero-block}
use Rattle.operation_spec.specs.declared.operation.Operation.{Operation}
use Rattle.operation_spec.specs.declared.task.Kind.{Kind}
use Rattle.operation_spec.specs.declared.task.Kind.TheVariants as kinds
use Rattle.operation_spec.specs.declared.task.Task.{Task}
use Rattle.task_graph.specs.Tasks.{has, has_task, has_term, has_numbered_term, is_work_block, parts_of}
use Rattle.equation.proofs.AssignedGrids.{HasResidues-entry}
use Rattle.flash_blocks.specs.Blocks.{Blocks, block_of, gathered, grid_of}
use Rattle.equation.specs.Kernels.{IsValue}
use Rattle.block_tasks.specs.Effects.{IsEffect, block_structure}
use Rattle.block_tasks.proofs.EffectValues.{left_of, right_of, with_numbered_term}
use Rattle.block_tasks.proofs.BlockViews.{block_entry}
use Rattle.block_tasks.proofs.TaskTests.{is_task}
use Rattle.statement_runs.specs.StatementRuns.{IsStatementRun}
use Rattle.statement_runs.proofs.StatementRuns.{sizes, value-own}
use Rattle.block_tasks.proofs.TermSums.{terms_sum, terms-updated, HasTerms, AreTermsFrom}

-- ---- places in a block of a structure

-- moved by the same number of rows and columns, a place is inside where it was
inside-moved : (s : Structure) (d i j r c : ℕ) → d + i ≡ r → d + j ≡ c → IsInside s r c → IsInside s i j
inside-moved General d i j r c e f h = λ z. z
inside-moved Symmetric d i j r c e f h = λ z. z
inside-moved Lower d i j r c e f h = λ z. h (omega arith)
inside-moved UnitLower d i j r c e f h = λ z. h (omega arith)
inside-moved Upper d i j r c e f h = λ z. h (omega arith)
inside-moved UnitUpper d i j r c e f h = λ z. h (omega arith)
inside-moved Diagonal d i j r c e f h = λ z. h (λ g. z (omega arith))

zero-moved : (s : Structure) (d i j r c : ℕ) → d + i ≡ r → d + j ≡ c → IsZero s r c → IsZero s i j
zero-moved General d i j r c e f h = h
zero-moved Symmetric d i j r c e f h = h
zero-moved Lower d i j r c e f h = omega arith
zero-moved UnitLower d i j r c e f h = omega arith
zero-moved Upper d i j r c e f h = omega arith
zero-moved UnitUpper d i j r c e f h = omega arith
zero-moved Diagonal d i j r c e f h = λ g. h (omega arith)

-- a place of a structure in its block
pub block-inside : (s : Structure) (b r c : ℕ) → IsInside s r c → IsInside (block_structure s (r / b) (c / b)) (r % b) (c % b)
block-inside s b r c h = go (cases_eq (r / b) (c / b))
  where
    go : (r / b ≡ c / b) ⊎ (r / b ≢ c / b) → IsInside (block_structure s (r / b) (c / b)) (r % b) (c % b)
    go (inl same) =
        let e : (r / b == c / b) ≡ true = grind (arith, nat_tests) in
        let q : c / b * b + c % b ≡ c = div-add-mod' c b in
        rw e (inside-moved s (r / b * b) (r % b) (c % b) r c (div-add-mod' r b) (rw same q) h)
    go (inr apart) = let e : (r / b == c / b) ≡ false = grind (arith, nat_tests) in rw e (λ z. z)

-- indices in the order of their parts, none before the other by the test
parts-same : (b r c : ℕ) → r < c → nat_lt (r / b) (c / b) ≡ false → r / b ≡ c / b
parts-same b r c less not = elim (cases_order (r / b) (c / b)) [
  | inl same ↦ same
  | inr (inl below) ↦ absurd (false≢true (sym not ∙ lt-ltb (r / b) (c / b) below))
  | inr (inr above) ↦ (let back : c < r = IsZero-block Lower b c r above in absurd (omega arith))
]

-- a zero place of an inside block lies in a diagonal block
zero-diagonal : (s : Structure) (b r c : ℕ) → is_zero s (r / b) (c / b) ≡ false → IsZero s r c → r / b ≡ c / b
zero-diagonal General b r c inside h = absurd h
zero-diagonal Symmetric b r c inside h = absurd h
zero-diagonal Lower b r c inside h = parts-same b r c h inside
zero-diagonal UnitLower b r c inside h = parts-same b r c h inside
zero-diagonal Upper b r c inside h = sym (parts-same b c r h inside)
zero-diagonal UnitUpper b r c inside h = sym (parts-same b c r h inside)
zero-diagonal Diagonal b r c inside h = grind (arith, nat_tests)

-- and so it is a zero place of that block
block-zero : (s : Structure) (b r c : ℕ) → is_zero s (r / b) (c / b) ≡ false → IsZero s r c → IsZero (block_structure s (r / b) (c / b)) (r % b) (c % b)
block-zero s b r c inside h =
    let same : r / b ≡ c / b = zero-diagonal s b r c inside h in
    let e : (r / b == c / b) ≡ true = grind (arith, nat_tests) in
    let q : c / b * b + c % b ≡ c = div-add-mod' c b in
    rw e (zero-moved s (r / b * b) (r % b) (c % b) r c (div-add-mod' r b) (rw (← same) at q) h)

module _ (m b : ℕ) (two : 2 ≤ m) (pos : 0 < b) (op : Operation) (knowns : List Grid) (work : Grid) (counts : List ℕ) (n : ℕ) (task : ℕ → Task) (did : ℕ → Bool) (known_at : ℕ → ℕ → Blocks) (w : ℕ → Blocks)
    (run : IsStatementRun m b op knowns work counts n task did known_at w) where
  abbrev table : ℕ → Table
  table p = gathered b (w p)

  -- a place in its block
  in_block : (p : ℕ) → p ≤ n → (r c : ℕ) → r < work.rows → c < work.cols → (r % b < (w p (r / b) (c / b)).rows) × (c % b < (w p (r / b) (c / b)).cols)
  in_block p le r c row col =
      let size = sizes m b op knowns work counts n task did known_at w run p le (r / b) (c / b) (part_below_count work.rows b r pos row) (part_below_count work.cols b c pos col) in
      (rw size.0 (index_from_place work.rows b r pos row).1, rw size.1 (index_from_place work.cols b c pos col).1)

  -- the first table is the work matrix
  pub table-first : (r c : ℕ) → r < work.rows → c < work.cols → table 0 r c ≡ entry work r c
  table-first r c row col =
      let row_place = index_from_place work.rows b r pos row in
      let col_place = index_from_place work.cols b c pos col in
      ap (λ (g : Grid). entry g (r % b) (c % b)) (run.start (r / b) (c / b) (part_below_count work.rows b r pos row) (part_below_count work.cols b c pos col))
      ∙ block_entry b work (r / b) (c / b) (r % b) (c % b) row_place.1 col_place.1
      ∙ ap₂ (λ (x y : ℕ). entry work x y) row_place.0 col_place.0

  -- what ran in a block, over the block's own row and column
  pub value-of : (p i j : ℕ) → p < n → did p ≡ true → (task p).i ≡ i → (task p).j ≡ j
      → IsValue m (block_structure op.work.structure i j) (left_of m op (known_at p) (w p) (task p).kind i j)
      (right_of m op (known_at p) (w p) (task p).kind (task p).term i j (task p).k) (w p i j) (w (suc p) i j)
  value-of p i j below ran row col = rw (← row, ← col) (value-own m b op knowns work counts n task did known_at w run p below ran)

  -- the equation that a step that ran leaves at an entry of its block
  pub value-at : (p : ℕ) → p < n → did p ≡ true → (r c : ℕ) → IsEntry work.rows work.cols op.work.structure r c → (task p).i ≡ r / b → (task p).j ≡ c / b
      → left_of m op (known_at p) (w p) (task p).kind (r / b) (c / b) (entry (w (suc p) (r / b) (c / b))) (r % b) (c % b)
      ≡ right_of m op (known_at p) (w p) (task p).kind (task p).term (r / b) (c / b) (task p).k (r % b) (c % b)
  value-at p below ran r c within row col =
      let place = in_block p (omega arith) r c within.row within.col in
      (value-of p (r / b) (c / b) below ran row col).equation (r % b) (c % b) place.0 place.1 (block-inside op.work.structure b r c within.inside)

  -- ---- entries outside the structure stay

  outside-step : (p r c : ℕ) → p < n → r < work.rows → c < work.cols → IsZero op.work.structure r c → table p r c ≡ entry work r c → table (suc p) r c ≡ entry work r c
  outside-step p r c below row col none h = go (cases_Bool (did p)) (cases_eq (task p).i (r / b)) (cases_eq (task p).j (c / b))
    where
      go : (did p ≡ true) ⊎ (did p ≡ false) → ((task p).i ≡ r / b) ⊎ ((task p).i ≢ r / b) → ((task p).j ≡ c / b) ⊎ ((task p).j ≢ c / b) → table (suc p) r c ≡ entry work r c
      go (inr idle) x y = ap (λ (g : Grid). entry g (r % b) (c % b)) (run.idle p below idle (r / b) (c / b)) ∙ h
      go (inl ran) (inr x) y = ap (λ (g : Grid). entry g (r % b) (c % b)) (run.elsewhere p below (r / b) (c / b) (inl x)) ∙ h
      go (inl ran) (inl x) (inr y) = ap (λ (g : Grid). entry g (r % b) (c % b)) (run.elsewhere p below (r / b) (c / b) (inr y)) ∙ h
      go (inl ran) (inl x) (inl y) =
          let place = in_block p (omega arith) r c row col in
          let has_it = and_parts (is_work_block op counts (task p).i (task p).j) (has_task op counts (task p).kind (task p).term (task p).i (task p).j (task p).k) (run.exists p below) in
          let block = and_parts (nat_lt (task p).i (parts_of counts op.work.rows) && nat_lt (task p).j (parts_of counts op.work.cols)) (not (is_zero op.work.structure (task p).i (task p).j)) has_it.0 in
          let inside : is_zero op.work.structure (r / b) (c / b) ≡ false = rw (x, y) at (not-true (is_zero op.work.structure (task p).i (task p).j) block.1) in
          (value-of p (r / b) (c / b) below ran x y).others (r % b) (c % b) place.0 place.1 (block-zero op.work.structure b r c inside none) ∙ h

  pub outside : (p : ℕ) → p ≤ n → (r c : ℕ) → r < work.rows → c < work.cols → IsZero op.work.structure r c → table p r c ≡ entry work r c
  outside zero le r c row col none = table-first r c row col
  outside (suc p) le r c row col none = outside-step p r c (omega arith) row col none (outside p (omega arith) r c row col none)

  -- ---- entries are residues

  residues-step : (p r c : ℕ) → p < n → r < work.rows → c < work.cols → table p r c < m → table (suc p) r c < m
  residues-step p r c below row col h = go (cases_Bool (did p)) (cases_eq (task p).i (r / b)) (cases_eq (task p).j (c / b))
    where
      go : (did p ≡ true) ⊎ (did p ≡ false) → ((task p).i ≡ r / b) ⊎ ((task p).i ≢ r / b) → ((task p).j ≡ c / b) ⊎ ((task p).j ≢ c / b) → table (suc p) r c < m
      go (inr idle) x y = rw (run.idle p below idle (r / b) (c / b)) h
      go (inl ran) (inr x) y = rw (run.elsewhere p below (r / b) (c / b) (inl x)) h
      go (inl ran) (inl x) (inr y) = rw (run.elsewhere p below (r / b) (c / b) (inr y)) h
      go (inl ran) (inl x) (inl y) = HasResidues-entry m (w (suc p) (r / b) (c / b)) (omega arith) (value-of p (r / b) (c / b) below ran x y).residues (r % b) (c % b)

  pub residues : AreResidues m work → (p : ℕ) → p ≤ n → (r c : ℕ) → r < work.rows → c < work.cols → table p r c < m
  residues given zero le r c row col = rw (table-first r c row col) (HasResidues-entry m work (omega arith) given r c)
  residues given (suc p) le r c row col = residues-step p r c (omega arith) row col (residues given p (omega arith) r c row col)

  -- ---- the task of a term, in any form

  module _ (rows_are : parts_of counts op.work.rows ≡ part_count work.rows b) (cols_are : parts_of counts op.work.cols ≡ part_count work.cols b)
      (have : HasTerms m b two pos op knowns work counts rows_are cols_are op.terms) where
    pub from_first : AreTermsFrom m b two pos op knowns work counts rows_are cols_are op.terms 0
    from_first q i j k = let e : 0 + q ≡ q = omega arith in rw e refl

    pub term-updated : (p : ℕ) → p < n → did p ≡ true → (task p).kind ≡ kinds.Term → (r c : ℕ) → IsEntry work.rows work.cols op.work.structure r c → (task p).i ≡ r / b → (task p).j ≡ c / b
        → Cong m (table (suc p) r c + terms_sum m b two pos op knowns work counts rows_are cols_are op.terms 0 (is_task (task p)) (table p) r c) (table p r c)
    term-updated p below ran kind r c within row col = go (task p).term refl (rw (kind, row, col) at has_it.1)
      where
        has_it : (is_work_block op counts (task p).i (task p).j ≡ true) × (has_task op counts (task p).kind (task p).term (task p).i (task p).j (task p).k ≡ true)
        has_it = and_parts (is_work_block op counts (task p).i (task p).j) (has_task op counts (task p).kind (task p).term (task p).i (task p).j (task p).k) (run.exists p below)

        value : table (suc p) r c ≡ with_numbered_term m op (known_at p) (task p).term (r / b) (c / b) (task p).k (entry (w p (r / b) (c / b))) (r % b) (c % b)
        value = rw kind at (value-at p below ran r c within row col)

        go : (number : ℕ) → (task p).term ≡ number → has_numbered_term op counts (task p).term (r / b) (c / b) (task p).k ≡ true
            → Cong m (table (suc p) r c + terms_sum m b two pos op knowns work counts rows_are cols_are op.terms 0 (is_task (task p)) (table p) r c) (table p r c)
        go zero e h = absurd (false≢true (rw e at h))
        go (suc q) e h =
            let number : (task p).term ≡ suc (0 + q) = omega arith in
            terms-updated m b two pos op knowns work counts rows_are cols_are (known_at p) (run.known_are p below) op.terms 0 q (task p) (table p) (entry (w p (r / b) (c / b))) r c (table (suc p) r c)
            from_first have kind number row col within (rw e at h) (rw e at value)
