-- What is read of a block, as what is read of the whole matrix. Cited by the shares of all tasks.
use Rattle.std.proofs.Common.{◌≡◌, ◌≢◌, ℕ, zero, suc, ◌+◌, ◌*◌, ◌/◌, ◌%◌, ◌<◌, ◌≤◌, ◌⊎◌, inl, inr, Bool, true, false, not, if◌then◌else◌, List, refl, sym, ◌∙◌, ap, arith}
use Rattle.std.specs.Prelude.{◌==◌}
use Rattle.std.proofs.lemmas.Bool.{cases_eq, not-true}
use Rattle.std.proofs.lemmas.Bool.Decides.{nat_tests}
use Rattle.residue_sums.specs.Sums.{part_count, part_length}
use Rattle.residue_sums.specs.Tables.{Table, oriented, transpose}
use Rattle.residue_sums.specs.Grids.{Grid, entry}
use Rattle.residue_sums.proofs.Parts.{part_of_index, index_below, part_below_count}
use Rattle.structure_rules.specs.declared.Structure.{Structure}
use Rattle.structure_rules.specs.declared.Structure.TheVariants.{General, Lower, UnitLower, Upper, UnitUpper, Diagonal, Symmetric}
use Rattle.structure_rules.specs.Structures.{view, stored_of, IsInside, is_zero, transpose_of}
use Rattle.structure_rules.proofs.Views.{view-diagonal_block}
use Rattle.structure_rules.proofs.Blocks.{view-other_block}
use Rattle.operation_spec.specs.declared.operation.Operation.{Operation}
use Rattle.operation_spec.specs.declared.operation.Factor.{Factor}
use Rattle.task_graph.specs.Factors.{known, factor_structure}
use Rattle.task_graph.specs.Tasks.{is_inside}
use Rattle.equation.specs.Equations.{known_grid, factor_table, factor_cols}
use Rattle.equation.proofs.AssignedGrids.{HasEntries-grid_of}
use Rattle.flash_blocks.specs.Blocks.{Blocks, block_of}
use Rattle.block_tasks.specs.Effects.{AreKnown, factor_rows, view_block, view_block_cols, view_block_rows, factor_block, factor_block_cols}

-- an entry of a block
pub block_entry : (b : ℕ) (g : Grid) (i j r c : ℕ) → r < part_length g.rows b i → c < part_length g.cols b j → entry (block_of b g i j) r c ≡ entry g (i * b + r) (j * b + c)
block_entry b g i j r c row col = HasEntries-grid_of (λ r c. entry g (i * b + r) (j * b + c)) (part_length g.rows b i) (part_length g.cols b j) r c row col

-- a view reads one entry, or its mirror image
view-reads : (s : Structure) (a a' : Table) (r c : ℕ) → a r c ≡ a' r c → (s ≡ Symmetric → a c r ≡ a' c r) → view s a r c ≡ view s a' r c
view-reads General a a' r c e f = grind (arith, nat_tests)
view-reads Lower a a' r c e f = grind (arith, nat_tests)
view-reads UnitLower a a' r c e f = grind (arith, nat_tests)
view-reads Upper a a' r c e f = grind (arith, nat_tests)
view-reads UnitUpper a a' r c e f = grind (arith, nat_tests)
view-reads Diagonal a a' r c e f = grind (arith, nat_tests)
view-reads Symmetric a a' r c e f = let g : a c r ≡ a' c r = f refl in grind (arith, nat_tests)

symmetric_not_general : (s : Structure) → s ≡ Symmetric → s ≢ General
symmetric_not_general s e f = absurd (cc)

-- a part that has an index is one of the parts
pub part-in : (n b p r : ℕ) → r < part_length n b p → p < part_count n b
part-in n b p r h =
    let e : (p * b + r) / b ≡ p = part_of_index n b p r h in
    rw e at (part_below_count n b (p * b + r) (omega (arith, h)) (index_below n b p r h))

-- blocks that are those of a matrix
abbrev pub AreBlocks : ℕ → Grid → Blocks → Type 0
AreBlocks b g blocks = (i j : ℕ) → i < part_count g.rows b → j < part_count g.cols b → blocks i j ≡ block_of b g i j

module _ (s : Structure) (b : ℕ) (g : Grid) (blocks : Blocks) (are : AreBlocks b g blocks) (square : s ≢ General → g.rows ≡ g.cols) (i k : ℕ) where
  entry_of : (i j r c : ℕ) → r < part_length g.rows b i → c < part_length g.cols b j → entry (blocks i j) r c ≡ entry g (i * b + r) (j * b + c)
  entry_of i j r c row col = ap (λ (x : Grid). entry x r c) (are i j (part-in g.rows b i r row) (part-in g.cols b j c col)) ∙ block_entry b g i j r c row col

  -- the diagonal block of a view
  diagonal : (r c : ℕ) → i ≡ k → r < part_length g.rows b i → c < part_length g.cols b k → view s (entry (blocks i k)) r c ≡ view s (entry g) (i * b + r) (k * b + c)
  diagonal r c same row col =
      view-reads s (entry (blocks i k)) (λ r c. entry g (i * b + r) (k * b + c)) r c (entry_of i k r c row col)
      (λ e. let q : g.rows ≡ g.cols = square (symmetric_not_general s e) in
      entry_of i k c r (rw (q, same) col) (rw (← q, ← same) row))
      ∙ rw same (sym (view-diagonal_block s (entry g) (k * b) r c))

  -- a block at the stored place
  stored : (r c : ℕ) → (p : Bool) (row col : ℕ) → r < part_length g.rows b i → c < part_length g.cols b k → ((p ≡ true) → (row ≡ k) × (col ≡ i) × (g.rows ≡ g.cols)) → ((p ≡ false) → (row ≡ i) × (col ≡ k))
      → oriented p (entry (blocks row col)) r c ≡ oriented p (entry g) (i * b + r) (k * b + c)
  stored r c true row col r_in c_in e f =
      let h = e refl in
      rw (h.0, h.1) (entry_of k i c r (rw h.2 c_in) (rw (← h.2) r_in))
  stored r c false row col r_in c_in e f = let h = f refl in rw (h.0, h.1) (entry_of i k r c r_in c_in)

  stored_turned : (t : Structure) → (stored_of t i k).transposed ≡ true → ((stored_of t i k).row ≡ k) × ((stored_of t i k).col ≡ i) × (t ≢ General)
  stored_turned General e = absurd (cc)
  stored_turned Lower e = absurd (cc)
  stored_turned UnitLower e = absurd (cc)
  stored_turned Upper e = absurd (cc)
  stored_turned UnitUpper e = absurd (cc)
  stored_turned Diagonal e = absurd (cc)
  stored_turned Symmetric e = (grind (arith, nat_tests), grind (arith, nat_tests), λ f. absurd (cc))

  stored_straight : (t : Structure) → (stored_of t i k).transposed ≡ false → ((stored_of t i k).row ≡ i) × ((stored_of t i k).col ≡ k)
  stored_straight General e = (refl, refl)
  stored_straight Lower e = (refl, refl)
  stored_straight UnitLower e = (refl, refl)
  stored_straight Upper e = (refl, refl)
  stored_straight UnitUpper e = (refl, refl)
  stored_straight Diagonal e = (refl, refl)
  stored_straight Symmetric e = (grind (arith, nat_tests), grind (arith, nat_tests))

  -- a block of a view
  pub view_block-is : (r c : ℕ) → IsInside s i k → r < part_length g.rows b i → c < part_length g.cols b k
      → view_block s blocks i k r c ≡ view s (entry g) (i * b + r) (k * b + c)
  view_block-is r c inside row col = go (cases_eq i k)
    where
      at : ((i * b + r) / b ≡ i) × ((k * b + c) / b ≡ k)
      at = (part_of_index g.rows b i r row, part_of_index g.cols b k c col)

      go : (i ≡ k) ⊎ (i ≢ k) → view_block s blocks i k r c ≡ view s (entry g) (i * b + r) (k * b + c)
      go (inl same) = (let e : (i == k) ≡ true = grind (arith, nat_tests) in rw e (diagonal r c same row col))
      go (inr apart) =
          let e : (i == k) ≡ false = grind (arith, nat_tests) in
          rw e (stored r c (stored_of s i k).transposed (stored_of s i k).row (stored_of s i k).col row col
          (λ t. let h = stored_turned s t in (h.0, h.1, square h.2)) (stored_straight s))
          ∙ sym (rw (at.0, at.1) at (view-other_block s (entry g) b (i * b + r) (k * b + c) (rw (at.0, at.1) inside) (rw (at.0, at.1) apart)))

  -- the number of its columns and of its rows
  cols_of : i < part_count g.rows b → k < part_count g.cols b → (p : Bool) (row col : ℕ) → ((p ≡ true) → (row ≡ k) × (col ≡ i) × (g.rows ≡ g.cols)) → ((p ≡ false) → (row ≡ i) × (col ≡ k))
      → (if p then (blocks row col).rows else (blocks row col).cols) ≡ part_length g.cols b k
  cols_of i_in k_in true row col e f = let h = e refl in rw (h.0, h.1) (rw (are k i (rw h.2 k_in) (rw (← h.2) i_in)) (rw h.2 refl))
  cols_of i_in k_in false row col e f = let h = f refl in rw (h.0, h.1) (rw (are i k i_in k_in) refl)

  rows_of : i < part_count g.rows b → k < part_count g.cols b → (p : Bool) (row col : ℕ) → ((p ≡ true) → (row ≡ k) × (col ≡ i) × (g.rows ≡ g.cols)) → ((p ≡ false) → (row ≡ i) × (col ≡ k))
      → (if p then (blocks row col).cols else (blocks row col).rows) ≡ part_length g.rows b i
  rows_of i_in k_in true row col e f = let h = e refl in rw (h.0, h.1) (rw (are k i (rw h.2 k_in) (rw (← h.2) i_in)) (rw h.2 refl))
  rows_of i_in k_in false row col e f = let h = f refl in rw (h.0, h.1) (rw (are i k i_in k_in) refl)

  pub view_block_cols-is : i < part_count g.rows b → k < part_count g.cols b → view_block_cols s blocks i k ≡ part_length g.cols b k
  view_block_cols-is i_in k_in = cols_of i_in k_in (stored_of s i k).transposed (stored_of s i k).row (stored_of s i k).col (λ t. let h = stored_turned s t in (h.0, h.1, square h.2)) (stored_straight s)

  pub view_block_rows-is : i < part_count g.rows b → k < part_count g.cols b → view_block_rows s blocks i k ≡ part_length g.rows b i
  view_block_rows-is i_in k_in = rows_of i_in k_in (stored_of s i k).transposed (stored_of s i k).row (stored_of s i k).col (λ t. let h = stored_turned s t in (h.0, h.1, square h.2)) (stored_straight s)

-- ---- op(F)

inside_turned : (s : Structure) (i k : ℕ) → not (is_zero (transpose_of s) i k) ≡ true → IsInside s k i
inside_turned General i k h = λ z. z
inside_turned Symmetric i k h = λ z. z
inside_turned Lower i k h = λ z. grind (arith, nat_tests)
inside_turned UnitLower i k h = λ z. grind (arith, nat_tests)
inside_turned Upper i k h = λ z. grind (arith, nat_tests)
inside_turned UnitUpper i k h = λ z. grind (arith, nat_tests)
inside_turned Diagonal i k h = λ z. grind (arith, nat_tests)

inside_straight : (s : Structure) (i k : ℕ) → not (is_zero s i k) ≡ true → IsInside s i k
inside_straight General i k h = λ z. z
inside_straight Symmetric i k h = λ z. z
inside_straight Lower i k h = λ z. grind (arith, nat_tests)
inside_straight UnitLower i k h = λ z. grind (arith, nat_tests)
inside_straight Upper i k h = λ z. grind (arith, nat_tests)
inside_straight UnitUpper i k h = λ z. grind (arith, nat_tests)
inside_straight Diagonal i k h = λ z. grind (arith, nat_tests)

module _ (op : Operation) (b : ℕ) (knowns : List Grid) (blocks : ℕ → Blocks) (are : AreKnown b knowns blocks) (f : Factor)
    (square : (known op f.known).structure ≢ General → (known_grid knowns f.known).rows ≡ (known_grid knowns f.known).cols) (i k : ℕ) where
  -- an entry of a block of op(F) that is no zero block
  pub factor_block-is : (r c : ℕ) → is_inside op f i k ≡ true → r < part_length (factor_rows knowns f) b i → c < part_length (factor_cols knowns f) b k
      → factor_block op blocks f i k r c ≡ factor_table op knowns f (i * b + r) (k * b + c)
  factor_block-is r c inside row col = go f.primed inside row col
    where
      s : Structure
      s = (known op f.known).structure

      g : Grid
      g = known_grid knowns f.known

      go : (primed : Bool) → not (is_zero (if primed then transpose_of (known op f.known).structure else (known op f.known).structure) i k) ≡ true
          → r < part_length (if primed then (known_grid knowns f.known).cols else (known_grid knowns f.known).rows) b i
          → c < part_length (if primed then (known_grid knowns f.known).rows else (known_grid knowns f.known).cols) b k
          → (if primed then transpose (view_block (known op f.known).structure (blocks f.known) k i)
          else view_block (known op f.known).structure (blocks f.known) i k) r c
          ≡ oriented primed (view (known op f.known).structure (entry (known_grid knowns f.known))) (i * b + r) (k * b + c)
      go true inside row col = view_block-is s b g (blocks f.known) (are f.known) square k i c r (inside_turned s i k inside) col row
      go false inside row col = view_block-is s b g (blocks f.known) (are f.known) square i k r c (inside_straight s i k inside) row col

  pub factor_block_cols-is : i < part_count (factor_rows knowns f) b → k < part_count (factor_cols knowns f) b → factor_block_cols op blocks f i k ≡ part_length (factor_cols knowns f) b k
  factor_block_cols-is i_in k_in = go f.primed i_in k_in
    where
      go : (primed : Bool) → i < part_count (if primed then (known_grid knowns f.known).cols else (known_grid knowns f.known).rows) b
          → k < part_count (if primed then (known_grid knowns f.known).rows else (known_grid knowns f.known).cols) b
          → (if primed then view_block_rows (known op f.known).structure (blocks f.known) k i
          else view_block_cols (known op f.known).structure (blocks f.known) i k)
          ≡ part_length (if primed then (known_grid knowns f.known).rows else (known_grid knowns f.known).cols) b k
      go true i_in k_in = view_block_rows-is (known op f.known).structure b (known_grid knowns f.known) (blocks f.known) (are f.known) square k i k_in i_in
      go false i_in k_in = view_block_cols-is (known op f.known).structure b (known_grid knowns f.known) (blocks f.known) (are f.known) square i k i_in k_in
