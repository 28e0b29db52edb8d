-- What an operand reads of the block of a factor: its table, its rows and columns. Cited by all kernels that read a factor.
use Rattle.std.proofs.Common.{◌≡◌, ◌≢◌, ℕ, ◌<◌, ◌⊎◌, inl, inr, Bool, true, false, not, if◌then◌else◌, refl, sym, ◌∙◌, ap, ap₂, arith}
use Rattle.std.specs.Prelude.{◌==◌, nat_lt}
use Rattle.std.proofs.lemmas.Bool.{cases_Bool, cases_eq}
use Rattle.std.proofs.lemmas.Bool.Decides.{nat_tests}
use Rattle.residue_sums.specs.Sums.{part_count, part_length}
use Rattle.residue_sums.specs.Tables.{Table, oriented, transpose}
use Rattle.residue_sums.specs.Grids.{Grid, entry}
use Rattle.structure_rules.specs.declared.Structure.{Structure}
use Rattle.structure_rules.specs.declared.Structure.TheVariants.{General, Lower, UnitLower, Upper, UnitUpper, Diagonal, Symmetric}
use Rattle.structure_rules.specs.Structures.{view, stored_of}
use Rattle.matrix_parts.specs.declared.oper.Oper.{Oper}
use Rattle.matrix_parts.specs.Opers.{op_rows, op_cols, op_table, IsOper}
use Rattle.flash_blocks.specs.Blocks.{Blocks}
use Rattle.block_tasks.specs.Effects.{block_structure, view_block, view_block_cols, view_block_rows}
use Rattle.block_kernels.specs.BlockOpers.{is_turned, IsBlockOper}
use Rattle.block_kernels.specs.ReadGrids.{stored_grid}
use Rattle.block_kernels.specs.Ready.{HaveParts}

-- ---- places

-- a place on the diagonal is its own
diagonal_place : (s : Structure) (i k : ℕ) → i ≡ k → ((stored_of s i k).row ≡ i) × ((stored_of s i k).col ≡ k) × ((stored_of s i k).transposed ≡ false)
diagonal_place General i k same = (refl, refl, refl)
diagonal_place Lower i k same = (refl, refl, refl)
diagonal_place UnitLower i k same = (refl, refl, refl)
diagonal_place Upper i k same = (refl, refl, refl)
diagonal_place UnitUpper i k same = (refl, refl, refl)
diagonal_place Diagonal i k same = (refl, refl, refl)
diagonal_place Symmetric i k same = let e : nat_lt i k ≡ false = grind (arith, nat_tests) in rw e (refl, refl, refl)

-- ---- tables

turned_once : (p : Bool) (a : Table) → oriented (not p) a ≡ transpose (oriented p a)
turned_once true a = refl
turned_once false a = refl

-- a view's block, as it is read
straight_table : (s : Structure) (blocks : Blocks) (i k : ℕ)
    → oriented (stored_of s i k).transposed (view (block_structure s i k) (entry (stored_grid s blocks i k))) ≡ view_block s blocks i k
straight_table s blocks i k = go (cases_eq i k)
  where
    go : (i ≡ k) ⊎ (i ≢ k) → oriented (stored_of s i k).transposed (view (block_structure s i k) (entry (stored_grid s blocks i k))) ≡ view_block s blocks i k
    go (inl same) =
        let e : (i == k) ≡ true = grind (arith, nat_tests) in
        let h = diagonal_place s i k same in
        rw (e, h.0, h.1, h.2) refl
    go (inr apart) = let e : (i == k) ≡ false = grind (arith, nat_tests) in rw e refl

-- and transposed
turned_table : (s : Structure) (blocks : Blocks) (i k : ℕ)
    → oriented (not (stored_of s k i).transposed) (view (block_structure s i k) (entry (stored_grid s blocks k i))) ≡ transpose (view_block s blocks k i)
turned_table s blocks i k = go (cases_eq i k)
  where
    go : (i ≡ k) ⊎ (i ≢ k) → oriented (not (stored_of s k i).transposed) (view (block_structure s i k) (entry (stored_grid s blocks k i))) ≡ transpose (view_block s blocks k i)
    go (inl same) =
        let e : (i == k) ≡ true = grind (arith, nat_tests) in
        let f : (k == i) ≡ true = grind (arith, nat_tests) in
        let h = diagonal_place s k i (sym same) in
        rw (e, f, h.0, h.1, h.2) refl
    go (inr apart) =
        let e : (i == k) ≡ false = grind (arith, nat_tests) in
        let f : (k == i) ≡ false = grind (arith, nat_tests) in
        rw (e, f) (turned_once (stored_of s k i).transposed (entry (stored_grid s blocks k i)))

-- ---- the block of a view, or of its transpose

-- the block that it is read from
abbrev pub read_grid : Structure → Blocks → Bool → ℕ → ℕ → Grid
read_grid s blocks primed i k = if primed then stored_grid s blocks k i else stored_grid s blocks i k

abbrev pub read_table : Structure → Blocks → Bool → ℕ → ℕ → Table
read_table s blocks primed i k = if primed then transpose (view_block s blocks k i) else view_block s blocks i k

abbrev pub read_cols : Structure → Blocks → Bool → ℕ → ℕ → ℕ
read_cols s blocks primed i k = if primed then view_block_rows s blocks k i else view_block_cols s blocks i k

abbrev pub read_rows : Structure → Blocks → Bool → ℕ → ℕ → ℕ
read_rows s blocks primed i k = if primed then view_block_cols s blocks k i else view_block_rows s blocks i k

table_by : (s : Structure) (blocks : Blocks) (primed : Bool) (i k : ℕ)
    → oriented (is_turned s primed i k) (view (block_structure s i k) (entry (read_grid s blocks primed i k))) ≡ read_table s blocks primed i k
table_by s blocks true i k = turned_table s blocks i k
table_by s blocks false i k = straight_table s blocks i k

exchanged : (p : Bool) (r c : ℕ) → (if not p then r else c) ≡ (if p then c else r)
exchanged true r c = refl
exchanged false r c = refl

cols_by : (s : Structure) (blocks : Blocks) (primed : Bool) (i k : ℕ)
    → (if is_turned s primed i k then (read_grid s blocks primed i k).rows else (read_grid s blocks primed i k).cols) ≡ read_cols s blocks primed i k
cols_by s blocks true i k = exchanged (stored_of s k i).transposed (stored_grid s blocks k i).rows (stored_grid s blocks k i).cols
cols_by s blocks false i k = refl

rows_by : (s : Structure) (blocks : Blocks) (primed : Bool) (i k : ℕ)
    → (if is_turned s primed i k then (read_grid s blocks primed i k).cols else (read_grid s blocks primed i k).rows) ≡ read_rows s blocks primed i k
rows_by s blocks true i k = exchanged (stored_of s k i).transposed (stored_grid s blocks k i).cols (stored_grid s blocks k i).rows
rows_by s blocks false i k = refl

module _ (s : Structure) (blocks : Blocks) (primed : Bool) (i k : ℕ) (o : Oper) (is : IsBlockOper s primed i k (read_grid s blocks primed i k) o) where
  pub oper-table : op_table o ≡ read_table s blocks primed i k
  oper-table = rw (is.part, is.structure, is.primed_is) (table_by s blocks primed i k)

  pub oper-cols : op_cols o ≡ read_cols s blocks primed i k
  oper-cols = rw (is.part, is.primed_is) (cols_by s blocks primed i k)

  pub oper-rows : op_rows o ≡ read_rows s blocks primed i k
  oper-rows = rw (is.part, is.primed_is) (rows_by s blocks primed i k)

-- ---- sizes, where the blocks are parts of a matrix of so many rows and columns

module _ (s : Structure) (b rows cols : ℕ) (blocks : Blocks) (have : HaveParts b rows cols blocks) (square : s ≢ General → rows ≡ cols) where
  mirrored : rows ≡ cols → (i k : ℕ) → i < part_count rows b → k < part_count cols b → (((blocks k i).rows ≡ part_length cols b k) × ((blocks k i).cols ≡ part_length rows b i))
  mirrored same i k i_in k_in =
      let h = have k i (rw same k_in) (rw (← same) i_in) in
      (h.0 ∙ ap (λ (n : ℕ). part_length n b k) same, h.1 ∙ ap (λ (n : ℕ). part_length n b i) (sym same))

  sizes_by : (t : Structure) (i k : ℕ) → (t ≡ Symmetric → rows ≡ cols) → i < part_count rows b → k < part_count cols b
      → (view_block_rows t blocks i k ≡ part_length rows b i) × (view_block_cols t blocks i k ≡ part_length cols b k)
  sizes_by General i k same i_in k_in = have i k i_in k_in
  sizes_by Lower i k same i_in k_in = have i k i_in k_in
  sizes_by UnitLower i k same i_in k_in = have i k i_in k_in
  sizes_by Upper i k same i_in k_in = have i k i_in k_in
  sizes_by UnitUpper i k same i_in k_in = have i k i_in k_in
  sizes_by Diagonal i k same i_in k_in = have i k i_in k_in
  sizes_by Symmetric i k same i_in k_in = elim (cases_Bool (nat_lt i k)) [
    | inl e ↦ rw e (let h = mirrored (same refl) i k i_in k_in in (h.1, h.0))
    | inr e ↦ rw e (have i k i_in k_in)
  ]

  symmetric_square : s ≡ Symmetric → rows ≡ cols
  symmetric_square e = square (λ f. absurd (cc))

  -- of the view, and of its transpose
  pub read-sizes : (primed : Bool) (i k r c : ℕ) → (if primed then cols else rows) ≡ r → (if primed then rows else cols) ≡ c → i < part_count r b → k < part_count c b
      → (read_rows s blocks primed i k ≡ part_length r b i) × (read_cols s blocks primed i k ≡ part_length c b k)
  read-sizes true i k r c e f i_in k_in =
      let h = sizes_by s k i symmetric_square (rw f k_in) (rw e i_in) in
      (h.1 ∙ ap (λ (n : ℕ). part_length n b i) e, h.0 ∙ ap (λ (n : ℕ). part_length n b k) f)
  read-sizes false i k r c e f i_in k_in =
      let h = sizes_by s i k symmetric_square (rw e i_in) (rw f k_in) in
      (h.0 ∙ ap (λ (n : ℕ). part_length n b i) e, h.1 ∙ ap (λ (n : ℕ). part_length n b k) f)

  -- a block that is viewed itself is square
  diagonal_square : (i : ℕ) → s ≢ General → i < part_count rows b → (blocks i i).rows ≡ (blocks i i).cols
  diagonal_square i ne i_in =
      let same : rows ≡ cols = square ne in
      let h = have i i i_in (rw (← same) i_in) in h.0 ∙ ap (λ (n : ℕ). part_length n b i) same ∙ sym h.1

  own_stored : (i k : ℕ) → i ≡ k → s ≢ General → i < part_count rows b → (stored_grid s blocks i k).rows ≡ (stored_grid s blocks i k).cols
  own_stored i k same ne i_in =
      let h = diagonal_place s i k same in
      let place : stored_grid s blocks i k ≡ blocks i i = ap₂ blocks h.0 (h.1 ∙ sym same) in
      rw place (diagonal_square i ne i_in)

  own_square : (primed : Bool) (i k : ℕ) → i ≡ k → s ≢ General → i < part_count rows b → (read_grid s blocks primed i k).rows ≡ (read_grid s blocks primed i k).cols
  own_square true i k same ne i_in = own_stored k i (sym same) ne (rw (sym same) i_in)
  own_square false i k same ne i_in = own_stored i k same ne i_in

  -- and so the operand is one
  pub read-oper : (primed : Bool) (i k r : ℕ) → (if primed then cols else rows) ≡ r → i < part_count r b → (o : Oper) → IsBlockOper s primed i k (read_grid s blocks primed i k) o → IsOper o
  read-oper primed i k r e i_in o is = go (cases_eq i k)
    where
      in_rows : s ≢ General → i < part_count rows b
      in_rows ne = elim primed as (λ p. (if p then cols else rows) ≡ r → i < part_count rows b) [
        | true ↦ λ f. rw (square ne) (rw (← f) at i_in)
        | false ↦ λ f. rw f i_in
      ] e

      go : (i ≡ k) ⊎ (i ≢ k) → IsOper o
      go (inl same) = λ ne. let q : (i == k) ≡ true = grind (arith, nat_tests) in
          rw is.part (own_square primed i k same (rw (is.structure, q) at ne) (in_rows (rw (is.structure, q) at ne)))
      go (inr apart) = λ ne. let q : (i == k) ≡ false = grind (arith, nat_tests) in absurd ((rw (is.structure, q) at ne) refl)
