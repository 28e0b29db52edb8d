-- From the blocks to the whole and back.
use Rattle.std.proofs.Common.{◌≡◌, ℕ, suc, ◌<◌, List, Bool, true, false, not, refl, sym, subst, arith}
use Rattle.std.specs.Prelude.{◌&&◌}
use Rattle.structure_rules.specs.declared.Structure.TheVariants.{General}
use Rattle.structure_rules.specs.Structures.{IsZero, IsInside}
use Rattle.equation.specs.Equations.{left_side, right_side}
use Rattle.task_graph.specs.Tasks.{is_work_block, parts_of}
use Rattle.block_values.specs.Cuts.{IsIn, part}
use Rattle.block_values.specs.Values.{Setting}
use Rattle.block_values.specs.PartitionedEquations.{EquationHolds}
use Rattle.block_values.proofs.Ranges.{part_of, IsZero-part, starts-le}
use Rattle.block_values.proofs.ZeroBlocks.{test-from_IsInside}
use Rattle.block_values.proofs.Assigned.{IsFitting}
use Rattle.block_values.proofs.SolvedParts.{test-from_lt}

all_three : (p q z : Bool) → p ≡ true → q ≡ true → z ≡ false → p && q && not z ≡ true
all_three true true false h k e = refl
all_three true true true h k e = absurd (cc)
all_three true false z h k e = absurd (cc)
all_three false q z h k e = absurd (cc)

module _ (s : Setting) (lengths : ℕ → ℕ) (counts : List ℕ) (is : IsFitting s lengths counts) where
  -- the block of an entry inside is a block of W
  inside_block : (i j r c : ℕ) → IsIn (part s.starts s.op.work.rows i) r → IsIn (part s.starts s.op.work.cols j) c
      → IsInside s.op.work.structure r c → IsInside s.op.work.structure i j
  inside_block i j r c row col inside outside =
      let dims : s.op.work.rows ≡ s.op.work.cols = is.square (λ e. none (subst (λ z. IsZero z i j) e outside)) in
      inside (IsZero-part s.starts s.op.work.cols (is.cut.from_zero _) (is.cut.ascending _) s.op.work.structure i j r c (subst (λ d. IsIn (part s.starts d i) r) dims row) col outside)
    where
      none : IsZero General i j → ⊥
      none h = h

  -- all blocks together
  pub EquationHolds-whole : ((i j : ℕ) → is_work_block s.op counts i j ≡ true → EquationHolds s i j)
      → (r c : ℕ) → r < lengths s.op.work.rows → c < lengths s.op.work.cols → IsInside s.op.work.structure r c
      → left_side s.modulus s.op s.knowns s.solution r c ≡ right_side s.modulus s.op s.knowns s.work r c
  EquationHolds-whole blocks r c row col inside =
      let at_row = part_of s.starts s.op.work.rows (is.cut.from_zero _) (is.cut.ascending _) r (parts_of counts s.op.work.rows) (rw (is.cut.to_length s.op.work.rows is.row_dim) row) in
      let at_col = part_of s.starts s.op.work.cols (is.cut.from_zero _) (is.cut.ascending _) c (parts_of counts s.op.work.cols) (rw (is.cut.to_length s.op.work.cols is.col_dim) col) in
      let block : is_work_block s.op counts at_row.0 at_col.0 ≡ true = all_three _ _ _ (test-from_lt at_row.0 _ at_row.1) (test-from_lt at_col.0 _ at_col.1)
      (test-from_IsInside s.op.work.structure at_row.0 at_col.0 (inside_block at_row.0 at_col.0 r c at_row.2 at_col.2 inside)) in
      blocks at_row.0 at_col.0 block r c (record { row = at_row.2; col = at_col.2; inside = inside })

  -- and the whole on each block
  pub EquationHolds-block : ((r c : ℕ) → r < lengths s.op.work.rows → c < lengths s.op.work.cols → IsInside s.op.work.structure r c
      → left_side s.modulus s.op s.knowns s.solution r c ≡ right_side s.modulus s.op s.knowns s.work r c)
      → (i j : ℕ) → i < parts_of counts s.op.work.rows → j < parts_of counts s.op.work.cols → EquationHolds s i j
  EquationHolds-block whole i j i_below j_below r c within = whole r c
      (rw (sym (is.cut.to_length s.op.work.rows is.row_dim)) (past s.op.work.rows i r i_below within.row)) (rw (sym (is.cut.to_length s.op.work.cols is.col_dim)) (past s.op.work.cols j c j_below within.col)) within.inside
    where
      past : (d p k : ℕ) → p < parts_of counts d → IsIn (part s.starts d p) k → k < s.starts d (parts_of counts d)
      past d p k below k_in = omega (arith, k_in.1, starts-le s.starts d (is.cut.from_zero d) (is.cut.ascending d) (suc p) (parts_of counts d) below)
