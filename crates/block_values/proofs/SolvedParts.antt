-- A product of a triangular factor and the solution is the part with the diagonal block and the products of the updates.
use Rattle.std.proofs.Common.{◌≡◌, ◌≢◌, ℕ, ◌+◌, ◌*◌, ◌%◌, ◌<◌, inl, inr, List, Bool, true, false, if◌then◌else◌, not, refl, sym, ◌∙◌, ap, subst, arith}
use Rattle.std.specs.Prelude.{◌&&◌, ◌==◌, nat_lt}
use Rattle.std.proofs.Math.Nat.{mod-eq_of_lt}
use Rattle.std.proofs.lemmas.Bool.{cases_eq, and_parts}
use Rattle.std.proofs.lemmas.Bool.Decides.{nat_tests}
use Rattle.residue_sums.specs.Residues.{Cong}
use Rattle.residue_sums.specs.Sums.{sum_below}
use Rattle.residue_sums.specs.Tables.{Table, product}
use Rattle.residue_sums.proofs.Congruence.{Cong-sym, Cong-trans, Cong-from_same}
use Rattle.residue_sums.proofs.Sums.{sum_below-same, sum_below-one_out, without, without-here, without-other}
use Rattle.structure_rules.specs.declared.Structure.TheVariants.{General}
use Rattle.structure_rules.specs.Structures.{is_zero}
use Rattle.operation_spec.specs.declared.operation.Operation.{Operation}
use Rattle.operation_spec.specs.declared.operation.Factor.{Factor}
use Rattle.equation.specs.Equations.{factor_table, solution_table}
use Rattle.task_graph.specs.Factors.{factor_cols}
use Rattle.task_graph.specs.Tasks.{is_inside, is_work_block, reads_left, reads_right, parts_of}
use Rattle.block_values.specs.Cuts.{Range, IsIn, part, times_over}
use Rattle.block_values.specs.Values.{Setting}
pub use Rattle.block_values.proofs.Fitting.{FactorFits}
use Rattle.block_values.proofs.ZeroBlocks.{factor-zero, IsZero-from_test}
use Rattle.block_values.proofs.Ranges.{range_sum-zero, product_of_parts, IsZero-part}
use Rattle.block_values.proofs.Assigned.{IsFitting, X-zero}

-- a block of W by its parts
pub work_parts : (op : Operation) (counts : List ℕ) (i j : ℕ) → is_work_block op counts i j ≡ true
    → (nat_lt i (parts_of counts op.work.rows) ≡ true) × (nat_lt j (parts_of counts op.work.cols) ≡ true)
work_parts op counts i j h =
    let outer = and_parts (nat_lt i (parts_of counts op.work.rows) && nat_lt j (parts_of counts op.work.cols)) (not (is_zero op.work.structure i j)) h in
    and_parts (nat_lt i (parts_of counts op.work.rows)) (nat_lt j (parts_of counts op.work.cols)) outer.0

pub lt-from_test : (i j : ℕ) → nat_lt i j ≡ true → i < j
lt-from_test i j h = grind (arith, nat_tests)

pub test-from_lt : (i j : ℕ) → i < j → nat_lt i j ≡ true
test-from_lt i j h = grind (arith, nat_tests)

other_test : (i k : ℕ) → i ≢ k → not (i == k) ≡ true
other_test i k h = grind (arith, nat_tests)

same_test : (i k : ℕ) → i ≡ k → not (i == k) ≡ false
same_test i k h = grind (arith, nat_tests)

-- a summand that its tests may leave out
dropped : (p q t : Bool) (w : ℕ) → q ≡ false → (if p && q && t then w else 0) ≡ 0
dropped true false t w h = refl
dropped false q t w h = refl
dropped true true t w h = absurd (cc)

kept : (p q t : Bool) (w : ℕ) → q ≡ true → (p ≡ false → w ≡ 0) → (t ≡ false → w ≡ 0) → (if p && q && t then w else 0) ≡ w
kept true true true w h p_is t_is = refl
kept true true false w h p_is t_is = sym (t_is refl)
kept false q t w h p_is t_is = sym (p_is refl)
kept true false t w h p_is t_is = absurd (cc)

not_work : (p q z : Bool) → p ≡ true → q ≡ true → p && q && not z ≡ false → z ≡ true
not_work true true true h k e = refl
not_work true true false h k e = absurd (cc)
not_work false q z h k e = absurd (cc)
not_work true false z h k e = absurd (cc)

module _ (s : Setting) (lengths : ℕ → ℕ) (counts : List ℕ) (is : IsFitting s lengths counts) where
  -- a block of X outside W's structure is zero
  X-zero_block : (k j r c : ℕ) → k < parts_of counts s.op.work.rows → j < parts_of counts s.op.work.cols
      → IsIn (part s.starts s.op.work.rows k) r → IsIn (part s.starts s.op.work.cols j) c → is_work_block s.op counts k j ≡ false
      → solution_table s.op s.solution r c ≡ 0
  X-zero_block k j r c k_below j_below r_in c_in outside =
      let zero_test : is_zero s.op.work.structure k j ≡ true = not_work (nat_lt k (parts_of counts s.op.work.rows)) (nat_lt j (parts_of counts s.op.work.cols)) (is_zero s.op.work.structure k j)
      (test-from_lt k (parts_of counts s.op.work.rows) k_below) (test-from_lt j (parts_of counts s.op.work.cols) j_below) outside in
      let dims : s.op.work.rows ≡ s.op.work.cols = is.square (λ e. not_general e zero_test) in
      X-zero s r c (IsZero-part s.starts s.op.work.cols (is.cut.from_zero s.op.work.cols) (is.cut.ascending s.op.work.cols) s.op.work.structure k j r c
      (subst (λ d. IsIn (part s.starts d k) r) dims r_in) c_in (IsZero-from_test s.op.work.structure k j zero_test))
    where
      not_general : s.op.work.structure ≡ General → is_zero s.op.work.structure k j ≡ true → ⊥
      not_general e h = let g : false ≡ true = subst (λ z. is_zero z k j ≡ true) e h in absurd (cc)

  pub zero_part : (g : Range) (a b : Table) (r c : ℕ) → ((x : ℕ) → IsIn g x → a r x * b x c ≡ 0) → times_over s.modulus g a b r c ≡ 0
  zero_part g a b r c zeros = ap (λ (x : ℕ). x % s.modulus) (range_sum-zero g (λ x. a r x * b x c) zeros) ∙ mod-eq_of_lt is.pos

  -- ---- the factor on the left

  module _ (t : Factor) (fits : FactorFits s s.op.work.rows t) (i j r c : ℕ) (work : is_work_block s.op counts i j ≡ true)
      (r_in : IsIn (part s.starts s.op.work.rows i) r) (c_in : IsIn (part s.starts s.op.work.cols j) c) where
    abbrev pub left_part : ℕ → ℕ
    left_part k = times_over s.modulus (part s.starts (factor_cols s.op t) k) (factor_table s.op s.knowns t) (solution_table s.op s.solution) r c

    left_kept : (k : ℕ) → k < parts_of counts s.op.work.rows → (if reads_left s.op counts t i j k then left_part k else 0) ≡ without i left_part k
    left_kept k below = elim (cases_eq k i) [
      | inl same ↦ dropped (is_inside s.op t i k) (not (i == k)) (is_work_block s.op counts k j) (left_part k) (same_test i k (sym same)) ∙ sym (without-here i left_part k same)
      | inr other ↦ kept (is_inside s.op t i k) (not (i == k)) (is_work_block s.op counts k j) (left_part k) (other_test i k (λ e. other (sym e)))
          (λ outside. zero_part _ (factor_table s.op s.knowns t) (solution_table s.op s.solution) r c (λ x x_in.
          let none : factor_table s.op s.knowns t r x ≡ 0 = factor-zero s.op s.knowns s.starts t i k r x is.cut.from_zero is.cut.ascending fits.square (rw fits.rows r_in) x_in outside in
          rw none (omega arith)))
          (λ outside. zero_part _ (factor_table s.op s.knowns t) (solution_table s.op s.solution) r c (λ x x_in.
          let none : solution_table s.op s.solution x c ≡ 0 = X-zero_block k j x c below (lt-from_test j (parts_of counts s.op.work.cols) (work_parts s.op counts i j work).1)
          (subst (λ d. IsIn (part s.starts d k) x) fits.cols x_in) c_in outside in
          rw none (omega arith)))
          ∙ sym (without-other i left_part k other)
    ]

    pub left_split : Cong s.modulus (product s.solution.rows (factor_table s.op s.knowns t) (solution_table s.op s.solution) r c)
        (left_part i + sum_below (λ k. if reads_left s.op counts t i j k then left_part k else 0) (parts_of counts s.op.work.rows))
    left_split =
        let n : ℕ = parts_of counts s.op.work.rows in
        let d : ℕ = factor_cols s.op t in
        let whole : s.starts d n ≡ s.solution.rows = ap (λ (e : ℕ). s.starts e n) fits.cols ∙ is.cut.to_length s.op.work.rows is.row_dim ∙ sym is.rows in
        let parts = product_of_parts s.starts d (is.cut.from_zero d) (is.cut.ascending d) s.modulus (factor_table s.op s.knowns t) (solution_table s.op s.solution) r c n in
        Cong-trans (Cong-from_same (ap (λ (e : ℕ). product e (factor_table s.op s.knowns t) (solution_table s.op s.solution) r c) (sym whole)))
        (Cong-trans (Cong-sym parts)
        (Cong-from_same (sum_below-one_out left_part n i (lt-from_test i n (work_parts s.op counts i j work).0)
        ∙ ap (λ (e : ℕ). left_part i + e) (sym (sum_below-same (λ k. if reads_left s.op counts t i j k then left_part k else 0) (without i left_part) n left_kept)))))

  -- ---- the factor on the right

  module _ (u : Factor) (fits : FactorFits s s.op.work.cols u) (i j r c : ℕ) (work : is_work_block s.op counts i j ≡ true)
      (r_in : IsIn (part s.starts s.op.work.rows i) r) (c_in : IsIn (part s.starts s.op.work.cols j) c) where
    abbrev pub right_part : ℕ → ℕ
    right_part k = times_over s.modulus (part s.starts s.op.work.cols k) (solution_table s.op s.solution) (factor_table s.op s.knowns u) r c

    right_kept : (k : ℕ) → k < parts_of counts s.op.work.cols → (if reads_right s.op counts u i j k then right_part k else 0) ≡ without j right_part k
    right_kept k below = elim (cases_eq k j) [
      | inl same ↦ dropped (is_inside s.op u k j) (not (k == j)) (is_work_block s.op counts i k) (right_part k) (same_test k j same) ∙ sym (without-here j right_part k same)
      | inr other ↦ kept (is_inside s.op u k j) (not (k == j)) (is_work_block s.op counts i k) (right_part k) (other_test k j other)
          (λ outside. zero_part _ (solution_table s.op s.solution) (factor_table s.op s.knowns u) r c (λ x x_in.
          let none : factor_table s.op s.knowns u x c ≡ 0 = factor-zero s.op s.knowns s.starts u k j x c is.cut.from_zero is.cut.ascending fits.square (rw fits.rows x_in) (rw fits.cols c_in) outside in
          rw none (omega arith)))
          (λ outside. zero_part _ (solution_table s.op s.solution) (factor_table s.op s.knowns u) r c (λ x x_in.
          let none : solution_table s.op s.solution r x ≡ 0 = X-zero_block i k r x (lt-from_test i (parts_of counts s.op.work.rows) (work_parts s.op counts i j work).0) below
          r_in x_in outside in
          rw none (omega arith)))
          ∙ sym (without-other j right_part k other)
    ]

    pub right_split : Cong s.modulus (product s.solution.cols (solution_table s.op s.solution) (factor_table s.op s.knowns u) r c)
        (right_part j + sum_below (λ k. if reads_right s.op counts u i j k then right_part k else 0) (parts_of counts s.op.work.cols))
    right_split =
        let n : ℕ = parts_of counts s.op.work.cols in
        let d : ℕ = s.op.work.cols in
        let whole : s.starts d n ≡ s.solution.cols = is.cut.to_length s.op.work.cols is.col_dim ∙ sym is.cols in
        let parts = product_of_parts s.starts d (is.cut.from_zero d) (is.cut.ascending d) s.modulus (solution_table s.op s.solution) (factor_table s.op s.knowns u) r c n in
        Cong-trans (Cong-from_same (ap (λ (e : ℕ). product e (solution_table s.op s.solution) (factor_table s.op s.knowns u) r c) (sym whole)))
        (Cong-trans (Cong-sym parts)
        (Cong-from_same (sum_below-one_out right_part n j (lt-from_test j n (work_parts s.op counts i j work).1)
        ∙ ap (λ (e : ℕ). right_part j + e) (sym (sum_below-same (λ k. if reads_right s.op counts u i j k then right_part k else 0) (without j right_part) n right_kept)))))
