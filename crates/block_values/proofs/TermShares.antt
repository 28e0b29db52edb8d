-- What the terms add to a block and take from it, task by task, is what they do as a whole.
pub use Rattle.block_values.proofs.Fitting.{factor_rows, IsSquare, TermFits, AllFit}
use Rattle.std.proofs.Common.{◌≡◌, ℕ, zero, suc, ◌+◌, ◌*◌, ◌-◌, ◌%◌, ◌<◌, List, [], ◌∷◌, length, Bool, true, false, if◌then◌else◌, refl, sym, ◌∙◌, ap, arith, add-one}
use Rattle.std.specs.Prelude.{◌&&◌, nat_lt}
use Rattle.std.proofs.Math.Nat.{mod-eq_of_lt, mod-lt}
use Rattle.std.proofs.lemmas.Bool.Decides.{nat_tests}
use Rattle.residue_sums.specs.Residues.{Cong}
use Rattle.residue_sums.specs.Sums.{sum_below}
use Rattle.residue_sums.specs.Tables.{Table, product, plus}
use Rattle.residue_sums.specs.Grids.{Grid}
use Rattle.residue_sums.proofs.Congruence.{Cong-refl, Cong-add, Cong-by, Cong-mod, Cong-multiple, Cong-sym, Cong-trans, Cong-from_same}
use Rattle.residue_sums.proofs.Sums.{sum_below-same, sum_below-zero}
use Rattle.operation_spec.specs.declared.operation.Operation.{Operation}
use Rattle.operation_spec.specs.declared.operation.Term.{Term}
use Rattle.operation_spec.specs.declared.task.Kind.TheVariants as kinds
use Rattle.equation.specs.Equations.{minus, factor_table, term_table, with_terms}
use Rattle.equation.specs.Equations as equations
use Rattle.task_graph.specs.Factors.{factor_cols}
use Rattle.task_graph.specs.Tasks.{is_inside, is_work_block, has_product, has_term, parts_of}
use Rattle.task_graph.specs.Classes.{inner_dim_of}
use Rattle.task_graph.specs.Order.{task_of}
use Rattle.task_graph.specs.Listing.{task_if_any, updates_of, products_of, inner_count}
use Rattle.block_values.specs.Cuts.{IsIn, IsCut, part, times_over}
use Rattle.block_values.specs.Values.{Setting}
use Rattle.block_values.specs.States.{term_product, term_minus}
use Rattle.block_values.proofs.PureTrees.{value}
use Rattle.block_values.proofs.Ranges.{range_sum-zero, product_of_parts}
use Rattle.block_values.proofs.TaskShares.{same_sign, shares, shares-joined, shares-task}
use Rattle.block_values.proofs.ZeroBlocks.{factor-zero}

-- ---- the terms as a whole

abbrev pub term_entry : List Grid → Operation → Term → Table
term_entry knowns op term = product (equations.factor_cols knowns term.first) (factor_table op knowns term.first) (factor_table op knowns term.second)

abbrev pub term_shares : Setting → Bool → List Term → Table
term_shares s taken [] r c = 0
term_shares s taken (term ∷ terms) r c = (if same_sign taken term.minus then term_entry s.knowns s.op term r c else 0) + term_shares s taken terms r c

module _ (s : Setting) (pos : 0 < s.modulus) (r c : ℕ) where
  one_term : (negative : Bool) (a p : Table)
      → Cong s.modulus ((if negative then minus s.modulus a (λ i j. p i j % s.modulus) else plus s.modulus a (λ i j. p i j % s.modulus)) r c + (if same_sign true negative then p r c else 0))
      (a r c + (if same_sign false negative then p r c else 0))
  one_term true a p =
      let below : p r c % s.modulus < s.modulus = mod-lt (p r c) pos in
      Cong-by (Cong-add (Cong-add (Cong-mod s.modulus (a r c + (s.modulus - p r c % s.modulus))) (Cong-multiple s.modulus 1)) (Cong-sym (Cong-mod s.modulus (p r c)))) (omega arith)
  one_term false a p = Cong-by (Cong-add (Cong-mod s.modulus (a r c + p r c % s.modulus)) (Cong-mod s.modulus (p r c))) (omega arith)

  -- the right side by its shares
  pub with_terms-shares : (terms : List Term) (a : Table)
      → Cong s.modulus (with_terms s.modulus s.op s.knowns terms a r c + term_shares s true terms r c) (a r c + term_shares s false terms r c)
  with_terms-shares [] a = Cong-refl s.modulus _
  with_terms-shares (term ∷ terms) a =
      let next : Table = (if term.minus then minus s.modulus a (term_table s.modulus s.op s.knowns term) else plus s.modulus a (term_table s.modulus s.op s.knowns term)) in
      Cong-by (Cong-add (with_terms-shares terms next) (one_term term.minus a (term_entry s.knowns s.op term))) (omega arith)

-- ---- block by block

-- a summand that its tests may leave out, but only where it is zero
kept : (p q t : Bool) (w : ℕ) → p ≡ true → (q ≡ false → w ≡ 0) → (t ≡ false → w ≡ 0) → (if p && q && t then w else 0) ≡ w
kept true true true w p_is q_is t_is = refl
kept true true false w p_is q_is t_is = sym (t_is refl)
kept true false t w p_is q_is t_is = sym (q_is refl)
kept false q t w p_is q_is t_is = absurd (cc)

nat_lt-true : (i j : ℕ) → i < j → nat_lt i j ≡ true
nat_lt-true i j h = grind (arith, nat_tests)

module _ (s : Setting) (lengths : ℕ → ℕ) (counts : List ℕ) (cut : IsCut (length s.op.dims) lengths counts s.starts) (pos : 0 < s.modulus)
    (i j r c : ℕ) (r_in : IsIn (part s.starts s.op.work.rows i) r) (c_in : IsIn (part s.starts s.op.work.cols j) c) (taken : Bool) where
  -- the product of a term over part k
  abbrev part_product : Term → ℕ → ℕ
  part_product term k = times_over s.modulus (part s.starts (factor_cols s.op term.first) k) (factor_table s.op s.knowns term.first) (factor_table s.op s.knowns term.second) r c

  zero_product : (term : Term) (k : ℕ) → ((x : ℕ) → IsIn (part s.starts (factor_cols s.op term.first) k) x
      → factor_table s.op s.knowns term.first r x * factor_table s.op s.knowns term.second x c ≡ 0) → part_product term k ≡ 0
  zero_product term k zeros =
      ap (λ (x : ℕ). x % s.modulus) (range_sum-zero (part s.starts (factor_cols s.op term.first) k)
      (λ x. factor_table s.op s.knowns term.first r x * factor_table s.op s.knowns term.second x c) zeros) ∙ mod-eq_of_lt pos

  first_zero : (term : Term) (k : ℕ) → TermFits s lengths term → is_inside s.op term.first i k ≡ false → part_product term k ≡ 0
  first_zero term k fits outside = zero_product term k (λ x x_in.
      let none : factor_table s.op s.knowns term.first r x ≡ 0 = factor-zero s.op s.knowns s.starts term.first i k r x cut.from_zero cut.ascending fits.first_square
      (rw fits.rows r_in) x_in outside in
      rw none (omega arith))

  second_zero : (term : Term) (k : ℕ) → TermFits s lengths term → is_inside s.op term.second k j ≡ false → part_product term k ≡ 0
  second_zero term k fits outside = zero_product term k (λ x x_in.
      let none : factor_table s.op s.knowns term.second x c ≡ 0 = factor-zero s.op s.knowns s.starts term.second k j x c cut.from_zero cut.ascending fits.second_square
      (rw fits.inner x_in) (rw fits.cols c_in) outside in
      rw none (omega arith))

  -- all products of a term
  term_parts : (term : Term) (negative : Bool) → TermFits s lengths term
      → Cong s.modulus (sum_below (λ k. if has_product s.op counts term i j k then (if negative then part_product term k else 0) else 0) (parts_of counts (factor_cols s.op term.first)))
      (if negative then term_entry s.knowns s.op term r c else 0)
  term_parts term false fits = Cong-from_same (sum_below-zero (λ k. if has_product s.op counts term i j k then 0 else 0) _ (λ k below. either (has_product s.op counts term i j k)))
    where
      either : (b : Bool) → (if b then zero else zero) ≡ zero
      either true = refl
      either false = refl
  term_parts term true fits = Cong-trans
      (Cong-from_same (sum_below-same (λ k. if has_product s.op counts term i j k then part_product term k else 0) (part_product term) (parts_of counts d)
      (λ k below. kept (nat_lt k (parts_of counts d)) (is_inside s.op term.first i k) (is_inside s.op term.second k j) (part_product term k)
      (nat_lt-true k (parts_of counts d) below) (first_zero term k fits) (second_zero term k fits))))
      (Cong-trans (product_of_parts s.starts d (cut.from_zero d) (cut.ascending d) s.modulus f g r c (parts_of counts d))
      (Cong-from_same (ap (λ (n : ℕ). product n f g r c) (cut.to_length d fits.inner_dim ∙ sym fits.inner_length))))
    where
      d : ℕ
      d = factor_cols s.op term.first

      f : Table
      f = factor_table s.op s.knowns term.first

      g : Table
      g = factor_table s.op s.knowns term.second

  -- the products of the term at a place of a list
  abbrev place_share : List Term → ℕ → ℕ → ℕ
  place_share terms t k = if has_term s.op counts terms t i j k then (if same_sign taken (term_minus terms t) then value s (term_product terms t i j k) r c else 0) else 0

  abbrev place_shares : List Term → ℕ → ℕ
  place_shares terms t = sum_below (place_share terms t) (parts_of counts (inner_dim_of s.op terms t))

  sum_from_first : (f : ℕ → ℕ) (n : ℕ) → sum_below f (suc n) ≡ f 0 + sum_below (λ t. f (suc t)) n
  sum_from_first f zero = omega arith
  sum_from_first f (suc n) = omega (arith, sum_from_first f n)

  all_terms : (terms : List Term) → AllFit s lengths terms → Cong s.modulus (sum_below (place_shares terms) (length terms)) (term_shares s taken terms r c)
  all_terms [] fit = Cong-refl s.modulus 0
  all_terms (term ∷ terms) fit = Cong-trans (Cong-from_same (sum_from_first (place_shares (term ∷ terms)) (length terms)))
      (Cong-add (term_parts term (same_sign taken term.minus) fit.0) (all_terms terms fit.1))

  -- the tasks of the terms
  module _ (work : is_work_block s.op counts i j ≡ true) where
    task_is : (t k : ℕ) → shares s taken (task_if_any s.op counts (task_of kinds.Term (suc t) i j k)) r c ≡ place_share s.op.terms t k
    task_is t k = shares-task s counts taken (task_of kinds.Term (suc t) i j k) r c ∙ rw work refl

    place_is : (t : ℕ) → shares s taken (updates_of s.op counts kinds.Term (t + 1) i j (inner_count s.op counts kinds.Term (t + 1))) r c ≡ place_shares s.op.terms t
    unfolding updates_of
    place_is t = rw (add-one t) (shares-joined s taken (λ k. task_if_any s.op counts (task_of kinds.Term (suc t) i j k)) (parts_of counts (inner_dim_of s.op s.op.terms t)) r c
        ∙ sum_below-same (λ k. shares s taken (task_if_any s.op counts (task_of kinds.Term (suc t) i j k)) r c) (place_share s.op.terms t) (parts_of counts (inner_dim_of s.op s.op.terms t)) (λ k below. task_is t k))

    pub shares-products : AllFit s lengths s.op.terms → Cong s.modulus (shares s taken (products_of s.op counts i j (length s.op.terms)) r c) (term_shares s taken s.op.terms r c)
    unfolding products_of
    shares-products fit = Cong-trans
        (Cong-from_same (shares-joined s taken (λ t. updates_of s.op counts kinds.Term (t + 1) i j (inner_count s.op counts kinds.Term (t + 1))) (length s.op.terms) r c
        ∙ sum_below-same (λ t. shares s taken (updates_of s.op counts kinds.Term (t + 1) i j (inner_count s.op counts kinds.Term (t + 1))) r c) (place_shares s.op.terms) (length s.op.terms) (λ t below. place_is t)))
        (all_terms s.op.terms fit)
