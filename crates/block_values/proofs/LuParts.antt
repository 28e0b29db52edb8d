-- The product L * U at an entry of block (i, j) is the sum of the products over the parts before the lesser of i and j, and that over this part.
use Rattle.std.proofs.Common.{◌≡◌, ℕ, min, ◌+◌, ◌%◌, ◌<◌, ◌≤◌, inl, inr, List, Bool, true, false, if◌then◌else◌, refl, sym, ◌∙◌, ap, subst, arith}
use Rattle.std.specs.Prelude.{nat_lt}
use Rattle.std.proofs.Math.Nat.{mod-lt}
use Rattle.std.proofs.lemmas.Bool.{cases_lt}
use Rattle.std.proofs.lemmas.Bool.Decides.{nat_tests}
use Rattle.residue_sums.specs.Residues.{Cong}
use Rattle.residue_sums.specs.Sums.{sum_below}
use Rattle.residue_sums.specs.Tables.{Table, product}
use Rattle.residue_sums.specs.Grids.{entry}
use Rattle.residue_sums.proofs.Congruence.{Cong-sym, Cong-by, Cong-trans, Cong-mod, Cong-from_same, same_from_Cong}
use Rattle.residue_sums.proofs.Sums.{sum_below-same, sum_below-last, sum_below-shrink}
use Rattle.structure_rules.specs.declared.Structure.TheVariants as structures
use Rattle.structure_rules.specs.Structures.{view}
use Rattle.structure_rules.proofs.Views.{view-zero}
use Rattle.operation_spec.specs.declared.operation.Form.TheVariants as forms
use Rattle.equation.specs.Equations.{left_side, right_side}
use Rattle.task_graph.specs.Tasks.{is_work_block, parts_of}
use Rattle.block_values.specs.Cuts.{IsIn, part, times_over}
use Rattle.block_values.specs.Values.{Setting}
use Rattle.block_values.specs.PartitionedEquations.{IsBlockEntry}
use Rattle.block_values.proofs.Ranges.{parts-lt, product_of_parts}
use Rattle.block_values.proofs.BlockSums.{block_sum, left_shares, right_shares, block_sum-shares}
use Rattle.block_values.proofs.Assigned.{IsFitting, left_shares-given, block_sum-below, right_side-below}
use Rattle.block_values.proofs.SolvedParts.{work_parts, zero_part, lt-from_test}

-- L and U of the stored solution
abbrev pub l_of : Setting → Table
l_of s = view structures.UnitLower (entry s.solution)

abbrev pub u_of : Setting → Table
u_of s = view structures.Upper (entry s.solution)

pub before_test : (k d w : ℕ) → k < d → (if nat_lt k d then w else 0) ≡ w
before_test k d w h = grind (arith, nat_tests)

pub behind_test : (k d w : ℕ) → d ≤ k → (if nat_lt k d then w else 0) ≡ 0
behind_test k d w h = grind (arith, nat_tests)

module _ (s : Setting) (lengths : ℕ → ℕ) (counts : List ℕ) (is : IsFitting s lengths counts) (form : s.op.form ≡ forms.Lu)
    (dims : s.op.work.rows ≡ s.op.work.cols) (i j : ℕ) (work : is_work_block s.op counts i j ≡ true) (r c : ℕ) (within : IsBlockEntry s i j r c) where
  -- the product over part k
  abbrev pub lu_part : ℕ → ℕ
  lu_part k = times_over s.modulus (part s.starts s.op.work.cols k) (l_of s) (u_of s) r c

  count : ℕ
  count = parts_of counts s.op.work.cols

  i_below : i < count
  unfolding count
  i_below = subst (λ d. i < parts_of counts d) dims (lt-from_test i _ (work_parts s.op counts i j work).0)

  j_below : j < count
  unfolding count
  j_below = lt-from_test j _ (work_parts s.op counts i j work).1

  row : IsIn (part s.starts s.op.work.cols i) r
  row = subst (λ d. IsIn (part s.starts d i) r) dims within.row

  behind : (k : ℕ) → min i j < k → lu_part k ≡ 0
  behind k past = zero_part s lengths counts is _ (l_of s) (u_of s) r c (λ x x_in. elim (cases_lt i k) [
    | inl less ↦
        let zero_l : l_of s r x ≡ 0 = view-zero structures.UnitLower (entry s.solution) r x (parts-lt s.starts s.op.work.cols (is.cut.from_zero _) (is.cut.ascending _) i k r x less row x_in) in
        rw zero_l (omega arith)
    | inr not_less ↦
        let zero_u : u_of s x c ≡ 0 = view-zero structures.Upper (entry s.solution) x c (parts-lt s.starts s.op.work.cols (is.cut.from_zero _) (is.cut.ascending _) j k c x (omega arith) within.col x_in) in
        rw zero_u (omega arith)
  ])

  before : ℕ
  before = sum_below lu_part (min i j)

  split : Cong s.modulus (product s.solution.rows (l_of s) (u_of s) r c) (before + lu_part (min i j))
  unfolding before count
  split =
      let d : ℕ = s.op.work.cols in
      let whole : s.starts d count ≡ s.solution.rows = is.cut.to_length d is.col_dim ∙ ap lengths (sym dims) ∙ sym is.rows in
      Cong-trans (Cong-from_same (ap (λ (e : ℕ). product e (l_of s) (u_of s) r c) (sym whole)))
      (Cong-trans (Cong-sym (product_of_parts s.starts d (is.cut.from_zero d) (is.cut.ascending d) s.modulus (l_of s) (u_of s) r c count))
      (Cong-from_same (sum_below-last lu_part count (min i j) (let a : i < count = i_below in omega arith) (λ k past below. behind k past))))

  lefts_are : left_shares s counts i j r c true ≡ before
  unfolding before
  lefts_are =
      let all : left_shares s counts i j r c true ≡ sum_below (λ k. if nat_lt k (min i j) then lu_part k else 0) (parts_of counts s.op.work.rows) = rw form refl in
      let a : i < parts_of counts s.op.work.rows = lt-from_test i _ (work_parts s.op counts i j work).0 in
      all ∙ sum_below-shrink (λ k. if nat_lt k (min i j) then lu_part k else 0) (parts_of counts s.op.work.rows) (min i j) (omega arith)
      (λ k past below. behind_test k (min i j) (lu_part k) past)
      ∙ sum_below-same (λ k. if nat_lt k (min i j) then lu_part k else 0) lu_part (min i j) (λ k less. before_test k (min i j) (lu_part k) less)

  sum_is : Cong s.modulus (block_sum s counts i j r c + before) (right_side s.modulus s.op s.knowns s.work r c)
  sum_is =
      let rights : (taken : Bool) → right_shares s counts i j r c taken ≡ 0 = λ taken. rw form refl in
      Cong-by (block_sum-shares s lengths counts is.cut is.pos is.terms i j r c within.row within.col work)
      (omega (arith, lefts_are, left_shares-given s counts i j r c, rights true, rights false))

  left_is : left_side s.modulus s.op s.knowns s.solution r c ≡ product s.solution.rows (l_of s) (u_of s) r c % s.modulus
  left_is = rw form refl

  pub to_whole : lu_part (min i j) ≡ block_sum s counts i j r c → left_side s.modulus s.op s.knowns s.solution r c ≡ right_side s.modulus s.op s.knowns s.work r c
  to_whole e = left_is ∙ same_from_Cong (mod-lt _ is.pos) (right_side-below s lengths counts is i j r c)
      (Cong-trans (Cong-mod s.modulus _) (Cong-trans split (Cong-by sum_is (omega (arith, e)))))

  pub to_block : left_side s.modulus s.op s.knowns s.solution r c ≡ right_side s.modulus s.op s.knowns s.work r c → lu_part (min i j) ≡ block_sum s counts i j r c
  to_block e =
      let whole : Cong s.modulus (product s.solution.rows (l_of s) (u_of s) r c) (right_side s.modulus s.op s.knowns s.work r c) =
      Cong-trans (Cong-sym (Cong-mod s.modulus _)) (Cong-from_same (sym left_is ∙ e)) in
      same_from_Cong (mod-lt _ is.pos) (block_sum-below s lengths counts is i j r c)
      (Cong-by (Cong-trans (Cong-sym split) (Cong-trans whole (Cong-sym sum_is))) (omega arith))
