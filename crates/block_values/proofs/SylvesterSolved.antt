-- The block expressions of the forms `op(T) * X + X * op(U) = R` and `op(T) * X - X * op(U) = R`.
use Rattle.std.proofs.Common.{◌≡◌, ℕ, zero, ◌+◌, ◌*◌, ◌-◌, ◌%◌, ◌<◌, List, Bool, true, false, if◌then◌else◌, refl, sym, ◌∙◌, ap, ap₂, subst, arith}
use Rattle.std.specs.Prelude.{◌↔◌}
use Rattle.std.proofs.Math.Nat.{mod-lt}
use Rattle.residue_sums.specs.Residues.{Cong}
use Rattle.residue_sums.specs.Sums.{sum_below}
use Rattle.residue_sums.specs.Tables.{Table, product, plus}
use Rattle.residue_sums.proofs.Congruence.{Cong-sym, Cong-by, Cong-add, Cong-trans, Cong-mod, Cong-multiple, Cong-from_same, same_from_Cong}
use Rattle.residue_sums.proofs.Sums.{sum_below-zero}
use Rattle.operation_spec.specs.declared.operation.Factor.{Factor}
use Rattle.operation_spec.specs.declared.operation.Form.{Form}
use Rattle.operation_spec.specs.declared.operation.Form.TheVariants as forms
use Rattle.equation.specs.Equations.{left_side, right_side, factor_table, solution_table, minus}
use Rattle.task_graph.specs.Factors.{factor_cols}
use Rattle.task_graph.specs.Tasks.{is_work_block, reads_left, reads_right, parts_of, has_solve}
use Rattle.task_graph.specs.Listing.{block_of}
use Rattle.block_values.specs.declared.leaf.Leaf.TheVariants.{Work}
use Rattle.block_values.specs.Cuts.{IsIn, part, times_over}
use Rattle.block_values.specs.Trees.{Tree, Block, Sylvester}
use Rattle.block_values.specs.Values.{Setting, IsValue, rows_of, cols_of}
use Rattle.block_values.specs.States.{with_updates, has_solved, full_tree, factor_block}
use Rattle.block_values.specs.PartitionedEquations.{IsBlockEntry, HasBlock, EquationHolds}
use Rattle.block_values.proofs.PureTrees.{IsPure, value, IsValue-value, value-only}
use Rattle.block_values.proofs.TaskShares.{IsPure-with_updates}
use Rattle.block_values.proofs.Ranges.{range_sum-same}
use Rattle.block_values.proofs.ZeroBlocks.{factor_rows}
use Rattle.block_values.proofs.BlockSums.{block_sum, left_shares, right_shares, block_sum-shares}
use Rattle.block_values.proofs.Assigned.{IsFitting, rows-with_updates, cols-with_updates, has_solved-block, solved_by, X-inside, X-zero, X-by_places, left_shares-given, block_sum-below, right_side-below}
use Rattle.block_values.proofs.SolvedParts.{FactorFits, left_part, left_split, right_part, right_split}

-- the sum or the difference of two numbers modulo m
abbrev joined_by : Bool → ℕ → ℕ → ℕ → ℕ
joined_by negative m p q = if negative then (p + (m - q)) % m else (p + q) % m

-- the equations of a block and of the whole, as numbers: p and q are those of the diagonal blocks, a and b the rest,
-- g and h the whole products, v the block's sum
sum_to_whole : (m p q a b g h v r : ℕ) → 0 < m → r < m → Cong m g (p + a) → Cong m h (q + b) → Cong m (v + a + b) r → (p + q) % m ≡ v → (g % m + h % m) % m ≡ r
sum_to_whole m p q a b g h v r pos below left right total e =
    let v_is : Cong m v (p + q) = Cong-trans (Cong-from_same (sym e)) (Cong-mod m (p + q)) in
    same_from_Cong (mod-lt _ pos) below
    (Cong-by (Cong-add (Cong-add (Cong-mod m (g % m + h % m)) (Cong-add (Cong-mod m g) (Cong-mod m h))) (Cong-add (Cong-add left right) (Cong-add total (Cong-sym v_is)))) (omega arith))

sum_to_block : (m p q a b g h v r : ℕ) → 0 < m → v < m → Cong m g (p + a) → Cong m h (q + b) → Cong m (v + a + b) r → (g % m + h % m) % m ≡ r → (p + q) % m ≡ v
sum_to_block m p q a b g h v r pos below left right total e =
    let r_is : Cong m r (g % m + h % m) = Cong-trans (Cong-from_same (sym e)) (Cong-mod m (g % m + h % m)) in
    same_from_Cong (mod-lt _ pos) below
    (Cong-by (Cong-add (Cong-mod m (p + q)) (Cong-sym (Cong-add (Cong-add total r_is) (Cong-add (Cong-add (Cong-mod m g) (Cong-mod m h)) (Cong-add left right))))) (omega arith))

difference : (m p q : ℕ) → q < m → Cong m ((p + (m - q)) % m + q) p
difference m p q below = Cong-by (Cong-add (Cong-mod m (p + (m - q))) (Cong-multiple m 1)) (omega arith)

difference_to_whole : (m p q a b g h v r : ℕ) → 0 < m → q < m → r < m → Cong m g (p + a) → Cong m h (q + b) → Cong m (v + a) (r + b) → (p + (m - q)) % m ≡ v → (g % m + (m - h % m)) % m ≡ r
difference_to_whole m p q a b g h v r pos q_below below left right total e =
    let v_is : Cong m (v + q) p = Cong-trans (Cong-from_same (ap (λ (x : ℕ). x + q) (sym e))) (difference m p q q_below) in
    let w_is : Cong m ((g % m + (m - h % m)) % m + h % m) (g % m) = difference m (g % m) (h % m) (mod-lt h pos) in
    same_from_Cong (mod-lt _ pos) below
    (Cong-by (Cong-add (Cong-add w_is (Cong-mod m g)) (Cong-add (Cong-add left (Cong-sym right)) (Cong-add (Cong-sym (Cong-mod m h)) (Cong-add total (Cong-sym v_is))))) (omega arith))

difference_to_block : (m p q a b g h v r : ℕ) → 0 < m → q < m → v < m → Cong m g (p + a) → Cong m h (q + b) → Cong m (v + a) (r + b) → (g % m + (m - h % m)) % m ≡ r → (p + (m - q)) % m ≡ v
difference_to_block m p q a b g h v r pos q_below below left right total e =
    let r_is : Cong m (r + h % m) (g % m) = Cong-trans (Cong-from_same (ap (λ (x : ℕ). x + h % m) (sym e))) (difference m (g % m) (h % m) (mod-lt h pos)) in
    let d_is : Cong m ((p + (m - q)) % m + q) p = difference m p q q_below in
    same_from_Cong (mod-lt _ pos) below
    (Cong-by (Cong-add d_is (Cong-sym (Cong-add (Cong-add total r_is) (Cong-add (Cong-add (Cong-mod m g) left) (Cong-sym (Cong-add (Cong-mod m h) right)))))) (omega arith))

module _ (s : Setting) (lengths : ℕ → ℕ) (counts : List ℕ) (is : IsFitting s lengths counts) (t u : Factor)
    (t_fits : FactorFits s s.op.work.rows t) (u_fits : FactorFits s s.op.work.cols u) (i j : ℕ) (work : is_work_block s.op counts i j ≡ true)
    (r c : ℕ) (within : IsBlockEntry s i j r c) where
  abbrev p_here : ℕ
  p_here = left_part s lengths counts is t t_fits i j r c work within.row within.col i

  abbrev q_here : ℕ
  q_here = right_part s lengths counts is u u_fits i j r c work within.row within.col j

  abbrev left_rest : ℕ
  left_rest = sum_below (λ k. if reads_left s.op counts t i j k then left_part s lengths counts is t t_fits i j r c work within.row within.col k else 0) (parts_of counts s.op.work.rows)

  abbrev right_rest : ℕ
  right_rest = sum_below (λ k. if reads_right s.op counts u i j k then right_part s lengths counts is u u_fits i j r c work within.row within.col k else 0) (parts_of counts s.op.work.cols)

  dropped_sum : (f : ℕ → Bool) (n : ℕ) → sum_below (λ k. if f k then zero else zero) n ≡ 0
  dropped_sum f n = sum_below-zero _ n (λ k below. either (f k))
    where
      either : (b : Bool) → (if b then zero else zero) ≡ zero
      either true = refl
      either false = refl

  plus_total : s.op.form ≡ forms.Sylvester t u false → Cong s.modulus (block_sum s counts i j r c + left_rest + right_rest) (right_side s.modulus s.op s.knowns s.work r c)
  plus_total form =
      let lefts : left_shares s counts i j r c true ≡ left_rest = rw form refl in
      let rights : right_shares s counts i j r c true ≡ right_rest = rw form refl in
      let none : right_shares s counts i j r c false ≡ 0 = rw form (dropped_sum _ _) in
      Cong-by (block_sum-shares s lengths counts is.cut is.pos is.terms i j r c within.row within.col work) (omega (arith, lefts, rights, none, left_shares-given s counts i j r c))

  minus_total : s.op.form ≡ forms.Sylvester t u true → Cong s.modulus (block_sum s counts i j r c + left_rest) (right_side s.modulus s.op s.knowns s.work r c + right_rest)
  minus_total form =
      let lefts : left_shares s counts i j r c true ≡ left_rest = rw form refl in
      let rights : right_shares s counts i j r c false ≡ right_rest = rw form refl in
      let none : right_shares s counts i j r c true ≡ 0 = rw form (dropped_sum _ _) in
      Cong-by (block_sum-shares s lengths counts is.cut is.pos is.terms i j r c within.row within.col work) (omega (arith, lefts, rights, none, left_shares-given s counts i j r c))

  -- the equation of the block, and that of the whole
  pub to_whole : (negative : Bool) → s.op.form ≡ forms.Sylvester t u negative → joined_by negative s.modulus p_here q_here ≡ block_sum s counts i j r c
      → left_side s.modulus s.op s.knowns s.solution r c ≡ right_side s.modulus s.op s.knowns s.work r c
  to_whole false form e = (rw form refl) ∙ sum_to_whole s.modulus p_here q_here left_rest right_rest
      (product s.solution.rows (factor_table s.op s.knowns t) (solution_table s.op s.solution) r c) (product s.solution.cols (solution_table s.op s.solution) (factor_table s.op s.knowns u) r c)
      (block_sum s counts i j r c) (right_side s.modulus s.op s.knowns s.work r c) is.pos (right_side-below s lengths counts is i j r c)
      (left_split s lengths counts is t t_fits i j r c work within.row within.col) (right_split s lengths counts is u u_fits i j r c work within.row within.col) (plus_total form) e
  to_whole true form e = (rw form refl) ∙ difference_to_whole s.modulus p_here q_here left_rest right_rest
      (product s.solution.rows (factor_table s.op s.knowns t) (solution_table s.op s.solution) r c) (product s.solution.cols (solution_table s.op s.solution) (factor_table s.op s.knowns u) r c)
      (block_sum s counts i j r c) (right_side s.modulus s.op s.knowns s.work r c) is.pos (mod-lt _ is.pos) (right_side-below s lengths counts is i j r c)
      (left_split s lengths counts is t t_fits i j r c work within.row within.col) (right_split s lengths counts is u u_fits i j r c work within.row within.col) (minus_total form) e

  pub to_block : (negative : Bool) → s.op.form ≡ forms.Sylvester t u negative
      → left_side s.modulus s.op s.knowns s.solution r c ≡ right_side s.modulus s.op s.knowns s.work r c → joined_by negative s.modulus p_here q_here ≡ block_sum s counts i j r c
  to_block false form e =
      let left_is : left_side s.modulus s.op s.knowns s.solution r c ≡ (product s.solution.rows (factor_table s.op s.knowns t) (solution_table s.op s.solution) r c % s.modulus
      + product s.solution.cols (solution_table s.op s.solution) (factor_table s.op s.knowns u) r c % s.modulus) % s.modulus = rw form refl in
      sum_to_block s.modulus p_here q_here left_rest right_rest
      (product s.solution.rows (factor_table s.op s.knowns t) (solution_table s.op s.solution) r c) (product s.solution.cols (solution_table s.op s.solution) (factor_table s.op s.knowns u) r c)
      (block_sum s counts i j r c) (right_side s.modulus s.op s.knowns s.work r c) is.pos (block_sum-below s lengths counts is i j r c)
      (left_split s lengths counts is t t_fits i j r c work within.row within.col) (right_split s lengths counts is u u_fits i j r c work within.row within.col) (plus_total form) (sym left_is ∙ e)
  to_block true form e =
      let left_is : left_side s.modulus s.op s.knowns s.solution r c ≡ (product s.solution.rows (factor_table s.op s.knowns t) (solution_table s.op s.solution) r c % s.modulus
      + (s.modulus - product s.solution.cols (solution_table s.op s.solution) (factor_table s.op s.knowns u) r c % s.modulus)) % s.modulus = rw form refl in
      difference_to_block s.modulus p_here q_here left_rest right_rest
      (product s.solution.rows (factor_table s.op s.knowns t) (solution_table s.op s.solution) r c) (product s.solution.cols (solution_table s.op s.solution) (factor_table s.op s.knowns u) r c)
      (block_sum s counts i j r c) (right_side s.modulus s.op s.knowns s.work r c) is.pos (mod-lt _ is.pos) (block_sum-below s lengths counts is i j r c)
      (left_split s lengths counts is t t_fits i j r c work within.row within.col) (right_split s lengths counts is u u_fits i j r c work within.row within.col) (minus_total form) (sym left_is ∙ e)

module _ (s : Setting) (lengths : ℕ → ℕ) (counts : List ℕ) (is : IsFitting s lengths counts) (t u : Factor) (negative : Bool)
    (form : s.op.form ≡ forms.Sylvester t u negative) (t_fits : FactorFits s s.op.work.rows t) (u_fits : FactorFits s s.op.work.cols u)
    (i j : ℕ) (work : is_work_block s.op counts i j ≡ true) where
  sum : Tree
  sum = with_updates s.op (block_of s.op counts i j) (Block Work false i j)

  pure : IsPure sum
  unfolding sum
  pure = IsPure-with_updates s (block_of s.op counts i j) (Block Work false i j) tt

  rows_are : rows_of s sum ≡ part s.starts s.op.work.rows i
  unfolding sum
  rows_are = rows-with_updates s (block_of s.op counts i j) (Block Work false i j)

  cols_are : cols_of s sum ≡ part s.starts s.op.work.cols j
  unfolding sum
  cols_are = cols-with_updates s (block_of s.op counts i j) (Block Work false i j)

  tree_is : full_tree s.op counts i j ≡ Sylvester (factor_block t i i) (factor_block u j j) negative sum
  unfolding sum
  tree_is = solved_by s.op.form (forms.Sylvester t u negative) form (has_solved (block_of s.op counts i j))
      (has_solved-block s.op counts i j work (solves s.op.form form)) i j (with_updates s.op (block_of s.op counts i j) (Block Work false i j))
    where
      solves : (f : Form) → f ≡ forms.Sylvester t u negative → has_solve f ≡ true
      solves f e = rw e refl

  -- both products of the solve, of tables that are T, U and X where they are read
  left_times : Table → Table → Table
  left_times p y = times_over s.modulus (part s.starts (factor_cols s.op t) i) p y

  right_times : Table → Table → Table
  right_times y p = times_over s.modulus (part s.starts (factor_rows s.op u) j) y p

  split_sides : (n : Bool) (m : ℕ) (a b : Table) (r c : ℕ) → (if n then minus m a b else plus m a b) r c ≡ joined_by n m (a r c) (b r c)
  split_sides true m a b r c = refl
  split_sides false m a b r c = refl

  IsX : Table → Type 0
  IsX y = (r c : ℕ) → IsIn (part s.starts s.op.work.rows i) r → IsIn (part s.starts s.op.work.cols j) c → y r c ≡ solution_table s.op s.solution r c

  left_same : (p y : Table) → ((r c : ℕ) → p r c ≡ factor_table s.op s.knowns t r c) → IsX y → (r c : ℕ) → IsIn (part s.starts s.op.work.cols j) c
      → left_times p y r c ≡ left_times (factor_table s.op s.knowns t) (solution_table s.op s.solution) r c
  unfolding left_times IsX
  left_same p y p_is y_is r c col = ap (λ (x : ℕ). x % s.modulus) (range_sum-same _ _ _ (λ x x_in.
      ap₂ (λ (a b : ℕ). a * b) (p_is r x) (y_is x c (subst (λ d. IsIn (part s.starts d i) x) t_fits.cols x_in) col)))

  right_same : (y p : Table) → ((r c : ℕ) → p r c ≡ factor_table s.op s.knowns u r c) → IsX y → (r c : ℕ) → IsIn (part s.starts s.op.work.rows i) r
      → right_times y p r c ≡ times_over s.modulus (part s.starts s.op.work.cols j) (solution_table s.op s.solution) (factor_table s.op s.knowns u) r c
  unfolding right_times IsX
  right_same y p p_is y_is r c row = ap (λ (x : ℕ). x % s.modulus) (range_sum-same _ _ _ (λ x x_in.
      ap₂ (λ (a b : ℕ). a * b) (y_is r x row (subst (λ d. IsIn (part s.starts d j) x) u_fits.rows x_in)) (p_is x c)))
      ∙ ap (λ (d : ℕ). times_over s.modulus (part s.starts d j) (solution_table s.op s.solution) (factor_table s.op s.knowns u) r c) u_fits.rows

  -- a block has its value exactly where the equation of the whole holds on it
  pub sylvester_block : HasBlock s i j (full_tree s.op counts i j) ↔ EquationHolds s i j
  unfolding sum left_times right_times IsX
  sylvester_block = (
    λ has r c within.
        let v : IsValue s (Sylvester (factor_block t i i) (factor_block u j j) negative sum) has.y = subst (λ e. IsValue s e has.y) tree_is has.value in
        let is_X : IsX has.y = X-by_places s i j has.y has.same (λ r c row col outside. v.7 r c (rw rows_are row) (rw cols_are col) outside) in
        to_whole s lengths counts is t u t_fits u_fits i j work r c within negative form
        (ap₂ (joined_by negative s.modulus) (sym (left_same v.0 has.y v.3 is_X r c within.col)) (sym (right_same has.y v.1 v.4 is_X r c within.row))
        ∙ sym (split_sides negative s.modulus (left_times v.0 has.y) (right_times has.y v.1) r c)
        ∙ v.6 r c (rw rows_are within.row) (rw cols_are within.col) within.inside ∙ value-only s sum v.2 pure v.5 r c),
    λ holds. record {
      y = solution_table s.op s.solution;
      value = subst (λ e. IsValue s e (solution_table s.op s.solution)) (sym tree_is) (
        factor_table s.op s.knowns t,
        factor_table s.op s.knowns u,
        value s sum,
        λ r c. refl,
        λ r c. refl,
        IsValue-value s sum pure,
        λ r c row col inside.
            let within : IsBlockEntry s i j r c = record { row = subst (λ g. IsIn g r) rows_are row; col = subst (λ g. IsIn g c) cols_are col; inside = inside } in
            split_sides negative s.modulus (left_times (factor_table s.op s.knowns t) (solution_table s.op s.solution)) (right_times (solution_table s.op s.solution) (factor_table s.op s.knowns u)) r c
            ∙ ap (joined_by negative s.modulus (left_times (factor_table s.op s.knowns t) (solution_table s.op s.solution) r c))
            (right_same (solution_table s.op s.solution) (factor_table s.op s.knowns u) (λ r c. refl) (λ r c row col. refl) r c within.row)
            ∙ to_block s lengths counts is t u t_fits u_fits i j work r c within negative form (holds r c within),
        λ r c row col outside. X-zero s r c outside,
      );
      same = λ r c within. sym (X-inside s r c within.inside);
    },
  )
