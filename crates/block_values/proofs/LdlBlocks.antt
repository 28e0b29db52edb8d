-- The block expressions of the form `ldl X = R`.
use Rattle.std.proofs.Common.{◌≡◌, ◌≢◌, ℕ, ◌+◌, ◌*◌, ◌-◌, ◌%◌, ◌<◌, ◌≤◌, inl, inr, List, Bool, true, false, if◌then◌else◌, refl, sym, ◌∙◌, ap, ap₂, subst, arith}
use Rattle.std.specs.Prelude.{◌↔◌, ◌==◌, nat_lt}
use Rattle.std.proofs.Math.Nat.{mod-lt}
use Rattle.std.proofs.lemmas.Bool.{cases_order}
use Rattle.std.proofs.lemmas.Bool.Decides.{nat_tests}
use Rattle.residue_sums.specs.Residues.{Cong}
use Rattle.residue_sums.specs.Sums.{sum_below}
use Rattle.residue_sums.specs.Tables.{Table, product, times, transpose}
use Rattle.residue_sums.specs.Grids.{entry}
use Rattle.residue_sums.proofs.Congruence.{Cong-refl, Cong-sym, Cong-by, Cong-mul, Cong-trans, Cong-mod, Cong-from_same, same_from_Cong}
use Rattle.residue_sums.proofs.Sums.{sum_below-same, sum_below-Cong, sum_below-only, sum_below-last, sum_below-shrink}
use Rattle.structure_rules.specs.declared.Structure.TheVariants as structures
use Rattle.structure_rules.specs.Structures.{IsInside, view}
use Rattle.structure_rules.proofs.Views.{view-zero}
use Rattle.operation_spec.specs.declared.operation.Form.{Form}
use Rattle.operation_spec.specs.declared.operation.Form.TheVariants as forms
use Rattle.equation.specs.Equations.{left_side, right_side}
use Rattle.task_graph.specs.Tasks.{is_work_block, has_solve, parts_of}
use Rattle.task_graph.specs.Listing.{block_of}
use Rattle.block_values.specs.declared.leaf.Leaf.TheVariants.{Work, L, D}
use Rattle.block_values.specs.Cuts.{Range, IsIn, part, range_sum, times_over}
use Rattle.block_values.specs.Trees.{Tree, Block, Mul, SolveRight, Ldl}
use Rattle.block_values.specs.Values.{Setting, IsValue, rows_of, cols_of}
use Rattle.block_values.specs.States.{with_updates, has_solved, solved, full_tree}
use Rattle.block_values.specs.PartitionedEquations.{IsBlockEntry, HasBlock, EquationHolds}
use Rattle.block_values.proofs.PureTrees.{IsPure, value, IsValue-value, value-only}
use Rattle.block_values.proofs.TaskShares.{IsPure-with_updates}
use Rattle.block_values.proofs.Ranges.{range_sum-same, parts-lt, product_of_parts}
use Rattle.block_values.proofs.BlockSums.{block_sum, left_shares, right_shares, block_sum-shares}
use Rattle.block_values.proofs.Assigned.{IsFitting, rows-with_updates, cols-with_updates, has_solved-block, solved_by, left_shares-given, block_sum-below, right_side-below}
use Rattle.block_values.proofs.SolvedParts.{work_parts, zero_part, lt-from_test}
use Rattle.block_values.proofs.LuParts.{l_of, before_test, behind_test}

abbrev d_of : Setting → Table
d_of s = view structures.Diagonal (entry s.solution)

diagonal_other : (a : Table) (y x : ℕ) → y ≢ x → view structures.Diagonal a y x ≡ 0
diagonal_other a y x h = grind (arith, nat_tests)

-- the product with a diagonal has one term
range_sum-only : (g : Range) (f : ℕ → ℕ) (x : ℕ) → IsIn g x → ((k : ℕ) → k ≢ x → f k ≡ 0) → range_sum g f ≡ f x
range_sum-only g f x x_in zeros =
    let at : g.first + (x - g.first) ≡ x = omega arith in
    sum_below-only (λ k. f (g.first + k)) (g.past - g.first) (x - g.first) (omega arith) (λ k below other. zeros (g.first + k) (omega arith)) ∙ ap f at

module _ (s : Setting) where
  -- L * D, entry by entry
  abbrev scaled : Table
  scaled r x = (l_of s r x * d_of s x x) % s.modulus

  scaled_part : (g : Range) (r x : ℕ) → IsIn g x → times_over s.modulus g (l_of s) (d_of s) r x ≡ scaled r x
  scaled_part g r x x_in = ap (λ (p : ℕ). p % s.modulus) (range_sum-only g (λ k. l_of s r k * d_of s k x) x x_in
      (λ k other. let none : d_of s k x ≡ 0 = diagonal_other (entry s.solution) k x other in rw none (omega arith)))

  scaled_whole : (n r x : ℕ) → x < n → times s.modulus n (l_of s) (d_of s) r x ≡ scaled r x
  scaled_whole n r x below = ap (λ (p : ℕ). p % s.modulus) (sum_below-only (λ k. l_of s r k * d_of s k x) n x below
      (λ k k_below other. let none : d_of s k x ≡ 0 = diagonal_other (entry s.solution) k x other in rw none (omega arith)))

module _ (s : Setting) (lengths : ℕ → ℕ) (counts : List ℕ) (is : IsFitting s lengths counts) (form : s.op.form ≡ forms.Ldl)
    (dims : s.op.work.rows ≡ s.op.work.cols) (i j : ℕ) (work : is_work_block s.op counts i j ≡ true) (below_diagonal : j ≤ i) (r c : ℕ) (within : IsBlockEntry s i j r c) where
  abbrev pub ldl_part : ℕ → ℕ
  ldl_part k = times_over s.modulus (part s.starts s.op.work.cols k) (times_over s.modulus (part s.starts s.op.work.cols k) (l_of s) (d_of s)) (transpose (l_of s)) r c

  abbrev scaled_product : ℕ → ℕ
  scaled_product k = times_over s.modulus (part s.starts s.op.work.cols k) (scaled s) (transpose (l_of s)) r c

  part_is : (k : ℕ) → ldl_part k ≡ scaled_product k
  part_is k = ap (λ (p : ℕ). p % s.modulus) (range_sum-same (part s.starts s.op.work.cols k) _ (λ x. scaled s r x * transpose (l_of s) x c)
      (λ x x_in. ap (λ (p : ℕ). p * transpose (l_of s) x c) (scaled_part s (part s.starts s.op.work.cols k) r x x_in)))

  count : ℕ
  count = parts_of counts s.op.work.cols

  j_below : j < count
  unfolding count
  j_below = lt-from_test j _ (work_parts s.op counts i j work).1

  behind : (k : ℕ) → j < k → ldl_part k ≡ 0
  behind k past = part_is k ∙ zero_part s lengths counts is _ (scaled s) (transpose (l_of s)) r c (λ x x_in.
      let none : l_of s c x ≡ 0 = view-zero structures.UnitLower (entry s.solution) c x (parts-lt s.starts s.op.work.cols (is.cut.from_zero _) (is.cut.ascending _) j k c x past within.col x_in) in
      rw none (omega arith))

  before : ℕ
  before = sum_below ldl_part j

  whole_product : ℕ
  whole_product = product s.solution.rows (times s.modulus s.solution.rows (l_of s) (d_of s)) (transpose (l_of s)) r c

  split : Cong s.modulus whole_product (before + ldl_part j)
  unfolding before count whole_product
  split =
      let d : ℕ = s.op.work.cols in
      let whole : s.starts d count ≡ s.solution.rows = is.cut.to_length d is.col_dim ∙ ap lengths (sym dims) ∙ sym is.rows in
      Cong-trans (Cong-from_same (sum_below-same _ (λ x. scaled s r x * transpose (l_of s) x c) s.solution.rows
      (λ x below. ap (λ (p : ℕ). p * transpose (l_of s) x c) (scaled_whole s s.solution.rows r x below))))
      (Cong-trans (Cong-from_same (ap (λ (e : ℕ). product e (scaled s) (transpose (l_of s)) r c) (sym whole)))
      (Cong-trans (Cong-sym (product_of_parts s.starts d (is.cut.from_zero d) (is.cut.ascending d) s.modulus (scaled s) (transpose (l_of s)) r c count))
      (Cong-from_same (sum_below-same scaled_product ldl_part count (λ k below. sym (part_is k)) ∙ sum_below-last ldl_part count j j_below (λ k past below. behind k past)))))

  lefts_are : left_shares s counts i j r c true ≡ before
  unfolding before
  lefts_are =
      let all : left_shares s counts i j r c true ≡ sum_below (λ k. if nat_lt k j then ldl_part k else 0) (parts_of counts s.op.work.rows) = rw form refl in
      let a : i < parts_of counts s.op.work.rows = lt-from_test i _ (work_parts s.op counts i j work).0 in
      all ∙ sum_below-shrink (λ k. if nat_lt k j then ldl_part k else 0) (parts_of counts s.op.work.rows) j (omega arith) (λ k past below. behind_test k j (ldl_part k) past)
      ∙ sum_below-same (λ k. if nat_lt k j then ldl_part k else 0) ldl_part j (λ k less. before_test k j (ldl_part k) less)

  sum_is : Cong s.modulus (block_sum s counts i j r c + before) (right_side s.modulus s.op s.knowns s.work r c)
  sum_is =
      let rights : (taken : Bool) → right_shares s counts i j r c taken ≡ 0 = λ taken. rw form refl in
      Cong-by (block_sum-shares s lengths counts is.cut is.pos is.terms i j r c within.row within.col work)
      (omega (arith, lefts_are, left_shares-given s counts i j r c, rights true, rights false))

  left_is : left_side s.modulus s.op s.knowns s.solution r c ≡ whole_product % s.modulus
  unfolding whole_product
  left_is = rw form refl

  pub to_whole : ldl_part j ≡ block_sum s counts i j r c → left_side s.modulus s.op s.knowns s.solution r c ≡ right_side s.modulus s.op s.knowns s.work r c
  to_whole e = left_is ∙ same_from_Cong (mod-lt _ is.pos) (right_side-below s lengths counts is i j r c)
      (Cong-trans (Cong-mod s.modulus _) (Cong-trans split (Cong-by sum_is (omega (arith, e)))))

  pub to_block : left_side s.modulus s.op s.knowns s.solution r c ≡ right_side s.modulus s.op s.knowns s.work r c → ldl_part j ≡ block_sum s counts i j r c
  to_block e =
      let whole : Cong s.modulus whole_product (right_side s.modulus s.op s.knowns s.work r c) = Cong-trans (Cong-sym (Cong-mod s.modulus _)) (Cong-from_same (sym left_is ∙ e)) in
      same_from_Cong (mod-lt _ is.pos) (block_sum-below s lengths counts is i j r c)
      (Cong-by (Cong-trans (Cong-sym split) (Cong-trans whole (Cong-sym sum_is))) (omega arith))

-- ---- trees

two_first : (i j : ℕ) (a b : Tree) → i ≡ j → (if i == j then a else b) ≡ a
two_first i j a b h = grind (arith, nat_tests)

two_second : (i j : ℕ) (a b : Tree) → i ≢ j → (if i == j then a else b) ≡ b
two_second i j a b h = grind (arith, nat_tests)

-- views read few entries
lower_reads : (a b : Table) (r x : ℕ) → (x < r → a r x ≡ b r x) → view structures.UnitLower a r x ≡ view structures.UnitLower b r x
lower_reads a b r x same = elim (cases_order r x) [
  | inl e ↦ (let p : view structures.UnitLower a r x ≡ 1 = one a e in let q : view structures.UnitLower b r x ≡ 1 = one b e in p ∙ sym q)
  | inr (inl l) ↦ view-zero structures.UnitLower a r x l ∙ sym (view-zero structures.UnitLower b r x l)
  | inr (inr g) ↦ stored a g ∙ same g ∙ sym (stored b g)
]
  where
    one : (t : Table) → r ≡ x → view structures.UnitLower t r x ≡ 1
    one t e = grind (arith, nat_tests)

    stored : (t : Table) → x < r → view structures.UnitLower t r x ≡ t r x
    stored t g = grind (arith, nat_tests)

diagonal_reads : (a b : Table) (z x : ℕ) → (z ≡ x → a z x ≡ b z x) → view structures.Diagonal a z x ≡ view structures.Diagonal b z x
diagonal_reads a b z x same = grind (arith, nat_tests)

module _ (s : Setting) (lengths : ℕ → ℕ) (counts : List ℕ) (is : IsFitting s lengths counts) (form : s.op.form ≡ forms.Ldl)
    (lower : s.op.work.structure ≡ structures.Lower) (dims : s.op.work.rows ≡ s.op.work.cols) (i j : ℕ) (work : is_work_block s.op counts i j ≡ true) (below_diagonal : j ≤ i) where
  sum : Tree
  sum = with_updates s.op (block_of s.op counts i j) (Block Work false i j)

  pure : IsPure sum
  unfolding sum
  pure = IsPure-with_updates s (block_of s.op counts i j) (Block Work false i j) tt

  rows_are : rows_of s sum ≡ part s.starts s.op.work.rows i
  unfolding sum
  rows_are = rows-with_updates s (block_of s.op counts i j) (Block Work false i j)

  cols_are : cols_of s sum ≡ part s.starts s.op.work.cols j
  unfolding sum
  cols_are = cols-with_updates s (block_of s.op counts i j) (Block Work false i j)

  tree_is : full_tree s.op counts i j ≡ solved forms.Ldl i j sum
  unfolding sum
  tree_is = solved_by s.op.form forms.Ldl form (has_solved (block_of s.op counts i j))
      (has_solved-block s.op counts i j work (solves s.op.form form)) i j (with_updates s.op (block_of s.op counts i j) (Block Work false i j))
    where
      solves : (f : Form) → f ≡ forms.Ldl → has_solve f ≡ true
      solves f e = rw e refl

  inside_from : (r c : ℕ) → c ≤ r → IsInside s.op.work.structure r c
  inside_from r c le = subst (λ z. IsInside z r c) (sym lower) (λ h. absurd (omega arith))

  le_from : (r c : ℕ) → IsInside s.op.work.structure r c → c ≤ r
  le_from r c inside = let h : IsInside structures.Lower r c = subst (λ z. IsInside z r c) lower inside in elim (cases_order r c) [
    | inl e ↦ omega arith
    | inr (inl l) ↦ absurd (h l)
    | inr (inr g) ↦ omega arith
  ]

  at : (r c : ℕ) → IsIn (rows_of s sum) r → IsIn (cols_of s sum) c → IsInside s.op.work.structure r c → IsBlockEntry s i j r c
  at r c row col inside = record { row = subst (λ g. IsIn g r) rows_are row; col = subst (λ g. IsIn g c) cols_are col; inside = inside }

  abbrev target : Range
  target = part s.starts s.op.work.cols j

  abbrev IsStored : Table → Type 0
  IsStored y = (r c : ℕ) → IsBlockEntry s i j r c → entry s.solution r c ≡ y r c

  abbrev here : (r c : ℕ) → IsBlockEntry s i j r c → ℕ
  here r c within = ldl_part s lengths counts is form dims i j work below_diagonal r c within j

  from_block : (e : Tree) → full_tree s.op counts i j ≡ e → (sides : Table → Table)
      → ((y : Table) → IsValue s e y → (r c : ℕ) → IsBlockEntry s i j r c → sides y r c ≡ block_sum s counts i j r c)
      → (x : Table) → IsStored x
      → (((r c : ℕ) → IsBlockEntry s i j r c → sides x r c ≡ block_sum s counts i j r c) → IsValue s e x)
      → ((y : Table) → IsStored y → (r c : ℕ) (within : IsBlockEntry s i j r c) → sides y r c ≡ here r c within)
      → HasBlock s i j (full_tree s.op counts i j) ↔ EquationHolds s i j
  from_block e is_e sides from_value x x_stored to_value agrees = (
    λ has r c within. to_whole s lengths counts is form dims i j work below_diagonal r c within
        (sym (agrees has.y has.same r c within) ∙ from_value has.y (subst (λ z. IsValue s z has.y) is_e has.value) r c within),
    λ holds. record {
      y = x;
      value = subst (λ z. IsValue s z x) (sym is_e) (to_value
          (λ r c within. agrees x x_stored r c within ∙ to_block s lengths counts is form dims i j work below_diagonal r c within (holds r c within)));
      same = x_stored;
    },
  )

  -- ---- on the diagonal

  module _ (same : i ≡ j) where
    diagonal_sides : Table → Table
    diagonal_sides y = times_over s.modulus target (times_over s.modulus target (view structures.UnitLower y) (view structures.Diagonal y)) (transpose (view structures.UnitLower y))

    to_row : (x : ℕ) → IsIn target x → IsIn (part s.starts s.op.work.rows i) x
    to_row x x_in = subst (λ d. IsIn (part s.starts d i) x) (sym dims) (subst (λ k. IsIn (part s.starts s.op.work.cols k) x) (sym same) x_in)

    on_diagonal : HasBlock s i j (full_tree s.op counts i j) ↔ EquationHolds s i j
    unfolding diagonal_sides sum
    on_diagonal = from_block (Ldl sum) (tree_is ∙ two_first i j (Ldl sum) _ same) diagonal_sides
        (λ y is_value r c within.
        ap (λ (g : Range). times_over s.modulus g (times_over s.modulus g (view structures.UnitLower y) (view structures.Diagonal y)) (transpose (view structures.UnitLower y)) r c) (sym cols_are)
        ∙ is_value.2 r c (rw rows_are within.row) (rw cols_are within.col) within.inside ∙ value-only s sum is_value.0 pure is_value.1 r c)
        (entry s.solution) (λ r c within. refl)
        (λ meets. (
          value s sum,
          IsValue-value s sum pure,
          λ r c row col inside.
              ap (λ (g : Range). times_over s.modulus g (times_over s.modulus g (view structures.UnitLower (entry s.solution)) (view structures.Diagonal (entry s.solution))) (transpose (view structures.UnitLower (entry s.solution))) r c) cols_are
              ∙ meets r c (at r c row col inside),
        ))
        (λ y stored r c within. ap (λ (x : ℕ). x % s.modulus) (range_sum-same target _ _ (λ x x_in.
        ap₂ (λ (p q : ℕ). p * q)
        (ap (λ (p : ℕ). p % s.modulus) (range_sum-same target _ _ (λ z z_in. ap₂ (λ (p q : ℕ). p * q)
        (lower_reads y (entry s.solution) r z (λ l. sym (stored r z (record { row = within.row; col = z_in; inside = inside_from r z (omega arith) }))))
        (diagonal_reads y (entry s.solution) z x (λ e. sym (stored z x (record { row = to_row z z_in; col = x_in; inside = inside_from z x (omega arith) })))))))
        (lower_reads y (entry s.solution) c x (λ l. sym (stored c x (record { row = to_row c within.col; col = x_in; inside = inside_from c x (omega arith) })))))))

  -- ---- below it

  module _ (more : j < i) where
    below_sides : Table → Table
    below_sides y = times_over s.modulus target y (times_over s.modulus target (d_of s) (transpose (l_of s)))

    row_part : part s.starts s.op.work.rows j ≡ target
    row_part = ap (λ (d : ℕ). part s.starts d j) dims

    r_part : (r : ℕ) → IsIn (part s.starts s.op.work.rows i) r → IsIn (part s.starts s.op.work.cols i) r
    r_part r row = subst (λ d. IsIn (part s.starts d i) r) dims row

    left_of : (r x : ℕ) → IsIn (part s.starts s.op.work.rows i) r → IsIn target x → x < r
    left_of r x row x_in = parts-lt s.starts s.op.work.cols (is.cut.from_zero _) (is.cut.ascending _) j i x r more x_in (r_part r row)

    -- D * L', entry by entry
    scaled_right : (x c : ℕ) → IsIn target x → times_over s.modulus target (d_of s) (transpose (l_of s)) x c ≡ (d_of s x x * l_of s c x) % s.modulus
    scaled_right x c x_in = ap (λ (p : ℕ). p % s.modulus) (range_sum-only target (λ k. d_of s x k * transpose (l_of s) k c) x x_in
        (λ k other. let none : d_of s x k ≡ 0 = diagonal_other (entry s.solution) x k (λ e. other (sym e)) in rw none (omega arith)))

    stored_lower : (a : Table) (r x : ℕ) → x < r → view structures.UnitLower a r x ≡ a r x
    stored_lower a r x l = grind (arith, nat_tests)

    regroup : (y : Table) → IsStored y → (r c : ℕ) (within : IsBlockEntry s i j r c) → below_sides y r c ≡ here r c within
    unfolding below_sides
    regroup y stored r c within =
        let each : (x : ℕ) → IsIn target x → Cong s.modulus (y r x * times_over s.modulus target (d_of s) (transpose (l_of s)) x c)
        (times_over s.modulus target (l_of s) (d_of s) r x * transpose (l_of s) x c) = λ x x_in.
        let y_is : y r x ≡ l_of s r x = sym (stored r x (record { row = within.row; col = x_in; inside = inside_from r x (let l : x < r = left_of r x within.row x_in in omega arith) }))
        ∙ sym (stored_lower (entry s.solution) r x (left_of r x within.row x_in)) in
        Cong-trans (Cong-mul (Cong-from_same y_is) (Cong-trans (Cong-from_same (scaled_right x c x_in)) (Cong-mod s.modulus (d_of s x x * l_of s c x))))
        (Cong-trans (Cong-from_same (omega arith))
        (Cong-sym (Cong-mul (Cong-trans (Cong-from_same (scaled_part s target r x x_in)) (Cong-mod s.modulus (l_of s r x * d_of s x x))) (Cong-refl s.modulus (l_of s c x))))) in
        let all = sum_below-Cong s.modulus _ _ (target.past - target.first) (λ k below. each (target.first + k) (omega arith, omega arith)) in
        all.same

    beneath : HasBlock s i j (full_tree s.op counts i j) ↔ EquationHolds s i j
    unfolding below_sides sum
    beneath = from_block (SolveRight sum (Mul (Block D false j j) (Block L true j j))) (tree_is ∙ two_second i j _ (SolveRight sum (Mul (Block D false j j) (Block L true j j))) (λ e. absurd (omega arith))) below_sides
        (λ y is_value r c within.
        ap (λ (x : ℕ). x % s.modulus) (range_sum-same target _ (λ x. y r x * is_value.0 x c)
        (λ x x_in. ap (λ (q : ℕ). y r x * q) (sym (value-only s (Mul (Block D false j j) (Block L true j j)) is_value.0 (tt, tt) is_value.2 x c))))
        ∙ ap (λ (g : Range). times_over s.modulus g y is_value.0 r c) (sym row_part)
        ∙ is_value.4 r c (rw rows_are within.row) (rw cols_are within.col) within.inside ∙ value-only s sum is_value.1 pure is_value.3 r c)
        (entry s.solution) (λ r c within. refl)
        (λ meets. (
          times_over s.modulus target (d_of s) (transpose (l_of s)),
          value s sum,
          IsValue-value s (Mul (Block D false j j) (Block L true j j)) (tt, tt),
          IsValue-value s sum pure,
          λ r c row col inside. ap (λ (g : Range). times_over s.modulus g (entry s.solution) (times_over s.modulus target (d_of s) (transpose (l_of s))) r c) row_part ∙ meets r c (at r c row col inside),
          λ r c row col outside. absurd (inside_from r c (before r c (subst (λ g. IsIn g r) rows_are row) (subst (λ g. IsIn g c) cols_are col)) outside),
        ))
        regroup
      where
        before : (r c : ℕ) → IsIn (part s.starts s.op.work.rows i) r → IsIn target c → c ≤ r
        before r c row col = let l : c < r = left_of r c row col in omega arith

  -- a block has its value exactly where the equation of the whole holds on it
  pub ldl_block : HasBlock s i j (full_tree s.op counts i j) ↔ EquationHolds s i j
  ldl_block = elim (cases_order i j) [
    | inl same ↦ on_diagonal same
    | inr (inl less) ↦ absurd (omega arith)
    | inr (inr more) ↦ beneath more
  ]
