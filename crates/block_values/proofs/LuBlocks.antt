-- The block expressions of the form `lu X = R`.
use Rattle.std.proofs.Common.{◌≡◌, ℕ, min, ◌*◌, ◌%◌, ◌<◌, inl, inr, List, true, false, if◌then◌else◌, refl, sym, ◌∙◌, ap, ap₂, subst, arith}
use Rattle.std.specs.Prelude.{◌↔◌, ◌==◌, nat_lt}
use Rattle.std.proofs.lemmas.Bool.{cases_order}
use Rattle.std.proofs.lemmas.Bool.Decides.{nat_tests}
use Rattle.residue_sums.specs.Tables.{Table}
use Rattle.residue_sums.specs.Grids.{entry}
use Rattle.structure_rules.specs.declared.Structure.TheVariants as structures
use Rattle.structure_rules.specs.Structures.{IsZero, IsInside, view}
use Rattle.operation_spec.specs.declared.operation.Form.{Form}
use Rattle.operation_spec.specs.declared.operation.Form.TheVariants as forms
use Rattle.task_graph.specs.Tasks.{is_work_block, has_solve}
use Rattle.task_graph.specs.Listing.{block_of}
use Rattle.block_values.specs.declared.leaf.Leaf.TheVariants.{Work, L, U}
use Rattle.block_values.specs.Cuts.{Range, IsIn, part, times_over}
use Rattle.block_values.specs.Trees.{Tree, Block, SolveLeft, SolveRight, Lu}
use Rattle.block_values.specs.Values.{Setting, IsValue, rows_of, cols_of}
use Rattle.block_values.specs.States.{with_updates, has_solved, solved, full_tree}
use Rattle.block_values.specs.PartitionedEquations.{IsBlockEntry, HasBlock, EquationHolds}
use Rattle.block_values.proofs.PureTrees.{IsPure, value, IsValue-value, value-only}
use Rattle.block_values.proofs.TaskShares.{IsPure-with_updates}
use Rattle.block_values.proofs.Ranges.{range_sum-same, parts-lt}
use Rattle.block_values.proofs.BlockSums.{block_sum}
use Rattle.block_values.proofs.Assigned.{IsFitting, rows-with_updates, cols-with_updates, has_solved-block, solved_by}
use Rattle.block_values.proofs.LuParts.{l_of, u_of, lu_part, to_whole, to_block}

-- which of three trees a block has
first_tree : (i j : ℕ) (a b c : Tree) → i ≡ j → (if i == j then a else (if nat_lt i j then b else c)) ≡ a
first_tree i j a b c h = grind (arith, nat_tests)

second_tree : (i j : ℕ) (a b c : Tree) → i < j → (if i == j then a else (if nat_lt i j then b else c)) ≡ b
second_tree i j a b c h = grind (arith, nat_tests)

third_tree : (i j : ℕ) (a b c : Tree) → j < i → (if i == j then a else (if nat_lt i j then b else c)) ≡ c
third_tree i j a b c h = grind (arith, nat_tests)

-- views of entries that agree, and of entries that are stored as they are
lower_same : (a b : Table) (r x : ℕ) → a r x ≡ b r x → view structures.UnitLower a r x ≡ view structures.UnitLower b r x
lower_same a b r x e = rw e refl

upper_same : (a b : Table) (r x : ℕ) → a r x ≡ b r x → view structures.Upper a r x ≡ view structures.Upper b r x
upper_same a b r x e = rw e refl

lower_stored : (a : Table) (r x : ℕ) → x < r → view structures.UnitLower a r x ≡ a r x
lower_stored a r x h = grind (arith, nat_tests)

upper_stored : (a : Table) (x c : ℕ) → x < c → view structures.Upper a x c ≡ a x c
upper_stored a x c h = grind (arith, nat_tests)

module _ (s : Setting) (lengths : ℕ → ℕ) (counts : List ℕ) (is : IsFitting s lengths counts) (form : s.op.form ≡ forms.Lu)
    (general : s.op.work.structure ≡ structures.General) (dims : s.op.work.rows ≡ s.op.work.cols) (i j : ℕ) (work : is_work_block s.op counts i j ≡ true) where
  sum : Tree
  sum = with_updates s.op (block_of s.op counts i j) (Block Work false i j)

  pure : IsPure sum
  unfolding sum
  pure = IsPure-with_updates s (block_of s.op counts i j) (Block Work false i j) tt

  rows_are : rows_of s sum ≡ part s.starts s.op.work.rows i
  unfolding sum
  rows_are = rows-with_updates s (block_of s.op counts i j) (Block Work false i j)

  cols_are : cols_of s sum ≡ part s.starts s.op.work.cols j
  unfolding sum
  cols_are = cols-with_updates s (block_of s.op counts i j) (Block Work false i j)

  tree_is : full_tree s.op counts i j ≡ solved forms.Lu i j sum
  unfolding sum
  tree_is = solved_by s.op.form forms.Lu form (has_solved (block_of s.op counts i j))
      (has_solved-block s.op counts i j work (solves s.op.form form)) i j (with_updates s.op (block_of s.op counts i j) (Block Work false i j))
    where
      solves : (f : Form) → f ≡ forms.Lu → has_solve f ≡ true
      solves f e = rw e refl

  inside_all : (r c : ℕ) → IsInside s.op.work.structure r c
  inside_all r c = subst (λ z. IsInside z r c) (sym general) (λ h. h)

  none_zero : (r c : ℕ) → IsZero s.op.work.structure r c → ⊥
  none_zero r c h = inside_all r c h

  at : (r c : ℕ) → IsIn (rows_of s sum) r → IsIn (cols_of s sum) c → IsBlockEntry s i j r c
  at r c row col = record { row = subst (λ g. IsIn g r) rows_are row; col = subst (λ g. IsIn g c) cols_are col; inside = inside_all r c }

  -- the part that the solve reads
  abbrev target : Range
  target = part s.starts s.op.work.cols (min i j)

  -- y has the entries of the stored solution on the block
  abbrev IsStored : Table → Type 0
  IsStored y = (r c : ℕ) → IsBlockEntry s i j r c → entry s.solution r c ≡ y r c

  abbrev here : (r c : ℕ) → IsBlockEntry s i j r c → ℕ
  here r c within = lu_part s lengths counts is form dims i j work r c within (min i j)

  from_block : (e : Tree) → full_tree s.op counts i j ≡ e → (sides : Table → Table)
      → ((y : Table) → IsValue s e y → (r c : ℕ) → IsBlockEntry s i j r c → sides y r c ≡ block_sum s counts i j r c)
      → ((y : Table) → ((r c : ℕ) → IsBlockEntry s i j r c → sides y r c ≡ block_sum s counts i j r c) → IsValue s e y)
      → ((y : Table) → IsStored y → (r c : ℕ) (within : IsBlockEntry s i j r c) → sides y r c ≡ here r c within)
      → HasBlock s i j (full_tree s.op counts i j) ↔ EquationHolds s i j
  from_block e is_e sides from_value to_value agrees = (
    λ has r c within. to_whole s lengths counts is form dims i j work r c within
        (sym (agrees has.y has.same r c within) ∙ from_value has.y (subst (λ z. IsValue s z has.y) is_e has.value) r c within),
    λ holds. record {
      y = entry s.solution;
      value = subst (λ z. IsValue s z (entry s.solution)) (sym is_e) (to_value (entry s.solution)
          (λ r c within. agrees (entry s.solution) (λ a b h. refl) r c within ∙ to_block s lengths counts is form dims i j work r c within (holds r c within)));
      same = λ r c within. refl;
    },
  )

  -- ---- on the diagonal

  module _ (same : i ≡ j) where
    diagonal_sides : Table → Table
    diagonal_sides y = times_over s.modulus target (view structures.UnitLower y) (view structures.Upper y)

    target_is : cols_of s sum ≡ target
    target_is = let least : j ≡ min i j = omega arith in cols_are ∙ ap (λ (k : ℕ). part s.starts s.op.work.cols k) least

    on_diagonal : HasBlock s i j (full_tree s.op counts i j) ↔ EquationHolds s i j
    unfolding diagonal_sides sum
    on_diagonal = from_block (Lu sum) (tree_is ∙ first_tree i j (Lu sum) _ _ same) diagonal_sides
        (λ y is_value r c within.
        ap (λ (g : Range). times_over s.modulus g (view structures.UnitLower y) (view structures.Upper y) r c) (sym target_is)
        ∙ is_value.2 r c (rw rows_are within.row) (rw cols_are within.col) within.inside ∙ value-only s sum is_value.0 pure is_value.1 r c)
        (λ y meets. (
          value s sum,
          IsValue-value s sum pure,
          λ r c row col inside.
              ap (λ (g : Range). times_over s.modulus g (view structures.UnitLower y) (view structures.Upper y) r c) target_is ∙ meets r c (at r c row col),
        ))
        (λ y stored r c within. ap (λ (x : ℕ). x % s.modulus) (range_sum-same target _ _ (λ x x_in.
        let least : min i j ≡ j = omega arith in
        let x_col : IsIn (part s.starts s.op.work.cols j) x = subst (λ k. IsIn (part s.starts s.op.work.cols k) x) least x_in in
        let x_row : IsIn (part s.starts s.op.work.rows i) x = subst (λ d. IsIn (part s.starts d i) x) (sym dims) (subst (λ k. IsIn (part s.starts s.op.work.cols k) x) (sym same) x_col) in
        ap₂ (λ (p q : ℕ). p * q)
        (lower_same y (entry s.solution) r x (sym (stored r x (record { row = within.row; col = x_col; inside = inside_all r x }))))
        (upper_same y (entry s.solution) x c (sym (stored x c (record { row = x_row; col = within.col; inside = inside_all x c })))))))

  -- ---- above it

  module _ (less : i < j) where
    above_sides : Table → Table
    above_sides y = times_over s.modulus target (l_of s) y

    above_target : part s.starts s.op.work.cols i ≡ target
    above_target = let least : i ≡ min i j = omega arith in ap (λ (k : ℕ). part s.starts s.op.work.cols k) least

    above : HasBlock s i j (full_tree s.op counts i j) ↔ EquationHolds s i j
    unfolding above_sides sum
    above = from_block (SolveLeft (Block L false i i) sum) (tree_is ∙ second_tree i j _ (SolveLeft (Block L false i i) sum) _ less) above_sides
        (λ y is_value r c within.
        ap (λ (x : ℕ). x % s.modulus) (range_sum-same target (λ x. l_of s r x * y x c) (λ x. is_value.0 r x * y x c) (λ x x_in. rw (is_value.2 r x) refl))
        ∙ ap (λ (g : Range). times_over s.modulus g is_value.0 y r c) (sym above_target)
        ∙ is_value.4 r c (rw rows_are within.row) (rw cols_are within.col) within.inside ∙ value-only s sum is_value.1 pure is_value.3 r c)
        (λ y meets. (
          l_of s,
          value s sum,
          λ r c. refl,
          IsValue-value s sum pure,
          λ r c row col inside. ap (λ (g : Range). times_over s.modulus g (l_of s) y r c) above_target ∙ meets r c (at r c row col),
          λ r c row col outside. absurd (none_zero r c outside),
        ))
        (λ y stored r c within. ap (λ (x : ℕ). x % s.modulus) (range_sum-same target _ _ (λ x x_in.
        let least : min i j ≡ i = omega arith in
        let x_part : IsIn (part s.starts s.op.work.cols i) x = subst (λ k. IsIn (part s.starts s.op.work.cols k) x) least x_in in
        let x_row : IsIn (part s.starts s.op.work.rows i) x = subst (λ d. IsIn (part s.starts d i) x) (sym dims) x_part in
        let x_before : x < c = parts-lt s.starts s.op.work.cols (is.cut.from_zero _) (is.cut.ascending _) i j x c less x_part within.col in
        ap (λ (q : ℕ). l_of s r x * q)
        (sym (stored x c (record { row = x_row; col = within.col; inside = inside_all x c })) ∙ sym (upper_stored (entry s.solution) x c x_before)))))

  -- ---- below it

  module _ (more : j < i) where
    below_sides : Table → Table
    below_sides y = times_over s.modulus target y (u_of s)

    below_target : part s.starts s.op.work.rows j ≡ target
    below_target = let least : j ≡ min i j = omega arith in ap (λ (d : ℕ). part s.starts d j) dims ∙ ap (λ (k : ℕ). part s.starts s.op.work.cols k) least

    beneath : HasBlock s i j (full_tree s.op counts i j) ↔ EquationHolds s i j
    unfolding below_sides sum
    beneath = from_block (SolveRight sum (Block U false j j)) (tree_is ∙ third_tree i j _ _ (SolveRight sum (Block U false j j)) more) below_sides
        (λ y is_value r c within.
        ap (λ (x : ℕ). x % s.modulus) (range_sum-same target (λ x. y r x * u_of s x c) (λ x. y r x * is_value.0 x c) (λ x x_in. rw (is_value.2 x c) refl))
        ∙ ap (λ (g : Range). times_over s.modulus g y is_value.0 r c) (sym below_target)
        ∙ is_value.4 r c (rw rows_are within.row) (rw cols_are within.col) within.inside ∙ value-only s sum is_value.1 pure is_value.3 r c)
        (λ y meets. (
          u_of s,
          value s sum,
          λ r c. refl,
          IsValue-value s sum pure,
          λ r c row col inside. ap (λ (g : Range). times_over s.modulus g y (u_of s) r c) below_target ∙ meets r c (at r c row col),
          λ r c row col outside. absurd (none_zero r c outside),
        ))
        (λ y stored r c within. ap (λ (x : ℕ). x % s.modulus) (range_sum-same target _ _ (λ x x_in.
        let least : min i j ≡ j = omega arith in
        let x_col : IsIn (part s.starts s.op.work.cols j) x = subst (λ k. IsIn (part s.starts s.op.work.cols k) x) least x_in in
        let r_part : IsIn (part s.starts s.op.work.cols i) r = subst (λ d. IsIn (part s.starts d i) r) dims within.row in
        let x_before : x < r = parts-lt s.starts s.op.work.cols (is.cut.from_zero _) (is.cut.ascending _) j i x r more x_col r_part in
        ap (λ (q : ℕ). q * u_of s x c)
        (sym (stored r x (record { row = within.row; col = x_col; inside = inside_all r x })) ∙ sym (lower_stored (entry s.solution) r x x_before)))))

  -- a block has its value exactly where the equation of the whole holds on it
  pub lu_block : HasBlock s i j (full_tree s.op counts i j) ↔ EquationHolds s i j
  lu_block = elim (cases_order i j) [
    | inl same ↦ on_diagonal same
    | inr (inl less) ↦ above less
    | inr (inr more) ↦ beneath more
  ]
