-- The block expressions of the form `X * op(U) = R`.
use Rattle.std.proofs.Common.{◌≡◌, ℕ, zero, ◌+◌, ◌*◌, ◌%◌, List, Bool, true, false, if◌then◌else◌, refl, sym, ◌∙◌, ap, subst, arith}
use Rattle.std.specs.Prelude.{◌↔◌}
use Rattle.std.proofs.Math.Nat.{mod-lt}
use Rattle.residue_sums.specs.Residues.{Cong}
use Rattle.residue_sums.specs.Sums.{sum_below}
use Rattle.residue_sums.proofs.Sums.{sum_below-zero}
use Rattle.block_values.proofs.ZeroBlocks.{factor_rows}
use Rattle.residue_sums.specs.Tables.{Table, product}
use Rattle.residue_sums.proofs.Congruence.{Cong-sym, Cong-by, Cong-trans, Cong-mod, Cong-from_same, same_from_Cong}
use Rattle.structure_rules.specs.Structures.{IsZero}
use Rattle.operation_spec.specs.declared.operation.Factor.{Factor}
use Rattle.operation_spec.specs.declared.operation.Form.{Form}
use Rattle.operation_spec.specs.declared.operation.Form.TheVariants as forms
use Rattle.equation.specs.Equations.{left_side, right_side, factor_table, solution_table}
use Rattle.task_graph.specs.Tasks.{is_work_block, reads_right, parts_of, has_solve}
use Rattle.task_graph.specs.Listing.{block_of}
use Rattle.block_values.specs.declared.leaf.Leaf.TheVariants.{Work}
use Rattle.block_values.specs.Cuts.{IsIn, part, times_over}
use Rattle.block_values.specs.Trees.{Tree, Block, SolveRight}
use Rattle.block_values.specs.Values.{Setting, IsValue, rows_of, cols_of}
use Rattle.block_values.specs.States.{with_updates, has_solved, full_tree, factor_block}
use Rattle.block_values.specs.PartitionedEquations.{IsBlockEntry, HasBlock, EquationHolds}
use Rattle.block_values.proofs.PureTrees.{IsPure, value, IsValue-value, value-only}
use Rattle.block_values.proofs.TaskShares.{IsPure-with_updates}
use Rattle.block_values.proofs.Ranges.{range_sum-same}
use Rattle.block_values.proofs.BlockSums.{block_sum, left_shares, right_shares, block_sum-shares}
use Rattle.block_values.proofs.Assigned.{IsFitting, rows-with_updates, cols-with_updates, has_solved-block, solved_by, X-inside, X-zero, X-by_places, block_sum-below, right_side-below}
use Rattle.block_values.proofs.SolvedParts.{FactorFits, right_part, right_split}

module _ (s : Setting) (lengths : ℕ → ℕ) (counts : List ℕ) (is : IsFitting s lengths counts) (t : Factor) (form : s.op.form ≡ forms.Right t)
    (fits : FactorFits s s.op.work.cols t) (i j : ℕ) (work : is_work_block s.op counts i j ≡ true) where
  module _ (r c : ℕ) (within : IsBlockEntry s i j r c) where
    abbrev part_here : ℕ
    part_here = right_part s lengths counts is t fits i j r c work within.row within.col j

    abbrev others : ℕ
    others = sum_below (λ k. if reads_right s.op counts t i j k then right_part s lengths counts is t fits i j r c work within.row within.col k else 0) (parts_of counts s.op.work.cols)

    right_given : right_shares s counts i j r c false ≡ 0
    right_given = rw form (sum_below-zero _ _ (λ k below. either _))
      where
        either : (b : Bool) → (if b then zero else zero) ≡ zero
        either true = refl
        either false = refl

    sum_is : Cong s.modulus (block_sum s counts i j r c + others) (right_side s.modulus s.op s.knowns s.work r c)
    sum_is =
        let lefts : right_shares s counts i j r c true ≡ others = rw form refl in
        let rest : (taken : Bool) → left_shares s counts i j r c taken ≡ 0 = λ taken. rw form refl in
        let given : right_shares s counts i j r c false ≡ 0 = right_given in
        Cong-by (block_sum-shares s lengths counts is.cut is.pos is.terms i j r c within.row within.col work)
        (omega (arith, lefts, given, rest true, rest false))

    split : Cong s.modulus (product s.solution.cols (solution_table s.op s.solution) (factor_table s.op s.knowns t) r c) (part_here + others)
    split = right_split s lengths counts is t fits i j r c work within.row within.col

    left_is : left_side s.modulus s.op s.knowns s.solution r c ≡ product s.solution.cols (solution_table s.op s.solution) (factor_table s.op s.knowns t) r c % s.modulus
    left_is = rw form refl

    -- the equation of the block, and that of the whole
    to_whole : part_here ≡ block_sum s counts i j r c → left_side s.modulus s.op s.knowns s.solution r c ≡ right_side s.modulus s.op s.knowns s.work r c
    to_whole e = left_is ∙ same_from_Cong (mod-lt _ is.pos) (right_side-below s lengths counts is i j r c)
        (Cong-trans (Cong-mod s.modulus _) (Cong-trans split (Cong-trans (Cong-from_same (ap (λ (x : ℕ). x + others) e)) sum_is)))

    to_block : left_side s.modulus s.op s.knowns s.solution r c ≡ right_side s.modulus s.op s.knowns s.work r c → part_here ≡ block_sum s counts i j r c
    to_block e =
        let whole : Cong s.modulus (product s.solution.cols (solution_table s.op s.solution) (factor_table s.op s.knowns t) r c) (right_side s.modulus s.op s.knowns s.work r c) =
        Cong-trans (Cong-sym (Cong-mod s.modulus _)) (Cong-from_same (sym left_is ∙ e)) in
        same_from_Cong (mod-lt _ is.pos) (block_sum-below s lengths counts is i j r c)
        (Cong-by (Cong-trans (Cong-sym split) (Cong-trans whole (Cong-sym sum_is))) (omega arith))

  sum : Tree
  sum = with_updates s.op (block_of s.op counts i j) (Block Work false i j)

  tree_is : full_tree s.op counts i j ≡ SolveRight sum (factor_block t j j)
  unfolding sum
  tree_is = solved_by s.op.form (forms.Right t) form (has_solved (block_of s.op counts i j))
      (has_solved-block s.op counts i j work (solves s.op.form form)) i j (with_updates s.op (block_of s.op counts i j) (Block Work false i j))
    where
      solves : (f : Form) → f ≡ forms.Right t → has_solve f ≡ true
      solves f e = rw e refl

  pure : IsPure sum
  unfolding sum
  pure = IsPure-with_updates s (block_of s.op counts i j) (Block Work false i j) tt

  rows_are : rows_of s sum ≡ part s.starts s.op.work.rows i
  unfolding sum
  rows_are = rows-with_updates s (block_of s.op counts i j) (Block Work false i j)

  cols_are : cols_of s sum ≡ part s.starts s.op.work.cols j
  unfolding sum
  cols_are = cols-with_updates s (block_of s.op counts i j) (Block Work false i j)

  -- the value of the tree, on the places of the block
  record Solves (y : Table) : Type 0 where
    meets : (r c : ℕ) → IsBlockEntry s i j r c
        → times_over s.modulus (part s.starts (factor_rows s.op t) j) y (factor_table s.op s.knowns t) r c ≡ block_sum s counts i j r c
    zeros : (r c : ℕ) → IsIn (part s.starts s.op.work.rows i) r → IsIn (part s.starts s.op.work.cols j) c → IsZero s.op.work.structure r c → y r c ≡ 0

  same_times : (p y y' : Table) (r c : ℕ) → ((r c : ℕ) → p r c ≡ factor_table s.op s.knowns t r c) → ((x : ℕ) → IsIn (part s.starts (factor_rows s.op t) j) x → y r x ≡ y' r x)
      → times_over s.modulus (part s.starts (factor_rows s.op t) j) y p r c ≡ times_over s.modulus (part s.starts (factor_rows s.op t) j) y' (factor_table s.op s.knowns t) r c
  same_times p y y' r c left right = ap (λ (x : ℕ). x % s.modulus) (range_sum-same _ (λ x. y r x * p x c) (λ x. y' r x * factor_table s.op s.knowns t x c)
      (λ x x_in. rw (left x c) (rw (right x x_in) refl)))

  Solves-value : (y : Table) → IsValue s (SolveRight sum (factor_block t j j)) y → Solves y
  unfolding sum
  Solves-value y is_value = record {
    meets = λ r c within.
        sym (same_times is_value.0 y y r c is_value.2 (λ x x_in. refl))
        ∙ is_value.4 r c (rw rows_are within.row) (rw cols_are within.col) within.inside ∙ value-only s sum is_value.1 pure is_value.3 r c;
    zeros = λ r c row col outside. is_value.5 r c (rw rows_are row) (rw cols_are col) outside;
  }

  value-Solves : (y : Table) → Solves y → IsValue s (SolveRight sum (factor_block t j j)) y
  unfolding sum
  value-Solves y solves = (
    factor_table s.op s.knowns t,
    value s sum,
    λ r c. refl,
    IsValue-value s sum pure,
    λ r c row col inside. solves.meets r c (record { row = subst (λ g. IsIn g r) rows_are row; col = subst (λ g. IsIn g c) cols_are col; inside = inside }),
    λ r c row col outside. solves.zeros r c (subst (λ g. IsIn g r) rows_are row) (subst (λ g. IsIn g c) cols_are col) outside,
  )

  -- the inner part of the solve is that of the column
  here_is : (r c : ℕ) → times_over s.modulus (part s.starts (factor_rows s.op t) j) (solution_table s.op s.solution) (factor_table s.op s.knowns t) r c
      ≡ times_over s.modulus (part s.starts s.op.work.cols j) (solution_table s.op s.solution) (factor_table s.op s.knowns t) r c
  here_is r c = ap (λ (d : ℕ). times_over s.modulus (part s.starts d j) (solution_table s.op s.solution) (factor_table s.op s.knowns t) r c) fits.rows

  -- a block has its value exactly where the equation of the whole holds on it
  pub right_block : HasBlock s i j (full_tree s.op counts i j) ↔ EquationHolds s i j
  right_block = (
    λ has r c within.
        let solves : Solves has.y = Solves-value has.y (subst (λ e. IsValue s e has.y) tree_is has.value) in
        let is_X = X-by_places s i j has.y has.same solves.zeros in
        to_whole r c within (sym (here_is r c) ∙ sym (same_times (factor_table s.op s.knowns t) has.y (solution_table s.op s.solution) r c (λ r c. refl)
        (λ x x_in. is_X r x within.row (subst (λ d. IsIn (part s.starts d j) x) fits.rows x_in))) ∙ solves.meets r c within),
    λ holds. record {
      y = solution_table s.op s.solution;
      value = subst (λ e. IsValue s e (solution_table s.op s.solution)) (sym tree_is) (value-Solves (solution_table s.op s.solution) (record {
        meets = λ r c within. here_is r c ∙ to_block r c within (holds r c within);
        zeros = λ r c row col outside. X-zero s r c outside;
      }));
      same = λ r c within. sym (X-inside s r c within.inside);
    },
  )
