-- A step meets one bad pivot at most, by what the steps before it left. Cited where a step has one outcome.
use Rattle.std.proofs.Common.{◌≡◌, ℕ, ◌+◌, ◌*◌, ◌<◌, ◌≤◌, ◌⊎◌, inl, inr, sym, ◌∙◌, ap}
use Rattle.std.proofs.lemmas.Bool.{cases_order}
use Rattle.residue_sums.specs.Tables.{Table}
use Rattle.residue_sums.specs.Grids.{entry}
use Rattle.operation_spec.specs.declared.operation.Form.{Form}
use Rattle.operation_spec.specs.declared.operation.Form.TheVariants.{Assign, Left, Right, Sylvester, Lu, Ldl}
use Rattle.operation_spec.specs.declared.operation.Operation.{Operation}
use Rattle.operation_spec.specs.declared.task.Kind.{Kind}
use Rattle.operation_spec.specs.declared.task.Kind.TheVariants as kinds
use Rattle.operation_spec.specs.declared.task.Task.{Task}
use Rattle.equation.specs.declared.job.Job.{Job}
use Rattle.equation.specs.declared.job.Place.{Place}
use Rattle.equation.specs.declared.job.Statement.{Statement}
use Rattle.equation.specs.Jobs.{nth_grid}
use Rattle.equation.specs.Pivots.{IsFirstOnDiagonal, IsFirstByRows, IsBefore, IsBadForLu, IsBadForLdl}
use Rattle.equation.proofs.FactorPivots.{one_lu_bad_pivot, one_ldl_bad_pivot}
use Rattle.flash_blocks.specs.Blocks.{Blocks}
use Rattle.block_tasks.specs.Effects.{IsBadDiagonal, bad_factor, bad_pivots}
use Rattle.step_replays.specs.Accesses.{operation_of}
use Rattle.step_replays.specs.Replays.{bad_step_by, known_blocks, IsBadStep}

place-of : (p q : Place) → p.row ≡ q.row → p.col ≡ q.col → p ≡ q
place-of p q row col = λ x. record { row = row x; col = col x }

-- ---- tests of pivots

diagonal-place : (m n : ℕ) (pivot : ℕ → ℕ) (p q : Place) → IsFirstOnDiagonal m n pivot p → IsFirstOnDiagonal m n pivot q → p ≡ q
diagonal-place m n pivot p q p_is q_is = elim (cases_order p.row q.row) [
  | inl same ↦ place-of p q same (p_is.diagonal ∙ same ∙ sym q_is.diagonal)
  | inr (inl less) ↦ absurd (p_is.bad (q_is.first p.row less))
  | inr (inr more) ↦ absurd (q_is.bad (p_is.first q.row more))
]

-- of two places one comes before the other row by row, or they are one
row-order : (p q : Place) → (p ≡ q) ⊎ IsBefore p.row p.col q ⊎ IsBefore q.row q.col p
row-order p q = elim (cases_order p.row q.row) [
  | inr (inl less) ↦ inr (inl (inl less))
  | inr (inr more) ↦ inr (inr (inl more))
  | inl row ↦ elim (cases_order p.col q.col) [
    | inl col ↦ inl (place-of p q row col)
    | inr (inl less) ↦ inr (inl (inr (row, less)))
    | inr (inr more) ↦ inr (inr (inr (sym row, more)))
  ]
]

rows-place : (m rows cols : ℕ) (pivot : Table) (p q : Place) → IsFirstByRows m rows cols pivot p → IsFirstByRows m rows cols pivot q → p ≡ q
rows-place m rows cols pivot p q p_is q_is = elim (row-order p q) [
  | inl same ↦ same
  | inr (inl before) ↦ absurd (p_is.bad (q_is.first p.row p.col p_is.row p_is.col before))
  | inr (inr behind) ↦ absurd (q_is.bad (p_is.first q.row q.col q_is.row q_is.col behind))
]

one-bad_pivots : (m b : ℕ) (op : Operation) (knowns : ℕ → Blocks) (rows cols : ℕ) (form : Form) (p q : Place)
    → bad_pivots m b op knowns rows cols form p → bad_pivots m b op knowns rows cols form q → p ≡ q
one-bad_pivots m b op knowns rows cols Assign p q p_is q_is = absurd p_is
one-bad_pivots m b op knowns rows cols Lu p q p_is q_is = absurd p_is
one-bad_pivots m b op knowns rows cols Ldl p q p_is q_is = absurd p_is
one-bad_pivots m b op knowns rows cols (Left t) p q p_is q_is = diagonal-place m rows _ p q p_is q_is
one-bad_pivots m b op knowns rows cols (Right u) p q p_is q_is = diagonal-place m cols _ p q p_is q_is
one-bad_pivots m b op knowns rows cols (Sylvester t u negative) p q p_is q_is = rows-place m rows cols _ p q p_is q_is

-- ---- factorisations of a diagonal block

one-bad_diagonal : (IsBad : Table → ℕ → Type 0) (b : ℕ) (work : Blocks) (i j : ℕ) (p q : Place)
    → ((x y : ℕ) → x < (work i j).rows → y < (work i j).rows → IsBad (entry (work i j)) x → IsBad (entry (work i j)) y → x ≡ y)
    → IsBadDiagonal IsBad b work i j p → IsBadDiagonal IsBad b work i j q → p ≡ q
one-bad_diagonal IsBad b work i j p q one p_is q_is =
    let same : p_is.2.0 ≡ q_is.2.0 = one p_is.2.0 q_is.2.0 p_is.2.2 q_is.2.2 p_is.2.3 q_is.2.3 in
    let row : p.row ≡ q.row = p_is.2.1 ∙ ap (λ (x : ℕ). i * b + x) same ∙ sym q_is.2.1 in
    place-of p q row (p_is.1 ∙ row ∙ sym q_is.1)

one-bad_factor : (m b : ℕ) → 2 ≤ m → (form : Form) (work : Blocks) (i j : ℕ) (p q : Place) → bad_factor m b form work i j p → bad_factor m b form work i j q → p ≡ q
one-bad_factor m b two Assign work i j p q p_is q_is = absurd p_is
one-bad_factor m b two (Left t) work i j p q p_is q_is = absurd p_is
one-bad_factor m b two (Right u) work i j p q p_is q_is = absurd p_is
one-bad_factor m b two (Sylvester t u negative) work i j p q p_is q_is = absurd p_is
one-bad_factor m b two Lu work i j p q p_is q_is = one-bad_diagonal (IsBadForLu m) b work i j p q (λ x y. one_lu_bad_pivot m (work i j).rows two (entry (work i j)) x y) p_is q_is
one-bad_factor m b two Ldl work i j p q p_is q_is = one-bad_diagonal (IsBadForLdl m) b work i j p q (λ x y. one_ldl_bad_pivot m (work i j).rows two (entry (work i j)) x y) p_is q_is

-- ---- any step

pub one-bad_step : (job : Job) (b : ℕ) → 2 ≤ job.modulus → (blocks : ℕ → Blocks) (s : Statement) (u : Task) (p q : Place)
    → IsBadStep job b blocks s u p → IsBadStep job b blocks s u q → p ≡ q
one-bad_step job b two blocks s u p q = by_kind u.kind
  where
    by_kind : (kind : Kind) → bad_step_by job b blocks s kind u p → bad_step_by job b blocks s kind u q → p ≡ q
    by_kind kinds.Pivots p_is q_is = one-bad_pivots job.modulus b (operation_of job s) (known_blocks blocks s.bind) (nth_grid job.matrices s.bind.work).rows
        (nth_grid job.matrices s.bind.work).cols (operation_of job s).form p q p_is q_is
    by_kind kinds.Term p_is q_is = absurd p_is
    by_kind kinds.Left p_is q_is = absurd p_is
    by_kind kinds.Right p_is q_is = absurd p_is
    by_kind kinds.Solve p_is q_is = one-bad_factor job.modulus b two (operation_of job s).form (blocks s.bind.work) u.i u.j p q p_is q_is
