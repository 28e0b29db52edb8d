-- The step that tests the pivots of a statement, in a replay of a job: it fails at the statement's first bad pivot, and where it ran there
-- is none. Cited where the outcome of a statement is what it means.
use Rattle.std.proofs.Common.{◌≡◌, ℕ, suc, ◌<◌, ◌≤◌, inl, inr, true, List, length, get_or, All, refl, sym, ◌∙◌, ap, subst, arith}
use Rattle.std.proofs.lemmas.Bool.{cases_lt, false≢true}
use Rattle.std.proofs.lemmas.List.{get_or-map, get_or_past, length-map}
use Rattle.std.proofs.lemmas.List.Elements.{All-get_or}
use Rattle.std.proofs.lemmas.List.FromFn.{get_or-map-range_with_len}
use Rattle.residue_sums.specs.Grids.{Grid}
use Rattle.operation_spec.specs.declared.operation.Operation.{Operation}
use Rattle.operation_spec.specs.declared.operation.Binding.{Binding}
use Rattle.operation_spec.specs.declared.operation.Form.{Form}
use Rattle.operation_spec.specs.declared.operation.Form.TheVariants.{Assign, Left, Right, Sylvester, Lu, Ldl}
use Rattle.equation.specs.declared.job.Place.{Place}
use Rattle.equation.specs.Equations.{known_grid}
use Rattle.equation.specs.Jobs.{nth_grid, no_grid, known_grids}
use Rattle.equation.proofs.JobMeanings.{AreKept}
use Rattle.equation.specs.Pivots.{IsFirstBadPivot}
use Rattle.flash_blocks.specs.Blocks.{Blocks, block_of}
use Rattle.block_tasks.specs.Effects.{AreKnown, bad_pivots}
use Rattle.block_tasks.proofs.StatementSizes.{left-factor, right-factor, sylvester-factors}
use Rattle.step_replays.specs.Accesses.{has_pivots}
use Rattle.step_replays.specs.Replays.{Ran, Failed, known_blocks, IsBadStep, pivots_task}
use Rattle.step_replays.specs.Fits.{IsAt}
use Rattle.step_replays.proofs.ReplayBlocks.{cut-gathered, shape}
use Rattle.step_replays.proofs.ReplayRuns.{no-parts}
use Rattle.step_replays.proofs.KeptMatrices.{kept-at}
use Rattle.step_replays.proofs.PivotSteps.{bad-left, left-bad, bad-right, right-bad, bad-sylvester, sylvester-bad}
use Rattle.step_replays.proofs.JobReplays.{JobReplay, ran-done, failed-done, own_valid, kept_fits, kept_counts, own_fits, two, cuts, result_at, blocks_at, matrix_at, matrices_at, IsResultAt, own_statement, own_operation, own_binding, own_counts}

module _ (replay : JobReplay) where
  nth-after : (s k : ℕ) → k < length replay.job.matrices → nth_grid (matrices_at replay s) k ≡ matrix_at replay s k
  nth-after s k below = get_or-map-range_with_len (matrix_at replay s) 0 (length replay.job.matrices) k k no_grid below (omega arith)

  -- at any step the blocks of the known matrices are those of the matrices
  pub known-blocks : (s : ℕ) → s ≤ length replay.steps → (bind : Binding) → All (λ k. k < length replay.job.matrices) bind.knowns
      → AreKnown replay.b (known_grids (matrices_at replay s) bind) (known_blocks (blocks_at replay s) bind)
  known-blocks s le bind knowns_in k i j row col = elim (cases_lt k (length bind.knowns)) [
    | inl known ↦ here known
    | inr past ↦ absurd (omega (
      arith,
      no-parts replay.b replay.pos,
      rw (get_or_past (known_grids (matrices_at replay s) bind) k no_grid
          (omega (arith, length-map bind.knowns (nth_grid (matrices_at replay s))))) at row,
    ))
  ]
    where
      number : ℕ
      number = get_or bind.knowns k 0

      here : k < length bind.knowns → known_blocks (blocks_at replay s) bind k i j ≡ block_of replay.b (known_grid (known_grids (matrices_at replay s) bind) k) i j
      here known =
          let k_in : number < length replay.job.matrices = All-get_or (λ k. k < length replay.job.matrices) bind.knowns k 0 known knowns_in in
          let is : known_grid (known_grids (matrices_at replay s) bind) k ≡ matrix_at replay s number
          = get_or-map (nth_grid (matrices_at replay s)) bind.knowns k 0 no_grid known ∙ nth-after s number k_in in
          let size = shape replay s number i j le (k_in, rw is at row, rw is at col) in
          sym (cut-gathered replay.b (blocks_at replay s number) (nth_grid replay.job.matrices number).rows (nth_grid replay.job.matrices number).cols i j size.full size.rows size.cols)
          ∙ ap (λ (g : Grid). block_of replay.b g i j) (sym is)

  -- ---- the step

  module _ (t p : ℕ) (t_in : t < length replay.job.statements) (at : IsAt replay.steps p (suc t) pivots_task)
      (some : has_pivots (own_operation replay t) ≡ true) where
    abbrev op : Operation
    op = own_operation replay t

    abbrev bind : Binding
    bind = (own_binding replay t)

    abbrev before : List Grid
    before = matrices_at replay p

    abbrev kept : AreKept replay.job (matrices_at replay p)
    kept = kept-at replay p (omega (arith, at.0))

    abbrev found : ℕ → Blocks
    found = known_blocks (blocks_at replay p) bind

    are : AreKnown replay.b (known_grids before bind) found
    are = known-blocks p (omega (arith, at.0)) bind (own_fits replay t t_in).knowns_in

    work-is : nth_grid before bind.work ≡ matrix_at replay p bind.work
    work-is = nth-after p bind.work (cuts replay t t_in).work_in

    -- a bad pivot of the blocks, with the sizes of the work matrix as the step reads them
    abbrev IsBadHere : Place → Type 0
    IsBadHere place = bad_pivots replay.job.modulus replay.b op found (nth_grid replay.job.matrices bind.work).rows (nth_grid replay.job.matrices bind.work).cols op.form place

    abbrev IsBadThere : Place → Type 0
    IsBadThere place = bad_pivots replay.job.modulus replay.b op found (nth_grid before bind.work).rows (nth_grid before bind.work).cols op.form place

    there : (place : Place) → IsBadHere place → IsBadThere place
    there place h = subst (λ (g : Grid). bad_pivots replay.job.modulus replay.b op found g.rows g.cols op.form place) (sym work-is) h

    back : (place : Place) → IsBadThere place → IsBadHere place
    back place h = subst (λ (g : Grid). bad_pivots replay.job.modulus replay.b op found g.rows g.cols op.form place) work-is h

    first-bad : (place : Place) (form : Form) → op.form ≡ form → IsBadThere place → IsFirstBadPivot replay.job.modulus op (known_grids before bind) (nth_grid before bind.work) place
    first-bad place Assign e h = absurd (rw e at h)
    first-bad place Lu e h = absurd (rw e at h)
    first-bad place Ldl e h = absurd (rw e at h)
    first-bad place (Left f) e h = bad-left replay.job.modulus replay.b replay.pos op (known_grids before bind) (nth_grid before bind.work) found are f place e
        (left-factor replay.job.modulus replay.b (two replay) replay.pos op (own_valid replay t t_in) before bind (kept_fits replay t t_in before kept) (own_counts replay t) (kept_counts replay t t_in before kept) f e) h
    first-bad place (Right f) e h = bad-right replay.job.modulus replay.b replay.pos op (known_grids before bind) (nth_grid before bind.work) found are f place e
        (right-factor replay.job.modulus replay.b (two replay) replay.pos op (own_valid replay t t_in) before bind (kept_fits replay t t_in before kept) (own_counts replay t) (kept_counts replay t t_in before kept) f e) h
    first-bad place (Sylvester f g negative) e h =
        let sizes = sylvester-factors replay.job.modulus replay.b (two replay) replay.pos op (own_valid replay t t_in) before bind (kept_fits replay t t_in before kept) (own_counts replay t) (kept_counts replay t t_in before kept) f g negative e in
        bad-sylvester replay.job.modulus replay.b replay.pos op (known_grids before bind) (nth_grid before bind.work) found are f g place sizes.0 sizes.1 negative e h

    bad-first : (place : Place) (form : Form) → op.form ≡ form → IsFirstBadPivot replay.job.modulus op (known_grids before bind) (nth_grid before bind.work) place → IsBadThere place
    bad-first place Assign e h = absurd (rw e at h)
    bad-first place Lu e h = absurd (false≢true (rw e at some))
    bad-first place Ldl e h = absurd (false≢true (rw e at some))
    bad-first place (Left f) e h = left-bad replay.job.modulus replay.b replay.pos op (known_grids before bind) (nth_grid before bind.work) found are f place e
        (left-factor replay.job.modulus replay.b (two replay) replay.pos op (own_valid replay t t_in) before bind (kept_fits replay t t_in before kept) (own_counts replay t) (kept_counts replay t t_in before kept) f e) h
    bad-first place (Right f) e h = right-bad replay.job.modulus replay.b replay.pos op (known_grids before bind) (nth_grid before bind.work) found are f place e
        (right-factor replay.job.modulus replay.b (two replay) replay.pos op (own_valid replay t t_in) before bind (kept_fits replay t t_in before kept) (own_counts replay t) (kept_counts replay t t_in before kept) f e) h
    bad-first place (Sylvester f g negative) e h =
        let sizes = sylvester-factors replay.job.modulus replay.b (two replay) replay.pos op (own_valid replay t t_in) before bind (kept_fits replay t t_in before kept) (own_counts replay t) (kept_counts replay t t_in before kept) f g negative e in
        sylvester-bad replay.job.modulus replay.b replay.pos op (known_grids before bind) (nth_grid before bind.work) found are f g place sizes.0 sizes.1 negative e h

    -- where the step failed
    pub pivots-fail : (place : Place) → result_at replay p ≡ Failed place → IsFirstBadPivot replay.job.modulus op (known_grids before bind) (nth_grid before bind.work) place
    pivots-fail place failed =
        let h : IsResultAt replay p (Failed place) = subst (IsResultAt replay p) failed (replay.outcomes.each p (failed-done replay p place failed)) in
        first-bad place op.form refl (there place (rw (at.1, at.2) at h.1))

    -- where it ran
    pub pivots-ran : (v : Grid) → result_at replay p ≡ Ran v → (place : Place) → ¬ (IsFirstBadPivot replay.job.modulus op (known_grids before bind) (nth_grid before bind.work) place)
    pivots-ran v ran place first =
        let h : IsResultAt replay p (Ran v) = subst (IsResultAt replay p) ran (replay.outcomes.each p (ran-done replay p v ran)) in
        let none : (place : Place) → IsBadStep replay.job replay.b (blocks_at replay p) (own_statement replay t) pivots_task place → ⊥ = rw (at.1, at.2) at h.1 in
        none place (back place (bad-first place op.form refl first))
