-- A solve of a form that tests its pivots in a step of its own finds their inverses in the pivot list: the solve reads the list, so the test ran where
-- the solve isn't stopped, and until then nothing changes the list or the known matrices. Cited where a step finds its pivots.
use Rattle.std.proofs.Common.{◌≡◌, ◌≢◌, ℕ, zero, suc, ◌+◌, ◌-◌, ◌*◌, ◌%◌, ◌<◌, ◌≤◌, inl, inr, Bool, true, false, List, [], ◌∷◌, length, get_or, refl, sym, ◌∙◌, ap, ap₂, subst, arith}
use Rattle.std.specs.Prelude.{◌==◌}
use Rattle.std.proofs.lemmas.Nat.{div-mul-add, mod-mul-add}
use Rattle.std.proofs.lemmas.Bool.{cases_lt, false≢true}
use Rattle.std.proofs.lemmas.Bool.Decides.{nat_tests}
use Rattle.std.proofs.lemmas.List.Elements.{All-get_or}
use Rattle.residue_sums.specs.Tables.{Table}
use Rattle.residue_sums.specs.Grids.{Grid, entry}
use Rattle.operation_spec.specs.declared.operation.Operation.{Operation}
use Rattle.operation_spec.specs.declared.operation.Binding.{Binding}
use Rattle.operation_spec.specs.declared.operation.Factor.{Factor}
use Rattle.operation_spec.specs.declared.operation.Form.{Form}
use Rattle.operation_spec.specs.declared.operation.Form.TheVariants.{Assign, Left, Right, Sylvester, Lu, Ldl}
use Rattle.operation_spec.specs.declared.task.Kind.TheVariants as kinds
use Rattle.operation_spec.specs.declared.task.Task.{Task}
use Rattle.equation.specs.Kernels.{combined, AreInverses, AreInversesOfPairs}
use Rattle.equation.specs.Jobs.{nth_grid}
use Rattle.equation.proofs.FactorSizes.{left_known, right_known, sylvester_knowns}
use Rattle.flash_blocks.specs.Blocks.{Blocks}
use Rattle.dependence_queue.specs.declared.access.Access.{Access}
use Rattle.dependence_queue.specs.Conflicts.{has_number}
use Rattle.dependence_queue.proofs.EdgesBetween.{conflicts-from}
use Rattle.block_tasks.specs.Effects.{factor_block, block_diagonal, pivots_effect}
use Rattle.block_tasks.specs.Inverses.{HasRowInverses, HasPairInverses}
use Rattle.step_replays.specs.Accesses.{factor_number, list_reads, solve_reads, has_pivots, has_pivots_by, pivot_number, zero_list_by}
use Rattle.step_replays.specs.Replays.{StepResult, Ran, written, known_blocks, pivots_task}
use Rattle.step_replays.specs.Fits.{IsAt}
use Rattle.step_replays.proofs.Numbers.{number-below}
use Rattle.step_replays.proofs.JobReplays.{JobReplay, own_fits, own_valid, step_at, result_at, block_at, blocks_at, IsResultAt, IsStoppedAt, own_operation, own_binding, ran-done}
use Rattle.step_replays.proofs.ReplayBlocks.{task-block, like}
use Rattle.step_replays.proofs.ReplayRuns.{IsRange, next, writes, others-stay}
use Rattle.step_replays.proofs.StatementSteps.{steps_until, own-place, pivots-step, range-behind}
use Rattle.step_replays.proofs.FirstMatrices.{blocks-behind}
use Rattle.step_replays.proofs.FirstShapes.{first-list}
use Rattle.step_replays.proofs.Stops.{has-here, has-later, conflict-ran}

-- ---- the pivots of a block among those of the whole diagonal

module _ (m b : ℕ) (op : Operation) (found : ℕ → Blocks) where
  diagonal-is : (f : Factor) (i q : ℕ) → q < b → block_diagonal b op found f (i * b + q) (i * b + q) ≡ factor_block op found f i i q q
  diagonal-is f i q below = rw (div-mul-add i b q below, mod-mul-add i b q below) refl

  pub row-inverses : (f : Factor) (i n total : ℕ) (old list : Grid) → old.rows ≡ 1 → old.cols ≡ total → ((q : ℕ) → q < n → (q < b) × (i * b + q < total))
      → AreInverses m (block_diagonal b op found f) old list → HasRowInverses m (i * b) n total (factor_block op found f i i) list
  row-inverses f i n total old list one all inside h = record {
    rows = h.rows ∙ one;
    cols = h.cols ∙ all;
    inverts = λ q below.
        let place = inside q below in
        subst (λ (x : ℕ). (x * entry list 0 (i * b + q)) % m ≡ 1) (diagonal-is f i q place.0) (h.equation 0 (i * b + q) (rw one (omega arith)) (rw all place.1) (λ z. z));
  }

  sums-same : (negative : Bool) (first second : Table) (t u : Table) (i j r c : ℕ) → t i i ≡ first r r → u j j ≡ second c c
      → combined m negative (λ x y. t x x) (λ x y. u y y) i j ≡ combined m negative (λ x y. first x x) (λ x y. second y y) r c
  sums-same true first second t u i j r c row col = ap₂ (λ (x y : ℕ). (x + (m - y)) % m) row col
  sums-same false first second t u i j r c row col = ap₂ (λ (x y : ℕ). (x + y) % m) row col

  pub pair-inverses : (negative : Bool) (t u : Factor) (i j rows cols : ℕ) (g old list : Grid) → old.rows ≡ rows → old.cols ≡ cols
      → ((r : ℕ) → r < g.rows → (r < b) × (i * b + r < rows)) → ((c : ℕ) → c < g.cols → (c < b) × (j * b + c < cols))
      → AreInversesOfPairs m negative (block_diagonal b op found t) (block_diagonal b op found u) old list
      → HasPairInverses m negative (i * b) (j * b) g rows cols (factor_block op found t i i) (factor_block op found u j j) list
  pair-inverses negative t u i j rows cols g old list rows_are cols_are row_in col_in h = record {
    rows_are = h.rows ∙ rows_are;
    cols_are = h.cols ∙ cols_are;
    inverts = λ r c row col.
        let x = row_in r row in
        let y = col_in c col in
        subst (λ (s : ℕ). (s * entry list (i * b + r) (j * b + c)) % m ≡ 1)
        (sums-same negative (factor_block op found t i i) (factor_block op found u j j) (block_diagonal b op found t) (block_diagonal b op found u) (i * b + r) (j * b + c) r c
        (diagonal-is t i r x.0) (diagonal-is u j c y.0))
        (h.equation (i * b + r) (j * b + c) (rw rows_are x.1) (rw cols_are y.1) (λ z. z));
  }

-- ---- the pivot list is among what a solve reads

module _ (b : ℕ) (grids : List Grid) (op : Operation) (bind : Binding) (x : ℕ) (some : has_pivots op ≡ true) where
  list-here : has_number (list_reads op x) x ≡ true
  list-here = rw some (has-here x [])

  list-read : (form : Form) (i j : ℕ) → has_pivots_by op form ≡ true → has_number (solve_reads b grids op bind x form i j) x ≡ true
  list-read (Left t) i j by = has-later x (factor_number b grids op bind t i i) (list_reads op x) list-here
  list-read (Right u) i j by = has-later x (factor_number b grids op bind u j j) (list_reads op x) list-here
  list-read (Sylvester t u negative) i j by = has-later x (factor_number b grids op bind t i i) (factor_number b grids op bind u j j ∷ list_reads op x)
      (has-later x (factor_number b grids op bind u j j) (list_reads op x) list-here)
  list-read Assign i j by = absurd (false≢true by)
  list-read Lu i j by = absurd (false≢true by)
  list-read Ldl i j by = absurd (false≢true by)

-- ---- a solve behind the test of its statement

module _ (replay : JobReplay) (t : ℕ) (t_in : t < length replay.job.statements) (some : has_pivots (own_operation replay t) ≡ true)
    (p : ℕ) (p_in : p < length replay.steps) (own : (step_at replay p).statement ≡ suc t) (solve : (step_at replay p).task.kind ≡ kinds.Solve)
    (free : ¬ (IsStoppedAt replay p)) where
  abbrev test : ℕ
  test = steps_until replay t

  abbrev number : ℕ
  number = pivot_number replay.job replay.b (suc t)

  abbrev zero_list : Grid
  zero_list = zero_list_by (own_operation replay t).form (nth_grid replay.job.matrices (own_binding replay t).work)

  abbrev range : IsRange replay.job replay.b replay.steps t (suc (steps_until replay t)) (steps_until replay (suc t) - suc (steps_until replay t))
  range = range-behind replay t t_in some

  at : IsAt replay.steps (steps_until replay t) (suc t) pivots_task
  at = (pivots-step replay t t_in some).1

  behind : test < p
  behind = elim (cases_lt test p) [
    | inl less ↦ less
    | inr le ↦ (let place = own-place replay t t_in p p_in own in
        let same : p ≡ test = omega (arith, place) in
        let kind : kinds.Pivots ≡ kinds.Solve = sym (ap (λ (u : Task). u.kind) at.2) ∙ ap (λ (q : ℕ). (step_at replay q).task.kind) (sym same) ∙ solve in absurd (cc))
  ]

  abbrev between : ℕ
  between = p - suc test

  here : suc test + between ≡ p
  here = omega (arith, behind)

  in_range : between < steps_until replay (suc t) - suc (steps_until replay t)
  in_range = let place = own-place replay t t_in p p_in own in omega (arith, place, behind)

  -- the test ran
  writes-list : (step_at replay test).access.write ≡ number
  writes-list = ap (λ (a : Access). a.write) (replay.fits.exists test at.0).2 ∙ rw (at.1, at.2) refl

  reads-list : has_number (step_at replay p).access.reads number ≡ true
  reads-list =
      ap (λ (a : Access). has_number a.reads number) (replay.fits.exists p p_in).2
      ∙ rw (own, solve) (list-read replay.b replay.job.matrices (own_operation replay t) (own_binding replay t) number some
      (own_operation replay t).form (step_at replay p).task.i (step_at replay p).task.j some)

  test-ran : (v : Grid) × (result_at replay test ≡ Ran v)
  test-ran = conflict-ran replay test p behind
      (conflicts-from (step_at replay test).access (step_at replay p).access number (inl (reads-list, writes-list))) free

  -- and left what the solve finds
  list-stays : (q : ℕ) → q ≤ steps_until replay (suc t) - suc (steps_until replay t) → block_at replay (suc test + q) number ≡ block_at replay (suc test) number
  list-stays zero le = let e : suc test + 0 ≡ suc test = omega arith in ap (λ (s : ℕ). block_at replay s number) e
  list-stays (suc q) le =
      let below : q < steps_until replay (suc t) - suc (steps_until replay t) = omega arith in
      let block = task-block replay t (step_at replay (suc test + q)).task t_in (range.each q below).1 in
      let less = number-below replay.b replay.job.matrices (own_binding replay t).work (step_at replay (suc test + q)).task.i (step_at replay (suc test + q)).task.j block in
      let write = writes replay t (suc test) (steps_until replay (suc t) - suc (steps_until replay t)) t_in range q below in
      let other : ((step_at replay (suc test + q)).access.write == number) ≡ false = (let apart : (step_at replay (suc test + q)).access.write ≢ number = λ e. omega (arith, e, write, less) in grind (arith, nat_tests)) in
      rw (next replay t (suc test) (steps_until replay (suc t) - suc (steps_until replay t)) t_in range q) (rw other (list-stays q (omega arith)))

  list-is : block_at replay p number ≡ test-ran.0
  list-is =
      let write : ((step_at replay test).access.write == number) ≡ true = (let same = writes-list in grind (arith, nat_tests)) in
      let left : block_at replay (suc test) number ≡ written (result_at replay test) (block_at replay test number) = rw write refl in
      ap (λ (s : ℕ). block_at replay s number) (sym here) ∙ list-stays between (omega (arith, in_range)) ∙ left
      ∙ ap (λ (r : StepResult). written r (block_at replay test number)) test-ran.1

  abbrev found : ℕ → ℕ → Blocks
  found s = known_blocks (blocks_at replay s) (own_binding replay t)

  known-same : (k : ℕ) → k < length (own_operation replay t).knowns → found test k ≡ found p k
  known-same k below =
      let fits = own_fits replay t t_in in
      let bound : k < length (own_binding replay t).knowns = omega (arith, fits.count) in
      let matrix : ℕ = get_or (own_binding replay t).knowns k 0 in
      let within : matrix < length replay.job.matrices = All-get_or (λ k. k < length replay.job.matrices) (own_binding replay t).knowns k 0 bound fits.knowns_in in
      let other : matrix ≢ (own_binding replay t).work = All-get_or (λ k. k ≢ (own_binding replay t).work) (own_binding replay t).knowns k 0 bound fits.apart in
      let same : (i j : ℕ) → blocks_at replay p matrix i j ≡ blocks_at replay test matrix i j
      = λ i j. ap (λ (s : ℕ). blocks_at replay s matrix i j) (sym here)
      ∙ others-stay replay t (suc test) (steps_until replay (suc t) - suc (steps_until replay t)) t_in range between matrix i j (omega (arith, in_range)) other
      ∙ blocks-behind replay.job replay.b replay.steps replay.results replay.fits test t at matrix i j within in
      λ z. λ i j. sym (same i j) z

  factor-same : (f : Factor) (i : ℕ) → f.known < length (own_operation replay t).knowns → factor_block (own_operation replay t) (found test) f i i ≡ factor_block (own_operation replay t) (found p) f i i
  factor-same f i below = ap (λ (w : Blocks). factor_block (own_operation replay t) (λ k. w) f i i) (known-same f.known below)

  old : Grid
  old = block_at replay test number

  old-rows : old.rows ≡ zero_list.rows
  unfolding old
  old-rows = (like replay test number (omega (arith, at.0))).rows ∙ ap (λ (g : Grid). g.rows) (first-list replay.job replay.b t t_in some)

  old-cols : old.cols ≡ zero_list.cols
  unfolding old
  old-cols = (like replay test number (omega (arith, at.0))).cols ∙ ap (λ (g : Grid). g.cols) (first-list replay.job replay.b t t_in some)

  effect : pivots_effect replay.job.modulus replay.b (own_operation replay t) (found test) (own_operation replay t).form old (block_at replay p number)
  unfolding old
  effect =
      let h : IsResultAt replay test (Ran test-ran.0) = subst (IsResultAt replay test) test-ran.1 (replay.outcomes.each test (ran-done replay test test-ran.0 test-ran.1)) in
      let value = rw (at.1, at.2) at h.2 in
      subst (λ (s : ℕ × Grid). pivots_effect replay.job.modulus replay.b (own_operation replay t) (found test) (own_operation replay t).form (block_at replay test s.0) s.1)
      (λ z. (writes-list z, sym list-is z)) value

  -- ---- by form

  module _ (i n : ℕ) where
    abbrev work : Grid
    work = nth_grid replay.job.matrices (own_binding replay t).work

    pub left-found : (f : Factor) → (own_operation replay t).form ≡ Left f → ((q : ℕ) → q < n → (q < replay.b) × (i * replay.b + q < work.rows))
        → HasRowInverses replay.job.modulus (i * replay.b) n work.rows (factor_block (own_operation replay t) (found p) f i i) (block_at replay p number)
    left-found f e inside =
        let rows : old.rows ≡ 1 = old-rows ∙ rw e refl in
        let cols : old.cols ≡ work.rows = old-cols ∙ rw e refl in
        subst (λ (a : Table). HasRowInverses replay.job.modulus (i * replay.b) n work.rows a (block_at replay p number))
        (factor-same f i (left_known (own_operation replay t) (own_valid replay t t_in) f e))
        (row-inverses replay.job.modulus replay.b (own_operation replay t) (found test) f i n work.rows old (block_at replay p number) rows cols inside (rw e at effect))

    pub right-found : (f : Factor) → (own_operation replay t).form ≡ Right f → ((q : ℕ) → q < n → (q < replay.b) × (i * replay.b + q < work.cols))
        → HasRowInverses replay.job.modulus (i * replay.b) n work.cols (factor_block (own_operation replay t) (found p) f i i) (block_at replay p number)
    right-found f e inside =
        let rows : old.rows ≡ 1 = old-rows ∙ rw e refl in
        let cols : old.cols ≡ work.cols = old-cols ∙ rw e refl in
        subst (λ (a : Table). HasRowInverses replay.job.modulus (i * replay.b) n work.cols a (block_at replay p number))
        (factor-same f i (right_known (own_operation replay t) (own_valid replay t t_in) f e))
        (row-inverses replay.job.modulus replay.b (own_operation replay t) (found test) f i n work.cols old (block_at replay p number) rows cols inside (rw e at effect))

  pub pairs-found : (f g : Factor) (negative : Bool) (i j : ℕ) (block : Grid) → (own_operation replay t).form ≡ Sylvester f g negative
      → ((r : ℕ) → r < block.rows → (r < replay.b) × (i * replay.b + r < (nth_grid replay.job.matrices (own_binding replay t).work).rows))
      → ((c : ℕ) → c < block.cols → (c < replay.b) × (j * replay.b + c < (nth_grid replay.job.matrices (own_binding replay t).work).cols))
      → HasPairInverses replay.job.modulus negative (i * replay.b) (j * replay.b) block
      (nth_grid replay.job.matrices (own_binding replay t).work).rows (nth_grid replay.job.matrices (own_binding replay t).work).cols
      (factor_block (own_operation replay t) (found p) f i i) (factor_block (own_operation replay t) (found p) g j j) (block_at replay p number)
  pairs-found f g negative i j block e row_in col_in =
      let whole : Grid = nth_grid replay.job.matrices (own_binding replay t).work in
      let known = sylvester_knowns (own_operation replay t) (own_valid replay t t_in) f g negative e in
      let rows : old.rows ≡ whole.rows = old-rows ∙ rw e refl in
      let cols : old.cols ≡ whole.cols = old-cols ∙ rw e refl in
      subst (λ (s : Table × Table). HasPairInverses replay.job.modulus negative (i * replay.b) (j * replay.b) block whole.rows whole.cols s.0 s.1 (block_at replay p number))
      (λ z. (factor-same f i known.0 z, factor-same g j known.1 z))
      (pair-inverses replay.job.modulus replay.b (own_operation replay t) (found test) negative f g i j whole.rows whole.cols block old (block_at replay p number) rows cols row_in col_in (rw e at effect))
