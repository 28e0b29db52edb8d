-- A solve below the diagonal in a form that factors finds units on the diagonal of its factored block: it needs the solve of that block, which ran
-- where it isn't stopped itself, met no bad pivot, and is the last to write the block. Cited where a step finds its pivots.
use Rattle.std.proofs.Common.{◌≡◌, ℕ, suc, min, ◌+◌, ◌*◌, ◌<◌, Bool, true, false, List, length, refl, sym, subst, arith}
use Rattle.std.specs.Prelude.{◌==◌, nat_lt}
use Rattle.std.proofs.lemmas.Bool.{and_parts, lt-ltb}
use Rattle.std.proofs.lemmas.Bool.Decides.{nat_tests}
use Rattle.residue_sums.specs.Residues.{IsUnit}
use Rattle.residue_sums.specs.Sums.{part_count, part_length}
use Rattle.residue_sums.specs.Grids.{Grid, AreResidues, entry}
use Rattle.structure_rules.specs.Structures.{is_zero}
use Rattle.operation_spec.specs.declared.operation.Operation.{Operation}
use Rattle.operation_spec.specs.declared.operation.Binding.{Binding}
use Rattle.operation_spec.specs.declared.operation.Form.TheVariants.{Lu, Ldl}
use Rattle.operation_spec.specs.declared.task.Kind.TheVariants as kinds
use Rattle.operation_spec.specs.declared.task.Task.{Task}
use Rattle.operation_spec.specs.ValidOperations.{IsValid}
use Rattle.task_graph.specs.Tasks.{has, has_task, has_solve, is_work_block, parts_of}
use Rattle.task_graph.specs.Needs.{does_need, factors_diagonal}
use Rattle.task_graph.proofs.WorkBlocks.{work-block}
use Rattle.equation.specs.declared.job.Place.{Place}
use Rattle.equation.specs.Jobs.{Fits, nth_grid, known_grids}
use Rattle.equation.specs.Pivots.{IsBadForLu, IsBadForLdl}
use Rattle.equation.proofs.JobMeanings.{AreKept}
use Rattle.equation.proofs.ValidForms.{lu-general, lu-square, ldl-lower, ldl-square}
use Rattle.flash_blocks.specs.Blocks.{Blocks}
use Rattle.block_tasks.specs.Counts.{AreCounts}
use Rattle.block_tasks.specs.Inverses.{HasUnits}
use Rattle.block_tasks.proofs.SolveTasks.{solve_of}
use Rattle.block_tasks.proofs.TermSums.{HasTerms}
use Rattle.block_tasks.proofs.StatementSizes.{rows_are, cols_are, terms-have}
use Rattle.statement_runs.specs.StatementRuns.{IsStatementRun, NoneBad}
use Rattle.statement_runs.proofs.StatementRuns.{sizes, solved_stays}
use Rattle.statement_runs.proofs.LuPivots as lu
use Rattle.statement_runs.proofs.LdlPivots as ldl
use Rattle.step_replays.proofs.JobReplays.{JobReplay, two, own_valid, kept_fits, kept_counts, kept_residues, step_at, result_at, blocks_at, matrices_at, IsStoppedAt, own_operation, own_binding, own_counts}
use Rattle.step_replays.proofs.ReplayRuns.{IsRange, is_ran, known_at, IsStatementRun-replay, not-pivots}
use Rattle.step_replays.proofs.BlockOutcomes.{good}
use Rattle.step_replays.proofs.KeptMatrices.{kept-at}
use Rattle.step_replays.proofs.Stops.{need-ran}

-- a solve below the diagonal needs that of its diagonal block
diagonal-needed : (op : Operation) (u : Task) → factors_diagonal op.form ≡ true → u.kind ≡ kinds.Solve → u.j < u.i → does_need op u (solve_of u.j u.j) ≡ true
diagonal-needed op u factors solve below =
    let apart : (u.i == u.j) ≡ false = grind (arith, nat_tests) in
    let least : min u.i u.j ≡ u.j = omega arith in
    let same : (u.j == u.j) ≡ true = grind (arith, nat_tests) in
    rw (solve, factors, apart, least, same) refl

-- the diagonal block of a block's column has a solve
diagonal-exists : (op : Operation) (counts : List ℕ) (u : Task) → has op counts u ≡ true → u.j < u.i → has_solve op.form ≡ true → is_zero op.work.structure u.j u.j ≡ false
    → has op counts (solve_of u.j u.j) ≡ true
diagonal-exists op counts u h below solve inside =
    let block = work-block op counts u.i u.j (and_parts (is_work_block op counts u.i u.j) (has_task op counts u.kind u.term u.i u.j u.k) h).0 in
    let row : nat_lt u.j (parts_of counts op.work.rows) ≡ true = lt-ltb u.j (parts_of counts op.work.rows) (omega (arith, block, below)) in
    let col : nat_lt u.j (parts_of counts op.work.cols) ≡ true = lt-ltb u.j (parts_of counts op.work.cols) block.1 in
    rw (row, col, inside, solve) refl

module _ (replay : JobReplay) (t base n : ℕ) (t_in : t < length replay.job.statements) (range : IsRange replay.job replay.b replay.steps t base n)
    (f : ℕ) (f_in : f < n) (solve : (step_at replay (base + f)).task.kind ≡ kinds.Solve) (below : (step_at replay (base + f)).task.j < (step_at replay (base + f)).task.i)
    (free : ¬ (IsStoppedAt replay (base + f))) where
  abbrev m : ℕ
  m = replay.job.modulus

  abbrev op : Operation
  op = own_operation replay t

  abbrev bind : Binding
  bind = own_binding replay t

  abbrev before : List Grid
  before = matrices_at replay base

  abbrev knowns : List Grid
  knowns = known_grids before bind

  abbrev work : Grid
  work = nth_grid before bind.work

  abbrev counts : List ℕ
  counts = own_counts replay t

  abbrev task : ℕ → Task
  task p = (step_at replay (base + p)).task

  abbrev did : ℕ → Bool
  did p = is_ran (result_at replay (base + p))

  abbrev known : ℕ → ℕ → Blocks
  known = known_at replay t base n t_in range

  abbrev blocks : ℕ → Blocks
  blocks p = blocks_at replay (base + p) bind.work

  abbrev column : ℕ
  column = (task f).j

  abbrev kept : AreKept replay.job (matrices_at replay base)
  kept = kept-at replay base (omega (arith, range.within))

  abbrev valid : IsValid (own_operation replay t)
  valid = own_valid replay t t_in

  abbrev fits : Fits (own_operation replay t) (matrices_at replay base) (own_binding replay t)
  fits = kept_fits replay t t_in (matrices_at replay base) kept

  abbrev are : AreCounts replay.b (length (own_operation replay t).dims) fits.lengths (own_counts replay t)
  are = kept_counts replay t t_in (matrices_at replay base) kept

  abbrev given : AreResidues replay.job.modulus (nth_grid (matrices_at replay base) (own_binding replay t).work)
  given = kept_residues replay t t_in (matrices_at replay base) kept

  abbrev rows : parts_of counts op.work.rows ≡ part_count work.rows replay.b
  rows = rows_are m replay.b (two replay) replay.pos op valid before bind fits counts are

  abbrev cols : parts_of counts op.work.cols ≡ part_count work.cols replay.b
  cols = cols_are m replay.b (two replay) replay.pos op valid before bind fits counts are

  abbrev terms : HasTerms m replay.b (two replay) replay.pos op knowns work counts rows cols op.terms
  terms = terms-have m replay.b (two replay) replay.pos op valid before bind fits counts are

  abbrev run : IsStatementRun m replay.b op knowns work counts n task did known blocks
  run = IsStatementRun-replay replay t base n t_in range

  none-bad : NoneBad m replay.b op n task did blocks
  none-bad = good replay t base n t_in range

  in_parts : ((task f).i < parts_of counts op.work.rows) × ((task f).j < parts_of counts op.work.cols)
  in_parts = work-block op counts (task f).i (task f).j (and_parts (is_work_block op counts (task f).i (task f).j) (has_task op counts (task f).kind (task f).term (task f).i (task f).j (task f).k) (range.each f f_in).1).0

  column_in : column < part_count work.rows replay.b
  column_in = let inside : column < parts_of counts op.work.rows = omega (arith, in_parts, below) in rw rows at inside

  column_cols : column < part_count work.cols replay.b
  column_cols = rw cols at in_parts.1

  -- the solve of the diagonal block ran before, and no step between writes it
  module _ (factors : factors_diagonal op.form ≡ true) (exists : has op counts (solve_of column column) ≡ true)
      (units : (s : ℕ) → s < n → did s ≡ true → task s ≡ solve_of column column → (q : ℕ) → q < part_length work.rows replay.b column → IsUnit m (entry (blocks (suc s) column column) q q)) where
    solved : (s : ℕ) × (s < n) × (task s ≡ solve_of column column)
    solved = run.all (solve_of column column) exists

    need : does_need op (task f) (task solved.0) ≡ true
    need = rw solved.2 (diagonal-needed op (task f) factors solve below)

    solve-ran : did solved.0 ≡ true
    solve-ran =
        let v = need-ran replay (base + f) (base + solved.0) (suc t) (omega (arith, range.within, f_in)) (omega (arith, range.within, solved.1)) (range.each f f_in).0 (range.each solved.0 solved.1).0
        (not-pivots replay t base n t_in range f f_in) (not-pivots replay t base n t_in range solved.0 solved.1) need free in
        rw v.1 refl

    still-units : HasUnits m (blocks f column column)
    still-units q inside =
        let block_rows : (blocks f column column).rows ≡ part_length work.rows replay.b column
        = (sizes m replay.b op knowns work counts n task did known blocks run f (omega (arith, f_in)) column column column_in column_cols).0 in
        let stays : blocks f column column ≡ blocks (suc solved.0) column column
        = solved_stays m replay.b op knowns work counts n task did known blocks run solved.0 column f f (run.needs_before f solved.0 f_in solved.1 need) (omega arith) (omega (arith, f_in)) solve-ran solved.2 in
        subst (λ (g : Grid). IsUnit m (entry g q q)) (sym stays) (units solved.0 solved.1 solve-ran solved.2 q (rw block_rows at inside))

  pub lu-found : (own_operation replay t).form ≡ Lu → HasUnits replay.job.modulus (blocks_at replay (base + f) (own_binding replay t).work (step_at replay (base + f)).task.j (step_at replay (base + f)).task.j)
  lu-found e =
      let general = (lu-general op valid e).0 in
      let inside : is_zero op.work.structure column column ≡ false = rw general refl in
      still-units (rw e refl) (diagonal-exists op counts (task f) (range.each f f_in).1 below (rw e refl) inside)
      (λ s s_in ran is q q_in. lu.units m replay.b (two replay) replay.pos op knowns work counts n task did known blocks run rows cols e (lu-square op valid fits.lengths work fits.work e) general terms given
      no-bad s column s_in ran is column_in q q_in)
    where
      no-bad : (p a q : ℕ) → p < n → did p ≡ true → task p ≡ solve_of a a → q < (blocks p a a).rows → ¬ (IsBadForLu m (entry (blocks p a a)) q)
      no-bad p a q p_in ran is inner bad =
          let place : Place = record { row = a * replay.b + q; col = a * replay.b + q } in
          none-bad p place p_in ran (rw (is, e) (refl, refl, (q, refl, inner, bad)))

  pub ldl-found : (own_operation replay t).form ≡ Ldl → HasUnits replay.job.modulus (blocks_at replay (base + f) (own_binding replay t).work (step_at replay (base + f)).task.j (step_at replay (base + f)).task.j)
  ldl-found e =
      let lower = ldl-lower op valid e in
      let here : nat_lt column column ≡ false = grind (arith, nat_tests) in
      let inside : is_zero op.work.structure column column ≡ false = rw lower here in
      still-units (rw e refl) (diagonal-exists op counts (task f) (range.each f f_in).1 below (rw e refl) inside)
      (λ s s_in ran is q q_in. ldl.units m replay.b (two replay) replay.pos op knowns work counts n task did known blocks run rows cols e lower (ldl-square op valid fits.lengths work fits.work e) terms given
      no-bad s column s_in ran is column_in q q_in)
    where
      no-bad : (p a q : ℕ) → p < n → did p ≡ true → task p ≡ solve_of a a → q < (blocks p a a).rows → ¬ (IsBadForLdl m (entry (blocks p a a)) q)
      no-bad p a q p_in ran is inner bad =
          let place : Place = record { row = a * replay.b + q; col = a * replay.b + q } in
          none-bad p place p_in ran (rw (is, e) (refl, refl, (q, refl, inner, bad)))
