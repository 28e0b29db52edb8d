-- A step that may end finds what it finds in the replay, and is stopped by those steps that ended and failed or were skipped, which the marks
-- tell. Cited where a step ends.
use Rattle.std.proofs.Common.{◌≡◌, ◌≢◌, ℕ, suc, ◌-◌, ◌<◌, inl, inr, true, false, cond, List, [], length, get_or, take, set, All, refl, sym, ◌∙◌, ap, subst, arith, get_or-set_other}
use Rattle.std.specs.Prelude.{◌==◌}
use Rattle.std.proofs.lemmas.Bool.{cases_Bool, cases_eq, cases_lt, eq-eqb, false≢true, or_left, or_right}
use Rattle.std.proofs.lemmas.List.{length-set}
use Rattle.std.proofs.lemmas.List.Elements.{All-set}
use Rattle.std.proofs.lemmas.List.FromFn.{get_or-map-range_with_len}
use Rattle.residue_sums.specs.Grids.{Grid, AreResidues}
use Rattle.equation.specs.Jobs.{nth_grid, no_grid}
use Rattle.dependence_queue.specs.declared.access.Access.{Access}
use Rattle.dependence_queue.specs.Conflicts.{ConflictOn, conflicts, has_number}
use Rattle.dependence_queue.proofs.EdgesBetween.{conflict-on, conflicts-from}
use Rattle.step_replays.specs.declared.step.Step.{Step}
use Rattle.step_replays.specs.Replays.{StepResult, Ran, Skipped, IsReplay, IsResult, IsStop, IsStopped, block_after, nth_access, nth_result, nth_step}
use Rattle.step_replays.proofs.AgreeingResults.{same-stopped}
use Rattle.job_blocks.proofs.AccessLaws.{reads-apart}
use Rattle.task_values.specs.declared.run.Run.{Run}
use Rattle.task_values.specs.Marks.{meets}
use Rattle.task_values.specs.Progress.{IsNext, IsRun}
use Rattle.task_values.proofs.MarkLaws.{conflict-met, has-all, met-conflict}
use Rattle.task_values.proofs.TakenBlocks.{next-read}
use Rattle.task_values.proofs.StepUses.{access, blocked, has_s, own_task, reads_in, write_in}
use Rattle.schedule_core.specs.declared.event.Event.{Event}
use Rattle.schedule_core.specs.declared.event.Event.TheVariants.{Start, Finish}
use Rattle.schedule_core.specs.declared.held.Held.{Held}
use Rattle.schedule_core.specs.EventBlocks.{step_access}
use Rattle.schedule_core.specs.HeldSteps.{IsDueAt, IsHeldBy, so_far}
use Rattle.schedule_core.specs.Schedules.{has_event, uses_block}
use Rattle.schedule_core.proofs.EventBlocks.{block-found}
use Rattle.schedule_core.proofs.ReplayFronts.{agree-taken, found-taken, front-taken, outcome-taken, taken-agree}
use Rattle.schedule_core.proofs.RunningSteps.{conflict-ended}
use Rattle.schedule_core.proofs.ScheduleTests.{has-start, may-is}

-- two steps conflict whichever comes first
turned-on : (a c : Access) (x : ℕ) → ConflictOn a c x → ConflictOn c a x
turned-on a c x (inl flow) = inr (inl flow)
turned-on a c x (inr (inl anti)) = inl anti
turned-on a c x (inr (inr output)) = inr (inr (output.1, output.0))

conflicts-turned : (a c : Access) → conflicts a c ≡ true → conflicts c a ≡ true
conflicts-turned a c h = let on = conflict-on a c h in conflicts-from c a on.0 (turned-on a c on.0 on.1)

-- ---- outcomes so far

module _ (results : List StepResult) (n : ℕ) (events : List Event) where
  is-so_far : (q : ℕ) → q < n → nth_result (so_far results n events) q ≡ cond (has_event events (Finish (suc q))) (nth_result results q) (Ran no_grid)
  is-so_far q below = get_or-map-range_with_len (λ p. cond (has_event events (Finish (suc p))) (nth_result results p) (Ran no_grid)) 0 n q q Skipped below (omega arith)

  pub stop-so_far : (q : ℕ) → q < n → has_event events (Finish (suc q)) ≡ true → IsStop (nth_result results q) → IsStop (nth_result (so_far results n events) q)
  stop-so_far q below ended stop = rw (is-so_far q below, ended) stop

  pub so_far-stop : (q : ℕ) → q < n → IsStop (nth_result (so_far results n events) q) → (has_event events (Finish (suc q)) ≡ true) × IsStop (nth_result results q)
  so_far-stop q below stop = elim (cases_Bool (has_event events (Finish (suc q)))) [
    | inl ended ↦ (ended, rw (is-so_far q below, ended) at stop)
    | inr runs ↦ absurd (rw (is-so_far q below, runs) at stop)
  ]

-- ---- a step that may end

module _ (r : Run) (is : IsRun r) (n : ℕ) (within : n < length r.steps.now) (events : List Event) (h : Held) (due : IsDueAt r n events h)
    (results : List StepResult) (replay : IsReplay r.job.now r.b r.steps.now results) where
  abbrev total : ℕ
  total = length r.steps.now

  abbrev w : ℕ
  w = (nth_access r.steps.now n).write

  pub held : IsHeldBy r results events h
  held = due.2 results replay

  pub runs : has_event events (Finish (suc n)) ≡ false
  runs = (may-is (step_access r.steps.now) (length r.steps.now) events (Finish (suc n)) due.1).1

  pub began : has_event events (Start (suc n)) ≡ true
  began = (may-is (step_access r.steps.now) (length r.steps.now) events (Finish (suc n)) due.1).2

  pub w_in : (nth_access r.steps.now n).write < length h.store.blocks.items
  w_in = omega (arith, write_in r is n within, held.blocks.count)

  pub reads_stored : All (λ y. y < length h.store.blocks.items) (nth_access r.steps.now n).reads
  reads_stored = subst (λ (k : ℕ). All (λ y. y < k) (nth_access r.steps.now n).reads) (sym held.blocks.count) (reads_in r is n within)

  -- accesses by numbers from 1
  own-access : (q : ℕ) → step_access r.steps.now (suc q) ≡ nth_access r.steps.now q
  own-access q = let e : suc q - 1 ≡ q = omega arith in ap (nth_access r.steps.now) e

  conflict-numbered : (p q : ℕ) → conflicts (nth_access r.steps.now p) (nth_access r.steps.now q) ≡ true
      → conflicts (step_access r.steps.now (suc p)) (step_access r.steps.now (suc q)) ≡ true
  conflict-numbered p q c = rw (own-access p, own-access q) c

  -- ---- what stops it

  ended-stopped : (q : ℕ) → has_event events (Finish (suc q)) ≡ true → IsStop (nth_result results q)
      → conflicts (nth_access r.steps.now q) (nth_access r.steps.now n) ≡ true → IsStopped r.job.now r.b r.steps.now results n
  ended-stopped q ended stop conflict = elim (cases_lt q n) [
    | inl before ↦ (q, before, stop, conflict)
    | inr behind ↦ elim (cases_eq q n) [
      | inl same ↦ absurd (false≢true (sym runs ∙ (rw same at ended)))
      | inr apart ↦ absurd (false≢true (sym runs
          ∙ conflict-ended (step_access r.steps.now) (length r.steps.now) events due.0 (suc n) (suc q) (omega arith)
          (omega arith, conflict-numbered n q (conflicts-turned (nth_access r.steps.now q) (nth_access r.steps.now n) conflict))
          (has-start (step_access r.steps.now) (length r.steps.now) events due.0 (suc q) ended)))
    ]
  ]

  pub met-stopped : meets h.store.marks.written.items h.store.marks.read.items (nth_access r.steps.now n) ≡ true
      → IsStopped r.job.now r.b r.steps.now results n
  met-stopped met =
      let m = met-conflict r.steps.now (so_far results (length r.steps.now) events) (length r.steps.now) (length h.store.blocks.items) h.store.marks.written.items h.store.marks.read.items
      held.marks (nth_access r.steps.now n) w_in reads_stored met in
      let s = so_far-stop results (length r.steps.now) events m.0 m.1 m.2 in
      ended-stopped m.0 s.0 s.1 m.3

  pub unmet-free : meets h.store.marks.written.items h.store.marks.read.items (nth_access r.steps.now n) ≡ false
      → IsStopped r.job.now r.b r.steps.now results n → ⊥
  unmet-free unmet stopped =
      let q = stopped.0 in
      let ended = conflict-ended (step_access r.steps.now) (length r.steps.now) events due.0 (suc q) (suc n) (omega arith)
      (omega (arith, stopped.1), conflict-numbered q n stopped.3) began in
      false≢true (sym unmet ∙ conflict-met r.steps.now (so_far results (length r.steps.now) events) (length r.steps.now) (length h.store.blocks.items)
      h.store.marks.written.items h.store.marks.read.items held.marks (nth_access r.steps.now n) w_in reads_stored
      (q, omega (arith, stopped.1, within), stop-so_far results (length r.steps.now) events q (omega (arith, stopped.1, within)) ended stopped.2, stopped.3))

  -- ---- its outcome

  pub outcome-is : (x : StepResult) → IsResult r.job.now r.b r.steps.now (take n results) n x → nth_result results n ≡ x
  outcome-is x so = outcome-taken r.job.now r.b r.steps.now results is.job is.size is.fit replay n within x so

  pub skipped-is : IsStopped r.job.now r.b r.steps.now results n → nth_result results n ≡ Skipped
  skipped-is stopped = outcome-is Skipped (same-stopped r.job.now r.b r.steps.now results (take n results) n (taken-agree n results) stopped)

  -- ---- what it finds

  pub found : (x : ℕ) → x < length h.store.blocks.items → uses_block (nth_access r.steps.now n) x ≡ true
      → nth_grid h.store.blocks.items x ≡ block_after r.job.now r.b r.steps.now results n x
  found x below uses =
      let place : suc n - 1 ≡ n = omega arith in
      held.blocks.each x below
      ∙ (rw place at (block-found r.job.now r.b r.steps.now results events due.0 (suc n) began runs x (omega (arith, within)) (rw (own-access n) uses)))

  own-unread : has_number (nth_access r.steps.now n).reads w ≡ false
  own-unread = subst (λ (a : Access). has_number a.reads a.write ≡ false) (sym (access r is n within))
      (reads-apart (record { job = r.job.now; b = r.b }) (nth_step r.steps.now n).statement (nth_step r.steps.now n).task (blocked r is n within) (has_s r is n within) (own_task r is n within))

  pub own-found : nth_grid h.store.blocks.items (nth_access r.steps.now n).write ≡ block_after r.job.now r.b r.steps.now results n (nth_access r.steps.now n).write
  own-found = found w w_in (or_right (has_number (nth_access r.steps.now n).reads w) (w == w) (eq-eqb w w refl))

  -- once the block that it writes was taken out
  pub next-found : (e : Grid) → AreResidues r.job.now.modulus e → (IsStopped r.job.now r.b r.steps.now results n → ⊥)
      → IsNext r (take n results) n (set h.store.blocks.items (nth_access r.steps.now n).write e) (nth_grid h.store.blocks.items (nth_access r.steps.now n).write)
  next-found e empty free = record {
    within = within;
    front = front-taken r.job.now r.b r.steps.now results replay n (omega (arith, within));
    active = λ stopped. free (same-stopped r.job.now r.b r.steps.now (take n results) results n (agree-taken n results) stopped);
    count = length-set h.store.blocks.items w e ∙ held.blocks.count;
    residues = All-set (AreResidues r.job.now.modulus) h.store.blocks.items w e empty held.blocks.residues;
    reads = λ x reads.
        let apart : x ≢ w = λ same. false≢true (sym own-unread ∙ ap (λ (y : ℕ). has_number (nth_access r.steps.now n).reads y) (sym same) ∙ reads) in
        get_or-set_other h.store.blocks.items w x e no_grid apart
        ∙ found x (has-all (λ y. y < length h.store.blocks.items) (nth_access r.steps.now n).reads x reads_stored reads)
        (or_left (has_number (nth_access r.steps.now n).reads x) (w == x) reads)
        ∙ sym (found-taken r.job.now r.b r.steps.now results n x);
    block = own-found ∙ sym (found-taken r.job.now r.b r.steps.now results n w);
  }

  -- the same of what code took out and left, where no mark stops the step
  pub next-there : meets h.store.marks.written.items h.store.marks.read.items (nth_access r.steps.now n) ≡ false
      → (d : Step) (none dest block lent : Grid) (stored : List Grid) → none ≡ record { rows = 0; cols = 0; entries = [] } → dest ≡ none → block ≡ lent
      → lent ≡ get_or h.store.blocks.items (get_or r.steps.now n d).access.write lent → stored ≡ set h.store.blocks.items (get_or r.steps.now n d).access.write dest
      → IsNext r (take n results) n stored block
  next-there unmet = next-read r is n within (take n results) h.store.blocks.items w_in (λ e empty. next-found e empty (unmet-free unmet))
