-- What is held after the end of one more step: it ran, was skipped, or met a bad pivot. Cited where a step ends.
use Rattle.std.proofs.Common.{◌≡◌, ℕ, suc, ◌-◌, ◌<◌, ◌≤◌, ◌⊎◌, inl, inr, true, false, cond, List, [], ◌∷◌, ◌++◌, length, set, All, refl, sym, ◌∙◌, ap, subst, arith, get_or-set_same, get_or-set_other}
use Rattle.std.specs.Prelude.{◌==◌, ◌||◌, None, Option, Some}
use Rattle.std.proofs.lemmas.Bool.{cases_eq, cases_lt, eq-eqb, eqb-true, lt-ltb, le-ltb, ne_eqb, or_cases, or_left, or_right}
use Rattle.std.proofs.lemmas.List.{length-set, set-get_or, set-set}
use Rattle.std.proofs.lemmas.List.Elements.{All-set}
use Rattle.residue_sums.specs.Grids.{Grid, AreResidues}
use Rattle.equation.specs.declared.job.Place.{Place}
use Rattle.equation.specs.Jobs.{nth_grid, no_grid}
use Rattle.step_replays.specs.Replays.{StepResult, Ran, Skipped, Failed, IsReplay, IsStop, block_after, nth_access, nth_result, nth_step, written}
use Rattle.step_replays.proofs.JobReplays.{whole-front}
use Rattle.step_replays.proofs.ReplayBlocks.{like}
use Rattle.task_values.specs.declared.outcome.Failure.{Failure}
use Rattle.task_values.specs.declared.run.Run.{Run}
use Rattle.task_values.specs.Marks.{AreMarks, all_marked}
use Rattle.task_values.specs.Progress.{IsRun}
use Rattle.task_values.proofs.MarkLaws.{AreMarks-same, AreMarks-with}
use Rattle.task_values.proofs.RunFronts.{run_replay}
use Rattle.schedule_core.specs.declared.event.Event.{Event}
use Rattle.schedule_core.specs.declared.event.Event.TheVariants.{Finish}
use Rattle.schedule_core.specs.declared.held.Held.{Held}
use Rattle.schedule_core.specs.EventBlocks.{block_at}
use Rattle.schedule_core.specs.HeldSteps.{AreBlocksAt, IsDueAt, IsHeldBy, IsLeastFailure, IsLeastNoted, lesser_of, so_far}
use Rattle.schedule_core.specs.Schedules.{has_event}
use Rattle.schedule_core.proofs.EventBlocks.{block-finish}
use Rattle.schedule_core.proofs.EventTests.{has-last}
use Rattle.schedule_core.proofs.FoundSteps.{began, held, own-found, reads_stored, runs, so_far-stop, stop-so_far, w_in}

module _ (r : Run) (is : IsRun r) (n : ℕ) (within : n < length r.steps.now) (events : List Event) (h : Held) (due : IsDueAt r n events h)
    (results : List StepResult) (replay : IsReplay r.job.now r.b r.steps.now results) where
  abbrev total : ℕ
  total = length r.steps.now

  abbrev w : ℕ
  w = (nth_access r.steps.now n).write

  abbrev more : List Event
  more = events ++ Finish (suc n) ∷ []

  abbrev own : IsHeldBy r results events h
  own = held r is n within events h due results replay

  -- ---- which steps have ended now

  ended-is : (q : ℕ) → has_event (events ++ Finish (suc n) ∷ []) (Finish (suc q)) ≡ (has_event events (Finish (suc q)) || suc n == suc q)
  ended-is q = has-last events (Finish (suc n)) (Finish (suc q))

  ended-before : (q : ℕ) → has_event events (Finish (suc q)) ≡ true → has_event (events ++ Finish (suc n) ∷ []) (Finish (suc q)) ≡ true
  ended-before q ended = ended-is q ∙ or_left (has_event events (Finish (suc q))) (suc n == suc q) ended

  ended-now : has_event (events ++ Finish (suc n) ∷ []) (Finish (suc n)) ≡ true
  ended-now = ended-is n ∙ or_right (has_event events (Finish (suc n))) (suc n == suc n) (eq-eqb (suc n) (suc n) refl)

  ended-parts : (q : ℕ) → has_event (events ++ Finish (suc n) ∷ []) (Finish (suc q)) ≡ true → (has_event events (Finish (suc q)) ≡ true) ⊎ (q ≡ n)
  ended-parts q ended = elim (or_cases (has_event events (Finish (suc q))) (suc n == suc q) (sym (ended-is q) ∙ ended)) [
    | inl before ↦ inl before
    | inr now ↦ (let e : suc n ≡ suc q = eqb-true (suc n) (suc q) now in inr (omega (arith, e)))
  ]

  -- ---- marks

  abbrev Before : ℕ → Type 0
  Before q = (q < length r.steps.now) × IsStop (nth_result (so_far results (length r.steps.now) events) q)

  abbrev Now : ℕ → Type 0
  Now q = (q < length r.steps.now) × IsStop (nth_result (so_far results (length r.steps.now) (events ++ Finish (suc n) ∷ [])) q)

  stops-on : (q : ℕ) → Before q → Now q
  stops-on q s = let e = so_far-stop results (length r.steps.now) events q s.0 s.1 in
      (s.0, stop-so_far results (length r.steps.now) (events ++ Finish (suc n) ∷ []) q s.0 (ended-before q e.0) e.1)

  stops-back : (q : ℕ) → Now q → Before q ⊎ ((q ≡ n) × IsStop (nth_result results n))
  stops-back q s = let e = so_far-stop results (length r.steps.now) (events ++ Finish (suc n) ∷ []) q s.0 s.1 in
      elim (ended-parts q e.0) [
        | inl before ↦ inl (s.0, stop-so_far results (length r.steps.now) events q s.0 before e.1)
        | inr last ↦ inr (last, subst (λ (p : ℕ). IsStop (nth_result results p)) last e.1)
      ]

  pub marks-ran : (IsStop (nth_result results n) → ⊥)
      → AreMarks r.steps.now (so_far results (length r.steps.now) (events ++ Finish (suc n) ∷ [])) (length r.steps.now) (length h.store.blocks.items)
      h.store.marks.written.items h.store.marks.read.items
  marks-ran ran = AreMarks-same r.steps.now (so_far results (length r.steps.now) events) (so_far results (length r.steps.now) (events ++ Finish (suc n) ∷ []))
      (length r.steps.now) (length r.steps.now) (length h.store.blocks.items) h.store.marks.written.items h.store.marks.read.items own.marks stops-on
      (λ q s. elim (stops-back q s) [ inl before ↦ before | inr last ↦ absurd (ran last.1) ])

  pub marks-stopped : IsStop (nth_result results n)
      → AreMarks r.steps.now (so_far results (length r.steps.now) (events ++ Finish (suc n) ∷ [])) (length r.steps.now) (length h.store.blocks.items)
      (set h.store.marks.written.items (nth_access r.steps.now n).write true) (all_marked (nth_access r.steps.now n).reads h.store.marks.read.items)
  marks-stopped stop = AreMarks-with r.steps.now (so_far results (length r.steps.now) events) (so_far results (length r.steps.now) (events ++ Finish (suc n) ∷ []))
      (length r.steps.now) (length r.steps.now) (length h.store.blocks.items) h.store.marks.written.items h.store.marks.read.items own.marks n stops-on
      (within, stop-so_far results (length r.steps.now) (events ++ Finish (suc n) ∷ []) n within ended-now stop)
      (λ q s. elim (stops-back q s) [ inl before ↦ inl before | inr last ↦ inr last.0 ])
      (w_in r is n within events h due results replay) (reads_stored r is n within events h due results replay)

  -- ---- the failure of the least statement

  noted-more : (f : Option Failure) → ((place : Place) → nth_result results n ≡ Failed place → ⊥) → IsLeastNoted r.steps.now results events f
      → IsLeastNoted r.steps.now results (events ++ Finish (suc n) ∷ []) f
  noted-more None other noted = λ q place below ended failed. elim (ended-parts q ended) [
    | inl before ↦ noted q place below before failed
    | inr last ↦ other place (sym (ap (nth_result results) last) ∙ failed)
  ]
  noted-more (Some f) other noted = record {
    step = noted.step;
    within = noted.within;
    ended = ended-before noted.step noted.ended;
    failed = noted.failed;
    of = noted.of;
    least = λ q place below ended failed. elim (ended-parts q ended) [
      | inl before ↦ noted.least q place below before failed
      | inr last ↦ absurd (other place (sym (ap (nth_result results) last) ∙ failed))
    ];
  }

  pub noted-other : ((place : Place) → nth_result results n ≡ Failed place → ⊥)
      → IsLeastNoted r.steps.now results (events ++ Finish (suc n) ∷ []) h.store.failure
  noted-other other = noted-more h.store.failure other own.noted

  module _ (place : Place) (failed : nth_result results n ≡ Failed place) where
    abbrev new : Failure
    new = record { statement = (nth_step r.steps.now n).statement; row = place.row; col = place.col }

    -- it is the one of the least statement, if the earlier ones are of no lesser one
    noted-last : ((q : ℕ) (other : Place) → q < length r.steps.now → has_event events (Finish (suc q)) ≡ true → nth_result results q ≡ Failed other
        → (nth_step r.steps.now n).statement ≤ (nth_step r.steps.now q).statement) → IsLeastFailure r.steps.now results (events ++ Finish (suc n) ∷ []) new
    noted-last least = record {
      step = n;
      within = within;
      ended = ended-now;
      failed = failed;
      of = refl;
      least = λ q other below ended bad. elim (ended-parts q ended) [
        | inl before ↦ least q other below before bad
        | inr last ↦ (let e : (nth_step r.steps.now q).statement ≡ (nth_step r.steps.now n).statement = ap (λ (p : ℕ). (nth_step r.steps.now p).statement) last in omega (arith, e))
      ];
    }

    noted-lesser : (f : Option Failure) → IsLeastNoted r.steps.now results events f
        → IsLeastFailure r.steps.now results (events ++ Finish (suc n) ∷ [])
        (lesser_of f (record { statement = (nth_step r.steps.now n).statement; row = place.row; col = place.col }))
    noted-lesser None none = noted-last (λ q other below ended bad. absurd (none q other below ended bad))
    noted-lesser (Some f) noted = elim (cases_lt (nth_step r.steps.now n).statement f.statement) [
      | inl less ↦ rw (lt-ltb (nth_step r.steps.now n).statement f.statement less)
          (noted-last (λ q other below ended bad. omega (arith, less, noted.least q other below ended bad)))
      | inr le ↦ rw (le-ltb (nth_step r.steps.now n).statement f.statement le) (record {
        step = noted.step;
        within = noted.within;
        ended = ended-before noted.step noted.ended;
        failed = noted.failed;
        of = noted.of;
        least = λ q other below ended bad. elim (ended-parts q ended) [
          | inl before ↦ noted.least q other below before bad
          | inr last ↦ (let e : (nth_step r.steps.now q).statement ≡ (nth_step r.steps.now n).statement = ap (λ (p : ℕ). (nth_step r.steps.now p).statement) last in omega (arith, e, le))
        ];
      })
    ]

    pub noted-failed : IsLeastNoted r.steps.now results (events ++ Finish (suc n) ∷ [])
        (Some (lesser_of h.store.failure (record { statement = (nth_step r.steps.now n).statement; row = place.row; col = place.col })))
    noted-failed = noted-lesser h.store.failure own.noted

  -- ---- blocks

  abbrev left : Grid
  left = written (nth_result results n) (nth_grid h.store.blocks.items (nth_access r.steps.now n).write)

  -- what it leaves is what it leaves in the replay
  left-is : left ≡ block_after r.job.now r.b r.steps.now results (suc n) w
  left-is = rw (eq-eqb w w refl) (ap (written (nth_result results n)) (own-found r is n within events h due results replay))

  left-residues : AreResidues r.job.now.modulus left
  left-residues = subst (AreResidues r.job.now.modulus) (sym left-is)
      (like (run_replay r is results (length r.steps.now) (whole-front r.job.now r.b r.steps.now results replay)) (suc n) w within).residues

  after-finish : (x : ℕ) → block_at r.job.now r.b r.steps.now results (events ++ Finish (suc n) ∷ []) x
      ≡ cond (w == x) (written (nth_result results n) (block_at r.job.now r.b r.steps.now results events x)) (block_at r.job.now r.b r.steps.now results events x)
  after-finish x =
      let place : suc n - 1 ≡ n = omega arith in
      rw place at (block-finish r.job.now r.b r.steps.now results events due.0 (suc n) (began r is n within events h due results replay)
      (runs r is n within events h due results replay) x (omega arith) within)

  one-block : (x : ℕ) → x < length h.store.blocks.items → nth_grid (set h.store.blocks.items w left) x
      ≡ block_at r.job.now r.b r.steps.now results (events ++ Finish (suc n) ∷ []) x
  one-block x below = elim (cases_eq x w) [
    | inl same ↦ (let e : (w == x) ≡ true = eq-eqb w x (sym same) in
        let own_place : nth_grid (set h.store.blocks.items w left) x ≡ left
        = ap (nth_grid (set h.store.blocks.items w left)) same ∙ get_or-set_same h.store.blocks.items w left no_grid (w_in r is n within events h due results replay) in
        own_place ∙ (ap (λ (y : ℕ). written (nth_result results n) (nth_grid h.store.blocks.items y)) (sym same)
        ∙ (ap (written (nth_result results n)) (own.blocks.each x below) ∙ sym (rw e at (after-finish x)))))
    | inr apart ↦ (let e : (w == x) ≡ false = ne_eqb w x (λ same. apart (sym same)) in
        get_or-set_other h.store.blocks.items w x left no_grid apart ∙ (own.blocks.each x below ∙ sym (rw e at (after-finish x))))
  ]

  pub blocks-next : (blocks : List Grid) → blocks ≡ set h.store.blocks.items (nth_access r.steps.now n).write
      (written (nth_result results n) (nth_grid h.store.blocks.items (nth_access r.steps.now n).write))
      → AreBlocksAt r results (events ++ Finish (suc n) ∷ []) blocks
  blocks-next blocks blocks_are = rw blocks_are (record {
    count = length-set h.store.blocks.items w left ∙ own.blocks.count;
    residues = All-set (AreResidues r.job.now.modulus) h.store.blocks.items w left left-residues own.blocks.residues;
    each = λ x below. one-block x (omega (arith, below, length-set h.store.blocks.items w left));
  })

  -- ---- all of it, by what becomes of the step

  pub held-skipped : (after : Held) → nth_result results n ≡ Skipped → after.store.blocks.items ≡ h.store.blocks.items
      → after.store.marks.written.items ≡ set h.store.marks.written.items (nth_access r.steps.now n).write true
      → after.store.marks.read.items ≡ all_marked (nth_access r.steps.now n).reads h.store.marks.read.items
      → after.store.room.items ≡ h.store.room.items → after.spare.items ≡ h.spare.items → after.store.failure ≡ h.store.failure
      → IsHeldBy r results (events ++ Finish (suc n) ∷ []) after
  held-skipped after skipped blocks_are written_are read_are room_is spare_is failure_is = record {
    blocks = blocks-next after.store.blocks.items (blocks_are ∙ (sym (set-get_or h.store.blocks.items w no_grid)
        ∙ ap (λ (x : StepResult). set h.store.blocks.items w (written x (nth_grid h.store.blocks.items w))) (sym skipped)));
    marks = rw (blocks_are, written_are, read_are) (marks-stopped (subst IsStop (sym skipped) tt));
    noted = rw failure_is (noted-other (λ place failed. skipped-failed place (sym skipped ∙ failed)));
    room = rw room_is own.room;
    spare = rw (blocks_are, spare_is) own.spare;
  }
    where
      skipped-failed : (place : Place) → Skipped ≡ Failed place → ⊥
      skipped-failed place same = cc

  -- the block that it writes was taken out, and another one of as many entries was put there
  module _ (after : Held) (e back : Grid) (blocks_are : after.store.blocks.items ≡ set (set h.store.blocks.items (nth_access r.steps.now n).write e) (nth_access r.steps.now n).write back)
      (room : r.b ≤ length after.store.room.items) (spare_len : length after.spare.items ≡ length h.spare.items)
      (many : length back.entries ≡ length (nth_grid h.store.blocks.items (nth_access r.steps.now n).write).entries) where
    put : after.store.blocks.items ≡ set h.store.blocks.items w back
    put = blocks_are ∙ set-set h.store.blocks.items w e back

    same_length : length after.store.blocks.items ≡ length h.store.blocks.items
    same_length = ap length put ∙ length-set h.store.blocks.items w back

    fits : length back.entries ≤ length h.spare.items
    fits = let least : length (nth_grid h.store.blocks.items w).entries ≤ length h.spare.items
        = own.spare w no_grid (w_in r is n within events h due results replay) in omega (arith, least, many)

    spare_enough : All (λ (g : Grid). length g.entries ≤ length after.spare.items) after.store.blocks.items
    spare_enough = rw (put, spare_len) (All-set (λ (g : Grid). length g.entries ≤ length h.spare.items) h.store.blocks.items w back fits own.spare)

    pub held-ran : nth_result results n ≡ Ran back → after.store.marks.written.items ≡ h.store.marks.written.items
        → after.store.marks.read.items ≡ h.store.marks.read.items → after.store.failure ≡ h.store.failure
        → IsHeldBy r results (events ++ Finish (suc n) ∷ []) after
    held-ran ran written_are read_are failure_is = record {
      blocks = blocks-next after.store.blocks.items
          (put ∙ ap (λ (x : StepResult). set h.store.blocks.items w (written x (nth_grid h.store.blocks.items w))) (sym ran));
      marks = rw (same_length, written_are, read_are) (marks-ran (λ stop. subst IsStop ran stop));
      noted = rw failure_is (noted-other (λ place failed. ran-failed place (sym ran ∙ failed)));
      room = room;
      spare = spare_enough;
    }
      where
        ran-failed : (place : Place) → Ran back ≡ Failed place → ⊥
        ran-failed place same = cc

    pub held-failed : (place : Place) → nth_result results n ≡ Failed place → back ≡ nth_grid h.store.blocks.items (nth_access r.steps.now n).write
        → after.store.marks.written.items ≡ set h.store.marks.written.items (nth_access r.steps.now n).write true
        → after.store.marks.read.items ≡ all_marked (nth_access r.steps.now n).reads h.store.marks.read.items
        → after.store.failure ≡ Some (lesser_of h.store.failure (record { statement = (nth_step r.steps.now n).statement; row = place.row; col = place.col }))
        → IsHeldBy r results (events ++ Finish (suc n) ∷ []) after
    held-failed place failed back_is written_are read_are failure_is = record {
      blocks = blocks-next after.store.blocks.items
          (put ∙ (ap (set h.store.blocks.items w) back_is
          ∙ ap (λ (x : StepResult). set h.store.blocks.items w (written x (nth_grid h.store.blocks.items w))) (sym failed)));
      marks = rw (same_length, written_are, read_are) (marks-stopped (subst IsStop (sym failed) tt));
      noted = rw failure_is (noted-failed place failed);
      room = room;
      spare = spare_enough;
    }
