-- What is kept of events tells which step may begin or end, and goes on by one event. Cited where a machine takes an event.
use Rattle.std.proofs.Common.{◌≡◌, ℕ, zero, suc, ◌+◌, ◌-◌, ◌<◌, ◌≤◌, inl, inr, Bool, true, false, cond, List, [], ◌∷◌, ◌++◌, length, get_or, set, take, replicate, refl, sym, ◌∙◌, ap, subst, arith, get_or-set_same, get_or-set_other}
use Rattle.std.specs.Prelude.{◌==◌, ◌&&◌, All, not, nat_lt, nat_le}
use Rattle.std.specs.List.{list_all}
use Rattle.std.proofs.lemmas.Bool.{cases_Bool, cases_eq, cases_lt, eq-eqb, eqb-true, ne_eqb, false≢true, ltb-true, lt-ltb, leb-true, le-leb, and_from, and_parts, not-true}
use Rattle.std.proofs.lemmas.Bool.Decides.{same_from_decides}
use Rattle.std.proofs.lemmas.Grind.{take-set_at}
use Rattle.std.proofs.lemmas.List.{get_or-replicate, length-map, length-replicate, length-set}
use Rattle.std.proofs.lemmas.List.Folds.{list_all_at}
use Rattle.std.proofs.lemmas.List.FromFn.{get_or-map-range_with_len, length-map-range_with_len}
use Rattle.std.proofs.lemmas.List.Elements.{All-weaker}
use Rattle.std.proofs.lemmas.List.Sums.{get_or-le-sum_by, sum_by-cons, sum_by-set}
use Rattle.dependence_queue.specs.declared.edge.Edge.{Edge}
use Rattle.dependence_queue.specs.Conflicts.{IsDirectEdge}
use Rattle.dependence_queue.specs.Edges.{access_at, count_into, edges_of, no_access, successors}
use Rattle.dependence_queue.proofs.ListedEdges.{All-steps, direct-has, had, had-direct, sorted}
use Rattle.step_replays.specs.declared.step.Step.{Step}
use Rattle.step_replays.specs.Replays.{no_step}
use Rattle.task_values.specs.Marks.{is_marked}
use Rattle.schedule_core.specs.declared.event.Event.{Event}
use Rattle.schedule_core.specs.declared.event.Event.TheVariants.{Start, Finish}
use Rattle.schedule_core.specs.declared.turns.Turns.{Turns}
use Rattle.schedule_core.specs.EventBlocks.{step_access}
use Rattle.schedule_core.specs.Schedules.{all_over, has_event, is_begun, may_come}
use Rattle.schedule_core.specs.StepAccesses.{accesses_of}
use Rattle.schedule_core.specs.Turns.{AreTurns, IsFirstTurns, can_finish, can_start, logged, times_in, unmarked, waits_for}
use Rattle.schedule_core.proofs.EdgeCounts.{few-successors, none-times, none-waits, successors-within, waits-ended, waits-finish, waits-first, waits-start}
use Rattle.schedule_core.proofs.EventTests.{has-last, or-false, or-true}
use Rattle.schedule_core.proofs.RunningSteps.{begin-from_edges, edges-from_begin}
use Rattle.schedule_core.proofs.ScheduleTests.{all-at, may-from, may-is}

-- ---- accesses by numbers

at-map : (steps : List Step) (k : ℕ) → get_or (accesses_of steps) k no_access ≡ (get_or steps k no_step).access
at-map [] k = refl
at-map (s ∷ steps) zero = refl
at-map (s ∷ steps) (suc k) = at-map steps k

pub same-accesses : (steps : List Step) → access_at (accesses_of steps) ≡ step_access steps
same-accesses steps = λ k t. at-map steps (t - 1) k

pub count-accesses : (steps : List Step) → length (accesses_of steps) ≡ length steps
count-accesses steps = length-map steps (λ (s : Step). s.access)

-- ---- marks

-- one more is marked
unmarked-set : (marks : List Bool) (i : ℕ) → i < length marks → is_marked marks i ≡ false → unmarked (set marks i true) + 1 ≡ unmarked marks
unmarked-set marks i below none =
    let e = sum_by-set (λ (b : Bool). cond (not b) 1 0) marks i true false below in
    rw none at e ∙ omega arith

unmarked-some : (marks : List Bool) (i : ℕ) → i < length marks → is_marked marks i ≡ false → 1 ≤ unmarked marks
unmarked-some marks i below none = rw none at (get_or-le-sum_by (λ (b : Bool). cond (not b) 1 0) marks i false below)

unmarked-replicate : (n : ℕ) → unmarked (replicate n false) ≡ n
unmarked-replicate zero = refl
unmarked-replicate (suc n) = sum_by-cons (λ (b : Bool). cond (not b) 1 0) false (replicate n false) ∙ omega (arith, unmarked-replicate n)

-- ---- before any event

pub turns-first : (steps : List Step) (edges : List Edge) (u : Turns) → edges ≡ edges_of (accesses_of steps) → IsFirstTurns edges (length steps) u
    → (logged u ≡ []) × AreTurns steps (logged u) u
turns-first steps edges u edges_are first =
    let none : logged u ≡ [] = ap (λ (k : ℕ). take k u.log.items) first.count in (
      none,
      rw none (record {
        begun_count = rw first.begun (length-replicate (length steps) false);
        ended_count = rw first.ended (length-replicate (length steps) false);
        waits_count = rw first.waits (length-map-range_with_len (λ s. count_into edges (s + 1)) 0 (length steps));
        begun = λ s below. rw first.begun (get_or-replicate (length steps) s false false below);
        ended = λ s below. rw first.ended (get_or-replicate (length steps) s false false below);
        waits = λ s below. rw (first.waits, ← edges_are) (get_or-map-range_with_len (λ s. count_into edges (s + 1)) 0 (length steps) s s 0 below (omega arith)
            ∙ (let e : s + 1 ≡ suc s = omega arith in rw e (sym (waits-first edges (suc s)))));
        events_are = none;
        room = rw (first.begun, first.ended) (omega (arith, unmarked-replicate (length steps), first.count, first.log));
      }),
    )

-- ---- the steps to which edges go from step t

pub next-within : (steps : List Step) (t : ℕ) → All (λ (n : ℕ). (0 < n) × (n ≤ length steps)) (successors (edges_of (accesses_of steps)) t)
next-within steps t = rw (← (count-accesses steps))
    (successors-within (edges_of (accesses_of steps)) (length (accesses_of steps)) t (All-steps (accesses_of steps)))

pub next-few : (steps : List Step) (t : ℕ) → length (successors (edges_of (accesses_of steps)) t) ≤ length steps
next-few steps t = omega (
  arith,
  few-successors (edges_of (accesses_of steps)) 0 (length (accesses_of steps)) t (sorted (accesses_of steps))
      (All-weaker (λ (e : Edge). (0 < e.from) × (e.from < e.to) × (e.to ≤ length (accesses_of steps))) (λ (e : Edge). e.to ≤ length (accesses_of steps)) (λ e h. h.2)
      (edges_of (accesses_of steps)) (All-steps (accesses_of steps)))
      (All-weaker (λ (e : Edge). (0 < e.from) × (e.from < e.to) × (e.to ≤ length (accesses_of steps))) (λ (e : Edge). e.from ≡ t → 0 < e.to) (λ e h same. omega (arith, h.1))
      (edges_of (accesses_of steps)) (All-steps (accesses_of steps)))
      (omega arith),
  count-accesses steps,
)

-- ---- tests

module _ (steps : List Step) (events : List Event) (u : Turns) (turns : AreTurns steps events u)
    (begun : is_begun (step_access steps) (length steps) events ≡ true) (t : ℕ) where
  abbrev edges : List Edge
  edges = edges_of (accesses_of steps)

  begun-at : 0 < t → t ≤ length steps → is_marked u.begun.items (t - 1) ≡ has_event events (Start t)
  begun-at first within = turns.begun (t - 1) (omega arith) ∙ (let e : suc (t - 1) ≡ t = omega arith in ap (λ (k : ℕ). has_event events (Start k)) e)

  ended-at : 0 < t → t ≤ length steps → is_marked u.ended.items (t - 1) ≡ has_event events (Finish t)
  ended-at first within = turns.ended (t - 1) (omega arith) ∙ (let e : suc (t - 1) ≡ t = omega arith in ap (λ (k : ℕ). has_event events (Finish k)) e)

  waits-at : 0 < t → t ≤ length steps → get_or u.waits.items (t - 1) 0 ≡ waits_for (edges_of (accesses_of steps)) events t
  waits-at first within = turns.waits (t - 1) (omega arith)
      ∙ (let e : suc (t - 1) ≡ t = omega arith in ap (λ (k : ℕ). waits_for (edges_of (accesses_of steps)) events k) e)

  can-start : can_start u.begun.items u.waits.items t ≡ true → may_come (step_access steps) (length steps) events (Start t) ≡ true
  can-start h =
      let p = and_parts (nat_lt 0 t) (nat_le t (length u.begun.items) && (not (is_marked u.begun.items (t - 1)) && get_or u.waits.items (t - 1) 0 == 0)) h in
      let q = and_parts (nat_le t (length u.begun.items)) (not (is_marked u.begun.items (t - 1)) && get_or u.waits.items (t - 1) 0 == 0) p.1 in
      let s = and_parts (not (is_marked u.begun.items (t - 1))) (get_or u.waits.items (t - 1) 0 == 0) q.1 in
      let first : 0 < t = ltb-true 0 t p.0 in
      let within : t ≤ length steps = omega (arith, leb-true t (length u.begun.items) q.0, turns.begun_count) in
      let none : waits_for (edges_of (accesses_of steps)) events t ≡ 0 = sym (waits-at first within) ∙ eqb-true (get_or u.waits.items (t - 1) 0) 0 s.1 in
      begin-from_edges (step_access steps) (length steps) events begun t first within
      (sym (begun-at first within) ∙ not-true (is_marked u.begun.items (t - 1)) s.0)
      (λ s low edge. waits-ended (edges_of (accesses_of steps)) events t none s
      (direct-has (accesses_of steps) s t low (omega (arith, within, count-accesses steps)) (subst (λ f. IsDirectEdge f s t) (sym (same-accesses steps)) edge)))

  start-can : may_come (step_access steps) (length steps) events (Start t) ≡ true → can_start u.begun.items u.waits.items t ≡ true
  start-can may =
      let m = may-is (step_access steps) (length steps) events (Start t) may in
      let none : waits_for (edges_of (accesses_of steps)) events t ≡ 0
      = none-waits (edges_of (accesses_of steps)) events t
      (λ s h. edges-from_begin (step_access steps) (length steps) events begun t may s (had (accesses_of steps) s t h).0
      (subst (λ f. IsDirectEdge f s t) (same-accesses steps) (had-direct (accesses_of steps) s t h))) in
      and_from (nat_lt 0 t) (nat_le t (length u.begun.items) && (not (is_marked u.begun.items (t - 1)) && get_or u.waits.items (t - 1) 0 == 0)) (lt-ltb 0 t m.0.0)
      (and_from (nat_le t (length u.begun.items)) (not (is_marked u.begun.items (t - 1)) && get_or u.waits.items (t - 1) 0 == 0)
      (le-leb t (length u.begun.items) (omega (arith, m.0.1, turns.begun_count)))
      (and_from (not (is_marked u.begun.items (t - 1))) (get_or u.waits.items (t - 1) 0 == 0)
      (ap not (begun-at m.0.0 m.0.1 ∙ m.1)) (eq-eqb (get_or u.waits.items (t - 1) 0) 0 (waits-at m.0.0 m.0.1 ∙ none))))

  pub start-test : can_start u.begun.items u.waits.items t ≡ may_come (step_access steps) (length steps) events (Start t)
  start-test = same_from_decides {P = can_start u.begun.items u.waits.items t ≡ true} (can_start u.begun.items u.waits.items t)
      (may_come (step_access steps) (length steps) events (Start t)) (λ h. h, λ h. h) (start-can, can-start)

  can-finish : can_finish u.begun.items u.ended.items t ≡ true → may_come (step_access steps) (length steps) events (Finish t) ≡ true
  can-finish h =
      let p = and_parts (nat_lt 0 t) (nat_le t (length u.begun.items) && (not (is_marked u.ended.items (t - 1)) && is_marked u.begun.items (t - 1))) h in
      let q = and_parts (nat_le t (length u.begun.items)) (not (is_marked u.ended.items (t - 1)) && is_marked u.begun.items (t - 1)) p.1 in
      let s = and_parts (not (is_marked u.ended.items (t - 1))) (is_marked u.begun.items (t - 1)) q.1 in
      let first : 0 < t = ltb-true 0 t p.0 in
      let within : t ≤ length steps = omega (arith, leb-true t (length u.begun.items) q.0, turns.begun_count) in
      may-from (step_access steps) (length steps) events (Finish t) (first, within)
      (sym (ended-at first within) ∙ not-true (is_marked u.ended.items (t - 1)) s.0) (sym (begun-at first within) ∙ s.1)

  finish-can : may_come (step_access steps) (length steps) events (Finish t) ≡ true → can_finish u.begun.items u.ended.items t ≡ true
  finish-can may =
      let m = may-is (step_access steps) (length steps) events (Finish t) may in
      and_from (nat_lt 0 t) (nat_le t (length u.begun.items) && (not (is_marked u.ended.items (t - 1)) && is_marked u.begun.items (t - 1))) (lt-ltb 0 t m.0.0)
      (and_from (nat_le t (length u.begun.items)) (not (is_marked u.ended.items (t - 1)) && is_marked u.begun.items (t - 1))
      (le-leb t (length u.begun.items) (omega (arith, m.0.1, turns.begun_count)))
      (and_from (not (is_marked u.ended.items (t - 1))) (is_marked u.begun.items (t - 1)) (ap not (ended-at m.0.0 m.0.1 ∙ m.1)) (begun-at m.0.0 m.0.1 ∙ m.2)))

  pub finish-test : can_finish u.begun.items u.ended.items t ≡ may_come (step_access steps) (length steps) events (Finish t)
  finish-test = same_from_decides {P = can_finish u.begun.items u.ended.items t ≡ true} (can_finish u.begun.items u.ended.items t)
      (may_come (step_access steps) (length steps) events (Finish t)) (λ h. h, λ h. h) (finish-can, can-finish)

  -- ---- one event more

  -- marks with one more, of step t
  mark-more : (marks : List Bool) (e : ℕ → Event) (s : ℕ) → 0 < t → t ≤ length marks → is_marked marks s ≡ has_event events (e (suc s))
      → ((t == suc s) ≡ true → has_event (events ++ e t ∷ []) (e (suc s)) ≡ true)
      → ((t == suc s) ≡ false → has_event (events ++ e t ∷ []) (e (suc s)) ≡ has_event events (e (suc s)))
      → is_marked (set marks (t - 1) true) s ≡ has_event (events ++ e t ∷ []) (e (suc s))
  mark-more marks e s first within before own other = elim (cases_eq s (t - 1)) [
    | inl same ↦ (let here : (t == suc s) ≡ true = eq-eqb t (suc s) (omega (arith, same, first)) in
        ap (is_marked (set marks (t - 1) true)) same ∙ (get_or-set_same marks (t - 1) true false (omega (arith, first, within)) ∙ sym (own here)))
    | inr apart ↦ (let there : (t == suc s) ≡ false = ne_eqb t (suc s) (λ same. apart (omega (arith, same))) in
        get_or-set_other marks (t - 1) s true false apart ∙ (before ∙ sym (other there)))
  ]

  log-more : (v : Turns) (e : Event) → u.count < length u.log.items → v.log.items ≡ set u.log.items u.count e → v.count ≡ u.count + 1 → logged v ≡ events ++ e ∷ []
  log-more v e room log count = rw (log, count) (take-set_at u.log.items u.count (u.count + 1) e refl room) ∙ ap (λ (es : List Event). es ++ e ∷ []) turns.events_are

  -- there is room for its event
  pub start-room : may_come (step_access steps) (length steps) events (Start t) ≡ true → u.count < length u.log.items
  start-room may =
      let m = may-is (step_access steps) (length steps) events (Start t) may in
      omega (arith, turns.room, unmarked-some u.begun.items (t - 1) (omega (arith, m.0.0, m.0.1, turns.begun_count)) (begun-at m.0.0 m.0.1 ∙ m.1))

  pub finish-room : may_come (step_access steps) (length steps) events (Finish t) ≡ true → u.count < length u.log.items
  finish-room may =
      let m = may-is (step_access steps) (length steps) events (Finish t) may in
      omega (arith, turns.room, unmarked-some u.ended.items (t - 1) (omega (arith, m.0.0, m.0.1, turns.ended_count)) (ended-at m.0.0 m.0.1 ∙ m.1))

  pub turns-start : may_come (step_access steps) (length steps) events (Start t) ≡ true → (v : Turns) → v.begun.items ≡ set u.begun.items (t - 1) true
      → v.ended.items ≡ u.ended.items → v.waits.items ≡ u.waits.items → v.log.items ≡ set u.log.items u.count (Start t) → v.count ≡ u.count + 1
      → (logged v ≡ events ++ Start t ∷ []) × AreTurns steps (events ++ Start t ∷ []) v
  turns-start may v begun_are ended_are waits_are log count =
      let m = may-is (step_access steps) (length steps) events (Start t) may in
      let logs : logged v ≡ events ++ Start t ∷ [] = log-more v (Start t) (start-room may) log count in
      let in_marks : t - 1 < length u.begun.items = omega (arith, m.0.0, m.0.1, turns.begun_count) in
      let left = unmarked-set u.begun.items (t - 1) in_marks (begun-at m.0.0 m.0.1 ∙ m.1) in (
        logs,
        record {
          begun_count = rw begun_are (length-set u.begun.items (t - 1) true ∙ turns.begun_count);
          ended_count = rw ended_are turns.ended_count;
          waits_count = rw waits_are turns.waits_count;
          begun = λ s below. rw begun_are (mark-more u.begun.items Start s m.0.0 (omega (arith, m.0.1, turns.begun_count)) (turns.begun s below)
              (λ h. has-last events (Start t) (Start (suc s)) ∙ (rw h (or-true (has_event events (Start (suc s))))))
              (λ h. has-last events (Start t) (Start (suc s)) ∙ (rw h (or-false (has_event events (Start (suc s)))))));
          ended = λ s below. rw ended_are (turns.ended s below ∙ sym (has-last events (Start t) (Finish (suc s)) ∙ or-false (has_event events (Finish (suc s)))));
          waits = λ s below. rw waits_are (turns.waits s below ∙ sym (waits-start (edges_of (accesses_of steps)) events t (suc s)));
          events_are = logs;
          room = rw (begun_are, ended_are, log, count) (omega (arith, turns.room, left, length-set u.log.items u.count (Start t)));
        },
      )

  pub turns-finish : may_come (step_access steps) (length steps) events (Finish t) ≡ true → (v : Turns) → v.begun.items ≡ u.begun.items
      → v.ended.items ≡ set u.ended.items (t - 1) true → length v.waits.items ≡ length u.waits.items
      → ((s : ℕ) → get_or v.waits.items s 0 + times_in (successors (edges_of (accesses_of steps)) t) (s + 1) ≡ get_or u.waits.items s 0)
      → v.log.items ≡ set u.log.items u.count (Finish t) → v.count ≡ u.count + 1
      → (logged v ≡ events ++ Finish t ∷ []) × AreTurns steps (events ++ Finish t ∷ []) v
  turns-finish may v begun_are ended_are waits_count waits_are log count =
      let m = may-is (step_access steps) (length steps) events (Finish t) may in
      let logs : logged v ≡ events ++ Finish t ∷ [] = log-more v (Finish t) (finish-room may) log count in
      let in_marks : t - 1 < length u.ended.items = omega (arith, m.0.0, m.0.1, turns.ended_count) in
      let left = unmarked-set u.ended.items (t - 1) in_marks (ended-at m.0.0 m.0.1 ∙ m.1) in (
        logs,
        record {
          begun_count = rw begun_are turns.begun_count;
          ended_count = rw ended_are (length-set u.ended.items (t - 1) true ∙ turns.ended_count);
          waits_count = waits_count ∙ turns.waits_count;
          begun = λ s below. rw begun_are (turns.begun s below ∙ sym (has-last events (Finish t) (Start (suc s)) ∙ or-false (has_event events (Start (suc s)))));
          ended = λ s below. rw ended_are (mark-more u.ended.items Finish s m.0.0 (omega (arith, m.0.1, turns.ended_count)) (turns.ended s below)
              (λ h. has-last events (Finish t) (Finish (suc s)) ∙ (rw h (or-true (has_event events (Finish (suc s))))))
              (λ h. has-last events (Finish t) (Finish (suc s)) ∙ (rw h (or-false (has_event events (Finish (suc s)))))));
          waits = λ s below. (let e : s + 1 ≡ suc s = omega arith in
              omega (arith, rw e at (waits_are s), turns.waits s below, waits-finish (edges_of (accesses_of steps)) events t (suc s) m.1));
          events_are = logs;
          room = rw (begun_are, ended_are, log, count) (omega (arith, turns.room, left, length-set u.log.items u.count (Finish t)));
        },
      )

  -- ---- what is counted off at the end of a step

  pub finish-enough : may_come (step_access steps) (length steps) events (Finish t) ≡ true → (s : ℕ)
      → times_in (successors (edges_of (accesses_of steps)) t) (s + 1) ≤ get_or u.waits.items s 0
  finish-enough may s =
      let m = may-is (step_access steps) (length steps) events (Finish t) may in
      let next : List ℕ = successors (edges_of (accesses_of steps)) t in
      let e : s + 1 ≡ suc s = omega arith in
      elim (cases_lt s (length steps)) [
        | inl below ↦ rw e (omega (arith, turns.waits s below, waits-finish (edges_of (accesses_of steps)) events t (suc s) m.1))
        | inr past ↦ omega (arith, none-times (successors (edges_of (accesses_of steps)) t) (length steps) (s + 1) (next-within steps t) (omega (arith, past)))
      ]

-- ---- all steps

all-true : (marks : List Bool) → ((s : ℕ) → s < length marks → is_marked marks s ≡ true) → list_all (λ (m : Bool). m) marks ≡ true
all-true [] h = refl
all-true (m ∷ marks) h = and_from m (list_all (λ (k : Bool). k) marks) (h 0 (omega arith)) (all-true marks (λ s below. h (suc s) (omega (arith, below))))

true-at : (marks : List Bool) (s : ℕ) → s < length marks → list_all (λ (m : Bool). m) marks ≡ true → is_marked marks s ≡ true
true-at marks s below all = elim (cases_Bool (is_marked marks s)) [
  | inl marked ↦ marked
  | inr not_marked ↦ absurd (false≢true (sym (list_all_at (λ (m : Bool). m) marks s false below not_marked) ∙ all))
]

all-over : (events : List Event) (k : ℕ) → ((s : ℕ) → s < k → has_event events (Finish (suc s)) ≡ true) → all_over events k ≡ true
all-over events zero h = refl
all-over events (suc k) h = and_from (has_event events (Finish (suc k))) (all_over events k) (h k (omega arith)) (all-over events k (λ s below. h s (omega (arith, below))))

pub ended-test : (steps : List Step) (events : List Event) (u : Turns) → AreTurns steps events u
    → list_all (λ (m : Bool). m) u.ended.items ≡ all_over events (length steps)
ended-test steps events u turns =
    same_from_decides {P = list_all (λ (m : Bool). m) u.ended.items ≡ true} (list_all (λ (m : Bool). m) u.ended.items) (all_over events (length steps)) (λ h. h, λ h. h) (
      λ over. all-true u.ended.items (λ s below. let inside : s < length steps = omega (arith, below, turns.ended_count) in
          turns.ended s inside ∙ all-at (step_access steps) (length steps) events (length steps) (suc s) over (omega arith) (omega (arith, inside))),
      λ all. all-over events (length steps) (λ s below. sym (turns.ended s below) ∙ true-at u.ended.items s (omega (arith, below, turns.ended_count)) all),
    )
