-- A machine before any event, and with one event more. Cited where a machine is made, and where it takes an event.
use Rattle.std.proofs.Common.{◌≡◌, ℕ, suc, ◌+◌, ◌-◌, ◌≤◌, true, List, [], ◌∷◌, ◌++◌, length, get_or, set, refl, sym, ◌∙◌, subst, arith}
use Rattle.std.specs.Prelude.{None, Option, Some}
use Rattle.std.proofs.lemmas.Bool.{false≢true}
use Rattle.std.proofs.lemmas.List.Elements.{All-from_get_or}
use Rattle.residue_sums.specs.Grids.{AreResidues}
use Rattle.equation.specs.Jobs.{no_grid}
use Rattle.dependence_queue.specs.declared.edge.Edge.{Edge}
use Rattle.dependence_queue.specs.Edges.{edges_of, most_accesses, successors}
use Rattle.step_replays.specs.Replays.{StepResult}
use Rattle.step_replays.proofs.FirstShapes.{first-residues}
use Rattle.task_values.specs.declared.outcome.Failure.{Failure}
use Rattle.task_values.specs.declared.run.Run.{Run}
use Rattle.task_values.specs.Progress.{IsRun}
use Rattle.task_values.proofs.MarkLaws.{AreMarks-none, AreMarks-same}
use Rattle.schedule_core.specs.declared.event.Event.{Event}
use Rattle.schedule_core.specs.declared.event.Event.TheVariants.{Start, Finish}
use Rattle.schedule_core.specs.declared.held.Held.{Held}
use Rattle.schedule_core.specs.declared.turns.Turns.{Turns}
use Rattle.schedule_core.specs.EventBlocks.{step_access}
use Rattle.schedule_core.specs.HeldSteps.{IsDueAt, IsFirstHeld, IsHeld, IsHeldBy, IsLeastNoted, IsNextHeld, so_far}
use Rattle.schedule_core.specs.Machines.{IsMachine}
use Rattle.schedule_core.specs.Schedules.{may_come}
use Rattle.schedule_core.specs.StepAccesses.{accesses_of}
use Rattle.schedule_core.specs.Turns.{IsFirstTurns, logged, times_in}
use Rattle.schedule_core.proofs.EventBlocks.{block-first, block-start}
use Rattle.schedule_core.proofs.EventTests.{start-ends}
use Rattle.schedule_core.proofs.FoundSteps.{so_far-stop, stop-so_far}
use Rattle.schedule_core.proofs.ScheduleTests.{begun-more, may-is}
use Rattle.schedule_core.proofs.TurnTests.{turns-finish, turns-first, turns-start}

-- ---- before any event

held-first : (r : Run) → IsRun r → (h : Held) → IsFirstHeld (record { job = r.job.now; b = r.b }) h → IsHeld r [] h
held-first r is h first results replay = record {
  blocks = record {
    count = first.store.blocks.count;
    residues = All-from_get_or (AreResidues r.job.now.modulus) h.store.blocks.items no_grid (λ k below.
        subst (AreResidues r.job.now.modulus) (sym (first.store.blocks.each k (omega (arith, below, first.store.blocks.count))))
        (first-residues r.job.now.modulus (omega (arith, is.job.modulus.at_least_two)) r.job.now r.b k is.job.residues).residues);
    each = λ x below. first.store.blocks.each x (omega (arith, below, first.store.blocks.count)) ∙ sym (block-first r.job.now r.b r.steps.now results x);
  };
  marks = rw (first.store.written, first.store.read)
      (AreMarks-same r.steps.now [] (so_far results (length r.steps.now) []) 0 (length r.steps.now) (length h.store.blocks.items) _ _
      (AreMarks-none r.steps.now (length h.store.blocks.items)) (λ q s. absurd (omega (arith, s.0)))
      (λ q s. absurd (false≢true (so_far-stop results (length r.steps.now) [] q s.0 s.1).0)));
  noted = rw first.store.failure (λ q place below ended failed. false≢true ended);
  room = omega (arith, first.store.room);
  spare = first.spare;
}

pub machine-first : (r : Run) (edges : List Edge) (u : Turns) (h : Held) → IsRun r → length r.steps.now ≤ most_accesses → edges ≡ edges_of (accesses_of r.steps.now)
    → IsFirstTurns edges (length r.steps.now) u → IsFirstHeld (record { job = r.job.now; b = r.b }) h → IsMachine r edges u h
machine-first r edges u h is few edges_are first held =
    let none : logged u ≡ [] = (turns-first r.steps.now edges u edges_are first).0 in
    record {
      run = is;
      few = few;
      edges_are = edges_are;
      begun = rw none refl;
      turns = (turns-first r.steps.now edges u edges_are first).1;
      held = rw none (held-first r is h held);
    }

-- ---- one event more

-- a step begins, and what is held stays
module _ (r : Run) (results : List StepResult) (events : List Event) (t : ℕ) where
  noted-start : (f : Option Failure) → IsLeastNoted r.steps.now results events f → IsLeastNoted r.steps.now results (events ++ Start t ∷ []) f
  noted-start None none = λ q place below ended failed. none q place below (sym (start-ends events t (suc q)) ∙ ended) failed
  noted-start (Some f) noted = record {
    step = noted.step;
    within = noted.within;
    ended = start-ends events t (suc noted.step) ∙ noted.ended;
    failed = noted.failed;
    of = noted.of;
    least = λ q place below ended failed. noted.least q place below (sym (start-ends events t (suc q)) ∙ ended) failed;
  }

  held-start : (h : Held) → IsHeldBy r results events h → IsHeldBy r results (events ++ Start t ∷ []) h
  held-start h held = record {
    blocks = record {
      count = held.blocks.count;
      residues = held.blocks.residues;
      each = λ x below. held.blocks.each x below ∙ sym (block-start r.job.now r.b r.steps.now results events t x);
    };
    marks = AreMarks-same r.steps.now (so_far results (length r.steps.now) events) (so_far results (length r.steps.now) (events ++ Start t ∷ []))
        (length r.steps.now) (length r.steps.now) (length h.store.blocks.items) h.store.marks.written.items h.store.marks.read.items held.marks
        (λ q s. let e = so_far-stop results (length r.steps.now) events q s.0 s.1 in
        (s.0, stop-so_far results (length r.steps.now) (events ++ Start t ∷ []) q s.0 (start-ends events t (suc q) ∙ e.0) e.1))
        (λ q s. let e = so_far-stop results (length r.steps.now) (events ++ Start t ∷ []) q s.0 s.1 in
        (s.0, stop-so_far results (length r.steps.now) events q s.0 (sym (start-ends events t (suc q)) ∙ e.0) e.1));
    noted = noted-start h.store.failure held.noted;
    room = held.room;
    spare = held.spare;
  }

module _ (r : Run) (edges : List Edge) (u : Turns) (h : Held) (inv : IsMachine r edges u h) (t : ℕ) where
  pub machine-start : may_come (step_access r.steps.now) (length r.steps.now) (logged u) (Start t) ≡ true → (v : Turns)
      → v.begun.items ≡ set u.begun.items (t - 1) true → v.ended.items ≡ u.ended.items → v.waits.items ≡ u.waits.items
      → v.log.items ≡ set u.log.items u.count (Start t) → v.count ≡ u.count + 1
      → (logged v ≡ logged u ++ Start t ∷ []) × IsMachine r edges v h
  machine-start may v begun_are ended_are waits_are log count =
      let m = turns-start r.steps.now (logged u) u inv.turns inv.begun t may v begun_are ended_are waits_are log count in (
        m.0,
        record {
          run = inv.run;
          few = inv.few;
          edges_are = inv.edges_are;
          begun = rw m.0 (begun-more (step_access r.steps.now) (length r.steps.now) (logged u) (Start t) inv.begun may);
          turns = rw m.0 m.1;
          held = rw m.0 (λ results replay. held-start r results (logged u) t h (inv.held results replay));
        },
      )

  -- step t is the one at place t - 1
  pub finish-due : may_come (step_access r.steps.now) (length r.steps.now) (logged u) (Finish t) ≡ true → IsDueAt r (t - 1) (logged u) h
  finish-due may =
      let m = may-is (step_access r.steps.now) (length r.steps.now) (logged u) (Finish t) may in
      let e : suc (t - 1) ≡ t = omega (arith, m.0.0) in
      (inv.begun, rw e may, inv.held)

  pub machine-finish : may_come (step_access r.steps.now) (length r.steps.now) (logged u) (Finish t) ≡ true → (v : Turns) (k : Held)
      → v.begun.items ≡ u.begun.items → v.ended.items ≡ set u.ended.items (t - 1) true → length v.waits.items ≡ length u.waits.items
      → ((s : ℕ) → get_or v.waits.items s 0 + times_in (successors edges t) (s + 1) ≡ get_or u.waits.items s 0)
      → v.log.items ≡ set u.log.items u.count (Finish t) → v.count ≡ u.count + 1 → IsNextHeld r (t - 1) h k
      → (logged v ≡ logged u ++ Finish t ∷ []) × IsMachine r edges v k
  machine-finish may v k begun_are ended_are waits_count waits_are log count next =
      let m = turns-finish r.steps.now (logged u) u inv.turns inv.begun t may v begun_are ended_are waits_count (rw inv.edges_are at waits_are) log count in
      let is = may-is (step_access r.steps.now) (length r.steps.now) (logged u) (Finish t) may in
      let e : suc (t - 1) ≡ t = omega (arith, is.0.0) in (
        m.0,
        record {
          run = inv.run;
          few = inv.few;
          edges_are = inv.edges_are;
          begun = rw m.0 (begun-more (step_access r.steps.now) (length r.steps.now) (logged u) (Finish t) inv.begun may);
          turns = rw m.0 m.1;
          held = rw (m.0, ← e) (next (logged u) (finish-due may));
        },
      )
