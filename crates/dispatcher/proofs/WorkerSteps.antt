-- A worker while its seat learns facts: it stays one.
use Rattle.std.proofs.Common.{◌≡◌, ℕ, ◌<◌, List, ◌∷◌, length, set, Option, Some, None, refl, sym, ap, ◌∙◌, subst, arith}
use Rattle.std.specs.Prelude.{IfNone, IfSome}
use Rattle.std.specs.declared.vec.Vec.{Vec}
use Rattle.std.specs.declared.alloc.Global.{Global}
use Rattle.std.proofs.lemmas.List.{length-set}
use Rattle.task_values.specs.declared.outcome.Failure.{Failure}
use Rattle.schedule_core.specs.declared.event.Event.{Event}
use Rattle.schedule_core.specs.declared.event.Event.TheVariants.{Start, Finish}
use Rattle.block_store.specs.declared.outcome.StepOutcome.{StepOutcome}
use Rattle.block_store.specs.declared.seat.Board.{Board}
use Rattle.block_store.specs.declared.seat.Seat.{Seat}
use Rattle.block_store.specs.declared.view.Fact.{Fact}
use Rattle.block_store.specs.declared.view.Fact.TheVariants.{Claimed, Refused, Began, Ended}
use Rattle.block_store.specs.declared.view.View.{View}
use Rattle.block_store.specs.Keys.{step_count}
use Rattle.block_store.specs.Plays.{IsNewStamp, NotHolds}
use Rattle.block_store.specs.Seats.{key_of, view, IsSame, IsSameSeat, IsSeatOf}
use Rattle.block_store.specs.Tallies.{gave_of, last_of, took_of}
use Rattle.block_store.specs.Views.{learned, timed}
use Rattle.ready_queue.specs.declared.queue.Pass.{Pass}
use Rattle.ready_queue.specs.declared.queue.Ready.{Ready}
use Rattle.ready_queue.specs.PassViews.{after_pop}
use Rattle.ready_queue.specs.Queues.{IsPassOf}
use Rattle.ready_queue.specs.Queues as queues
use Rattle.dispatcher.specs.declared.buffers.Buffers.{Buffers}
use Rattle.dispatcher.specs.declared.worker.Worker.{Worker}
use Rattle.dispatcher.specs.SharedRuns.{AreBuffers}
use Rattle.dispatcher.specs.Telling.{IsTied}
use Rattle.dispatcher.specs.Workers.{IsLogged, IsNoted, IsWorker, noted_after}
use Rattle.dispatcher.proofs.Logs.{logged-began, logged-ended, logged-same}
use Rattle.dispatcher.proofs.Noted.{noted-began, noted-more, noted-same}
use Rattle.dispatcher.proofs.QuietFacts.{HaveSameEvents, IsNoEvent, quiet-fact, same-events}

-- ---- seats

pub seat-of : (board : Board) (old new : Seat) → IsSeatOf board old → IsSameSeat old new → IsSeatOf board new
seat-of board old new of same = (same.0 ∙ of.0, same.1 ∙ of.1)

pub same-seats : (a b c : Seat) → IsSameSeat a b → IsSameSeat b c → IsSameSeat a c
same-seats a b c first second = (second.0 ∙ first.0, second.1 ∙ first.1, second.2 ∙ first.2)

pub itself : (a : Seat) → IsSameSeat a a
itself a = (refl, refl, refl)

-- ---- workers

module _ (board : Board) (ready : Ready) (w : Worker) (is : IsWorker board ready w) where
  -- the seat learned of no event
  pub worker-on : (s : Seat) (p : Pass) (d : Buffers) → IsSame w.seat s → HaveSameEvents (view w.seat).facts (view s).facts
      → ((x : ℕ) → NotHolds (view s) x) → IsPassOf ready p → IsTied (key_of board) p (view s) → AreBuffers (key_of board) d
      → IsWorker board ready (record w { seat = s; pass = p; buffers = d })
  worker-on s p d same events free pass tied buffers = record {
    seat = seat-of board w.seat s is.seat same.0;
    empty = same.1 ∙ is.empty;
    free = free;
    pass = pass;
    tied = tied;
    buffers = buffers;
    long = is.long;
    logged = logged-same w.log.items (view w.seat).facts (view s).facts events is.logged;
    noted = noted-same (key_of board) (view w.seat).facts (view s).facts w.failed events is.noted;
  }

  -- it learned one fact
  module _ (s : Seat) (f : Fact) (same : IsSame w.seat s) (more : view s ≡ learned f (view w.seat))
      (took : (x : ℕ) → took_of x f ≡ 0) (gave : (x : ℕ) → gave_of x f ≡ 0) (last : (x : ℕ) → last_of x f ≡ 0) where
    free-on : (x : ℕ) → NotHolds (view s) x
    free-on x = subst (λ (v : View). NotHolds v x) (sym more) (omega (arith, is.free x, took x, gave x))

    tied-on : IsTied (key_of board) w.pass (view s)
    tied-on = subst (λ (v : View). IsTied (key_of board) w.pass v) (sym more)
        (record { all = λ x. omega (arith, is.tied.all x, last x); only = λ x. omega (arith, is.tied.only x) })

    pub worker-learned : IsNoEvent f → IsWorker board ready (record w { seat = s })
    worker-learned quiet = worker-on s w.pass w.buffers same
        (subst (λ (v : View). HaveSameEvents (view w.seat).facts v.facts) (sym more) (quiet-fact f (view w.seat).facts quiet)) free-on is.pass tied-on is.buffers

    -- an event, which is kept in the log, and maybe a failure
    pub worker-logged : (log : Vec (Option Event) Global) (failed : Option Failure) → length log.items ≡ length w.log.items
        → IsLogged log.items (f ∷ (view w.seat).facts) → IsNoted (key_of board) (f ∷ (view w.seat).facts) failed
        → IsWorker board ready (record w { seat = s; log = log; failed = failed })
    worker-logged log failed long logged noted = record {
      seat = seat-of board w.seat s is.seat same.0;
      empty = same.1 ∙ is.empty;
      free = free-on;
      pass = is.pass;
      tied = tied-on;
      buffers = is.buffers;
      long = long ∙ is.long;
      logged = subst (λ (v : View). IsLogged log.items v.facts) (sym more) logged;
      noted = subst (λ (v : View). IsNoted (key_of board) v.facts failed) (sym more) noted;
    }

  pub worker-claimed : (s : Seat) (t : ℕ) → IsSame w.seat s → view s ≡ learned (Claimed t) (view w.seat) → IsWorker board ready (record w { seat = s })
  worker-claimed s t same more = worker-learned s (Claimed t) same more (λ x. refl) (λ x. refl) (λ x. refl) tt

  pub worker-refused : (s : Seat) (t word : ℕ) → IsSame w.seat s → view s ≡ learned (Refused t word) (view w.seat) → IsWorker board ready (record w { seat = s })
  worker-refused s t word same more = worker-learned s (Refused t word) same more (λ x. refl) (λ x. refl) (λ x. refl) tt

  -- a stamp that was drawn is a place of the log
  pub stamp-within : (n : ℕ) → IsNewStamp n (view w.seat) → n < length w.log.items
  stamp-within n new = omega (arith, new.0, ap step_count is.seat.1, is.long)

  pub worker-began : (s : Seat) (t n : ℕ) (log : Vec (Option Event) Global) → IsSame w.seat s → view s ≡ learned (Began t n) (view w.seat)
      → IsNewStamp n (view w.seat) → log.items ≡ set w.log.items n (Some (Start t)) → IsWorker board ready (record w { seat = s; log = log })
  worker-began s t n log same more new put = worker-logged s (Began t n) same more (λ x. refl) (λ x. refl) (λ x. refl) log w.failed
      (ap (λ (es : List (Option Event)). length es) put ∙ length-set w.log.items n (Some (Start t)))
      (rw put (logged-began w.log.items (view w.seat).facts t n is.logged new.1 (stamp-within n new)))
      (noted-began (key_of board) (view w.seat).facts t n w.failed is.noted)

  pub worker-ended : (s : Seat) (t n : ℕ) (o : StepOutcome) (log : Vec (Option Event) Global) (failed : Option Failure) → IsSame w.seat s
      → view s ≡ learned (Ended t n o) (view w.seat) → IsNewStamp n (view w.seat) → log.items ≡ set w.log.items n (Some (Finish t))
      → failed ≡ noted_after (key_of board) t o w.failed → IsWorker board ready (record w { seat = s; log = log; failed = failed })
  worker-ended s t n o log failed same more new put noted = worker-logged s (Ended t n o) same more (λ x. refl) (λ x. refl) (λ x. refl) log failed
      (ap (λ (es : List (Option Event)). length es) put ∙ length-set w.log.items n (Some (Finish t)))
      (rw put (logged-ended w.log.items (view w.seat).facts t n o is.logged new.1 (stamp-within n new)))
      (rw noted (noted-more (key_of board) (view w.seat).facts t n o w.failed is.noted))

  -- the clock was loaded
  pub worker-timed : (s : Seat) (n : ℕ) → IsSame w.seat s → view s ≡ timed n (view w.seat) → IsWorker board ready (record w { seat = s })
  worker-timed s n same now =
      let facts : (view s).facts ≡ (view w.seat).facts = ap (λ (v : View). v.facts) now in
      worker-on s w.pass w.buffers same (rw facts (same-events (view w.seat).facts)) (λ x. rw facts (is.free x)) is.pass
      (record { all = λ x. rw facts (is.tied.all x); only = λ x. rw facts (is.tied.only x) }) is.buffers

  -- a number was popped, or none
  pub worker-popped : (p : Pass) (popped : Option ℕ) → IsPassOf ready p → IfSome popped (λ t. queues.view p ≡ after_pop t (queues.view w.pass))
      → IfNone popped (queues.view p ≡ queues.view w.pass) → IsWorker board ready (record w { pass = p })
  worker-popped p (Some t) pass one none = worker-on w.seat p w.buffers (itself w.seat, refl) (same-events (view w.seat).facts) is.free pass
      (record { all = λ x. rw one (is.tied.all x); only = λ x. rw one (is.tied.only x) }) is.buffers
  worker-popped p None pass one none = worker-on w.seat p w.buffers (itself w.seat, refl) (same-events (view w.seat).facts) is.free pass
      (record { all = λ x. rw none (is.tied.all x); only = λ x. rw none (is.tied.only x) }) is.buffers
