-- Workers of a list that are joined, the last one first. Cited where workers are joined.
use Rattle.std.proofs.Common.{◌≡◌, ℕ, zero, suc, ◌+◌, max, List, [], ◌∷◌, ◌++◌, length, slice_get, Option, Some, None, refl, sym, ap, ◌∙◌, subst, arith}
use Rattle.schedule_core.specs.declared.event.Event.{Event}
use Rattle.task_values.specs.declared.outcome.Failure.{Failure}
use Rattle.block_store.specs.declared.seat.Board.{Board}
use Rattle.block_store.specs.declared.seat.Seat.{Seat}
use Rattle.block_store.specs.declared.view.Fact.{Fact}
use Rattle.block_store.specs.declared.view.View.{View}
use Rattle.block_store.specs.Plays.{NotHolds}
use Rattle.block_store.specs.Seats.{key_of, view, IsSame}
use Rattle.block_store.specs.Tallies.{weigh, count_in, took_of, gave_of}
use Rattle.block_store.specs.Views.{both_views, timed}
use Rattle.block_store.proofs.Seating.{count-append, weigh-append}
use Rattle.ready_queue.specs.declared.queue.Ready.{Ready}
use Rattle.dispatcher.specs.declared.joining.Joined.{Joined}
use Rattle.dispatcher.specs.declared.worker.Worker.{Worker}
use Rattle.dispatcher.specs.Joining.{both_noted, standing, HasEnded, IsJoined, IsJoinedLog}
use Rattle.dispatcher.specs.Workers.{IsCovered, IsLogged, IsNoted, IsWorker}
use Rattle.dispatcher.proofs.Noting.{noted-both}
use Rattle.dispatcher.proofs.JoinedLogs.{covered-both}

-- ---- the list

get-front : (front : List Worker) (last : Worker) (k : ℕ) (w : Worker) → slice_get front k ≡ Some w → slice_get (front ++ last ∷ []) k ≡ Some w
get-front [] last k w at = absurd (let none : None ≡ Some w = at in cc)
get-front (v ∷ front) last zero w at = at
get-front (v ∷ front) last (suc k) w at = get-front front last k w at

get-last : (front : List Worker) (last : Worker) → slice_get (front ++ last ∷ []) (length front) ≡ Some last
get-last [] last = refl
get-last (v ∷ front) last = get-last front last

pub standing-last : (k : ℕ) (front : List Worker) (last : Worker) → standing k (front ++ last ∷ []) ≡ standing k front + count_in k (view last.seat).workers
standing-last k [] last = omega arith
standing-last k (w ∷ front) last = omega (arith, standing-last k front last)

pub standing-none : (k : ℕ) (workers : List Worker) → length workers ≡ 0 → standing k workers ≡ 0
standing-none k [] none = refl
standing-none k (w ∷ workers) none = absurd (omega arith)

-- each worker of the list has seen the end
abbrev pub HaveEnded : Board → Ready → List Worker → Type 0
HaveEnded board ready workers = (k : ℕ) (w : Worker) → slice_get workers k ≡ Some w → HasEnded board ready w

module _ (board : Board) (ready : Ready) (workers front : List Worker) (last : Worker) (is : workers ≡ front ++ last ∷ []) where
  pub ended-front : HaveEnded board ready workers → HaveEnded board ready front
  ended-front each k w at = each k w (ap (λ xs. slice_get xs k) is ∙ get-front front last k w at)

  pub ended-last : HaveEnded board ready workers → HasEnded board ready last
  ended-last each = each (length front) last (ap (λ xs. slice_get xs (length front)) is ∙ get-last front last)

  pub standing-cut : (k : ℕ) → standing k workers ≡ standing k front + count_in k (view last.seat).workers
  standing-cut k = ap (standing k) is ∙ standing-last k front last

-- ---- seats

-- the numbers for which a seat stands that was joined
pub stands-both : (k : ℕ) (u v w : View) → u ≡ both_views v w → count_in k u.workers ≡ count_in k v.workers + count_in k w.workers
stands-both k u v w is = ap (λ (x : View). count_in k x.workers) is ∙ count-append k v.workers w.workers

pub clock-both : (u v w : View) (n : ℕ) → u ≡ both_views v w → v.clock ≡ n → w.clock ≡ n → u.clock ≡ n
clock-both u v w n is one other = let e : u.clock ≡ max v.clock w.clock = ap (λ (x : View). x.clock) is in omega arith

free-both : (u v w : View) → u ≡ both_views v w → ((x : ℕ) → NotHolds v x) → ((x : ℕ) → NotHolds w x) → (x : ℕ) → NotHolds u x
free-both u v w is one other x =
    let facts : u.facts ≡ v.facts ++ w.facts = ap (λ (y : View). y.facts) is in
    omega (
      arith,
      ap (weigh (took_of x)) facts,
      ap (weigh (gave_of x)) facts,
      weigh-append (took_of x) v.facts w.facts,
      weigh-append (gave_of x) v.facts w.facts,
      one x,
      other x,
    )

-- ---- what is joined

pub covered-own : (log : List (Option Event)) (facts : List Fact) → IsLogged log facts → IsCovered log facts
covered-own log facts logged = record { sound = logged.sound; covers = λ n e h. (e, logged.full n e h) }

own-joined : (board : Board) (ready : Ready) (w : Worker) → IsWorker board ready w → IsJoined board (record { seat = w.seat; log = w.log; failed = w.failed })
own-joined board ready w is = record {
  seat = is.seat;
  empty = is.empty;
  free = is.free;
  long = is.long;
  covered = covered-own w.log.items (view w.seat).facts is.logged;
  noted = is.noted;
}

pub joined-first : (board : Board) (ready : Ready) (w : Worker) (j : Joined) → IsWorker board ready w → j.seat ≡ w.seat → j.log ≡ w.log → j.failed ≡ w.failed → IsJoined board j
joined-first board ready w j is seat log failed =
    let one : j ≡ record { seat = w.seat; log = w.log; failed = w.failed } = λ i. record { seat = seat i; log = log i; failed = failed i } in
    subst (IsJoined board) (sym one) (own-joined board ready w is)

-- a seat of the same board that holds no more, with the view of both
pub record IsBothOf (old : Seat) (other : Seat) (new : Seat) : Type 0 where
  pub table : new.inner.table_id ≡ old.inner.table_id
  pub key : (view new).key ≡ (view old).key
  pub empty : new.inner.me.1 ≡ old.inner.me.1
  pub both : view new ≡ both_views (view old) (view other)

pub joined-more : (board : Board) (ready : Ready) (old new : Joined) (w : Worker) → IsJoined board old → IsWorker board ready w → IsBothOf old.seat w.seat new.seat
    → IsJoinedLog old.log.items w.log.items new.log.items → new.failed ≡ both_noted old.failed w.failed → IsJoined board new
joined-more board ready old new w joined is seat log_is noted =
    let facts : (view new.seat).facts ≡ (view old.seat).facts ++ (view w.seat).facts = ap (λ (x : View). x.facts) seat.both in
    record {
      seat = (seat.table ∙ joined.seat.0, seat.key ∙ joined.seat.1);
      empty = seat.empty ∙ joined.empty;
      free = free-both (view new.seat) (view old.seat) (view w.seat) seat.both joined.free is.free;
      long = log_is.long ∙ joined.long;
      covered = subst (IsCovered new.log.items) (sym facts)
          (covered-both old.log.items w.log.items new.log.items (view old.seat).facts (view w.seat).facts (joined.long ∙ sym is.long) log_is joined.covered (covered-own w.log.items (view w.seat).facts is.logged));
      noted = subst (λ (z : List Fact × Option Failure). IsNoted (key_of board) z.0 z.1) (λ i. (sym facts i, sym noted i))
          (noted-both (key_of board) (view old.seat).facts (view w.seat).facts old.failed w.failed joined.noted is.noted);
    }

-- the clock was loaded
pub joined-timed : (board : Board) (n : ℕ) (old new : Joined) → IsJoined board old → IsSame old.seat new.seat → view new.seat ≡ timed n (view old.seat)
    → new.log.items ≡ old.log.items → new.failed ≡ old.failed → IsJoined board new
joined-timed board n old new joined same is log failed =
    let facts : (view new.seat).facts ≡ (view old.seat).facts = ap (λ (x : View). x.facts) is in
    record {
      seat = (same.0.0 ∙ joined.seat.0, same.0.1 ∙ joined.seat.1);
      empty = same.1 ∙ joined.empty;
      free = λ x. ap (λ fs. weigh (gave_of x) fs) facts ∙ joined.free x ∙ sym (ap (λ fs. weigh (took_of x) fs) facts);
      long = ap length log ∙ joined.long;
      covered = subst (λ (z : List (Option Event) × List Fact). IsCovered z.0 z.1) (λ i. (sym log i, sym facts i)) joined.covered;
      noted = subst (λ (z : List Fact × Option Failure). IsNoted (key_of board) z.0 z.1) (λ i. (sym facts i, sym failed i)) joined.noted;
    }
