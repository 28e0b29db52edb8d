-- Workers that have done nothing, one for each seat of a new board. Cited where a crew is made.
use Rattle.std.proofs.Common.{◌≡◌, ℕ, zero, suc, ◌+◌, ◌*◌, ◌⊎◌, inl, inr, List, [], ◌∷◌, ◌++◌, length, replicate, slice_get, Option, Some, None, refl, sym, ap, ◌∙◌, subst, arith}
use Rattle.std.specs.Prelude.{All}
use Rattle.std.proofs.lemmas.List.{length-replicate}
use Rattle.std.proofs.lemmas.List.Elements.{All-pop}
use Rattle.std.proofs.Math.ListN.{length-append}
use Rattle.schedule_core.specs.declared.event.Event.{Event}
use Rattle.schedule_core.specs.declared.event.Event.TheVariants.{Start, Finish}
use Rattle.block_store.specs.declared.seat.Board.{Board}
use Rattle.block_store.specs.declared.seat.Seat.{Seat}
use Rattle.block_store.specs.declared.view.Fact.{Fact}
use Rattle.block_store.specs.Keys.{step_count}
use Rattle.block_store.specs.Seats.{key_of, seats_for, view, AreFirstSeats, IsNewSeat}
use Rattle.block_store.specs.Stamps.{HasStamp}
use Rattle.block_store.specs.Sums.{below}
use Rattle.block_store.specs.Tallies.{count_in, gave_of, last_of, took_of, weigh}
use Rattle.block_store.specs.Views.{numbers}
use Rattle.block_store.proofs.NewSeats.{for-push}
use Rattle.block_store.proofs.Sums.{below-ge, below-more}
use Rattle.ready_queue.specs.declared.queue.Pass.{Pass}
use Rattle.ready_queue.specs.declared.queue.Ready.{Ready}
use Rattle.ready_queue.specs.PassViews.{times}
use Rattle.ready_queue.specs.Queues as queues
use Rattle.dispatcher.specs.declared.worker.Worker.{Worker}
use Rattle.dispatcher.specs.SharedRuns.{AreBuffers}
use Rattle.dispatcher.specs.Joining.{standing}
use Rattle.dispatcher.proofs.JoinedWorkers.{standing-last}
use Rattle.dispatcher.specs.Workers.{HasFailed, IsLogged, IsNewWorker, IsNoted}

-- ---- one worker

none-at : (n k : ℕ) (e : Event) → slice_get (replicate n None) k ≡ Some (Some e) → ⊥
none-at zero k e at = let none : None ≡ Some (Some e) = at in cc
none-at (suc n) zero e at = let none : Some None ≡ Some (Some e) = at in cc
none-at (suc n) (suc k) e at = none-at n k e at

-- a clone of no event is none
pub none-clone : (P : Option Event → Type 0) → ((e : Event) → P (Some e) → ⊥) → (o : Option Event) → P o → o ≡ None
none-clone P none None h = refl
none-clone P none (Some e) h = absurd (none e h)

no-stamp : (n : ℕ) (e : Event) → HasStamp [] n e → ⊥
no-stamp n (Start t) h = h
no-stamp n (Finish t) h = h.1

empty-log : (log : List (Option Event)) (n : ℕ) (facts : List Fact) → log ≡ replicate n None → facts ≡ [] → IsLogged log facts
empty-log log n facts none new = record {
  sound = λ k e at. absurd (none-at n k e (ap (λ xs. slice_get xs k) (sym none) ∙ at));
  full = λ k e h. absurd (no-stamp k e (subst (λ fs. HasStamp fs k e) new h));
}

module _ (board : Board) (ready : Ready) (w : Worker) (n : ℕ) where
  pub new-worker : IsNewSeat board w.seat → queues.IsFirstPass ready w.pass → AreBuffers (key_of board) w.buffers → w.log.items ≡ replicate n None
      → n ≡ 2 * step_count (key_of board) → w.failed ≡ None → IsNewWorker board ready w
  new-worker seat pass buffers log many failed = record {
    worker = record {
      seat = seat.of;
      empty = seat.empty;
      free = λ x. ap (weigh (gave_of x)) seat.facts ∙ sym (ap (weigh (took_of x)) seat.facts);
      pass = pass.of;
      tied = record {
        all = λ x. omega (arith, ap (weigh (last_of x)) seat.facts);
        only = λ x. let none : times x (queues.view w.pass).pushed ≡ 0 = ap (times x) pass.pushed in omega arith;
      };
      buffers = buffers;
      long = ap length log ∙ length-replicate n None ∙ many;
      logged = empty-log w.log.items n (view w.seat).facts log seat.facts;
      noted = subst (IsNoted (key_of board) (view w.seat).facts) (sym failed) (λ t row col h. (subst (λ fs. HasFailed fs t row col) seat.facts h).1);
    };
    seat = seat;
    pass = pass;
  }

-- ---- one for each seat

count-numbers : (n worker : ℕ) → count_in worker (numbers n) ≡ below n worker
count-numbers zero worker = sym (below-ge 0 worker (omega arith))
count-numbers (suc n) worker =
    let one : suc n ≡ n + 1 = omega arith in
    omega (arith, count-numbers n worker, below-more n worker, ap (λ k. below k worker) one)

-- some workers, and the seats and passes for which there is none yet
pub record AreSoFar (board : Board) (ready : Ready) (workers : List Worker) (seats : List Seat) (passes : List Pass) : Type 0 where
  pub many : length workers + length seats ≡ (key_of board).workers
  pub alike : length passes ≡ length seats
  pub each : (k : ℕ) (w : Worker) → slice_get workers k ≡ Some w → IsNewWorker board ready w
  pub seats_new : All (IsNewSeat board) seats
  pub passes_new : All (queues.IsFirstPass ready) passes
  pub all : (worker : ℕ) → standing worker workers + seats_for worker seats ≡ below (key_of board).workers worker

pub none-yet : (board : Board) (ready : Ready) (seats : List Seat) (passes : List Pass) → AreFirstSeats board seats → queues.AreFirstPasses ready passes
    → queues.callers_of ready ≡ (key_of board).workers → AreSoFar board ready [] seats passes
none-yet board ready seats passes first own callers = record {
  many = omega (arith, first.many);
  alike = own.many ∙ callers ∙ sym first.many;
  each = λ k w at. absurd (let none : None ≡ Some w = at in cc);
  seats_new = first.each;
  passes_new = own.each;
  all = λ worker. omega (arith, first.once worker, count-numbers (key_of board).workers worker);
}

get-last : (workers : List Worker) (w : Worker) (k : ℕ) (v : Worker) → slice_get (workers ++ w ∷ []) k ≡ Some v → (slice_get workers k ≡ Some v) ⊎ (w ≡ v)
get-last [] w zero v at = inr (cc)
get-last [] w (suc k) v at = absurd (let none : None ≡ Some v = at in cc)
get-last (u ∷ workers) w zero v at = inl at
get-last (u ∷ workers) w (suc k) v at = get-last workers w k v at

module _ (board : Board) (ready : Ready) (workers : List Worker) (seats fewer : List Seat) (passes : List Pass) (seat : Seat)
    (so_far : AreSoFar board ready workers seats passes) (seats_are : seats ≡ fewer ++ seat ∷ []) where
  -- the seat and the pass that come next
  pub next-seat : IsNewSeat board seat
  next-seat = (All-pop (IsNewSeat board) seats fewer (Some seat) seats_are so_far.seats_new).1

  module _ (left : List Pass) (pass : Pass) (passes_are : passes ≡ left ++ pass ∷ []) where
    pub next-pass : queues.IsFirstPass ready pass
    next-pass = (All-pop (queues.IsFirstPass ready) passes left (Some pass) passes_are so_far.passes_new).1

    pub one-more : (w : Worker) (more : List Worker) → IsNewWorker board ready w → w.seat ≡ seat → more ≡ workers ++ w ∷ [] → AreSoFar board ready more fewer left
    one-more w more new same is = record {
      many = omega (arith, so_far.many, ap length is, length-append workers (w ∷ []), ap length seats_are, length-append fewer (seat ∷ []));
      alike = omega (arith, so_far.alike, ap length seats_are, length-append fewer (seat ∷ []), ap length passes_are, length-append left (pass ∷ []));
      each = λ k v at. elim (get-last workers w k v (ap (λ xs. slice_get xs k) (sym is) ∙ at)) [ inl old ↦ so_far.each k v old | inr last ↦ subst (IsNewWorker board ready) last new ];
      seats_new = (All-pop (IsNewSeat board) seats fewer (Some seat) seats_are so_far.seats_new).0;
      passes_new = (All-pop (queues.IsFirstPass ready) passes left (Some pass) passes_are so_far.passes_new).0;
      all = λ worker. omega (
        arith,
        so_far.all worker,
        ap (standing worker) is,
        standing-last worker workers w,
        ap (seats_for worker) seats_are,
        for-push worker fewer seat,
        ap (λ (s : Seat). count_in worker (view s).workers) same,
      );
    }
