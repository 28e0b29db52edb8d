-- Lists of workers before and after they have worked. Cited where all workers go.
use Rattle.std.proofs.Common.{◌≡◌, ℕ, zero, suc, ◌<◌, List, [], ◌∷◌, set, length, slice_get, Some, None, refl, ap, subst, arith}
use Rattle.std.proofs.lemmas.Option.{slice_get_within}
use Rattle.block_store.specs.declared.seat.Board.{Board}
use Rattle.block_store.specs.Seats.{key_of, view, IsSameSeat}
use Rattle.block_store.specs.Tallies.{count_in}
use Rattle.ready_queue.specs.declared.queue.Ready.{Ready}
use Rattle.dispatcher.specs.declared.worker.Worker.{Worker}
use Rattle.dispatcher.specs.Joining.{standing}
use Rattle.dispatcher.specs.Telling.{HasPushedRoots}
use Rattle.dispatcher.specs.Workers.{HasSeenEnd, IsNewWorker, IsWorker}
use Rattle.dispatcher.proofs.JoinedWorkers.{HaveEnded}
use Rattle.dispatcher.proofs.Pushes.{roots-kept}

-- ---- places

some-worker : (workers : List Worker) (k : ℕ) → k < length workers → (w : Worker) × (slice_get workers k ≡ Some w)
some-worker [] k low = absurd (omega arith)
some-worker (w ∷ workers) zero low = (w, refl)
some-worker (w ∷ workers) (suc k) low = some-worker workers k (omega arith)

-- ---- the first one has opened the run

module _ (board : Board) (ready : Ready) where
  pub opened-each : (workers : List Worker) (first : Worker) → ((k : ℕ) (w : Worker) → slice_get workers k ≡ Some w → IsNewWorker board ready w) → IsWorker board ready first
      → (k : ℕ) (w : Worker) → slice_get (set workers 0 first) k ≡ Some w → IsWorker board ready w
  opened-each [] first each is k w at = absurd (let none : None ≡ Some w = at in cc)
  opened-each (v ∷ workers) first each is zero w at = let same : first ≡ w = cc in subst (IsWorker board ready) same is
  opened-each (v ∷ workers) first each is (suc k) w at = (each (suc k) w at).worker

pub opened-standing : (k : ℕ) (workers : List Worker) (old first : Worker) → slice_get workers 0 ≡ Some old → IsSameSeat old.seat first.seat
    → standing k (set workers 0 first) ≡ standing k workers
opened-standing k [] old first at same = refl
opened-standing k (v ∷ workers) old first at same =
    let is : v ≡ old = cc in
    let one : count_in k (view first.seat).workers ≡ count_in k (view old.seat).workers = ap (count_in k) same.2 in
    let two : count_in k (view v.seat).workers ≡ count_in k (view old.seat).workers = ap (λ (w : Worker). count_in k (view w.seat).workers) is in
    omega arith

-- ---- all have worked

-- what each worker has done
abbrev pub AreDone : Board → Ready → List Worker → List Worker → Type 0
AreDone board ready before after = (k : ℕ) (w v : Worker) → slice_get before k ≡ Some w → slice_get after k ≡ Some v → HasSeenEnd board ready w v

module _ (board : Board) (ready : Ready) where
  pub done-standing : (k : ℕ) (before after : List Worker) → length after ≡ length before → AreDone board ready before after → standing k after ≡ standing k before
  done-standing k [] [] long each = refl
  done-standing k [] (v ∷ after) long each = absurd (omega arith)
  done-standing k (w ∷ before) [] long each = absurd (omega arith)
  done-standing k (w ∷ before) (v ∷ after) long each =
      let one : count_in k (view v.seat).workers ≡ count_in k (view w.seat).workers = ap (count_in k) (each 0 w v refl refl).same.2 in
      omega (arith, done-standing k before after (omega arith) (λ i x y at there. each (suc i) x y at there))

  pub done-ended : (before after : List Worker) → length after ≡ length before → AreDone board ready before after → HaveEnded board ready after
  done-ended before after long each k v at =
      let w = some-worker before k (omega (arith, slice_get_within after k v at)) in
      let done = each k w.0 v w.1 at in
      record { worker = done.worker; ended = done.ended }

  -- the steps that the first one had pushed before
  pub opened-roots : (workers after : List Worker) (first : Worker) → 0 < length workers → AreDone board ready (set workers 0 first) after
      → HasPushedRoots (key_of board) first.pass → (w : Worker) → slice_get after 0 ≡ Some w → HasPushedRoots (key_of board) w.pass
  opened-roots [] after first some each roots w at = absurd (omega arith)
  opened-roots (v ∷ workers) after first some each roots w at = roots-kept (key_of board) first.pass w.pass (each 0 first w refl at).pushes roots
