-- New seats that are split off, one for each worker.
use Rattle.std.proofs.Common.{◌≡◌, ℕ, ◌+◌, ◌<◌, ◌≤◌, List, [], ◌∷◌, ◌++◌, length, ap, ◌∙◌, arith}
use Rattle.std.specs.Prelude.{All}
use Rattle.std.proofs.lemmas.List.Elements.{All-push}
use Rattle.std.proofs.Math.ListN.{length-append}
use Rattle.block_store.specs.declared.seat.Board.{Board}
use Rattle.block_store.specs.declared.seat.Seat.{Seat}
use Rattle.block_store.specs.declared.view.View.{View}
use Rattle.block_store.specs.Seats.{view, seats_for, IsSeatOf, IsNewSeat, AreNewSeats}
use Rattle.block_store.specs.Tallies.{count_in}
use Rattle.block_store.specs.Views.{kept_view, new_view, first_of, rest_of}
use Rattle.block_store.proofs.Seating.{first-rest}

-- what a split tells of the seat that is split, and of the new one
abbrev pub IsKeptSeat : Seat → Seat → Type 0
IsKeptSeat old new = (new.inner.table_id ≡ old.inner.table_id) × (view new ≡ kept_view (view old)) × (new.inner.me.1 ≡ old.inner.me.1)

abbrev pub IsCutOff : Board → Seat → Seat → Type 0
IsCutOff board old new = IsSeatOf board new × (view new ≡ new_view (view old)) × (new.inner.me.1 ≡ [])

kept-new : (board : Board) (old new : Seat) → IsNewSeat board old → IsKeptSeat old new → IsNewSeat board new
kept-new board old new is h = record {
  of = (h.0 ∙ is.of.0, ap (λ (v : View). v.key) h.1 ∙ is.of.1);
  facts = ap (λ (v : View). v.facts) h.1 ∙ is.facts;
  clock = ap (λ (v : View). v.clock) h.1 ∙ is.clock;
  empty = h.2 ∙ is.empty;
}

cut-new : (board : Board) (old new : Seat) → IsNewSeat board old → IsCutOff board old new → IsNewSeat board new
cut-new board old new is h = record { of = h.0; facts = ap (λ (v : View). v.facts) h.1; clock = ap (λ (v : View). v.clock) h.1 ∙ is.clock; empty = h.2 }

rest-length : (workers : List ℕ) → 0 < length workers → length (rest_of workers) + 1 ≡ length workers
rest-length [] h = absurd (omega arith)
rest-length (x ∷ workers) h = omega arith

pub for-push : (worker : ℕ) (seats : List Seat) (last : Seat) → seats_for worker (seats ++ last ∷ []) ≡ seats_for worker seats + count_in worker (view last).workers
for-push worker [] last = omega arith
for-push worker (seat ∷ seats) last = omega (arith, for-push worker seats last)

-- k - 1 new seats, and a last one for those workers that are left
abbrev pub AreSoFar : Board → ℕ → List ℕ → ℕ → Seat → List Seat → Type 0
AreSoFar board count workers k last seats = IsNewSeat board last × (length (view last).workers + k ≡ count + 1) × (length seats + 1 ≡ k) × All (IsNewSeat board) seats
    × ((worker : ℕ) → seats_for worker seats + count_in worker (view last).workers ≡ count_in worker workers)

pub one-more : (board : Board) (count : ℕ) (workers : List ℕ) (k : ℕ) (last kept cut : Seat) (seats : List Seat) → AreSoFar board count workers k last seats
    → IsKeptSeat last kept → IsCutOff board last cut → AreSoFar board count workers (k + 1) kept (seats ++ cut ∷ [])
one-more board count workers k last kept cut seats so_far is off =
    let rest : (view kept).workers ≡ rest_of (view last).workers = ap (λ (v : View). v.workers) is.1 in
    let first : (view cut).workers ≡ first_of (view last).workers = ap (λ (v : View). v.workers) off.1 in (
      kept-new board last kept so_far.0 is,
      omega (arith, so_far.1, ap length rest, rest-length (view last).workers last.alive),
      omega (arith, so_far.2, length-append seats (cut ∷ [])),
      All-push (IsNewSeat board) seats cut so_far.3 (cut-new board last cut so_far.0 off),
      λ worker. omega (arith, so_far.4 worker, for-push worker seats cut, first-rest worker (view last).workers, ap (count_in worker) rest, ap (count_in worker) first),
    )

pub all-cut : (board : Board) (count : ℕ) (workers : List ℕ) (k : ℕ) (last : Seat) (seats : List Seat) → AreSoFar board count workers k last seats → count ≤ k
    → AreNewSeats board count workers (seats ++ last ∷ [])
all-cut board count workers k last seats so_far done = record {
  many = omega (arith, so_far.1, so_far.2, last.alive, length-append seats (last ∷ []));
  each = All-push (IsNewSeat board) seats last so_far.3 so_far.0;
  once = λ worker. omega (arith, so_far.4 worker, for-push worker seats last);
}
