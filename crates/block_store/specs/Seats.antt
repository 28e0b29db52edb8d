-- What a clause says of a board and its seats.
use Rattle.std.specs.Prelude.{◌≡◌, ℕ, ◌+◌, List, [], ◌∷◌, length, All}
use Rattle.equation.specs.declared.job.Job.{Job}
use Rattle.step_replays.specs.declared.step.Step.{Step}
use Rattle.block_store.specs.declared.key.BoardKey.{BoardKey}
use Rattle.block_store.specs.declared.seat.Board.{Board}
use Rattle.block_store.specs.declared.seat.Seat.{Seat}
use Rattle.block_store.specs.declared.view.View.{View}
use Rattle.block_store.specs.Tallies.{count_in}
use Rattle.block_store.specs.Views.{numbers}

-- what the seat knows
abbrev pub view : Seat → View
view seat = seat.inner.me.0

abbrev pub key_of : Board → BoardKey
key_of board = board.table.shared.key

-- the seat is of this board, and knows its key
abbrev pub IsSeatOf : Board → Seat → Type 0
IsSeatOf board seat = (seat.inner.table_id ≡ board.table.shared.table_id) × ((view seat).key ≡ key_of board)

-- a seat of the same board, with the same key, for the same workers
abbrev pub IsSameSeat : Seat → Seat → Type 0
IsSameSeat old new = (new.inner.table_id ≡ old.inner.table_id) × ((view new).key ≡ (view old).key) × ((view new).workers ≡ (view old).workers)

-- and with the same blocks
abbrev pub IsSame : Seat → Seat → Type 0
IsSame old new = IsSameSeat old new × (new.inner.me.1 ≡ old.inner.me.1)

-- ---- a board that was made

-- the key is that of a run of these steps of a job
pub record IsKeyOf (job : Job) (b : ℕ) (steps : List Step) (workers : ℕ) (key : BoardKey) : Type 0 where
  pub job_is : key.job.value ≡ job
  pub size : key.b ≡ b
  pub steps_are : key.steps.value ≡ steps
  pub workers_are : key.workers ≡ workers

-- a seat of the board that has done nothing
pub record IsNewSeat (board : Board) (seat : Seat) : Type 0 where
  pub of : IsSeatOf board seat
  pub facts : (view seat).facts ≡ []
  pub clock : (view seat).clock ≡ 0
  pub empty : seat.inner.me.1 ≡ []

-- how often the seats stand for a worker
abbrev pub seats_for : ℕ → List Seat → ℕ
seats_for worker [] = 0
seats_for worker (seat ∷ seats) = count_in worker (view seat).workers + seats_for worker seats

-- these many new seats of the board, which stand for these workers, each of them once
pub record AreNewSeats (board : Board) (count : ℕ) (workers : List ℕ) (seats : List Seat) : Type 0 where
  pub many : length seats ≡ count
  pub each : All (IsNewSeat board) seats
  pub once : (worker : ℕ) → seats_for worker seats ≡ count_in worker workers

-- one seat for each worker
abbrev pub AreFirstSeats : Board → List Seat → Type 0
AreFirstSeats board seats = AreNewSeats board (key_of board).workers (numbers (key_of board).workers) seats
