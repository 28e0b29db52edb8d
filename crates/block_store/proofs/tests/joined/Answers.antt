use Rattle.std.proofs.Common.{◌≡◌, ℕ, List, [], ◌∷◌, ◌++◌, length, length-append, ap, ◌∙◌, subst, arith}
use Rattle.block_store.specs.declared.seat.Board.{Board}
use Rattle.block_store.specs.declared.seat.Seat.{Seat}
use Rattle.block_store.specs.declared.view.View.{View}
use Rattle.block_store.specs.Seats.{key_of, view, AreFirstSeats}
use Rattle.block_store.specs.Sums.{below}
use Rattle.block_store.specs.Tallies.{count_in}
use Rattle.block_store.proofs.Opening.{numbers-count}
use Rattle.block_store.proofs.Seating.{count-append}
use Rattle.block_store.proofs.tests.joined.Goals as goal

-- two first seats stand for all workers between them
both-stand : (board : Board) (items rest : List Seat) (second first : Seat) → (key_of board).workers ≡ 2 → AreFirstSeats board items → items ≡ (rest ++ second ∷ []) ++ first ∷ []
    → (worker : ℕ) → count_in worker ((view first).workers ++ (view second).workers) ≡ below (key_of board).workers worker
both-stand board items (seat ∷ rest) second first two are e worker = absurd (omega (arith, two, are.many, ap (λ (xs : List Seat). length xs) e, length-append ((seat ∷ rest) ++ second ∷ []) (first ∷ []), length-append (seat ∷ rest) (second ∷ [])))
both-stand board items [] second first two are e worker =
    let is : AreFirstSeats board (second ∷ first ∷ []) = subst (AreFirstSeats board) e are in
    omega (arith, is.once worker, count-append worker (view first).workers (view second).workers, numbers-count (key_of board).workers worker)

pub returns-clause-all : goal.returns-clause-all
returns-clause-all c worker =
    let first = c.in_ok-first.first in
    let second = c.in_ok-second.second in
    ap (λ (v : View). count_in worker v.workers) c.join.ensures.view
    ∙ both-stand c.args.board.now c.args.seats.items c.pop-2.new.self.items second first c.requires.two c.requires.seats
    (c.in_ok-first.ensures.items ∙ ap (λ (xs : List Seat). xs ++ first ∷ []) c.in_ok-second.ensures.items) worker
