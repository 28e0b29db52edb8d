-- Small lists of events are schedules, and are not, as by hand.
use Rattle.std.proofs.Common.{◌≡◌, ℕ, List, [], ◌∷◌, true, false, refl}
use Rattle.dependence_queue.specs.declared.access.Access.{Access}
use Rattle.dependence_queue.specs.Edges.{access_at}
use Rattle.schedule_core.specs.declared.event.Event.TheVariants.{Start, Finish}
use Rattle.schedule_core.specs.Schedules.{in_order, is_begun, is_schedule}

abbrev uses : ℕ → List ℕ → Access
uses write reads = record { write = write; reads = reads }

-- an LU factorisation of two by two blocks: the first block, its row, its column, the update and the last block
abbrev lu_steps : ℕ → Access
lu_steps = access_at (uses 0 [] ∷ uses 1 (0 ∷ []) ∷ uses 2 (0 ∷ []) ∷ uses 3 (2 ∷ 1 ∷ []) ∷ uses 3 [] ∷ [])

-- the row and the column overlap
overlapping : is_schedule lu_steps 5
    (Start 1 ∷ Finish 1 ∷ Start 3 ∷ Start 2 ∷ Finish 2 ∷ Finish 3 ∷ Start 4 ∷ Finish 4 ∷ Start 5 ∷ Finish 5 ∷ []) ≡ true
overlapping = refl

-- the update begins before the column has ended
too_early : is_schedule lu_steps 5
    (Start 1 ∷ Finish 1 ∷ Start 3 ∷ Start 2 ∷ Finish 2 ∷ Start 4 ∷ Finish 3 ∷ Finish 4 ∷ Start 5 ∷ Finish 5 ∷ []) ≡ false
too_early = refl

-- the last event is missing, so that it is the beginning of a schedule alone
cut_short : is_schedule lu_steps 5
    (Start 1 ∷ Finish 1 ∷ Start 3 ∷ Start 2 ∷ Finish 2 ∷ Finish 3 ∷ Start 4 ∷ Finish 4 ∷ Start 5 ∷ []) ≡ false
cut_short = refl

begun : is_begun lu_steps 5
    (Start 1 ∷ Finish 1 ∷ Start 3 ∷ Start 2 ∷ Finish 2 ∷ Finish 3 ∷ Start 4 ∷ Finish 4 ∷ Start 5 ∷ []) ≡ true
begun = refl

-- a step twice, a step that isn't there, an end without its beginning
twice : is_begun lu_steps 5 (Start 1 ∷ Finish 1 ∷ Start 1 ∷ []) ≡ false
twice = refl

past : is_begun lu_steps 5 (Start 6 ∷ []) ≡ false
past = refl

before_all : is_begun lu_steps 5 (Start 0 ∷ []) ≡ false
before_all = refl

not_begun : is_begun lu_steps 5 (Finish 1 ∷ []) ≡ false
not_begun = refl

-- of steps one after another
one_by_one : is_schedule lu_steps 5 (in_order 5) ≡ true
one_by_one = refl
